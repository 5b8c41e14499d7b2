use Rattle.lent.proofs.laws.Turns.{none-begun}
use Rattle.lent.proofs.kinds.step.Goals as goal

pub returns-then-n-eq0 : goal.returns-then-n-eq0
returns-then-n-eq0 g c =
    let a = c.args in
    let told = c.act-told in
    none-begun g.K.Kind.named g.K.Kind.stepped g.K.Records.when_down g.K.Records.rule a.site a.nodes.now a.step told.result.answer told.result.site told.new.nodes
    c.place-i.result c.place-i.ensures told.ensures c.beginning.result c.beginning.ensures c.in-Some.b c.in-Some.is c.begins-n.result c.begins-n.ensures c.if-n-eq0.true
