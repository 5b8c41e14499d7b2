use Rattle.std.proofs.Common.{sym, ◌∙◌}
use Rattle.stepping.specs.laws.Given.{start-refused, start-done}
use Rattle.stepping.proofs.start.Goals as goal

pub returns-in-Ok : goal.returns-in-Ok
returns-in-Ok c =
    let a = c.args in
    rw (c.silence.ensures, c.fresh_site.ensures) (start-done a.site a.lent a.node a.beginning (sym c.in-Ok.is ∙ c.refuse_start.ensures))

pub returns-in-Err : goal.returns-in-Err
returns-in-Err c = let a = c.args in start-refused a.site a.lent a.node a.beginning _ (sym c.in-Err.is ∙ c.refuse_start.ensures)
