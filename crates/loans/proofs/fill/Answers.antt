use mathlib.Core.Path.{◌≡◌, sym, ◌∙◌}
use native.Mathlib.Omega.{arith}
use Rattle.std.proofs.Common.{add-one}
use Rattle.loans.specs.laws.LoanLaws.{fronted-none, first_more, made-front, made_none}
use Rattle.loans.proofs.fill.Goals as goal

pub returns-then-nodes-n : goal.returns-then-nodes-n
returns-then-nodes-n g c = sym (made_none g.K.Records.rule c.args.compromised c.args.nodes.now c.args.n (omega arith))

pub loop-i-init : goal.loop-i-init
loop-i-init g c = record { enough = omega arith; made = fronted-none (g.K.Records.rule c.args.compromised) c.args.nodes.now }

pub loop-i-preserved : goal.loop-i-preserved
loop-i-preserved g c = record {
  enough = omega arith;
  made = rw (c.loop-i.invariant.made, c.fresh.ensures, add-one) (first_more g.K.Records.rule c.args.compromised c.args.nodes.now c.loop-i.i (omega arith));
}

pub returns : goal.returns
returns g c =
    let e : c.loop-i.i ≡ c.args.n = omega arith in
    c.loop-i.invariant.made ∙ rw e (sym (made-front g.K.Records.rule c.args.compromised c.args.nodes.now c.args.n (omega arith)))
