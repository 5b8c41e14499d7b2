use mathlib.Core.Path.{ap, ◌∙◌}
use Prim.Native.Nat.{ℕ}
use native.Mathlib.Omega.{arith}
use Rattle.std.proofs.lemmas.Result.{err_from_is_err_and}
use Rattle.effects.specs.Effects.{no_site}
use Rattle.loans.specs.Loans.{made_first}
use Rattle.loans.specs.laws.LoanLaws.{made-enough}
use Rattle.starting.specs.laws.Begun.{begun-refused, begun-done, begun-enough}
use Rattle.starting.proofs.start.Goals as goal

pub returns-in_err-refuse_start : goal.returns-in_err-refuse_start
returns-in_err-refuse_start c =
    let p = err_from_is_err_and c.from_residual.result c.from_residual.ensures.1 in
    rw (p.1, p.2) (begun-refused c.args.nodes c.args.b c.in_err-refuse_start.ensures)

pub returns : goal.returns
returns c =
    let a = c.args in
    let most = begun-enough a.nodes a.b no_site c.in_ok-refuse_start.ensures in
    begun-done a.nodes a.b c.in_ok-refuse_start.ensures _ c.fresh_site-fresh.ensures _
    (c.fill.ensures ∙ ap (λ (n : ℕ). made_first n a.b.compromised a.nodes) c.nodes-n.ensures ∙ made-enough a.b.compromised a.nodes _ (omega (arith, most)))
