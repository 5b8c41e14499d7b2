use Rattle.std.proofs.Common.{◌≡◌, ℕ, ◌+◌, ◌<◌, length, sym, subst, arith}
use Rattle.events.specs.Events.{went_down}
use Rattle.starting.specs.laws.Judging.{kept, Judging, any-default, judging-begins, judging-more}
use Rattle.run.proofs.verdict.judge.Goals as goal

pub loop-i-init : goal.loop-i-init
loop-i-init c = judging-begins _ _

pub loop-i-preserved : goal.loop-i-preserved
loop-i-preserved c =
    let l = c.loop-i in
    let a = c.args in
    let count : length a.nodes ≡ kept = c.well_formed.1.0.1.0.1 in
    let below : l.i < kept = omega arith in
    subst (Judging a.site a.nodes (l.i + 1)) (sym c.with_fit-fits.ensures) (judging-more a.site a.nodes l.i l.fits _ l.invariant below (any-default a.nodes l.i _ went_down (omega (arith, below, count))))

pub returns : goal.returns
returns c =
    let l = c.loop-i in
    let all : l.i ≡ kept = omega (arith, c.loop-i-test.false) in
    (c.well_formed.1.0.1.0.1, subst (λ (k : ℕ). Judging c.args.site c.args.nodes k l.fits) all l.invariant)
