use Rattle.std.proofs.Common.{◌≡◌, ℕ, ◌+◌, ◌-◌, subst, refl, arith}
use Rattle.arbiter.specs.Moving.{most_turns}
use borrow.Author.Tests.{not-true, not-false}
use Rattle.arbiter.specs.laws.MovingLaws.{Went, not_yet, once_more, gone-stopped, gone-all}
use borrow.Author.Rules.{rules}
use Rattle.arbiter.proofs.go.Goals as goal

pub loop-init : goal.loop-init
loop-init c = (refl, refl, not_yet c.args.progress)

pub returns-then-not-current : goal.returns-then-not-current
returns-then-not-current c = gone-stopped c.loop.invariant.2 (not-true _ c.if-not-current.true)

pub turn-current-requires : goal.turn-current-requires
turn-current-requires c = record {
  longest_line_in_bounds = omega (arith, c.loop.invariant.1, c.requires);
  going_value = not-false _ c.if-not-current.false;
}

pub loop-preserved : goal.loop-preserved
loop-preserved c =
    let l = c.loop in
    let fewer : most_turns - l.counter - 1 ≡ most_turns - (l.counter + 1) = omega arith in (
      search rules,
      search rules,
      subst (λ (k : ℕ). Went c.args.progress k c.turn-current.result) fewer (once_more l.invariant.2 (omega arith) (not-false _ c.if-not-current.false) c.turn-current.ensures),
    )

pub returns : goal.returns
returns c = gone-all c.loop.invariant.2 (omega arith)
