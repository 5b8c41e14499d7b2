use mathlib.Core.Path.{◌≡◌, ◌∙◌}
use mathlib.Core.Logic.{inl, inr}
use native.Mathlib.Omega.{arith}
use borrow.Author.Tests.{le-leb}
use Rattle.store.specs.Store.{moved_to}
use Rattle.store.specs.laws.Clearing.{passed, all-cleared, jump-clears}
use Rattle.store.proofs.Store.move_to.Goals as goal
use Rattle.store.proofs.Store.move_to.Goals.{then-turn-by, else-turn-by}

pub returns-then-clock-now : goal.returns-then-clock-now
unfolding moved_to
returns-then-clock-now c = simp (le-leb _ _ c.if-clock-now.true)

pub returns-then-by-ge5 : goal.returns-then-by-ge5
returns-then-by-ge5 c =
    let a = c.args in
    c.empty.ensures ∙ jump-clears a.self a.clock (omega arith)

pub loop-at-preserved : goal.loop-at-preserved
loop-at-preserved c =
    let a = c.args in
    passed a.self a.clock c.loop-at.at c.loop-at.self c.if-turn-by.self c.turn.result (omega arith) c.turn.ensures c.loop-at.invariant
    (elim c.if-turn-by.branch [ then-turn-by w ↦ inl (w.if-turn-by.true, w.self-is) | else-turn-by w ↦ inr (w.if-turn-by.false, w.self-is) ])

pub returns : goal.returns
returns c =
    let a = c.args in
    let e : c.loop-at.at ≡ 5 = omega arith in
    all-cleared a.self a.clock c.loop-at.self c.if-clock-now.false (rw e at c.loop-at.invariant)
