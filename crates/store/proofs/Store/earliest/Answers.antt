use mathlib.Core.Path.{refl, sym, ◌∙◌}
use mathlib.Core.Logic.{inl, inr}
use native.Mathlib.Omega.{arith}
use Rattle.store.specs.Earliest.{fresh_stamp, qualifies, earliest}
use Rattle.store.proofs.laws.EarliestLaws.{found-never, taken, passed_over, no-action}
use Rattle.store.proofs.Store.earliest.Goals as goal
use Rattle.store.proofs.Store.earliest.Goals.{then-above-stamp+then-is_enough+in_default, else-above-stamp, else-above-stamp-via-then-above-stamp+else-is_enough, else-above-stamp-via-else-above-stamp}

pub returns-then-action-ge2 : goal.returns-then-action-ge2
returns-then-action-ge2 c = let a = c.args in sym (no-action a.self a.action a.above a.f c.if-action-ge2.true)

pub loop-i-init : goal.loop-i-init
unfolding earliest
loop-i-init c = refl

pub returns-in-Ok : goal.returns-in-Ok
returns-in-Ok c =
    let a = c.args in
    rw c.in-Ok.ensures.1
    (sym
    (taken a.self a.action a.above a.f c.loop-i.i c.fresh_stamp-stamp.result c.if-action-ge2.false (omega arith) c.fresh_stamp-stamp.ensures c.if-above-stamp.true
    (sym c.is_enough.ensures ∙ c.if-is_enough.true) (omega (arith, c.in-Ok.ensures)))
    ∙ c.loop-i.invariant)

pub loop-i-preserved : goal.loop-i-preserved
loop-i-preserved c =
    let a = c.args in
    sym
    (passed_over a.self a.action a.above a.f c.loop-i.i c.fresh_stamp-stamp.result c.if-action-ge2.false (omega arith) c.fresh_stamp-stamp.ensures
    (elim c.if-above-stamp.branch [
      | then-above-stamp+then-is_enough+in_default w ↦ inl (omega (arith, w.in_default.ensures))
      | else-above-stamp w ↦ inr
          (elim w.else-above-stamp.branch [
            | else-above-stamp-via-then-above-stamp+else-is_enough v ↦ inl (sym v.is_enough.ensures ∙ v.if-is_enough.false)
            | else-above-stamp-via-else-above-stamp v ↦ inr v.if-above-stamp.false
          ])
    ]))
    ∙ c.loop-i.invariant

pub returns : goal.returns
returns c =
    let a = c.args in
    sym (found-never (qualifies a.self a.action a.above a.f) 5 (fresh_stamp a.self.clock) c.loop-i.i (omega arith)) ∙ c.loop-i.invariant
