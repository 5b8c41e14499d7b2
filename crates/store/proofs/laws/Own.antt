-- "Each sender has at most ten places and cannot take another's."
use Rattle.std.specs.Prelude.{ℕ, ◌+◌, ◌-◌, ◌≤◌, ◌<◌, ◌≡◌, refl, Bool, true, false, ◌&&◌, ◌||◌, eqb}
use Rattle.std.proofs.Common.{ap, ◌∙◌, arith, ne_eqb}
use Rattle.time.specs.declared.Dts.{Dts}
use Rattle.time.specs.Fresh.{window}
use Rattle.senders.specs.Sets.{count_below}
use Rattle.senders.specs.laws.Sets.{count-window}
use Rattle.store.specs.declared.Store.{Store}
use Rattle.store.specs.Store.{stamps, places, put}
use Rattle.store.specs.laws.Places.{bounds}
use Rattle.store.specs.Held.{held, has_room_for}
use Rattle.store.proofs.laws.Held.{held-put, held-fresh}
use Rattle.store.specs.Earliest.{dts}

-- how many stamps below n a sender is held at, for an action
abbrev pub held_stamps : Store → ℕ → ℕ → ℕ → ℕ
held_stamps s n a i = count_below n (λ T. held s a (dts T) i)

-- five for each action, however far one counts
five : (s : Store) (n a i : ℕ) → held_stamps s n a i ≤ stamps
five s n a i = count-window n (s.clock.0 - window) stamps (λ T. held s a (dts T) i) near
  where
    near : (T : ℕ) → held s a (dts T) i ≡ true → (s.clock.0 - window ≤ T) × (T < s.clock.0 - window + stamps)
    near T e = let b = bounds s.clock a (dts T) (held-fresh s a (dts T) i e) in (omega arith, omega arith)

-- at most ten places, for the two actions together
pub at-most-ten : (s : Store) (n i : ℕ) → held_stamps s n 0 i + held_stamps s n 1 i ≤ places
at-most-ten s n i = let close = five s n 0 i in let trip = five s n 1 i in omega arith

-- a share put in one sender's name changes nothing that is held from another
pub others-kept : (s : Store) (i a : ℕ) (T : Dts) (b : ℕ) (U : Dts) (j : ℕ) → (j ≡ i → ⊥) → held (put s i a T) b U j ≡ held s b U j
others-kept s i a T b U j ne =
    held-put s i a T b U j
    ∙ ap (λ (x : Bool). has_room_for s i a T && (eqb b a && eqb U.0 T.0) && x || held s b U j) (ne_eqb j i ne)
    ∙ no (has_room_for s i a T && (eqb b a && eqb U.0 T.0))
  where
    no : (x : Bool) → (x && false || held s b U j) ≡ held s b U j
    no true = refl
    no false = refl
