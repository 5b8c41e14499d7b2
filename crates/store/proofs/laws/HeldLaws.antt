-- More of what is held, for the layers above: shares that the store takes, and a later clock.
use Rattle.std.specs.Prelude.{ℕ, max, ◌≤◌, ◌<◌, ◌≡◌, refl, Bool, true, false, ◌&&◌, ◌||◌, ◌⊎◌, eqb}
use Rattle.std.proofs.Common.{sym, ap, ◌∙◌, inl, inr, arith, lt-ltb}
use Rattle.refusals.specs.laws.Bools.{and-true}
use Rattle.time.specs.declared.Dts.{Dts}
use Rattle.time.specs.Fresh.{fresh}
use Rattle.senders.specs.Masks.{room}
use Rattle.store.specs.declared.Store.{Store}
use Rattle.store.specs.Store.{has_place, put, moved_to}
use Rattle.store.specs.Held.{held, has_room_for}
use Rattle.store.proofs.laws.Held.{held-put, clock-moved}

-- of a sender and an action that there are, a store has room for what is fresh at its clock, and for nothing else
pub room-if-fresh : (s : Store) (i A : ℕ) (T : Dts) → i < room → A ≤ 1 → has_room_for s i A T ≡ fresh T s.clock
unfolding has_room_for has_place
room-if-fresh s i A T l a = simp (lt-ltb i room l, lt-ltb A 2 (omega arith), and-true)

pub takes-near : (s : Store) (i A : ℕ) (T : Dts) → i < room → A ≤ 1 → fresh T s.clock ≡ true → has_room_for s i A T ≡ true
takes-near s i A T l a f = room-if-fresh s i A T l a ∙ f

pub held-taken : (s : Store) (i a : ℕ) (T : Dts) (b : ℕ) (U : Dts) (j : ℕ) → has_room_for s i a T ≡ true
    → held (put s i a T) b U j ≡ (eqb b a && eqb U.0 T.0 && eqb j i || held s b U j)
held-taken s i a T b U j e =
    held-put s i a T b U j ∙ ap (λ (x : Bool). x && (eqb b a && eqb U.0 T.0) && eqb j i || held s b U j) e

-- whatever is held then was put now or held before
pub from_one : (s : Store) (i a : ℕ) (U : Dts) (A : ℕ) (T : Dts) (j : ℕ) → held (put s i a U) A T j ≡ true
    → (((eqb A a && eqb T.0 U.0) ≡ true) × (eqb j i ≡ true)) ⊎ (held s A T j ≡ true)
from_one s i a U A T j e =
    go (has_room_for s i a U) (eqb A a && eqb T.0 U.0) (eqb j i) (held s A T j) (sym (held-put s i a U A T j) ∙ e)
  where
    go : (w x y z : Bool) → (w && x && y || z) ≡ true → ((x ≡ true) × (y ≡ true)) ⊎ (z ≡ true)
    go true true true z e = inl (refl, refl)
    go true true false z e = inr e
    go true false y z e = inr e
    go false x y z e = inr e

-- at a clock that is no earlier, the store has that clock
pub clock-at : (s : Store) (t : Dts) → s.clock.0 ≤ t.0 → (moved_to s t).clock ≡ t
clock-at s t l = ap (λ (c : ℕ). record { 0 = c }) (clock-moved s t ∙ larger)
  where
    larger : max s.clock.0 t.0 ≡ t.0
    larger = omega arith
