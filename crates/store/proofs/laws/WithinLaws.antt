-- What refusal 16 asks of a store: that every sender at each of the ten places is below n. From clock 2 on each place is a fresh stamp's, and then
-- what is held settles the answer. At every clock an empty store passes, and a share and a later clock keep it so.
use Rattle.std.specs.Prelude.{ℕ, ◌+◌, ◌-◌, ◌/◌, ◌≤◌, ◌<◌, ◌≡◌, Bool, cond, eqb, leb, ltb}
use Rattle.std.proofs.Math.Path.{refl}
use Rattle.std.proofs.Common.{sym, ap, ◌∙◌, arith, lt-ltb, le-leb}
use Rattle.std.proofs.Math.Bool.{true, false}
use Rattle.time.specs.declared.Dts.{Dts}
use Rattle.time.specs.Fresh.{window}
use Rattle.senders.specs.Masks.{is_in, joined, within}
use Rattle.senders.proofs.laws.Within.{within-below, joined-within, below-within, none_within}
use Rattle.tables.specs.Tables.{table, get_d-table}
use Rattle.tables.specs.laws.Every.{each-passes, every-passes}
use Rattle.store.specs.declared.Store.{Store}
use Rattle.store.specs.Store.{actions, stamps, places, has_place, place, set_at, senders_of, empty, put_at, put, turn, left_at, moved_to, all_within, store_within}
use Rattle.store.specs.laws.Places.{place-lt}
use Rattle.store.specs.Held.{held}
use Rattle.store.proofs.laws.Held.{held-fresh}
use Rattle.store.specs.Earliest.{dts}

-- each of a list that a rule makes is within n
pub each_within : (n m : ℕ) (rule : ℕ → ℕ) → all_within (table m rule) n ≡ true → (k : ℕ) → k < m → within (rule k) n ≡ true
each_within n = each-passes (λ mask. within mask n) (λ masks. all_within masks n) refl (λ mask masks. refl)

pub within-each : (n m : ℕ) (rule : ℕ → ℕ) → ((k : ℕ) → k < m → within (rule k) n ≡ true) → all_within (table m rule) n ≡ true
within-each n = every-passes (λ mask. within mask n) (λ masks. all_within masks n) refl (λ mask masks. refl)

held_at : (s : Store) (a : ℕ) (T : Dts) (i : ℕ) → has_place s.clock a T ≡ true → held s a T i ≡ is_in (set_at s (place a T)) i
unfolding held senders_of
held_at s a T i e = ap (λ (b : Bool). is_in (cond b (set_at s (place a T)) 0) i) e

-- At every clock: where the ten places are within n, whoever is held is below n.
pub within_held : (s : Store) (n a : ℕ) (T : Dts) (i : ℕ) → store_within s n ≡ true → held s a T i ≡ true → i < n
unfolding store_within
within_held s n a T i w e =
    let has = held-fresh s a T i e in
    within-below (set_at s (place a T)) n i (each_within n places (set_at s) w (place a T) (place-lt s.clock a T has)) (sym (held_at s a T i has) ∙ e)

-- the action and the stamp whose place a place is, at a clock
abbrev action_at : ℕ → ℕ
action_at k = k / stamps

abbrev stamp_at : Dts → ℕ → Dts
stamp_at clock k = dts (clock.0 - window + turn clock k)

has-place : (clock : Dts) (k : ℕ) → window ≤ clock.0 → k < places → has_place clock (action_at k) (stamp_at clock k) ≡ true
unfolding has_place turn
has-place clock k h l =
    simp (lt-ltb (k / stamps) actions (omega arith), le-leb (clock.0 - window) (stamp_at clock k).0 (omega arith), le-leb (stamp_at clock k).0 (clock.0 + window) (omega arith))

its-place : (clock : Dts) (k : ℕ) → window ≤ clock.0 → k < places → place (action_at k) (stamp_at clock k) ≡ k
unfolding turn
its-place clock k h l = omega arith

-- From clock 2 on: where whoever is held is below n, so are the ten places.
pub held-within : (s : Store) (n : ℕ) → window ≤ s.clock.0 → ((a : ℕ) (T : Dts) (i : ℕ) → held s a T i ≡ true → i < n) → store_within s n ≡ true
unfolding store_within
held-within s n c h = within-each n places (set_at s) (λ k l. below-within (set_at s k) n (λ i e. h (action_at k) (stamp_at s.clock k) i (there k l i ∙ e)))
  where
    there : (k : ℕ) → k < places → (i : ℕ) → held s (action_at k) (stamp_at s.clock k) i ≡ is_in (set_at s k) i
    there k l i =
        held_at s (action_at k) (stamp_at s.clock k) i (has-place s.clock k c l)
        ∙ ap (λ (p : ℕ). is_in (set_at s p) i) (its-place s.clock k c l)

-- ---- at every clock: what keeps the ten places within n

-- places that a rule makes
ruled-within : (clock : Dts) (rule : ℕ → ℕ) (n : ℕ) → ((k : ℕ) → k < places → within (rule k) n ≡ true)
    → store_within (record { clock = clock; masks = table places rule }) n ≡ true
unfolding store_within
ruled-within clock rule n h =
    within-each n places (set_at (record { clock = clock; masks = table places rule }))
    (λ k l. ap (λ (mask : ℕ). within mask n) (get_d-table places rule k 0 l) ∙ h k l)

pub empty-within : (clock : Dts) (n : ℕ) → store_within (empty clock) n ≡ true
unfolding empty
empty-within clock n = ruled-within clock (λ k. 0) n (λ k l. none_within n)

module _ (s : Store) (n : ℕ) (w : store_within s n ≡ true) where
  at_place : (k : ℕ) → k < places → within (set_at s k) n ≡ true
  unfolding store_within
  at_place = each_within n places (set_at s) w

  -- a share of a sender below n
  pub put-within : (i a : ℕ) (T : Dts) → i < n → store_within (put s i a T) n ≡ true
  unfolding put
  put-within i a T l = go (has_place s.clock a T) refl
    where
      one : place a T < places → (k : ℕ) → k < places → (x : Bool) → within (cond x (joined (set_at s (place a T)) i) (set_at s k)) n ≡ true
      one there k m true = joined-within (set_at s (place a T)) n i (at_place (place a T) there) l
      one there k m false = at_place k m

      go : (x : Bool) → has_place s.clock a T ≡ x → store_within (cond x (put_at s i (place a T)) s) n ≡ true
      go true e = ruled-within s.clock _ n (λ k m. one (place-lt s.clock a T e) k m (eqb k (place a T)))
      go false e = w

  -- a later clock
  pub moved-within : (t : Dts) → store_within (moved_to s t) n ≡ true
  unfolding moved_to left_at
  moved-within t = go (leb t.0 s.clock.0)
    where
      one : (k : ℕ) → k < places → (x : Bool) → within (cond x 0 (set_at s k)) n ≡ true
      one k m true = none_within n
      one k m false = at_place k m

      go : (x : Bool) → store_within (cond x s (record { clock = t; masks = table places (left_at s (t.0 - s.clock.0)) })) n ≡ true
      go true = w
      go false = ruled-within t (left_at s (t.0 - s.clock.0)) n (λ k m. one k m (ltb (turn s.clock k) (t.0 - s.clock.0)))
