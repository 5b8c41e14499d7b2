-- How the ten places are cleared, one remainder after the other. For the store's own proofs, as Places is.
use Rattle.std.specs.Prelude.{ℕ, ◌+◌, ◌-◌, ◌%◌, ◌≤◌, ◌<◌, ◌≡◌, refl, Bool, true, false, cond, List, ◌⊎◌, eqb, length, get_or, set}
use Rattle.std.proofs.Common.{sym, ap, ap₂, ◌∙◌, inl, inr, arith, length-set, get_or-set_same, get_or-set_other, eqb-true, lt-ltb, le-ltb}
use Rattle.std.proofs.lemmas.Bool.{eqb-false, lt-leb}
use Rattle.time.specs.declared.Dts.{Dts}
use Rattle.tables.specs.Tables.{table, length-table, get_d-table, is-table}
use Rattle.store.specs.declared.Store.{Store}
use Rattle.store.specs.Store.{stamps, places, set_at, empty, turn, left_at, moved_to}

-- a place and the other action's place for the same stamps have one turn
same_turn : (clock : Dts) (k m : ℕ) → k % stamps ≡ m → turn clock k ≡ turn clock m
unfolding turn
same_turn clock k m e = omega arith

-- a place whose turn has come, and one whose turn has not
cleared : (s : Store) (by k : ℕ) → turn s.clock k < by → left_at s by k ≡ 0
unfolding left_at
cleared s by k l = ap (λ (b : Bool). cond b 0 (set_at s k)) (lt-ltb _ _ l)

kept : (s : Store) (by k : ℕ) → by ≤ turn s.clock k → left_at s by k ≡ set_at s k
unfolding left_at
kept s by k l = ap (λ (b : Bool). cond b 0 (set_at s k)) (le-ltb _ _ l)

-- Store x has the clock t to which s moves on, and the sets of s: those at the places with a remainder below m as they are to be, the rest as they were.
pub record Cleared (s : Store) (t : Dts) (m : ℕ) (x : Store) : Type 0 where
  pub clock-there : x.clock ≡ t
  pub ten : length x.masks ≡ places
  pub done : (k : ℕ) → k < places → k % stamps < m → set_at x k ≡ left_at s (t.0 - s.clock.0) k
  pub rest : (k : ℕ) → k < places → m ≤ k % stamps → set_at x k ≡ set_at s k

pub none_yet : (s : Store) (t : Dts) → length s.masks ≡ places → Cleared s t 0 (record { clock = t; masks = s.masks })
none_yet s t e = record { clock-there = refl; ten = e; done = λ k l h. absurd (never (k % stamps) h); rest = λ k l h. refl }
  where
    never : (n : ℕ) → n < 0 → ⊥
    never n h = omega arith

module _ (s : Store) (t : Dts) (m : ℕ) (x : Store) (l : m < stamps) (c : Cleared s t m x) where
  -- the turn of the places with remainder m has come
  clear-one : turn s.clock m < t.0 - s.clock.0 → Cleared s t (m + 1) (record { clock = x.clock; masks = set (set x.masks m 0) (m + stamps) 0 })
  clear-one h = record {
    clock-there = c.clock-there;
    ten = length-set (set x.masks m 0) (m + stamps) 0 ∙ length-set x.masks m 0 ∙ c.ten;
    done = λ k b r. at k b r (eqb (k % stamps) m) refl;
    rest = λ k b r. elsewhere k b (above k r) ∙ c.rest k b (omega arith);
  }
    where
      above : (k : ℕ) → m + 1 ≤ k % stamps → k % stamps ≡ m → ⊥
      above k r q = omega arith

      elsewhere : (k : ℕ) → k < places → (k % stamps ≡ m → ⊥) → get_or (set (set x.masks m 0) (m + stamps) 0) k 0 ≡ set_at x k
      elsewhere k b n =
          get_or-set_other (set x.masks m 0) (m + stamps) k 0 0 (λ (e : k ≡ m + stamps). n (omega arith))
          ∙ get_or-set_other x.masks m k 0 0 (λ (e : k ≡ m). n (omega arith))

      here : (k : ℕ) → k < places → k % stamps ≡ m → (e : Bool) → eqb k (m + stamps) ≡ e → get_or (set (set x.masks m 0) (m + stamps) 0) k 0 ≡ 0
      here k b q true e =
          let p : k ≡ m + stamps = eqb-true k (m + stamps) e in
          rw p (get_or-set_same (set x.masks m 0) (m + stamps) 0 0 (omega (arith, length-set x.masks m 0, c.ten)))
      here k b q false e =
          let n = eqb-false k (m + stamps) e in
          let p : k ≡ m = omega (arith, n) in
          get_or-set_other (set x.masks m 0) (m + stamps) k 0 0 n ∙ rw p (get_or-set_same x.masks m 0 0 (omega (arith, c.ten)))

      at : (k : ℕ) → k < places → k % stamps < m + 1 → (e : Bool) → eqb (k % stamps) m ≡ e
          → get_or (set (set x.masks m 0) (m + stamps) 0) k 0 ≡ left_at s (t.0 - s.clock.0) k
      at k b r true e =
          let q : k % stamps ≡ m = eqb-true (k % stamps) m e in
          here k b q (eqb k (m + stamps)) refl ∙ sym (cleared s (t.0 - s.clock.0) k (rw (same_turn s.clock k m q) h))
      at k b r false e =
          let n = eqb-false (k % stamps) m e in
          elsewhere k b n ∙ c.done k b (omega (arith, n))

  -- it has not
  leave-one : t.0 - s.clock.0 ≤ turn s.clock m → Cleared s t (m + 1) x
  leave-one h = record {
    clock-there = c.clock-there;
    ten = c.ten;
    done = λ k b r. at k b r (eqb (k % stamps) m) refl;
    rest = λ k b r. c.rest k b (omega arith);
  }
    where
      at : (k : ℕ) → k < places → k % stamps < m + 1 → (e : Bool) → eqb (k % stamps) m ≡ e → set_at x k ≡ left_at s (t.0 - s.clock.0) k
      at k b r true e =
          let q : k % stamps ≡ m = eqb-true (k % stamps) m e in
          c.rest k b (omega arith) ∙ sym (kept s (t.0 - s.clock.0) k (rw (same_turn s.clock k m q) h))
      at k b r false e =
          let n = eqb-false (k % stamps) m e in
          c.done k b (omega (arith, n))

-- One more remainder has been passed, at whichever turn its places have.
pub passed : (s : Store) (t : Dts) (m : ℕ) (x y : Store) (r : ℕ) → m < stamps → r ≡ turn s.clock m → Cleared s t m x
    → ((r < t.0 - s.clock.0) × (y ≡ record { clock = x.clock; masks = set (set x.masks m 0) (m + stamps) 0 })) ⊎ ((t.0 - s.clock.0 ≤ r) × (y ≡ x))
    → Cleared s t (m + 1) y
passed s t m x y r l e c (inl w) = rw w.1 (clear-one s t m x l c (rw e at w.0))
passed s t m x y r l e c (inr w) = rw w.1 (leave-one s t m x l c (rw e at w.0))

-- Every place has been passed.
pub all-cleared : (s : Store) (t : Dts) (x : Store) → s.clock.0 < t.0 → Cleared s t stamps x → x ≡ moved_to s t
unfolding moved_to
all-cleared s t x l c =
    ap₂ (λ (d : Dts) (m : List ℕ). record { clock = d; masks = m }) c.clock-there
    (is-table places x.masks (left_at s (t.0 - s.clock.0)) 0 c.ten (λ k b. c.done k b (omega arith)))
    ∙ sym (ap (λ (b : Bool). cond b s (record { clock = t; masks = table places (left_at s (t.0 - s.clock.0)) })) (lt-leb _ _ l))

-- "A jump of five or more clears them all."
pub jump-clears : (s : Store) (t : Dts) → s.clock.0 + stamps ≤ t.0 → empty t ≡ moved_to s t
unfolding empty moved_to turn
jump-clears s t l =
    ap (λ (m : List ℕ). record { clock = t; masks = m })
    (is-table places (table places (λ k. 0)) (left_at s (t.0 - s.clock.0)) 0 (length-table places (λ k. 0))
    (λ k b. get_d-table places (λ k. 0) k 0 b ∙ sym (cleared s (t.0 - s.clock.0) k (omega arith))))
    ∙ sym (ap (λ (b : Bool). cond b s (record { clock = t; masks = table places (left_at s (t.0 - s.clock.0)) })) (lt-leb t.0 s.clock.0 (omega arith)))
