-- The breaker's remembered changes are the last eight of those that the history tells.
use Rattle.std.specs.Prelude.{ℕ, zero, suc, ◌+◌, ◌-◌, ◌≤◌, ◌<◌, ◌≡◌, refl, Bool, true, false, ◌&&◌, cond, List, [], ◌∷◌, eqb, ltb, length, get_or, Some, None}
use Rattle.std.proofs.Common.{sym, ap, ap₂, ◌∙◌, arith, ltb-true, ltb-false, lt-ltb, le-ltb, ne_eqb}
use Rattle.refusals.specs.laws.Bools.{and-true, and-false}
use Rattle.tables.specs.Tables.{table, get_d-table}
use Rattle.time.specs.declared.Dts.{Dts}
use Rattle.pairs.specs.declared.Pair.{Pair}
use Rattle.breaker.specs.Breaker.{most_changes, no_change, pair_at, remembered, change_at}
use Rattle.sequences.specs.Told.{up_to_eight, changes_of, numbered, numbered_of}

-- two lists that rules make, alike at every place
table_same : {A : Type 0} (n : ℕ) (f g : ℕ → A) → ((i : ℕ) → i < n → f i ≡ g i) → table n f ≡ table n g
unfolding table
table_same zero f g same = refl
table_same (suc n) f g same = ap₂ (λ x xs. x ∷ xs) (same zero (omega arith)) (table_same n (λ i. f (suc i)) (λ i. g (suc i)) (λ i l. same (suc i) (omega (arith, l))))

-- one more change: it stands in front, and the ninth is forgotten
one_more : (count : ℕ) → cond (ltb (up_to_eight count) most_changes) (up_to_eight count + 1) most_changes ≡ up_to_eight (suc count)
one_more count = go (ltb count most_changes) refl
  where
    go : (x : Bool) → ltb count most_changes ≡ x → cond (ltb (cond x count most_changes) most_changes) (cond x count most_changes + 1) most_changes ≡ up_to_eight (suc count)
    go true e = let l : count < 8 = ltb-true count 8 e in ap (λ (y : Bool). cond y (count + 1) 8) e ∙ last (ltb (suc count) 8) refl
      where
        last : (y : Bool) → ltb (suc count) 8 ≡ y → count + 1 ≡ cond y (suc count) 8
        last true e' = omega arith
        last false e' = let l : count < 8 = ltb-true count 8 e in let k : 8 ≤ suc count = ltb-false (suc count) 8 e' in omega (arith, l, k)
    go false e = let k : 8 ≤ count = ltb-false count 8 e in sym (ap (λ (y : Bool). cond y (suc count) 8) (le-ltb (suc count) 8 (omega (arith, k))))

pub remembers-one : (pairs : List Pair) (p : Pair) → remembered (changes_of pairs) p ≡ changes_of (p ∷ pairs)
unfolding remembered
remembers-one pairs p = ap₂ (λ (ps : List Pair) (c : ℕ). record { pairs = ps; count = c }) (table_same most_changes _ _ here) (one_more (length pairs))
  where
    here : (i : ℕ) → i < most_changes → cond (eqb i 0) p (pair_at (changes_of pairs) (i - 1)) ≡ get_or (p ∷ pairs) i no_change
    here zero l = refl
    here (suc i) l =
        let one : suc i - 1 ≡ i = omega arith in
        ap (λ (x : Bool). cond x p (pair_at (changes_of pairs) (suc i - 1))) (ne_eqb (suc i) 0 (λ e. omega (arith, e)))
        ∙ ap (pair_at (changes_of pairs)) one
        ∙ get_d-table most_changes (λ k. get_or pairs k no_change) i no_change (omega (arith, l))

-- the change with a number
at-number : (pairs : List Pair) (back : ℕ) → cond (ltb back (length pairs)) (Some (get_or pairs back no_change)) None ≡ numbered pairs back
at-number [] back = ap (λ (x : Bool). cond x (Some no_change) None) (le-ltb back 0 (omega arith))
at-number (p ∷ pairs) zero = ap (λ (x : Bool). cond x (Some p) None) (lt-ltb 0 (suc (length pairs)) (omega arith))
at-number (p ∷ pairs) (suc back) = ap (λ (x : Bool). cond x (Some (get_or pairs back no_change)) None) (go (ltb back (length pairs)) refl) ∙ at-number pairs back
  where
    go : (x : Bool) → ltb back (length pairs) ≡ x → ltb (suc back) (suc (length pairs)) ≡ ltb back (length pairs)
    go true e = let l : back < length pairs = ltb-true _ _ e in lt-ltb (suc back) (suc (length pairs)) (omega (arith, l)) ∙ sym e
    go false e = let l : length pairs ≤ back = ltb-false _ _ e in le-ltb (suc back) (suc (length pairs)) (omega (arith, l)) ∙ sym e

few : (count back : ℕ) → back < 8 → ltb back (up_to_eight count) ≡ ltb back count
few count back l = go (ltb count 8) refl
  where
    go : (x : Bool) → ltb count 8 ≡ x → ltb back (cond x count 8) ≡ ltb back count
    go true e = refl
    go false e = let k : 8 ≤ count = ltb-false count 8 e in lt-ltb back 8 l ∙ sym (lt-ltb back count (omega (arith, l, k)))

pub change-numbered : (pair : Pair) (clock : Dts) (pairs : List Pair) (back : ℕ) → change_at (record { pair = pair; clock = clock; changes = changes_of pairs }) back ≡ numbered_of pairs back
unfolding change_at
change-numbered pair clock pairs back = go (ltb back most_changes) refl
  where
    go : (x : Bool) → ltb back most_changes ≡ x
        → cond (ltb back (up_to_eight (length pairs)) && x) (Some (pair_at (changes_of pairs) back)) None ≡ cond x (numbered pairs back) None
    go true e =
        let l : back < 8 = ltb-true back 8 e in
        ap (λ (y : Bool). cond y (Some (pair_at (changes_of pairs) back)) None) (and-true (ltb back (up_to_eight (length pairs))) ∙ few (length pairs) back l)
        ∙ ap (λ (p : Pair). cond (ltb back (length pairs)) (Some p) None) (get_d-table most_changes (λ k. get_or pairs k no_change) back no_change l)
        ∙ at-number pairs back
    go false e = ap (λ (y : Bool). cond y (Some (pair_at (changes_of pairs) back)) None) (and-false (ltb back (up_to_eight (length pairs))))
