-- A list that a rule makes, what stands in it, and what a store to one of its places leaves. An array is described so, and not by the
-- stores that filled it: its length is then part of what it is.
use Prim.Native.Nat.{ℕ, zero, suc, ◌+◌, ◌<◌}
use Rattle.std.specs.Prelude.{◌≡◌, List, [], ◌∷◌, Bool, true, false, cond, eqb, length, get_or, set}
use Rattle.std.proofs.Math.Path.{refl, ap}
use Rattle.std.proofs.Common.{sym, ◌∙◌, not-suc-le-zero, le_of_suc-le-suc, arith, length-set, ext_get_or, get_or-set_same, get_or-set_other, eqb-true}
use Rattle.std.proofs.lemmas.Bool.{eqb-false}

module _ {A : Type 0} where
  -- rule 0, rule 1, .., n of them
  unfoldable pub table : ℕ → (ℕ → A) → List A
  table zero rule = []
  table (suc n) rule = rule zero ∷ table n (λ i. rule (suc i))

  pub length-table : (n : ℕ) (rule : ℕ → A) → length (table n rule) ≡ n
  unfolding table
  length-table zero rule = refl
  length-table (suc n) rule = ap suc (length-table n (λ i. rule (suc i)))

  pub get_d-table : (n : ℕ) (rule : ℕ → A) (i : ℕ) (d : A) → i < n → get_or (table n rule) i d ≡ rule i
  unfolding table
  get_d-table zero rule i d h = absurd (not-suc-le-zero h)
  get_d-table (suc n) rule zero d h = refl
  get_d-table (suc n) rule (suc i) d h = get_d-table n (λ j. rule (suc j)) i d (le_of_suc-le-suc h)

  -- a list whose every place is the rule's
  pub is-table : (n : ℕ) (l : List A) (rule : ℕ → A) (d : A) → length l ≡ n → ((i : ℕ) → i < n → get_or l i d ≡ rule i) → l ≡ table n rule
  is-table n l rule d e h =
      ext_get_or d l (table n rule) (e ∙ sym (length-table n rule)) (λ i k. h i (omega arith) ∙ sym (get_d-table n rule i d (omega arith)))

  -- a list with one place stored to
  pub set-table : (n : ℕ) (l : List A) (p : ℕ) (v d : A) → length l ≡ n → p < n → set l p v ≡ table n (λ k. cond (eqb k p) v (get_or l k d))
  set-table n l p v d e h = is-table n (set l p v) (λ k. cond (eqb k p) v (get_or l k d)) d (length-set l p v ∙ e) (λ i k. go i (eqb i p) refl)
    where
      go : (i : ℕ) (b : Bool) → eqb i p ≡ b → get_or (set l p v) i d ≡ cond b v (get_or l i d)
      go i true q = let s : i ≡ p = eqb-true i p q in rw s (get_or-set_same l p v d (omega arith))
      go i false q = get_or-set_other l p i v d (eqb-false i p q)

  -- one more place holds what the rule says
  pub filled_more : (l : List A) (rule : ℕ → A) (i : ℕ) (v d : A) → i < length l → v ≡ rule i → ((k : ℕ) → k < i → get_or l k d ≡ rule k)
      → (k : ℕ) → k < i + 1 → get_or (set l i v) k d ≡ rule k
  filled_more l rule i v d h e r k lt = go (eqb k i) refl
    where
      go : (b : Bool) → eqb k i ≡ b → get_or (set l i v) k d ≡ rule k
      go true q = let s : k ≡ i = eqb-true k i q in rw s (get_or-set_same l i v d h ∙ e)
      go false q = let ne : (k ≡ i → ⊥) = eqb-false k i q in get_or-set_other l i k v d ne ∙ r k (omega arith)
