-- A test of every place of a list that a rule makes.
use Prim.Native.Nat.{ℕ, zero, suc, ◌<◌}
use Rattle.std.specs.Prelude.{◌≡◌, Bool, true, ◌&&◌, List, [], ◌∷◌}
use Rattle.std.proofs.Common.{sym, ◌∙◌, not-suc-le-zero, le_of_suc-le-suc, arith}
use Rattle.std.proofs.Math.Bool.{and-eq-true_iff}
use Rattle.tables.specs.Tables.{table}

-- for a test of a whole list that asks one test of each element
module _ {A : Type 0} (test : A → Bool) (every : List A → Bool) (of_none : every [] ≡ true) (of-more : (a : A) (l : List A) → every (a ∷ l) ≡ (test a && every l)) where
  both : (n : ℕ) (rule : ℕ → A) → every (rule zero ∷ table n (λ i. rule (suc i))) ≡ true
      → (test (rule zero) ≡ true) × (every (table n (λ i. rule (suc i))) ≡ true)
  both n rule e = (and-eq-true_iff (test (rule zero)) (every (table n (λ i. rule (suc i))))).0 (sym (of-more (rule zero) (table n (λ i. rule (suc i)))) ∙ e)

  pub each-passes : (n : ℕ) (rule : ℕ → A) → every (table n rule) ≡ true → (i : ℕ) → i < n → test (rule i) ≡ true
  unfolding table
  each-passes zero rule e i l = absurd (not-suc-le-zero l)
  each-passes (suc n) rule e zero l = (both n rule e).0
  each-passes (suc n) rule e (suc i) l = each-passes n (λ i. rule (suc i)) (both n rule e).1 i (le_of_suc-le-suc l)

  pub every-passes : (n : ℕ) (rule : ℕ → A) → ((i : ℕ) → i < n → test (rule i) ≡ true) → every (table n rule) ≡ true
  unfolding table
  every-passes zero rule h = of_none
  every-passes (suc n) rule h =
      of-more (rule zero) (table n (λ i. rule (suc i)))
      ∙ (and-eq-true_iff (test (rule zero)) (every (table n (λ i. rule (suc i))))).1
      (h zero (omega arith), every-passes n (λ i. rule (suc i)) (λ i l. h (suc i) (omega arith)))
