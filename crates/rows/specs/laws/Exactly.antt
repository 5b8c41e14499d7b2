-- Laws of what Exactly.antt defines.
use Rattle.std.specs.Prelude.{ℕ, ◌≤◌, ◌<◌, ◌≡◌, refl, Bool, true, false, not, ◌&&◌, cond, ◌↔◌, List, eqb, leb, ltb, Err}
use Rattle.std.proofs.Common.{true≢false, arith, eqb-true, leb-true}
use Rattle.std.proofs.lemmas.Bool.{eqb-false, not-true}
use Rattle.refusals.specs.Numbers.{number}
use Rattle.refusals.specs.Tests.{Test, number_in, refusal, test_at}
use Rattle.refusals.specs.laws.Tests.{numbered}
use Rattle.refusals.specs.laws.Bools.{left, right}
use Rattle.rows.specs.Exactly.{Row, Condition, NoneBefore, None, Tells, Tell, no_rows, also, has_row, apart, up_to}

-- A number that no row has is never the refusal.
pub absent : {ts : List Test} {rows : List Row} (k : ℕ) → 0 < k → has_row k rows ≡ false → Tell ts rows → number_in (refusal ts) ≡ k → ⊥
unfolding refusal
absent k pos h no_rows e = omega arith
absent k pos h (also j {test} {C} {ts} {rows} tells rest) e = go (eqb (number j) k) test refl h e (λ h. absent k pos h rest)
  where
    go : (same t : Bool) → eqb (number j) k ≡ same → cond same true (has_row k rows) ≡ false → number_in (cond t (refusal ts) (Err j)) ≡ k
        → (has_row k rows ≡ false → number_in (refusal ts) ≡ k → ⊥) → ⊥
    go true t q h e ih = true≢false h
    go false true q h e ih = ih h e
    go false false q h e ih = eqb-false (number j) k q e

-- The refusal is k exactly when no row in front of row k has its condition met and row k has.
pub exactly : {ts : List Test} {rows : List Row} → Tell ts rows → apart rows ≡ true → (k : ℕ) → 0 < k
    → (number_in (refusal ts) ≡ k) ↔ (NoneBefore k rows × Condition k rows)
unfolding refusal
exactly no_rows a k pos = (λ e. omega arith, λ h. absurd h.1)
exactly (also j {test} {C} {ts} {rows} tells rest) a k pos = go (eqb (number j) k) test refl tells (exactly rest (right (not (has_row (number j) rows)) _ more) k pos)
  where
    more : (not (has_row (number j) rows) && apart rows) ≡ true
    more = right (ltb 0 (number j)) _ a

    never : number j ≡ k → number_in (refusal ts) ≡ k → ⊥
    never q = absent k pos (rw (← q) (not-true _ (left (not (has_row (number j) rows)) _ more))) rest

    go : (same t : Bool) → eqb (number j) k ≡ same → Tells t C → (number_in (refusal ts) ≡ k) ↔ (NoneBefore k rows × Condition k rows)
        → (number_in (cond t (refusal ts) (Err j)) ≡ k)
        ↔ (cond same (Unit {0}) ((C → ⊥) × NoneBefore k rows) × cond same C (Condition k rows))
    go true true q tells ih = (λ e. absurd (never (eqb-true (number j) k q) e), λ h. absurd (true≢false (tells.1 h.1)))
    go true false q tells ih = (λ e. (tt, tells.0 refl), λ h. eqb-true (number j) k q)
    go false true q tells ih = (λ e. (((λ c. true≢false (tells.1 c)), (ih.0 e).0), (ih.0 e).1), λ h. ih.1 (h.0.1, h.1))
    go false false q tells ih = (λ e. absurd (eqb-false (number j) k q e), λ h. absurd (h.0.0 (tells.0 refl)))

-- The refusal is 0, done, exactly when no row has its condition met.
pub exactly-done : {ts : List Test} {rows : List Row} → Tell ts rows → apart rows ≡ true → (number_in (refusal ts) ≡ 0) ↔ None rows
unfolding refusal
exactly-done no_rows a = (λ e. tt, λ h. refl)
exactly-done (also j {test} {C} {ts} {rows} tells rest) a = go test tells (exactly-done rest (right (not (has_row (number j) rows)) _ (right (ltb 0 (number j)) _ a)))
  where
    not_done : number j ≡ 0 → ⊥
    not_done e = omega (arith, numbered j)

    go : (t : Bool) → Tells t C → (number_in (refusal ts) ≡ 0) ↔ None rows → (number_in (cond t (refusal ts) (Err j)) ≡ 0) ↔ ((C → ⊥) × None rows)
    go true tells ih = (λ e. ((λ c. true≢false (tells.1 c)), ih.0 e), λ h. ih.1 h.1)
    go false tells ih = (λ e. absurd (not_done e), λ h. absurd (h.0 (tells.0 refl)))

-- The refusal is no larger than the largest number.
pub at_most : {ts : List Test} {rows : List Row} → Tell ts rows → (m : ℕ) → up_to m rows ≡ true → number_in (refusal ts) ≤ m
unfolding refusal
at_most no_rows m a = omega arith
at_most (also j {test} {C} {ts} {rows} tells rest) m a = go test (at_most rest m (right (leb (number j) m) _ a))
  where
    go : (t : Bool) → number_in (refusal ts) ≤ m → number_in (cond t (refusal ts) (Err j)) ≤ m
    go true ih = ih
    go false ih = leb-true (number j) m (left (leb (number j) m) _ a)

-- Where the condition of row k is met, the test with that number fails.
pub met : {ts : List Test} {rows : List Row} → Tell ts rows → (k : ℕ) → Condition k rows → test_at k ts ≡ false
met no_rows k c = absurd c
met (also j {test} {C} {ts} {rows} tells rest) k c = go (eqb (number j) k) c (met rest k)
  where
    go : (same : Bool) → cond same C (Condition k rows) → (Condition k rows → test_at k ts ≡ false) → cond same test (test_at k ts) ≡ false
    go true c later = tells.1 c
    go false c later = later c
