-- Over any list of tests: the refusal is k exactly when the condition of row k is met and that of no row in front of it.
use Rattle.std.specs.Prelude.{ℕ, ◌≡◌, Bool, true, false, not, ◌&&◌, cond, ◌↔◌, List, [], ◌∷◌, eqb, leb, ltb}
use Rattle.refusals.specs.declared.Refusal.{Refusal}
use Rattle.refusals.specs.Numbers.{number}
use Rattle.refusals.specs.Tests.{Test}

-- a row of a table of refusals: its number, and the condition on which it is given
abbrev pub Row : Type 1
Row = ℕ × Type 0

-- the condition of row k; nothing meets that of a row which is not there
abbrev pub Condition : ℕ → List Row → Type 0
Condition k [] = ⊥
Condition k (row ∷ rows) = cond (eqb row.0 k) row.1 (Condition k rows)

-- no row in front of row k has its condition met
abbrev pub NoneBefore : ℕ → List Row → Type 0
NoneBefore k [] = Unit {0}
NoneBefore k (row ∷ rows) = cond (eqb row.0 k) (Unit {0}) ((row.1 → ⊥) × NoneBefore k rows)

-- no row has its condition met
abbrev pub None : List Row → Type 0
None [] = Unit {0}
None (row ∷ rows) = (row.1 → ⊥) × None rows

-- a test tells a condition: it fails exactly when the condition is met
abbrev pub Tells : Bool → Type 0 → Type 0
Tells test C = (test ≡ false) ↔ C

-- the tests tell the conditions of the rows, one each and in the same order: each row has the number of its test's refusal
pub data Tell : List Test → List Row → Type 1 where
  no_rows : Tell [] []
  also : (fault : Refusal) {test : Bool} {C : Type 0} {ts : List Test} {rows : List Row} → Tells test C → Tell ts rows
      → Tell ((fault, test) ∷ ts) ((number fault, C) ∷ rows)

-- every row has a number of its own, which is not 0
abbrev pub has_row : ℕ → List Row → Bool
has_row k [] = false
has_row k (row ∷ rows) = cond (eqb row.0 k) true (has_row k rows)

abbrev pub apart : List Row → Bool
apart [] = true
apart (row ∷ rows) = ltb 0 row.0 && (not (has_row row.0 rows) && apart rows)

-- every number is at most m
abbrev pub up_to : ℕ → List Row → Bool
up_to m [] = true
up_to m (row ∷ rows) = leb row.0 m && up_to m rows
