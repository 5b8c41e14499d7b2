-- The tests of a step are a list in document 01's order, each with the refusal that 01 gives where it fails.
-- The refusal is that of the first that fails, and there is none, done, where none does.
use Rattle.std.specs.Prelude.{ℕ, Bool, true, ◌&&◌, cond, List, [], ◌∷◌, eqb, Result, Ok, Err}
use Rattle.refusals.specs.declared.Refusal.{Refusal}
use Rattle.refusals.specs.Numbers.{number}

-- a refusal, and whether the test beside it is passed
abbrev pub Test : Type 0
Test = Refusal × Bool

unfoldable pub refusal : {R : Type 0} → List (R × Bool) → Result (Unit {0}) R
refusal [] = Ok tt
refusal (t ∷ ts) = cond t.1 (refusal ts) (Err t.0)

-- 01's number of an answer: 0, done, where it is not a refusal
abbrev pub number_in : {A : Type 0} → Result A Refusal → ℕ
number_in (Ok a) = 0
number_in (Err refusal) = number refusal

-- what is given where the tests are passed
abbrev pub giving : {A : Type 0} → Result (Unit {0}) Refusal → A → Result A Refusal
giving (Ok done) a = Ok a
giving (Err refusal) a = Err refusal

-- every test is passed
unfoldable pub passed : {R : Type 0} → List (R × Bool) → Bool
passed [] = true
passed (t ∷ ts) = t.1 && passed ts

-- the refusal of some tests, with others after them
unfoldable pub or_later : {R : Type 0} → Result (Unit {0}) R → Result (Unit {0}) R → Result (Unit {0}) R
or_later (Ok done) later = later
or_later (Err fault) later = Err fault

-- the test with a number, the first that has it
abbrev pub test_at : ℕ → List Test → Bool
test_at k [] = true
test_at k (t ∷ ts) = cond (eqb (number t.0) k) t.1 (test_at k ts)
