-- Every sequence of steps, "each given the site and table the last one left", and what is said of the steps of one.
use Rattle.std.specs.Prelude.{List, [], ◌∷◌}
use Rattle.site.specs.Answers.{Answer}
use Rattle.history.specs.History.{Entry, Accepted}

-- For what a step is answered at a moment, and what it leaves: from a first moment a history leads to another, by any steps, accepted and refused, of every kind.
pub data Reached {M S : Type 0} (answer_to : M → S → Answer) (after_step : M → S → M) (first : M) : List (Entry S) → M → Type 0 where
  from : Reached answer_to after_step first [] first
  then : {h : List (Entry S)} {m : M} → Reached answer_to after_step first h m → (step : S)
      → Reached answer_to after_step first (record { step = step; answer = answer_to m step } ∷ h) (after_step m step)

-- one of some accepted steps, with those before it, is as P says
pub data Earlier {S : Type 0} (P : Accepted S → List (Accepted S) → Type 0) : List (Accepted S) → Type 0 where
  here : {a : Accepted S} {before : List (Accepted S)} → P a before → Earlier P (a ∷ before)
  further : {a : Accepted S} {before : List (Accepted S)} → Earlier P before → Earlier P (a ∷ before)

-- each of a list is as P says
abbrev pub Each : {A : Type 0} → (A → Type 0) → List A → Type 0
Each P [] = Unit {0}
Each P (a ∷ rest) = P a × Each P rest

-- each accepted step, with those before it, is as P says
abbrev pub EachStep : {S : Type 0} → (Accepted S → List (Accepted S) → Type 0) → List (Accepted S) → Type 0
EachStep P [] = Unit {0}
EachStep P (a ∷ before) = P a before × EachStep P before
