-- What a step's tests say of whatever it names.
use Rattle.std.specs.Prelude.{◌≡◌, Bool, true, List, [], ◌∷◌, Option, None, Some}
use Rattle.refusals.specs.laws.Bools.{left, right}
use Rattle.steps.specs.Named.{EachOf, of_named, of_each}

-- if it names one, P holds of that
abbrev pub IfNamed : {A : Type 0} → Option A → (A → Type 0) → Type 0
IfNamed None P = Unit {0}
IfNamed (Some a) P = P a

module _ {A : Type 0} (p : A → Bool) (P : A → Type 0) (so : (a : A) → p a ≡ true → P a) where
  pub if-named : (o : Option A) → of_named o p ≡ true → IfNamed o P
  if-named None e = tt
  if-named (Some a) e = so a e

  pub each_of : (l : List A) → of_each l p ≡ true → EachOf l P
  each_of [] e = tt
  each_of (a ∷ others) e = (so a (left (p a) (of_each others p) e), each_of others (right (p a) (of_each others p) e))
