-- Laws of tests joined by "and" and by "or", and of tests that hold together.
use Rattle.std.specs.Prelude.{◌≡◌, refl, Bool, true, false, ◌&&◌, ◌||◌}
use Rattle.std.proofs.Common.{sym}
use Rattle.std.proofs.Math.Bool.{and-eq-true_iff}

pub and_assoc : (a b c : Bool) → (a && b && c) ≡ (a && (b && c))
and_assoc true b c = refl
and_assoc false b c = refl

pub and-true : (a : Bool) → (a && true) ≡ a
and-true true = refl
and-true false = refl

pub and-false : (a : Bool) → (a && false) ≡ false
and-false true = refl
and-false false = refl

pub or-false : (a : Bool) → (a || false) ≡ a
or-false true = refl
or-false false = refl

pub both_ways : (a b : Bool) → (a ≡ true → b ≡ true) → (b ≡ true → a ≡ true) → a ≡ b
both_ways true b f g = sym (f refl)
both_ways false true f g = g refl
both_ways false false f g = refl

-- what two tests that are passed together say of each
pub left : (a b : Bool) → (a && b) ≡ true → a ≡ true
left a b e = ((and-eq-true_iff a b).0 e).0

pub right : (a b : Bool) → (a && b) ≡ true → b ≡ true
right a b e = ((and-eq-true_iff a b).0 e).1
