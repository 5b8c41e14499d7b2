-- What is asked of a pair that is known, or not.
use Rattle.std.specs.Prelude.{ℕ, ◌≡◌, Bool, false, eqb, Option, None, Some}
use Rattle.std.proofs.Common.{ap}
use Rattle.std.proofs.lemmas.Bool.{false≢true}
use Rattle.pairs.specs.declared.Pair.{Pair}
pub use Rattle.pairs.specs.Pair.{is_known}

-- it is known, and has this status
abbrev pub known_as : ℕ → Option Pair → Bool
known_as A (Some p) = eqb A p.status
known_as A None = false

pub none-known : {p : Pair} → None ≡ Some p → ⊥
none-known e = false≢true (ap is_known e)

-- the pair that is known, or another in its place
abbrev pair_or : Pair → Option Pair → Pair
pair_or q (Some p) = p
pair_or q None = q

pub same_known : (p q : Pair) → Some p ≡ Some q → p ≡ q
same_known p q e = ap (pair_or q) e
