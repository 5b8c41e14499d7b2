-- A status with its stamp. "Status 0 is CLOSE, 1 is TRIP."
use Rattle.std.specs.Prelude.{ℕ, Bool, true, false, ◌&&◌, ◌||◌, List, [], ◌∷◌, eqb, Option, None, Some}
use Rattle.time.specs.declared.Dts.{Dts}
use Rattle.pairs.specs.declared.Pair.{Pair}
use Rattle.pairs.specs.declared.Pairs.{Pairs}
use Rattle.pairs.specs.declared.Pairs.TheVariants.{Zero, One, Two}

abbrev pub pair : ℕ → Dts → Pair
pair status T = record { status = status; stamp = T }

abbrev pub same : Pair → Pair → Bool
same p q = eqb p.status q.status

-- it is known
abbrev pub is_known : Option Pair → Bool
is_known (Some p) = true
is_known None = false

-- as lists
abbrev pub listed : Pairs → List Pair
listed Zero = []
listed (One p) = p ∷ []
listed (Two p q) = p ∷ q ∷ []

abbrev pub listed_known : Option Pair → List Pair
listed_known (Some p) = p ∷ []
listed_known None = []

-- this status with this stamp is among them
abbrev pub has : List Pair → ℕ → Dts → Bool
has [] A T = false
has (p ∷ ps) A T = (eqb A p.status && eqb T.0 p.stamp.0) || has ps A T
