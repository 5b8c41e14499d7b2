-- Shares of one sender, for the sender, the status and the stamps that a step names.
use Rattle.std.specs.Prelude.{ℕ, cond, List, [], ◌∷◌, eqb, Option, None, Some}
use Rattle.time.specs.declared.Dts.{Dts}
use Rattle.pairs.specs.declared.Pair.{Pair}
use Rattle.pairs.specs.Pair.{pair}

-- a share of each stamp
abbrev pub shares_at : ℕ → List Dts → List Pair
shares_at A [] = []
shares_at A (T ∷ more) = pair A T ∷ shares_at A more

-- those that are delivered from sender i
abbrev pub delivered_from : ℕ → Option ℕ → Option ℕ → List Dts → List Pair
delivered_from i (Some sender) (Some A) stamps = cond (eqb i sender) (shares_at A stamps) []
delivered_from i (Some sender) None stamps = []
delivered_from i None A stamps = []
