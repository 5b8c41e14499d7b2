-- A pair stands for T and T+1, whatever T is, but for the last stamp of 32 bits.
use Rattle.std.specs.Prelude.{ℕ, ◌+◌, ◌<◌, ◌≡◌, [], ◌∷◌, map}
use Rattle.std.proofs.Common.{ap, arith}
use Rattle.time.specs.declared.Dts.{Dts}
use Rattle.time.specs.laws.Fresh.{next-is}
use Rattle.steps.specs.declared.Event.TheVariants.{DeliverPair}
use Rattle.steps.specs.Named.{said_by}

pub stands-for : (sender A : ℕ) (T : Dts) → T.0 < 4_294_967_295 → map (λ (U : Dts). U.0) (said_by (DeliverPair sender A T)).stamps ≡ (T.0 ∷ (T.0 + 1) ∷ [])
stands-for sender A T below = ap (λ (n : ℕ). T.0 ∷ n ∷ []) (next-is T (omega (arith, below)))
