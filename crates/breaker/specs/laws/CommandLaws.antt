-- What an accepted command leaves of a breaker.
use Rattle.std.specs.Prelude.{ℕ, ◌≡◌, Bool, true, false}
use Rattle.std.proofs.Math.Path.{ap}
use Rattle.std.proofs.Math.Bool.{cond}
use Rattle.time.specs.declared.Dts.{Dts}
use Rattle.time.specs.Larger.{larger}
use Rattle.pairs.specs.Pair.{pair}
use Rattle.breaker.specs.declared.Breaker.{Breaker}
use Rattle.breaker.specs.Breaker.{remembered, repeats, answered, changed, after_command}

module _ (breaker : Breaker) (t : Dts) (status : ℕ) (T : Dts) where
  -- A command for the status that the breaker has leaves its pair and its changes; the clock is the command's.
  pub repeat-keeps : repeats breaker status ≡ true → after_command breaker t status T ≡ record { pair = breaker.pair; clock = t; changes = breaker.changes }
  unfolding after_command answered
  repeat-keeps e = ap (λ (same : Bool). cond same (answered breaker t) (changed breaker t status T)) e

  -- Any other is a change: the pair is the command's, with the larger of T and t, and stands in front of the other changes.
  pub change-moves : repeats breaker status ≡ false
      → after_command breaker t status T
      ≡ record { pair = pair status (larger T t); clock = t; changes = remembered breaker.changes (pair status (larger T t)) }
  unfolding after_command changed
  change-moves e = ap (λ (same : Bool). cond same (answered breaker t) (changed breaker t status T)) e
