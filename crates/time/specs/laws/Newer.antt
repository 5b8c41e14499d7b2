-- Laws of what Newer.antt defines.
use Rattle.std.specs.Prelude.{◌≡◌, ℕ, ◌+◌, ◌%◌, ◌^◌, ◌<◌}
use Rattle.std.proofs.Common.{arith}
use Rattle.time.specs.Newer.{ahead}

-- what wraps back to the number is how far ahead it is
pub ahead-is : (d number last : ℕ) → (d + last) % 2 ^ 32 ≡ number → d < 2 ^ 32 → last < 2 ^ 32 → d ≡ ahead number last
unfolding ahead
ahead-is d number last e hd hl = omega arith
