-- What discretising comes to where no interval is named, said without a division: a stamp counts whole milliseconds.
use Rattle.std.specs.Prelude.{◌≡◌, ℕ, ◌+◌, ◌*◌, ◌<◌, ◌≤◌, Bool, true, false, cond, nat_le, refl, Ok, Err}
use Rattle.std.proofs.Common.{arith}
use Rattle.refusals.specs.declared.Refusal.TheVariants.{LastClock}
use Rattle.refusals.specs.Tests.{refusal, giving}
use Rattle.time.specs.declared.Micros.{Micros}
use Rattle.time.specs.declared.Rounding.TheVariants.{Down}
use Rattle.time.specs.Discretising.{Discretised, default_interval, whole_part, refused_reading, discretised_by, discretised, in_numbers}

-- a reading that is accepted, with its stamp
abbrev pub accepted : ℕ → Discretised
accepted s = record { refusal = 0; stamp = record { 0 = s } }

whole-part : (reading : Micros) (s : ℕ) → s * 1_000 ≤ reading.0 → reading.0 < s * 1_000 + 1_000 → whole_part Down reading default_interval ≡ s
whole-part reading s l m = omega (arith, l, m)

as-tested : (s : ℕ) (b : Bool) → in_numbers (giving (cond b (Ok tt) (Err LastClock)) (record { 0 = s })) ≡ cond b (accepted s) (refused_reading 15)
as-tested s true = refl
as-tested s false = refl

-- A reading has s whole milliseconds: s is its stamp, or it is refused with 15 where s is above 1,000,000,000.
pub whole-milliseconds : (reading : Micros) (s : ℕ) → s * 1_000 ≤ reading.0 → reading.0 < s * 1_000 + 1_000
    → in_numbers (discretised reading default_interval) ≡ cond (nat_le s 1_000_000_000) (accepted s) (refused_reading 15)
unfolding discretised_by refusal
whole-milliseconds reading s l m = rw (whole-part reading s l m) (as-tested s (nat_le s 1_000_000_000))
