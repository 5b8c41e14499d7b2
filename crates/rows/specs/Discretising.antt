-- Rows 1 and 15 of a discretising: when each is given, and which stamp comes with it. "The interval is 1,000 to 10,000 [..]; outside that, refusal 1. Discretising a
-- reading to more than 1,000,000,000 is refusal 15. A refused discretising gives stamp 0." Of either rounding.
use Rattle.std.specs.Prelude.{ℕ, ◌+◌, ◌/◌, ◌<◌, ◌≡◌, ◌⊎◌}
use Rattle.time.specs.declared.Micros.{Micros}
use Rattle.time.specs.declared.Rounding.{Rounding}
use Rattle.time.specs.declared.Rounding.TheVariants.{Down, Nearest}
use Rattle.time.specs.Discretising.{discretised_by, in_numbers}

-- "DTS = whole part of reading ÷ interval"; to nearest, "half the interval, whole part, added before dividing" (§6 of 02)
abbrev pub stamp_by : Rounding → Micros → Micros → ℕ
stamp_by Down reading interval = reading.0 / interval.0
stamp_by Nearest reading interval = (reading.0 + interval.0 / 2) / interval.0

-- for every rounding, reading and interval
module _ (rounding : Rounding) (reading interval : Micros) where
  -- 1: "a bad interval"
  abbrev pub IntervalOutOfRange : Type 0
  IntervalOutOfRange = (interval.0 < 1_000) ⊎ (10_000 < interval.0)

  -- 15: "discretising to more than 1,000,000,000"
  abbrev pub StampOutOfRange : Type 0
  StampOutOfRange = 1_000_000_000 < stamp_by rounding reading interval

  abbrev pub AnsweredWith : ℕ → Type 0
  AnsweredWith number = (in_numbers (discretised_by rounding reading interval)).refusal ≡ number
