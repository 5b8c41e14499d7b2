-- From a clock reading in microseconds to a discretised time stamp.
use Rattle.std.specs.Prelude.{ℕ, ◌+◌, ◌/◌, cond, ◌&&◌, List, [], ◌∷◌, nat_le, Result, Ok, Err}
use Rattle.refusals.specs.declared.Refusal.{Refusal}
use Rattle.refusals.specs.declared.Refusal.TheVariants.{BadStart, LastClock}
use Rattle.refusals.specs.Numbers.{number}
use Rattle.refusals.specs.Tests.{Test, refusal, number_in, giving, passed}
use Rattle.time.specs.declared.Dts.{Dts}
use Rattle.time.specs.declared.Micros.{Micros}
use Rattle.time.specs.declared.Rounding.{Rounding}
use Rattle.time.specs.declared.Rounding.TheVariants.{Down, Nearest}

-- "The interval is 1,000 to 10,000"
abbrev pub shortest_interval : ℕ
shortest_interval = 1_000

abbrev pub longest_interval : ℕ
longest_interval = 10_000

-- §5 of 02: "The default interval becomes 1,000."
abbrev pub default_interval : Micros
default_interval = record { 0 = 1_000 }

abbrev pub last_stamp : ℕ
last_stamp = 1_000_000_000

-- What is added before dividing: by 01 nothing; "rounding to nearest (half the interval, whole part, added before dividing) as a named choice" (§6 of 02)
abbrev pub added : Rounding → ℕ → ℕ
added Down interval = 0
added Nearest interval = interval / 2

-- "DTS = whole part of reading ÷ interval", with what the rounding adds
abbrev pub whole_part : Rounding → Micros → Micros → ℕ
whole_part rounding reading interval = (reading.0 + added rounding interval.0) / interval.0

abbrev pub discretising_tests : Rounding → Micros → Micros → List Test
discretising_tests rounding reading interval =
    (BadStart, nat_le shortest_interval interval.0 && nat_le interval.0 longest_interval)
    ∷ (LastClock, nat_le (whole_part rounding reading interval) last_stamp)
    ∷ []

unfoldable pub discretised_by : Rounding → Micros → Micros → Result Dts Refusal
discretised_by rounding reading interval =
    giving (refusal (discretising_tests rounding reading interval)) (record { 0 = whole_part rounding reading interval })

-- where no rounding is named, down
abbrev pub discretised : Micros → Micros → Result Dts Refusal
discretised = discretised_by Down

-- 01's answer to a reading, a number and a stamp
pub record Discretised : Type 0 where
  pub refusal : ℕ
  pub stamp : Dts

-- "A refused discretising gives stamp 0"
abbrev pub refused_reading : ℕ → Discretised
refused_reading number = record { refusal = number; stamp = record { 0 = 0 } }

abbrev pub in_numbers : Result Dts Refusal → Discretised
in_numbers (Ok stamp) = record { refusal = 0; stamp = stamp }
in_numbers (Err refusal) = refused_reading (number refusal)

-- what discretising gives, in 01's numbers
unfoldable pub discretised_numbers : Rounding → Micros → Micros → Discretised
discretised_numbers rounding reading interval =
    record {
      refusal = number_in (refusal (discretising_tests rounding reading interval));
      stamp = record { 0 = cond (passed (discretising_tests rounding reading interval)) (whole_part rounding reading interval) 0 };
    }
