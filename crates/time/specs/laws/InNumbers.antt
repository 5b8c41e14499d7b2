-- An answer to a reading, and the same in numbers.
use Rattle.std.specs.Prelude.{◌≡◌, Bool, true, false, ◌&&◌, cond, nat_le, refl, Result, Ok, Err}
use Rattle.std.proofs.Common.{ap, ◌∙◌}
use Rattle.refusals.specs.declared.Refusal.{Refusal}
use Rattle.refusals.specs.declared.Refusal.TheVariants.{BadStart, LastClock}
use Rattle.refusals.specs.Tests.{refusal, number_in, giving, passed}
use Rattle.time.specs.declared.Dts.{Dts}
use Rattle.time.specs.declared.Micros.{Micros}
use Rattle.time.specs.declared.Rounding.{Rounding}
use Rattle.time.specs.Discretising.{shortest_interval, longest_interval, last_stamp, whole_part, Discretised, in_numbers, discretised_by, discretised_numbers}

pub numbered : (rounding : Rounding) (reading interval : Micros) (answer : Result Dts Refusal) → answer ≡ discretised_by rounding reading interval
    → in_numbers answer ≡ discretised_numbers rounding reading interval
unfolding discretised_by discretised_numbers refusal passed
numbered rounding reading interval answer e =
    ap in_numbers e ∙ go (nat_le shortest_interval interval.0 && nat_le interval.0 longest_interval) (nat_le (whole_part rounding reading interval) last_stamp)
  where
    tested : Bool → Bool → Result (Unit {0}) Refusal
    tested a b = cond a (cond b (Ok tt) (Err LastClock)) (Err BadStart)

    in_two : Bool → Bool → Discretised
    in_two a b = record { refusal = number_in (tested a b); stamp = record { 0 = cond (a && (b && true)) (whole_part rounding reading interval) 0 } }

    go : (a b : Bool) → in_numbers (giving (tested a b) (record { 0 = whole_part rounding reading interval })) ≡ in_two a b
    go true true = refl
    go true false = refl
    go false b = refl
