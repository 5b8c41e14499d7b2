-- "Of two accepted readings at most one interval apart, the stamps are equal or consecutive."
use Rattle.std.specs.Prelude.{◌≡◌, ℕ, ◌+◌, ◌*◌, ◌/◌, ◌<◌, ◌≤◌, Bool, true, false, ◌&&◌, ◌⊎◌, nat_le, nat_lt, Result, Ok, Err}
use Rattle.std.proofs.Math.Path.{refl}
use Rattle.std.proofs.lemmas.Bool.{false≢true}
use Rattle.std.proofs.Common.{ap, inl, inr, le_trans, mul_comm, le-div_iff_mul-le, arith}
use Rattle.std.proofs.Math.Nat.{mul-div-le, add-div_right}
use borrow.Author.Tests.{leb-true, ltb-true, ltb-false}
use Rattle.refusals.specs.declared.Refusal.{Refusal}
use Rattle.refusals.specs.Tests.{refusal, giving, passed}
use Rattle.refusals.specs.laws.Tests.{numbered, done-passed}
use Rattle.time.specs.declared.Micros.{Micros}
use Rattle.time.specs.declared.Rounding.{Rounding}
use Rattle.time.specs.Discretising.{shortest_interval, added, whole_part, discretising_tests, discretised_by, in_numbers}

div_mono : (i a b : ℕ) → 0 < i → a ≤ b → a / i ≤ b / i
div_mono i a b h l = (le-div_iff_mul-le h).1 (le_trans low l)
  where
    low : a / i * i ≤ a
    low = rw (mul_comm (a / i) i) (mul-div-le a i)

equal-or-next : (p q : ℕ) → p ≤ q → q ≤ p + 1 → (q ≡ p) ⊎ (q ≡ p + 1)
equal-or-next p q l m = go (nat_lt p q) refl
  where
    go : (b : Bool) → nat_lt p q ≡ b → (q ≡ p) ⊎ (q ≡ p + 1)
    go true e = inr (omega (arith, ltb-true))
    go false e = inl (omega (arith, ltb-false))

and_left : (a b : Bool) → (a && b) ≡ true → a ≡ true
and_left true b e = refl
and_left false b e = absurd (false≢true e)

-- Of any interval and any two numbers at most that far apart: what a rounding adds before it divides is in the two numbers.
pub quotients : (i a b : ℕ) → 0 < i → a ≤ b → b ≤ a + i → (b / i ≡ a / i) ⊎ (b / i ≡ a / i + 1)
quotients i a b h l m = equal-or-next (a / i) (b / i) (div_mono i a b h l) (rw (add-div_right a h) at (div_mono i b (a + i) h m))

-- for either rounding
module _ (rounding : Rounding) where
  -- a reading is accepted
  abbrev pub AcceptedReading : Micros → Micros → Type 0
  AcceptedReading reading interval = (in_numbers (discretised_by rounding reading interval)).refusal ≡ 0

  abbrev pub stamp_of : Micros → Micros → ℕ
  stamp_of reading interval = (in_numbers (discretised_by rounding reading interval)).stamp.0

  -- every test is passed
  no-refusal : (reading interval : Micros) → AcceptedReading reading interval → refusal (discretising_tests rounding reading interval) ≡ Ok tt
  unfolding discretised_by
  no-refusal reading interval e = go (refusal (discretising_tests rounding reading interval)) e
    where
      go : (answer : Result (Unit {0}) Refusal) → (in_numbers (giving answer (record { 0 = whole_part rounding reading interval }))).refusal ≡ 0 → answer ≡ Ok tt
      go (Ok tt) e = refl
      go (Err refusal) e = absurd (omega (arith, numbered refusal, e))

  all-passed : (reading interval : Micros) → AcceptedReading reading interval → passed (discretising_tests rounding reading interval) ≡ true
  all-passed reading interval e = done-passed (discretising_tests rounding reading interval) (no-refusal reading interval e)

  pub accepted-stamp : (reading interval : Micros) → AcceptedReading reading interval → stamp_of reading interval ≡ whole_part rounding reading interval
  unfolding discretised_by
  accepted-stamp reading interval e =
      ap (λ (answer : Result (Unit {0}) Refusal). (in_numbers (giving answer (record { 0 = whole_part rounding reading interval }))).stamp.0)
      (no-refusal reading interval e)

  pub accepted-interval : (reading interval : Micros) → AcceptedReading reading interval → 0 < interval.0
  unfolding passed
  accepted-interval reading interval e =
      let short : nat_le shortest_interval interval.0 ≡ true = and_left _ _ (and_left _ _ (all-passed reading interval e)) in
      omega (arith, leb-true shortest_interval interval.0 short)

  pub neighbours : (x y interval : Micros) → AcceptedReading x interval → AcceptedReading y interval → x.0 ≤ y.0 → y.0 ≤ x.0 + interval.0
      → (stamp_of y interval ≡ stamp_of x interval) ⊎ (stamp_of y interval ≡ stamp_of x interval + 1)
  neighbours x y interval ax ay l m =
      let more = added rounding interval.0 in
      rw (accepted-stamp x interval ax, accepted-stamp y interval ay)
      (quotients interval.0 (x.0 + more) (y.0 + more) (accepted-interval x interval ax) (omega (arith, l)) (omega (arith, m)))
