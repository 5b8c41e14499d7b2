-- What a rounding adds, and the quotient in two parts.
use Rattle.std.specs.Prelude.{◌≡◌, ℕ, ◌+◌, ◌*◌, ◌/◌, ◌%◌, ◌^◌, ◌<◌, ◌≤◌}
use Rattle.std.proofs.Common.{sym, ap, ◌∙◌, add_assoc, div-add-mod', div-le_self, mod-lt, mul-le-mul_left, arith}
use Rattle.std.proofs.Math.Nat.{mul-add-div_right}
use Rattle.time.specs.declared.Micros.{Micros}
use Rattle.time.specs.declared.Rounding.{Rounding}
use Rattle.time.specs.declared.Rounding.TheVariants.{Down, Nearest}
use Rattle.time.specs.Discretising.{added, whole_part}

pub added-most : (rounding : Rounding) (interval : ℕ) → added rounding interval ≤ interval
added-most Down interval = omega arith
added-most Nearest interval = omega arith

-- a number is divided before anything is added to it, and what is added goes to the remainder
pub divided-first : (i x more : ℕ) → 0 < i → x / i + (x % i + more) / i ≡ (x + more) / i
divided-first i x more h =
    sym (mul-add-div_right h (x / i) (x % i + more)) ∙ ap (λ (a : ℕ). a / i) (sym (add_assoc (x / i * i) (x % i) more) ∙ ap (λ (a : ℕ). a + more) (div-add-mod' x i))

pub rounded-first : (rounding : Rounding) (reading interval : Micros) (more : ℕ) → more ≡ added rounding interval.0 → 0 < interval.0
    → reading.0 / interval.0 + (reading.0 % interval.0 + more) / interval.0 ≡ whole_part rounding reading interval
rounded-first rounding reading interval more e h = divided-first interval.0 reading.0 more h ∙ ap (λ (m : ℕ). (reading.0 + m) / interval.0) e

-- what is added up on the way fits 64 bits
module _ (rounding : Rounding) (i x more : ℕ) (low : 1_000 ≤ i) (high : i ≤ 10_000) (fits : x < 2 ^ 64) (is : more ≡ added rounding i) where
  few : more ≤ i
  few = omega (arith, is, added-most rounding i)

  pub remainder-fits : x % i + more < 2 ^ 64
  remainder-fits = let rest : x % i < i = mod-lt x (omega (arith, low)) in omega (arith, rest, high, few)

  pub quotient_fits : x / i + (x % i + more) / i < 2 ^ 64
  quotient_fits =
      let rest : x % i < i = mod-lt x (omega (arith, low)) in
      let most : x / i * 1_000 ≤ x / i * i = mul-le-mul_left (x / i) low in
      let whole : x / i * i + x % i ≡ x = div-add-mod' x i in
      let second : (x % i + more) / i ≤ x % i + more = div-le_self (x % i + more) i in
      omega (arith, rest, most, whole, second, high, few, fits)
