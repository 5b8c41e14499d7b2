-- Laws of what Outsiders.antt defines.
use Rattle.std.specs.Prelude.{ℕ, zero, suc, ◌+◌, ◌/◌, ◌%◌, ◌^◌, ◌≤◌, ◌<◌, ◌≡◌, refl, Bool, true, false, eqb, ltb}
use Rattle.std.proofs.Common.{sym, ap, ◌∙◌, div-one, one-mul, le-div_iff_mul-le, arith, pow_pos, shr-shr, eq-eqb, eqb-true, ltb-false}
use Rattle.std.proofs.lemmas.Bool.{eqb-false}
use Rattle.senders.specs.Masks.{is_in, within}
use Rattle.senders.proofs.laws.Within.{within-below}
use Rattle.rows.specs.Exactly.{Tells}
use Rattle.rows.specs.Outsiders.{Outsider}

-- a number that is not 0 has a bit that is 1
some-bit : (fuel m : ℕ) → 0 < m → m ≤ fuel → (j : ℕ) × (m / 2 ^ j % 2 ≡ 1)
some-bit zero m pos l = absurd (omega arith)
some-bit (suc fuel) m pos l = go (eqb (m % 2) 1) refl (some-bit fuel (m / 2))
  where
    go : (odd : Bool) → eqb (m % 2) 1 ≡ odd → (0 < m / 2 → m / 2 ≤ fuel → (j : ℕ) × (m / 2 / 2 ^ j % 2 ≡ 1))
        → (j : ℕ) × (m / 2 ^ j % 2 ≡ 1)
    go true e half = (0, ap (λ (x : ℕ). x % 2) (div-one m) ∙ eqb-true (m % 2) 1 e)
    go false e half =
        let even : m % 2 ≡ 1 → ⊥ = eqb-false (m % 2) 1 e in
        let found = half (omega arith) (omega arith) in
        (1 + found.0, ap (λ (x : ℕ). x % 2) (sym (shr-shr m 1 found.0)) ∙ found.1)

pub outsider : (mask n : ℕ) → Tells (within mask n) (Outsider mask n)
unfolding is_in within
outsider mask n = (there, λ o. out o (within mask n) refl)
  where
    there : ltb mask (2 ^ n) ≡ false → Outsider mask n
    there e =
        let some : 1 ≤ mask / 2 ^ n = (le-div_iff_mul-le (pow_pos n)).1 (rw (one-mul (2 ^ n)) (ltb-false mask (2 ^ n) e)) in
        let found = some-bit (mask / 2 ^ n) (mask / 2 ^ n) some (omega arith) in
        (n + found.0, eq-eqb _ 1 (ap (λ (x : ℕ). x % 2) (sym (shr-shr mask n found.0)) ∙ found.1), omega arith)

    out : Outsider mask n → (b : Bool) → within mask n ≡ b → b ≡ false
    out o true e = let below : o.0 < n = within-below mask n o.0 e o.1 in let from = o.2 in absurd (omega arith)
    out o false e = refl
