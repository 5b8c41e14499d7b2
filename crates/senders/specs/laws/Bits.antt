-- What a bit of a mask is after an operation on it.
use Rattle.std.specs.Prelude.{ℕ, zero, suc, ◌+◌, ◌*◌, ◌/◌, ◌%◌, ◌^◌, max, ◌-◌, ◌≤◌, ◌<◌, ◌≡◌, refl, Bool, true, false, ltb}
use Rattle.std.proofs.Common.{ap, ◌∙◌, mod-lt, mod-eq_of_lt, one-mul, pow-suc, arith, lit<, pow_pos, pow-add, ltb-true, ltb-false}
use Rattle.std.proofs.Math.Nat.{div_self, div-eq_of_lt, mul-mod_left}
use Rattle.std.proofs.Math.Arith.{digits_mod}
use Rattle.std.specs.Int.Bits.{bit_or, bit_xor, differ, or_step, xor_step}
use Rattle.std.proofs.lemmas.Nat.{or_shr, xor_shr, shl-shr}
use Rattle.std.proofs.Math.Pow.{pow-lt}

abbrev pub bit : ℕ → ℕ → ℕ
bit x i = x / 2 ^ i % 2

pub bit-lt : (x i : ℕ) → bit x i < 2
bit-lt x i = mod-lt (x / 2 ^ i) (lit< tt)

-- what `1 << i` gives at a width of w bits
pub one_shl : (i w : ℕ) → i < w → 1 * 2 ^ i % 2 ^ w ≡ 2 ^ i
one_shl i w h = ap (λ (x : ℕ). x % 2 ^ w) (one-mul (2 ^ i)) ∙ mod-eq_of_lt (pow-lt h)

pub bit-or : (a b j : ℕ) → bit (bit_or a b) j ≡ max (bit a j) (bit b j)
bit-or a b j =
    ap (λ (x : ℕ). x % 2) (or_shr a b j ∙ or_step (a / 2 ^ j) (b / 2 ^ j))
    ∙ digits_mod (bit_or (a / 2 ^ j / 2) (b / 2 ^ j / 2)) (low (bit-lt a j) (bit-lt b j))
  where
    low : {x y : ℕ} → x < 2 → y < 2 → max x y < 2
    low h k = omega arith

pub bit-xor : (a b j : ℕ) → bit (bit_xor a b) j ≡ differ (bit a j) (bit b j)
bit-xor a b j =
    ap (λ (x : ℕ). x % 2) (xor_shr a b j ∙ xor_step (a / 2 ^ j) (b / 2 ^ j))
    ∙ digits_mod (bit_xor (a / 2 ^ j / 2) (b / 2 ^ j / 2)) (low (bit a j) (bit b j) (bit-lt a j) (bit-lt b j))
  where
    low : (x y : ℕ) → x < 2 → y < 2 → differ x y < 2
    low zero y h k = k
    low (suc x) zero h k = h
    low (suc x) (suc y) h k = low x y (omega arith) (omega arith)

-- the bits of a power of two
pub own-bit : (i : ℕ) → bit (2 ^ i) i ≡ 1
own-bit i = ap (λ (x : ℕ). x % 2) (div_self (pow_pos i))

pub other-bit : (i j : ℕ) → (j ≡ i → ⊥) → bit (2 ^ i) j ≡ 0
other-bit i j ne = go (ltb i j) refl
  where
    high : (k : ℕ) → bit (2 ^ (suc k + j)) j ≡ 0
    high k = ap (λ (x : ℕ). x / 2 ^ j % 2) (pow-add 2 (suc k) j) ∙ ap (λ (x : ℕ). x % 2) (shl-shr (2 ^ suc k) j ∙ pow-suc 2 k) ∙ mul-mod_left (2 ^ k) 2

    go : (b : Bool) → ltb i j ≡ b → bit (2 ^ i) j ≡ 0
    go true e = ap (λ (x : ℕ). x % 2) (div-eq_of_lt (pow-lt (ltb-true i j e)))
    go false e =
        let h : j ≤ i = ltb-false i j e in
        let s : i ≡ suc (i - suc j) + j = omega (arith, ne) in
        ap (λ (x : ℕ). bit (2 ^ x) j) s ∙ high (i - suc j)
