-- Sets of senders below n.
use Rattle.std.specs.Prelude.{ℕ, ◌+◌, ◌/◌, ◌%◌, ◌^◌, ◌≤◌, ◌<◌, ◌≡◌, refl, Bool, true, false, ◌&&◌, cond, eqb, ltb}
use Rattle.std.proofs.Common.{sym, ap, ◌∙◌, lt_of_lt_of_le, le_trans, one-mul, le-div_iff_mul-le, arith, pow_pos, pow_mono, shr-shr, eq-eqb, ne_eqb, lt-ltb, le-ltb, ltb-true, ltb-false}
use Rattle.std.proofs.lemmas.Bool.{false≢true}
use Rattle.std.proofs.Math.Nat.{div-eq_of_lt}
use Rattle.std.specs.Int.Bits.{bit_or, bit_xor, or_add_and}
use Rattle.std.proofs.lemmas.Nat.{or_lt, xor_lt, and_le_l, and_le_r}
use Rattle.std.proofs.Math.Pow.{pow-lt}
use Rattle.senders.specs.Masks.{room, is_in, joined, without, together, within}
use Rattle.senders.proofs.laws.MaskLaws.{in-none, same_bits}

-- Whoever is in a set within n is below n.
pub within-below : (mask n i : ℕ) → within mask n ≡ true → is_in mask i ≡ true → i < n
unfolding is_in within
within-below mask n i w e = go (ltb i n) refl
  where
    go : (b : Bool) → ltb i n ≡ b → i < n
    go true q = ltb-true i n q
    go false q = absurd (false≢true (sym (ap (λ (x : ℕ). eqb (x % 2) 1) (div-eq_of_lt (lt_of_lt_of_le (ltb-true mask (2 ^ n) w) (pow_mono (ltb-false i n q))))) ∙ e))

pub joined-within : (mask n i : ℕ) → within mask n ≡ true → i < n → within (joined mask i) n ≡ true
unfolding joined within
joined-within mask n i w l = go (ltb i room)
  where
    go : (b : Bool) → ltb (cond b (bit_or mask (2 ^ i)) mask) (2 ^ n) ≡ true
    go true = lt-ltb _ _ (or_lt n mask (2 ^ i) (ltb-true mask (2 ^ n) w) (pow-lt l))
    go false = w

pub without-within : (mask n i : ℕ) → within mask n ≡ true → within (without mask i) n ≡ true
unfolding without within
without-within mask n i w = go (is_in mask i) refl
  where
    go : (b : Bool) → is_in mask i ≡ b → ltb (cond b (bit_xor mask (2 ^ i)) mask) (2 ^ n) ≡ true
    go true e = lt-ltb _ _ (xor_lt n mask (2 ^ i) (ltb-true mask (2 ^ n) w) (pow-lt (within-below mask n i w e)))
    go false e = w

-- Two sets together are within n where both are.
pub together-within : (a b n : ℕ) → within (together a b) n ≡ (within a n && within b n)
unfolding together within
together-within a b n = go (ltb a (2 ^ n)) (ltb b (2 ^ n)) refl refl
  where
    left : a ≤ bit_or a b
    left = omega (arith, or_add_and a b, and_le_r a b)

    right : b ≤ bit_or a b
    right = omega (arith, or_add_and a b, and_le_l a b)

    go : (x y : Bool) → ltb a (2 ^ n) ≡ x → ltb b (2 ^ n) ≡ y → ltb (bit_or a b) (2 ^ n) ≡ (x && y)
    go true true ea eb = lt-ltb _ _ (or_lt n a b (ltb-true a (2 ^ n) ea) (ltb-true b (2 ^ n) eb))
    go true false ea eb = le-ltb _ _ (le_trans (ltb-false b (2 ^ n) eb) right)
    go false y ea eb = le-ltb _ _ (le_trans (ltb-false a (2 ^ n) ea) left)

-- what `mask >> n == 0` tests
pub shifted-out : (mask n : ℕ) → eqb (mask / 2 ^ n) 0 ≡ within mask n
unfolding within
shifted-out mask n = go (ltb mask (2 ^ n)) refl
  where
    go : (b : Bool) → ltb mask (2 ^ n) ≡ b → eqb (mask / 2 ^ n) 0 ≡ b
    go true e = eq-eqb _ _ (div-eq_of_lt (ltb-true mask (2 ^ n) e))
    go false e = ne_eqb _ _ (λ z. absurd (some z ((le-div_iff_mul-le (pow_pos n)).1 (rw (one-mul (2 ^ n)) (ltb-false mask (2 ^ n) e)))))
      where
        some : mask / 2 ^ n ≡ 0 → 1 ≤ mask / 2 ^ n → ⊥
        some z l = omega arith

pub room_within : (mask n : ℕ) → mask < 2 ^ room → room ≤ n → within mask n ≡ true
unfolding within
room_within mask n h l = lt-ltb _ _ (lt_of_lt_of_le h (pow_mono l))

-- A set whose every member is below n is within n.
pub below-within : (mask n : ℕ) → ((i : ℕ) → is_in mask i ≡ true → i < n) → within mask n ≡ true
unfolding is_in
below-within mask n h = sym (shifted-out mask n) ∙ eq-eqb _ _ (same_bits (mask / 2 ^ n) 0 (λ i. above i ∙ sym (in-none i)))
  where
    outside : (i : ℕ) (b : Bool) → is_in mask (n + i) ≡ b → b ≡ false
    outside i true e = let l = h (n + i) e in absurd (omega arith)
    outside i false e = refl

    above : (i : ℕ) → is_in (mask / 2 ^ n) i ≡ false
    above i = ap (λ (x : ℕ). eqb (x % 2) 1) (shr-shr mask n i) ∙ outside i (is_in mask (n + i)) refl

-- The empty set is within every n.
pub none_within : (n : ℕ) → within 0 n ≡ true
none_within n = below-within 0 n (λ i e. absurd (false≢true (sym (in-none i) ∙ e)))
