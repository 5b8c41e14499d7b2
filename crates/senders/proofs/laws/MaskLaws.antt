-- Laws of masks as sets. Layers above reason by these and never see a bit.
use Rattle.std.specs.Prelude.{ℕ, zero, suc, ◌+◌, ◌/◌, ◌%◌, ◌^◌, max, ◌≤◌, ◌<◌, ◌≡◌, refl, Bool, true, false, not, ◌&&◌, ◌||◌, cond, eqb, ltb}
use Rattle.std.proofs.Common.{sym, ap, ap₂, ◌∙◌, not-suc-le-zero, le_of_suc-le-suc, zero-add, div-one, mod-lt, lt_of_lt_of_le, lt_of_le_of_lt, one-add, add-one, arith, lit<, pow_mono, shr_lt, shr-shr, eq-eqb, eqb-true, ne_eqb, lt-ltb, le-leb, leb-true, ltb-true}
use Rattle.std.proofs.Math.Nat.{zero-div, div-eq_of_lt, zero-max}
use Rattle.std.proofs.Math.Arith.{lt-one}
use Rattle.std.specs.Int.Bits.{bit_or, bit_xor, differ}
use Rattle.std.proofs.lemmas.Nat.{or_lt}
use Rattle.std.specs.Int.Count.{ones, ones_in, ones_step}
use Rattle.std.proofs.Math.Pow.{pow-lt}
use Rattle.std.proofs.lemmas.Bool.{eqb-false, lt-leb}
use Rattle.senders.specs.Sets.{count_below, tally, both}
use Rattle.senders.specs.laws.Sets.{count-ext, count_low, count-joined, count-above, count_none, count-some, outside}
use Rattle.senders.specs.Masks.{room, is_in, size, enough, joined, without, together}
use Rattle.senders.specs.laws.Bits.{bit, bit-lt, bit-or, bit-xor, own-bit, other-bit}

-- ---- the count of ones is the size of the set

is_in-suc : (mask i : ℕ) → is_in (mask / 2) i ≡ is_in mask (suc i)
unfolding is_in
is_in-suc mask i = ap (λ (x : ℕ). eqb (x % 2) 1) (shr-shr mask 1 i ∙ ap (λ (k : ℕ). mask / 2 ^ k) (one-add i))

ones-count : (k mask : ℕ) → mask < 2 ^ k → ones mask ≡ count_below k (is_in mask)
unfolding ones ones_in count_below is_in
ones-count zero mask h = ap ones (lt-one h)
ones-count (suc k) mask h =
    ones_step mask
    ∙ ap (λ (x : ℕ). mask % 2 + x) (ones-count k (mask / 2) (shr_lt k 1 (rw add-one h)) ∙ count-ext k (is_in (mask / 2)) (λ i. is_in mask (suc i)) (λ i l. is_in-suc mask i))
    ∙ digit (mask % 2) (count_below k (λ i. is_in mask (suc i))) (mod-lt mask (lit< tt))
    ∙ ap (λ (x : ℕ). tally (eqb (x % 2) 1) (count_below k (λ i. is_in mask (suc i)))) (sym (div-one mask))
    ∙ sym (count_low k (is_in mask))
  where
    digit : (d k : ℕ) → d < 2 → d + k ≡ tally (eqb d 1) k
    digit zero k h = zero-add k
    digit (suc zero) k h = one-add k
    digit (suc (suc d)) k h = absurd (not-suc-le-zero (le_of_suc-le-suc (le_of_suc-le-suc h)))

pub ones-size : (mask : ℕ) → mask < 2 ^ room → ones mask ≡ size mask
unfolding size
ones-size mask h = ones-count room mask h

-- nobody is in the empty set, and nobody is not enough
pub size_none : size 0 ≡ 0
unfolding size count_below is_in
size_none = refl

pub none-enough : (f : ℕ) → enough 0 f ≡ false
none-enough f = simp size_none (lt-leb (f + 1) 0 (omega arith))

-- ---- who is in a set

-- nobody that the mask has no room for
pub in-above : (mask i : ℕ) → mask < 2 ^ room → room ≤ i → is_in mask i ≡ false
unfolding is_in
in-above mask i h l = ap (λ (x : ℕ). eqb (x % 2) 1) (div-eq_of_lt (lt_of_lt_of_le h (pow_mono l)))

pub in-none : (i : ℕ) → is_in 0 i ≡ false
unfolding is_in
in-none i = ap (λ (x : ℕ). eqb (x % 2) 1) (zero-div (2 ^ i))

in-or : (mask i j : ℕ) → is_in (bit_or mask (2 ^ i)) j ≡ (eqb j i || is_in mask j)
unfolding is_in
in-or mask i j = go (eqb j i) refl
  where
    one : {d : ℕ} → d < 2 → max d 1 ≡ 1
    one h = omega arith

    low : (d : ℕ) → max d 0 ≡ d
    low d = omega arith

    go : (b : Bool) → eqb j i ≡ b → eqb (bit (bit_or mask (2 ^ i)) j) 1 ≡ (b || eqb (bit mask j) 1)
    go true e =
        let q : j ≡ i = eqb-true j i e in
        rw q (eq-eqb _ _ (bit-or mask (2 ^ i) i ∙ ap (λ (x : ℕ). max (bit mask i) x) (own-bit i) ∙ one (bit-lt mask i)))
    go false e =
        ap (λ (x : ℕ). eqb x 1)
        (bit-or mask (2 ^ i) j ∙ ap (λ (x : ℕ). max (bit mask j) x) (other-bit i j (eqb-false j i e)) ∙ low (bit mask j))

-- Who is in two sets together: whoever is in one of them.
pub in-together : (a b i : ℕ) → is_in (together a b) i ≡ (is_in a i || is_in b i)
unfolding is_in together
in-together a b i = ap (λ (x : ℕ). eqb x 1) (bit-or a b i) ∙ either (bit a i) (bit b i) (bit-lt a i) (bit-lt b i)
  where
    either : (x y : ℕ) → x < 2 → y < 2 → eqb (max x y) 1 ≡ (eqb x 1 || eqb y 1)
    either zero y h k = ap (λ (z : ℕ). eqb z 1) (zero-max y)
    either (suc zero) zero h k = refl
    either (suc zero) (suc zero) h k = refl
    either (suc zero) (suc (suc y)) h k = absurd (not-suc-le-zero (le_of_suc-le-suc (le_of_suc-le-suc k)))
    either (suc (suc x)) y h k = absurd (not-suc-le-zero (le_of_suc-le-suc (le_of_suc-le-suc h)))

-- Who is in the set with i joined: i, where there is room for it, and whoever was in it.
pub in-joined : (mask i j : ℕ) → is_in (joined mask i) j ≡ (ltb i room && eqb j i || is_in mask j)
unfolding joined
in-joined mask i j = go (ltb i room)
  where
    go : (b : Bool) → is_in (cond b (bit_or mask (2 ^ i)) mask) j ≡ (b && eqb j i || is_in mask j)
    go true = in-or mask i j
    go false = refl

-- Who is in the set with i forgotten: whoever was in it, but for i.
pub in_without : (mask i j : ℕ) → is_in (without mask i) j ≡ (is_in mask j && not (eqb j i))
unfolding without is_in
in_without mask i j = go (is_in mask i) (eqb j i) refl refl
  where
    right : (d : ℕ) → differ d 0 ≡ d
    right zero = refl
    right (suc d) = refl

    and-true : (b : Bool) → b ≡ (b && true)
    and-true true = refl
    and-true false = refl

    and-false : (b : Bool) → false ≡ (b && false)
    and-false true = refl
    and-false false = refl

    other : (j ≡ i → ⊥) → is_in (bit_xor mask (2 ^ i)) j ≡ is_in mask j
    other ne =
        ap (λ (x : ℕ). eqb x 1) (bit-xor mask (2 ^ i) j ∙ ap (λ (x : ℕ). differ (bit mask j) x) (other-bit i j ne) ∙ right (bit mask j))

    own : is_in mask i ≡ true → is_in (bit_xor mask (2 ^ i)) i ≡ false
    own e =
        ap (λ (x : ℕ). eqb x 1)
        (bit-xor mask (2 ^ i) i ∙ ap₂ differ (eqb-true (bit mask i) 1 e) (own-bit i))

    go : (b d : Bool) → is_in mask i ≡ b → eqb j i ≡ d → is_in (cond b (bit_xor mask (2 ^ i)) mask) j ≡ (is_in mask j && not d)
    go true true eb ed =
        let q : j ≡ i = eqb-true j i ed in
        rw q (own eb ∙ and-false (is_in mask i))
    go true false eb ed = other (eqb-false j i ed) ∙ and-true (is_in mask j)
    go false true eb ed =
        let q : j ≡ i = eqb-true j i ed in
        rw q (eb ∙ and-false (is_in mask i))
    go false false eb ed = and-true (is_in mask j)

-- ---- two masks with the same members are one

same-below : (k a b : ℕ) → a < 2 ^ k → b < 2 ^ k → ((i : ℕ) → i < k → is_in a i ≡ is_in b i) → a ≡ b
unfolding is_in
same-below zero a b ha hb h = lt-one ha ∙ sym (lt-one hb)
same-below (suc k) a b ha hb h =
    join (lowest a b (h zero (omega arith)))
    (same-below k (a / 2) (b / 2) (shr_lt k 1 (rw add-one ha)) (shr_lt k 1 (rw add-one hb)) (λ i l. is_in-suc a i ∙ h (suc i) (omega arith) ∙ sym (is_in-suc b i)))
  where
    join : a % 2 ≡ b % 2 → a / 2 ≡ b / 2 → a ≡ b
    join p q = omega arith

    digits : (x y : ℕ) → x < 2 → y < 2 → eqb x 1 ≡ eqb y 1 → x ≡ y
    digits x y hx hy e = go (eqb y 1) refl e
      where
        go : (c : Bool) → eqb y 1 ≡ c → eqb x 1 ≡ c → x ≡ y
        go true ey ex = eqb-true x 1 ex ∙ sym (eqb-true y 1 ey)
        go false ey ex = let nx = eqb-false x 1 ex in let ny = eqb-false y 1 ey in omega (arith, nx, ny)

    lowest : (x y : ℕ) → is_in x zero ≡ is_in y zero → x % 2 ≡ y % 2
    lowest x y e =
        digits (x % 2) (y % 2) (mod-lt x (lit< tt)) (mod-lt y (lit< tt))
        (ap (λ (z : ℕ). eqb (z % 2) 1) (sym (div-one x)) ∙ e ∙ ap (λ (z : ℕ). eqb (z % 2) 1) (div-one y))

pub same-members : (a b : ℕ) → a < 2 ^ room → b < 2 ^ room → ((i : ℕ) → i < room → is_in a i ≡ is_in b i) → a ≡ b
same-members a b = same-below room a b

-- the same of any two masks, where members of every number are looked at
pub same_bits : (a b : ℕ) → ((i : ℕ) → is_in a i ≡ is_in b i) → a ≡ b
same_bits a b h = same-below (a + b) a b (lt_of_lt_of_le (lt-own a) (pow_mono (omega arith))) (lt_of_lt_of_le (lt-own b) (pow_mono (omega arith))) (λ i l. h i)
  where
    lt-own : (k : ℕ) → k < 2 ^ k
    lt-own zero = lit< tt
    lt-own (suc k) = lt_of_le_of_lt (lt-own k) (pow-lt (omega arith))

-- ---- how many

pub joined-lt : (mask i : ℕ) → mask < 2 ^ room → joined mask i < 2 ^ room
unfolding joined
joined-lt mask i h = go (ltb i room) refl
  where
    go : (b : Bool) → ltb i room ≡ b → cond b (bit_or mask (2 ^ i)) mask < 2 ^ room
    go true e = or_lt room mask (2 ^ i) h (pow-lt (ltb-true i room e))
    go false e = h

-- Joining a member again changes nothing.
pub joined-again : (mask i : ℕ) → mask < 2 ^ room → is_in mask i ≡ true → joined mask i ≡ mask
joined-again mask i h e = same-members (joined mask i) mask (joined-lt mask i h) h (λ j l. in-joined mask i j ∙ go j (ltb i room) (eqb j i) refl)
  where
    or-true : (b : Bool) → b ≡ true → (true || b) ≡ b
    or-true b q = sym q

    go : (j : ℕ) (b d : Bool) → eqb j i ≡ d → (b && d || is_in mask j) ≡ is_in mask j
    go j true true q = let s : j ≡ i = eqb-true j i q in rw s (sym e)
    go j true false q = refl
    go j false d q = refl

-- Joining a new one adds exactly one.
pub size-joined : (mask i : ℕ) → i < room → is_in mask i ≡ false → size (joined mask i) ≡ suc (size mask)
unfolding size
size-joined mask i l e =
    count-joined room (is_in mask) (is_in (joined mask i)) i l e
    (in-joined mask i i ∙ ap₂ (λ (a b : Bool). a && b || is_in mask i) (lt-ltb i room l) (eq-eqb i i refl))
    (λ j ne. sym (in-joined mask i j ∙ ap₂ (λ (a b : Bool). a && b || is_in mask j) (lt-ltb i room l) (ne_eqb j i ne)))

-- At least one: somebody is in the set.
pub one-enough : (mask i : ℕ) → i < room → is_in mask i ≡ true → enough mask 0 ≡ true
unfolding size
one-enough mask i l e = le-leb 1 _ (count-some room (is_in mask) i l e)

pub enough-one : (mask : ℕ) → enough mask 0 ≡ true → (i : ℕ) × (i < room) × (is_in mask i ≡ true)
unfolding size
enough-one mask e =
    let some = leb-true 1 (count_below room (is_in mask)) e in
    let none = count_none room (both (is_in mask) (λ j. false)) (λ j. and_none (is_in mask j)) in
    let found = outside room (is_in mask) (λ j. false) (omega (arith, some, none)) in
    (found.0, found.1, found.2)
  where
    and_none : (x : Bool) → (x && false) ≡ false
    and_none true = refl
    and_none false = refl

-- More than f senders, at most f of them in c, all below n: one of them is outside c.
pub some-outside : (n mask c f : ℕ) → n ≤ room → ((i : ℕ) → is_in mask i ≡ true → i < n) → f < size mask → count_below n (both (is_in mask) (is_in c)) ≤ f
    → (i : ℕ) × (i < n) × (is_in mask i ≡ true) × (is_in c i ≡ false)
unfolding size
some-outside n mask c f m below h k = outside n (is_in mask) (is_in c) (omega (arith, count-above n room (is_in mask) m above))
  where
    above : (i : ℕ) → n ≤ i → is_in mask i ≡ false
    above i l = go (is_in mask i) refl
      where
        go : (b : Bool) → is_in mask i ≡ b → b ≡ false
        go true e = absurd (contra (below i e))
          where
            contra : i < n → ⊥
            contra z = omega arith
        go false e = refl
