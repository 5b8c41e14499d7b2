-- Laws of what Decimal.antt defines.
use Rattle.std.specs.Prelude.{ℕ, zero, suc, ◌+◌, ◌*◌, ◌/◌, ◌%◌, ◌^◌, ◌≤◌, ◌<◌, ◌≡◌, refl, Bool, true, false, cond, List, [], ◌∷◌, ◌++◌, ltb, length}
use Rattle.std.proofs.Common.{sym, ap, ◌∙◌, append_assoc, append-nil, zero-add, add-zero, add-suc, add_comm, suc-add, div-one, div-add-mod', pow-suc, mul_comm, mul_assoc, div-lt_iff_lt-mul, le-div_iff_mul-le, le_trans, not-suc-le-zero, add-one, arith, lit<, length-append, lt-ltb, le-ltb, ltb-false}
use Rattle.std.proofs.Math.Nat.{div-div-eq-div-mul}
use Rattle.text.specs.Decimal.{spelled, places_in, most, digit_count, decimal}

pub length-spelled : (w n : ℕ) → length (spelled w n) ≡ w
unfolding spelled
length-spelled zero n = refl
length-spelled (suc w) n = length-append (spelled w (n / 10)) ((n % 10 + 48) ∷ []) ∙ ap (λ (k : ℕ). k + 1) (length-spelled w (n / 10)) ∙ add-one w

pub spelled-short : (w n : ℕ) → length (spelled w n) ≤ w
spelled-short w n = omega (arith, length-spelled w n)

places-le : (k n : ℕ) → places_in k n ≤ k
unfolding places_in
places-le zero n = omega arith
places-le (suc k) n = go (ltb n 10) (places-le k (n / 10))
  where
    go : (b : Bool) → places_in k (n / 10) ≤ k → cond b 1 (suc (places_in k (n / 10))) ≤ suc k
    go true h = omega arith
    go false h = omega arith

pub length-decimal : (n : ℕ) → length (decimal n) ≤ most
unfolding decimal
length-decimal n = rw (length-spelled (digit_count n) n) (places-le most n)

ten-pos : (v : ℕ) → 1 ≤ 10 ^ v
ten-pos zero = omega arith
ten-pos (suc v) = rw (pow-suc 10 v) (omega (arith, ten-pos v))

-- a number that takes w + 1 digits
places_is : (w k n : ℕ) → w < k → n < 10 ^ suc w → (0 < w → 10 ^ w ≤ n) → places_in k n ≡ suc w
unfolding places_in
places_is w zero n l h g = absurd (not-suc-le-zero l)
places_is zero (suc k) n l h g = ap (λ (b : Bool). cond b 1 (suc (places_in k (n / 10)))) (lt-ltb n 10 h)
places_is (suc w) (suc k) n l h g =
    ap (λ (b : Bool). cond b 1 (suc (places_in k (n / 10)))) (le-ltb n 10 (le_trans (ten w) (g (omega arith))))
    ∙ ap suc (places_is w k (n / 10) (omega arith) ((div-lt_iff_lt-mul (lit< tt)).1 (rw (pow-suc 10 (suc w)) at h)) (λ p. (le-div_iff_mul-le (lit< tt)).1 (rw (pow-suc 10 w) at (g (omega arith)))))
  where
    ten : (v : ℕ) → 10 ≤ 10 ^ suc v
    ten v = rw (pow-suc 10 v) (omega (arith, ten-pos v))

div-div-pow : (n j : ℕ) → n / 10 / 10 ^ j ≡ n / 10 ^ suc j
div-div-pow n j = div-div-eq-div-mul n 10 (10 ^ j) ∙ ap (λ (x : ℕ). n / x) (mul_comm 10 (10 ^ j) ∙ sym (pow-suc 10 j))

one_more : (k n : ℕ) → 0 < k → n < 10 ^ k → places_in (suc k) n ≡ places_in k n
unfolding places_in
one_more zero n h l = absurd (not-suc-le-zero h)
one_more (suc k) n h l = go (ltb n 10) refl (one_more k (n / 10))
  where
    go : (b : Bool) → ltb n 10 ≡ b → (0 < k → n / 10 < 10 ^ k → places_in (suc k) (n / 10) ≡ places_in k (n / 10))
        → cond b 1 (suc (places_in (suc k) (n / 10))) ≡ cond b 1 (suc (places_in k (n / 10)))
    go true e ih = refl
    go false e ih = ap suc (ih (some k (ltb-false n 10 e) l) ((div-lt_iff_lt-mul (lit< tt)).1 (rw (pow-suc 10 k) at l)))
      where
        some : (k : ℕ) → 10 ≤ n → n < 10 ^ suc k → 0 < k
        some zero p q = absurd (none p q)
          where
            none : 10 ≤ n → n < 10 → ⊥
            none p q = omega arith
        some (suc k) p q = omega arith

wider : (d k n : ℕ) → n < 10 ^ k → n < 10 ^ (d + k)
wider zero k n l = rw (zero-add k) l
wider (suc d) k n l = rw (suc-add d k, pow-suc 10 (d + k)) (omega (arith, wider d k n l))

-- a number without its last j digits takes j fewer
places-up : (j k n : ℕ) → 10 ^ j ≤ n → places_in (j + k) n ≡ j + places_in k (n / 10 ^ j)
unfolding places_in
places-up zero k n h = ap (λ (i : ℕ). places_in i n) (zero-add k) ∙ sym (zero-add (places_in k (n / 1)) ∙ ap (places_in k) (div-one n))
places-up (suc j) k n h =
    let big : 10 ^ j * 10 ≤ n = rw (pow-suc 10 j) at h in
    let tens : 10 ≤ n = omega (arith, ten-pos j) in
    ap (λ (i : ℕ). places_in i n) (suc-add j k)
    ∙ ap (λ (b : Bool). cond b 1 (suc (places_in (j + k) (n / 10)))) (le-ltb n 10 tens)
    ∙ ap suc (places-up j k (n / 10) ((le-div_iff_mul-le (lit< tt)).1 big) ∙ ap (λ (x : ℕ). j + places_in k x) (div-div-pow n j))
    ∙ sym (suc-add j (places_in k (n / 10 ^ suc j)))

-- more room to count in changes nothing
more_room : (d k n : ℕ) → 0 < k → n < 10 ^ k → places_in (d + k) n ≡ places_in k n
more_room zero k n h l = ap (λ (i : ℕ). places_in i n) (zero-add k)
more_room (suc d) k n h l = ap (λ (i : ℕ). places_in i n) (suc-add d k) ∙ one_more (d + k) n (omega arith) (wider d k n l) ∙ more_room d k n h l

-- ---- a number by parts

-- a higher part and the last b digits
spelled-append : (a b n : ℕ) → spelled (a + b) n ≡ spelled a (n / 10 ^ b) ++ spelled b n
unfolding spelled
spelled-append a zero n = ap (λ (i : ℕ). spelled i n) (add-zero a) ∙ ap (spelled a) (sym (div-one n)) ∙ sym (append-nil (spelled a (n / 1)))
spelled-append a (suc b) n =
    ap (λ (i : ℕ). spelled i n) (add-suc a b)
    ∙ ap (λ (l : List ℕ). l ++ ((n % 10 + 48) ∷ [])) (spelled-append a b (n / 10) ∙ ap (λ (x : ℕ). spelled a x ++ spelled b (n / 10)) (div-div-pow n b))
    ∙ append_assoc (spelled a (n / 10 ^ suc b)) (spelled b (n / 10)) ((n % 10 + 48) ∷ [])

-- the last b digits are those of the remainder
spelled-above : (b q r : ℕ) → spelled b (q * 10 ^ b + r) ≡ spelled b r
unfolding spelled
spelled-above zero q r = refl
spelled-above (suc b) q r =
    ap (λ (x : ℕ). spelled (suc b) (x + r)) (ap (λ (x : ℕ). q * x) (pow-suc 10 b) ∙ sym (mul_assoc q (10 ^ b) 10))
    ∙ ap (λ (x : ℕ). spelled b x ++ (((q * 10 ^ b * 10 + r) % 10 + 48) ∷ [])) (tens (q * 10 ^ b))
    ∙ ap (λ (x : ℕ). spelled b (q * 10 ^ b + r / 10) ++ ((x + 48) ∷ [])) (ones (q * 10 ^ b))
    ∙ ap (λ (l : List ℕ). l ++ ((r % 10 + 48) ∷ [])) (spelled-above b q (r / 10))
  where
    tens : (x : ℕ) → (x * 10 + r) / 10 ≡ x + r / 10
    tens x = omega arith

    ones : (x : ℕ) → (x * 10 + r) % 10 ≡ r % 10
    ones x = omega arith

spelled-rest : (b n : ℕ) → spelled b n ≡ spelled b (n % 10 ^ b)
spelled-rest b n = ap (spelled b) (sym (div-add-mod' n (10 ^ b))) ∙ spelled-above b (n / 10 ^ b) (n % 10 ^ b)

pub spelled-parts : (a b n : ℕ) → spelled (a + b) n ≡ spelled a (n / 10 ^ b) ++ spelled b (n % 10 ^ b)
spelled-parts a b n = spelled-append a b n ∙ ap (λ (l : List ℕ). spelled a (n / 10 ^ b) ++ l) (spelled-rest b n)

-- of a number of at most 20 digits, more than b
pub decimal-parts : (b k n : ℕ) → b + k ≡ most → 0 < k → 10 ^ b ≤ n → n / 10 ^ b < 10 ^ k → decimal n ≡ decimal (n / 10 ^ b) ++ spelled b (n % 10 ^ b)
unfolding decimal
decimal-parts b k n e h g l =
    ap (λ (i : ℕ). spelled i n) count ∙ spelled-parts (digit_count (n / 10 ^ b)) b n
  where
    high : places_in k (n / 10 ^ b) ≡ digit_count (n / 10 ^ b)
    high = sym (more_room b k (n / 10 ^ b) h l) ∙ ap (λ (i : ℕ). places_in i (n / 10 ^ b)) e

    count : digit_count n ≡ digit_count (n / 10 ^ b) + b
    count = ap (λ (i : ℕ). places_in i n) (sym e) ∙ places-up b k n g ∙ ap (λ (i : ℕ). b + i) high ∙ add_comm b (digit_count (n / 10 ^ b))

-- a number below 10 ^ k
pub length-below : (d k n : ℕ) → d + k ≡ most → 0 < k → n < 10 ^ k → length (decimal n) ≤ k
unfolding decimal
length-below d k n e h l = rw (length-spelled (digit_count n) n, ← e, more_room d k n h l) (places-le k n)

-- a number of w + 1 digits
pub decimal-is : (w n : ℕ) → w < most → n < 10 ^ suc w → (0 < w → 10 ^ w ≤ n) → decimal n ≡ spelled (suc w) n
unfolding decimal
decimal-is w n l h g = ap (λ (k : ℕ). spelled k n) (places_is w most n l h g)

-- a number of one digit
pub one-digit : (n : ℕ) → n < 10 → decimal n ≡ (n + 48) ∷ []
unfolding spelled
one-digit n h = decimal-is 0 n (lit< tt) h (λ p. absurd (not-suc-le-zero p)) ∙ ap (λ (d : ℕ). (d + 48) ∷ []) (small n h)
  where
    small : (n : ℕ) → n < 10 → n % 10 ≡ n
    small n h = omega arith

pub two_digits : (n : ℕ) → n < 100 → spelled 2 n ≡ (n / 10 + 48) ∷ (n % 10 + 48) ∷ []
unfolding spelled
two_digits n h = ap (λ (d : ℕ). (d + 48) ∷ (n % 10 + 48) ∷ []) (small n h)
  where
    small : (n : ℕ) → n < 100 → n / 10 % 10 ≡ n / 10
    small n h = omega arith
