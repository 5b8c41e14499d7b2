-- Laws of what Sets.antt defines.
use Rattle.std.specs.Prelude.{ℕ, zero, suc, ◌+◌, ◌-◌, min, ◌≤◌, ◌<◌, ◌≡◌, refl, Bool, true, false, ◌&&◌, ◌||◌, ◌⊎◌}
use Rattle.std.proofs.Common.{sym, ap, ap₂, ◌∙◌, inl, inr, le_refl, not-suc-le-zero, eq-or-lt_of_le, le_of_suc-le-suc, arith}
use Rattle.std.proofs.lemmas.Bool.{false≢true}
use Rattle.std.proofs.Math.Decide.{le_ind}
use Rattle.senders.specs.Sets.{both, count_below, either, tally, votes}

-- only the numbers below n count
pub count-ext : (n : ℕ) (p q : ℕ → Bool) → ((i : ℕ) → i < n → p i ≡ q i) → count_below n p ≡ count_below n q
unfolding count_below
count-ext zero p q h = refl
count-ext (suc n) p q h = ap₂ tally (h n (le_refl (suc n))) (count-ext n p q (λ i l. h i (omega arith)))

-- the lowest number first
pub count_low : (n : ℕ) (p : ℕ → Bool) → count_below (suc n) p ≡ tally (p zero) (count_below n (λ i. p (suc i)))
unfolding count_below
count_low zero p = refl
count_low (suc n) p = ap (tally (p (suc n))) (count_low n p) ∙ swap (p (suc n)) (p zero) (count_below n (λ i. p (suc i)))
  where
    swap : (a b : Bool) (k : ℕ) → tally a (tally b k) ≡ tally b (tally a k)
    swap true true k = refl
    swap true false k = refl
    swap false true k = refl
    swap false false k = refl

-- Joining a number that is not there adds exactly one.
pub count-joined : (n : ℕ) (p q : ℕ → Bool) (i : ℕ) → i < n → p i ≡ false → q i ≡ true → ((j : ℕ) → (j ≡ i → ⊥) → p j ≡ q j) → count_below n q ≡ suc (count_below n p)
unfolding count_below
count-joined zero p q i l hp hq h = absurd (not-suc-le-zero l)
count-joined (suc n) p q i l hp hq h = go (λ k. count-joined n p q i k hp hq h) (eq-or-lt_of_le (le_of_suc-le-suc l))
  where
    tally-suc : (b : Bool) (k : ℕ) → tally b (suc k) ≡ suc (tally b k)
    tally-suc true k = refl
    tally-suc false k = refl

    go : (i < n → count_below n q ≡ suc (count_below n p)) → (i ≡ n) ⊎ (i < n) → tally (q n) (count_below n q) ≡ suc (tally (p n) (count_below n p))
    go ih (inl e) =
        ap₂ tally (ap q (sym e) ∙ hq) (count-ext n q p (λ j k. sym (h j (λ (d : j ≡ i). let z : j ≡ n = d ∙ e in omega arith))))
        ∙ ap (λ (b : Bool). suc (tally b (count_below n p))) (sym hp ∙ ap p e)
    go ih (inr k) = ap₂ tally (sym (h n (λ (d : n ≡ i). omega arith))) (ih k) ∙ tally-suc (p n) (count_below n p)

-- Of two sets one within the other, the larger counts no less.
pub count-within : (n : ℕ) (p q : ℕ → Bool) → ((i : ℕ) → i < n → p i ≡ true → q i ≡ true) → count_below n p ≤ count_below n q
unfolding count_below
count-within zero p q h = omega arith
count-within (suc n) p q h = go (p n) (q n) (h n (le_refl (suc n))) (count-within n p q (λ i l. h i (omega arith)))
  where
    go : (a b : Bool) → (a ≡ true → b ≡ true) → count_below n p ≤ count_below n q → tally a (count_below n p) ≤ tally b (count_below n q)
    go true true f r = omega arith
    go true false f r = absurd (false≢true (f refl))
    go false true f r = omega arith
    go false false f r = omega arith

-- A set with no member from n on counts no more than up to n.
pub count-above : (n m : ℕ) (p : ℕ → Bool) → n ≤ m → ((i : ℕ) → n ≤ i → p i ≡ false) → count_below m p ≡ count_below n p
unfolding count_below
count-above n m p l h = le_ind (λ (k : ℕ). count_below k p ≡ count_below n p) refl (λ k g e. ap (λ (b : Bool). tally b (count_below k p)) (h k g) ∙ e) m l

-- Counting further counts no less.
pub count-more : (n m : ℕ) (p : ℕ → Bool) → n ≤ m → count_below n p ≤ count_below m p
unfolding count_below
count-more n m p l = le_ind (λ (k : ℕ). count_below n p ≤ count_below k p) (le_refl (count_below n p)) (λ k g e. step (p k) (count_below k p) e) m l
  where
    step : (x : Bool) (c : ℕ) → count_below n p ≤ c → count_below n p ≤ tally x c
    step true c e = omega arith
    step false c e = e

-- A set without members counts none.
pub count_none : (n : ℕ) (p : ℕ → Bool) → ((i : ℕ) → p i ≡ false) → count_below n p ≡ 0
unfolding count_below
count_none zero p h = refl
count_none (suc n) p h = ap (λ (x : Bool). tally x (count_below n p)) (h n) ∙ count_none n p h

-- A set with a member counts at least one.
pub count-some : (n : ℕ) (p : ℕ → Bool) (i : ℕ) → i < n → p i ≡ true → 1 ≤ count_below n p
unfolding count_below
count-some zero p i l e = absurd (not-suc-le-zero l)
count-some (suc n) p i l e = go (λ k. count-some n p i k e) (p n) refl (eq-or-lt_of_le (le_of_suc-le-suc l))
  where
    go : (i < n → 1 ≤ count_below n p) → (x : Bool) → p n ≡ x → (i ≡ n) ⊎ (i < n) → 1 ≤ tally x (count_below n p)
    go ih true ex w = omega arith
    go ih false ex (inl d) = absurd (false≢true (sym ex ∙ ap p (sym d) ∙ e))
    go ih false ex (inr k) = ih k

-- A set whose members all lie among w numbers from lo on has at most w members.
pub count-window : (n lo w : ℕ) (p : ℕ → Bool) → ((i : ℕ) → p i ≡ true → (lo ≤ i) × (i < lo + w)) → count_below n p ≤ w
unfolding count_below
count-window n lo w p h = omega (arith, narrow n)
  where
    step : (k : ℕ) (b : Bool) → (b ≡ true → (lo ≤ k) × (k < lo + w)) → count_below k p ≤ min (k - lo) w → tally b (count_below k p) ≤ min (suc k - lo) w
    step k true f r = let g = f refl in omega arith
    step k false f r = omega arith

    narrow : (k : ℕ) → count_below k p ≤ min (k - lo) w
    narrow zero = omega arith
    narrow (suc k) = step k (p k) (h k) (narrow k)

-- The pigeonhole: a set with more members than it shares with another has one outside it.
pub outside : (n : ℕ) (p c : ℕ → Bool) → count_below n (both p c) < count_below n p → (i : ℕ) × (i < n) × (p i ≡ true) × (c i ≡ false)
unfolding count_below
outside zero p c l = absurd (not-suc-le-zero l)
outside (suc n) p c l = go (p n) (c n) refl refl (outside n p c) l
  where
    up : (i : ℕ) × (i < n) × (p i ≡ true) × (c i ≡ false) → (i : ℕ) × (i < suc n) × (p i ≡ true) × (c i ≡ false)
    up r = (r.0, omega arith, r.2, r.3)

    go : (a b : Bool) → p n ≡ a → c n ≡ b → (count_below n (both p c) < count_below n p → (i : ℕ) × (i < n) × (p i ≡ true) × (c i ≡ false))
        → tally (a && b) (count_below n (both p c)) < tally a (count_below n p) → (i : ℕ) × (i < suc n) × (p i ≡ true) × (c i ≡ false)
    go true true ea eb ih k = up (ih (omega arith))
    go true false ea eb ih k = (n, le_refl (suc n), ea, eb)
    go false true ea eb ih k = up (ih k)
    go false false ea eb ih k = up (ih k)

-- More than f votes, at most f of them of the compromised: a node that is not compromised has shared it.
pub vouched : (n f : ℕ) (c s : ℕ → Bool) → count_below n c ≤ f → f < votes n c s → (i : ℕ) × (i < n) × (s i ≡ true) × (c i ≡ false)
vouched n f c s few enough =
    let less = count-within n (both (either c s) c) c (λ i l e. second (either c s i) (c i) e) in
    let found = outside n (either c s) c (omega (arith, few, enough, less)) in
    (found.0, found.1, other (c found.0) (s found.0) found.2 found.3, found.3)
  where
    second : (a b : Bool) → (a && b) ≡ true → b ≡ true
    second true b e = e
    second false b e = absurd (false≢true e)

    other : (a b : Bool) → (a || b) ≡ true → a ≡ false → b ≡ true
    other true b e f = absurd (false≢true (sym f))
    other false b e f = e
