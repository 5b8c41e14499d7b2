-- A set of numbers is a test. How many of the numbers below n are in it, and the facts on sets that the model rests on, each shown
-- once over n. Nothing here speaks of bits.
use Rattle.std.specs.Prelude.{ℕ, zero, suc, Bool, true, false, ◌&&◌, ◌||◌}

-- one more, where the test holds
abbrev pub tally : Bool → ℕ → ℕ
tally true k = suc k
tally false k = k

-- how many of the numbers below n are in the set
unfoldable pub count_below : ℕ → (ℕ → Bool) → ℕ
count_below zero p = zero
count_below (suc n) p = tally (p n) (count_below n p)

-- the members that two sets share
abbrev pub both : (ℕ → Bool) → (ℕ → Bool) → ℕ → Bool
both p q i = p i && q i

-- the members of either set
abbrev pub either : (ℕ → Bool) → (ℕ → Bool) → ℕ → Bool
either p q i = p i || q i

-- the votes for something: of the compromised, and of whoever has shared it
abbrev pub votes : ℕ → (ℕ → Bool) → (ℕ → Bool) → ℕ
votes n c s = count_below n (either c s)
