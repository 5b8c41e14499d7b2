-- A number in decimal digits, with no zero in front.
use Rattle.std.specs.Prelude.{ℕ, zero, suc, ◌+◌, ◌/◌, ◌%◌, cond, List, [], ◌∷◌, ◌++◌, ltb}

-- the last w digits
unfoldable pub spelled : ℕ → ℕ → List ℕ
spelled zero n = []
spelled (suc w) n = spelled w (n / 10) ++ ((n % 10 + 48) ∷ [])

-- how many digits a number below 10 ^ k takes, and k for any other
unfoldable pub places_in : ℕ → ℕ → ℕ
places_in zero n = 0
places_in (suc k) n = cond (ltb n 10) 1 (suc (places_in k (n / 10)))

-- a number of 64 bits has at most 20 digits
abbrev pub most : ℕ
most = 20

abbrev pub digit_count : ℕ → ℕ
digit_count n = places_in most n

unfoldable pub decimal : ℕ → List ℕ
decimal n = spelled (digit_count n) n
