-- Fresh stamps, and the stamp after one.
use Rattle.std.specs.Prelude.{ℕ, ◌+◌, ◌-◌, ◌%◌, ◌^◌, Bool, cond, ◌&&◌, List, [], ◌∷◌, nat_le}
use Rattle.time.specs.declared.Dts.{Dts}

-- "A stamp T is fresh at clock t when t−2 ≤ T ≤ t+2."
-- how far from the clock a fresh stamp may be, either way
abbrev pub window : ℕ
window = 2

abbrev pub fresh_at : ℕ → ℕ → Bool
fresh_at T t = nat_le (t - window) T && nat_le T (t + window)

abbrev pub fresh : Dts → Dts → Bool
fresh T t = fresh_at T.0 t.0

-- "The fresh ones" of some stamps (§6 of 02)
abbrev pub fresh_ones : Dts → List Dts → List Dts
fresh_ones t [] = []
fresh_ones t (T ∷ more) = cond (fresh T t) (T ∷ fresh_ones t more) (fresh_ones t more)

-- t + 1, in 32 bits
unfoldable pub next : Dts → Dts
next t = record { 0 = (t.0 + 1) % 2 ^ 32 }
