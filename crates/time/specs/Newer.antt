-- "number minus last, wrapping at 32 bits, is 1 to 2,147,483,647"
use Rattle.std.specs.Prelude.{ℕ, ◌+◌, ◌-◌, ◌%◌, ◌^◌, Bool, ◌&&◌, nat_le}

-- number minus last, wrapping at 32 bits
unfoldable pub ahead : ℕ → ℕ → ℕ
ahead number last = (number + (2 ^ 32 - last)) % 2 ^ 32

unfoldable pub newer : ℕ → ℕ → Bool
newer number last = nat_le 1 (ahead number last) && nat_le (ahead number last) 2_147_483_647
