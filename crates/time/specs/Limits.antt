-- "stamps and clock to 1,000,000,003": what a site or a record may hold. A stamp has a limit and a clock has one; today they are the same number.
use Rattle.std.specs.Prelude.{ℕ, Bool, nat_le}
use Rattle.time.specs.declared.Dts.{Dts}

abbrev pub last_held_stamp : ℕ
last_held_stamp = 1_000_000_003

abbrev pub last_held_clock : ℕ
last_held_clock = 1_000_000_003

abbrev pub stamp_sound : Dts → Bool
stamp_sound T = nat_le T.0 last_held_stamp

abbrev pub clock_sound : Dts → Bool
clock_sound t = nat_le t.0 last_held_clock
