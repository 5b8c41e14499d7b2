-- "Every answer stays the same" (02, §2), said of where the sets stood before: a place by the stamp's distance from the clock, each set moved down as the
-- clock goes up. What is shown of it stands in AsBefore; no contract cites this, and nothing above the store.
use Rattle.std.specs.Prelude.{ℕ, ◌+◌, ◌*◌, ◌-◌, ◌/◌, ◌%◌, ◌≡◌, cond, leb, ltb}
use Rattle.time.specs.declared.Dts.{Dts}
use Rattle.time.specs.Fresh.{window}
use Rattle.tables.specs.Tables.{table}
use Rattle.store.specs.declared.Store.{Store}
use Rattle.store.specs.Store.{stamps, places, has_place, set_at, senders_of, put_at, oldest, turn, store_within}
use Rattle.store.specs.Earliest.{earliest}
use Rattle.keeping.specs.laws.Keeping.{Keeping, in_places, earliest_in}

-- five places for each action, the oldest fresh stamp first
abbrev pub place_before : Dts → ℕ → Dts → ℕ
place_before clock action T = action * stamps + (T.0 + window - clock.0)

abbrev pub senders_before : Store → ℕ → Dts → ℕ
senders_before s action T = cond (has_place s.clock action T) (set_at s (place_before s.clock action T)) 0

abbrev pub put_before : Store → ℕ → ℕ → Dts → Store
put_before s sender action T = cond (has_place s.clock action T) (put_at s sender (place_before s.clock action T)) s

abbrev pub moved_from : Store → ℕ → ℕ → ℕ
moved_from s by k = cond (ltb (k % stamps + by) stamps) (set_at s (k + by)) 0

abbrev pub moved_before : Store → Dts → Store
moved_before s clock = cond (leb clock.0 s.clock.0) s (record { clock = clock; masks = table places (moved_from s (clock.0 - s.clock.0)) })

abbrev pub before : Keeping
before = in_places senders_before put_before moved_before

-- where the set of a place stood, and where the set stands that stood at a place
abbrev pub stood : Dts → ℕ → ℕ
stood clock k = k / stamps * stamps + turn clock k

abbrev pub stands : Dts → ℕ → ℕ
stands clock k = k / stamps * stamps + (k % stamps + oldest clock) % stamps

-- a store of before with the same sets where they stand now, and a store of now with its sets where they stood
abbrev pub as_now : Store → Store
as_now s = record { clock = s.clock; masks = table places (λ k. set_at s (stood s.clock k)) }

abbrev pub as_then : Store → Store
as_then z = record { clock = z.clock; masks = table places (λ k. set_at z (stands z.clock k)) }

-- what the stores u, of before, and v, of today, answer
pub record AsBefore (u v : Store) : Type 0 where
  pub same-senders : (a : ℕ) (T : Dts) → senders_before u a T ≡ senders_of v a T
  pub same-earliest : (a : ℕ) (above : Dts) (f : ℕ) → earliest_in before u a above f ≡ earliest v a above f
  pub same-within : (n : ℕ) → store_within u n ≡ store_within v n
