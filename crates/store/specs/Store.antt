-- "Share store: for each action and each fresh stamp, the set of senders whose share has been delivered". Which place of the array is whose is
-- said here and nowhere else: the layers above go by what is held (Held).
use Rattle.std.specs.Prelude.{ℕ, ◌+◌, ◌*◌, ◌-◌, ◌%◌, Bool, true, ◌&&◌, cond, List, [], ◌∷◌, eqb, leb, ltb, get_or, Option, None, Some}
use Rattle.time.specs.declared.Dts.{Dts}
use Rattle.time.specs.Fresh.{fresh, window}
use Rattle.senders.specs.Masks.{joined, within}
use Rattle.tables.specs.Tables.{table}
use Rattle.store.specs.declared.Store.{Store}

-- "Status 0 is CLOSE, 1 is TRIP"; the stamps that are fresh at a clock; a place for each action and each of those
abbrev pub actions : ℕ
actions = 2

abbrev pub stamps : ℕ
stamps = 5

abbrev pub places : ℕ
places = 10

-- the action is one, and the stamp is fresh at the clock
unfoldable pub has_place : Dts → ℕ → Dts → Bool
has_place clock action T = ltb action actions && fresh T clock

-- "Keep each stamp's senders in a place fixed by the stamp" (02, §2): five places for each action, a stamp's by its remainder
abbrev pub place : ℕ → Dts → ℕ
place action T = action * stamps + T.0 % stamps

unfoldable pub place_of : Dts → ℕ → Dts → Option ℕ
place_of clock action T = cond (has_place clock action T) (Some (place action T)) None

-- the set at a place
abbrev pub set_at : Store → ℕ → ℕ
set_at s k = get_or s.masks k 0

-- the senders held for an action and a stamp
unfoldable pub senders_of : Store → ℕ → Dts → ℕ
senders_of s action T = cond (has_place s.clock action T) (set_at s (place action T)) 0

unfoldable pub empty : Dts → Store
empty clock = record { clock = clock; masks = table places (λ k. 0) }

-- the store with one more share
abbrev pub put_at : Store → ℕ → ℕ → Store
put_at s sender p = record { clock = s.clock; masks = table places (λ k. cond (eqb k p) (joined (set_at s p) sender) (set_at s k)) }

unfoldable pub put : Store → ℕ → ℕ → Dts → Store
put s sender action T = cond (has_place s.clock action T) (put_at s sender (place action T)) s

-- the remainder of the oldest stamp of a clock's window, clock − 2; with five more it is the same, and nothing goes below 0
abbrev pub oldest : Dts → ℕ
oldest clock = (clock.0 + stamps - window) % stamps

-- how many remainders come before that of a place, from the oldest stamp's on
unfoldable pub turn : Dts → ℕ → ℕ
turn clock k = (k + stamps - oldest clock) % stamps

-- "A stamp no longer fresh is forgotten and its room used again"; "clear only the places that fall out. A jump of five or more clears them
-- all." (02, §2): as many fall out, from the oldest stamp's on, as the clock goes up by; there are five, so five or more are all
unfoldable pub left_at : Store → ℕ → ℕ → ℕ
left_at s by k = cond (ltb (turn s.clock k) by) 0 (set_at s k)

unfoldable pub moved_to : Store → Dts → Store
moved_to s clock =
    cond (leb clock.0 s.clock.0)
    s
    (record { clock = clock; masks = table places (left_at s (clock.0 - s.clock.0)) })

-- every sender at every place is below n
abbrev pub all_within : List ℕ → ℕ → Bool
all_within [] n = true
all_within (mask ∷ masks) n = within mask n && all_within masks n

unfoldable pub store_within : Store → ℕ → Bool
store_within s n = all_within (table places (set_at s)) n
