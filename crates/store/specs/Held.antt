-- What a store holds, and how that changes. A caller reasons by `held` and the laws here alone.
use Rattle.std.specs.Prelude.{ℕ, Bool, ◌&&◌, ltb}
use Rattle.time.specs.declared.Dts.{Dts}
use Rattle.senders.specs.Masks.{room, is_in}
use Rattle.store.specs.declared.Store.{Store}
use Rattle.store.specs.Store.{has_place, senders_of}

-- the share of this sender, for this action and stamp, is held
unfoldable pub held : Store → ℕ → Dts → ℕ → Bool
held s action T sender = is_in (senders_of s action T) sender

-- the store has room for the share: an action, a sender, a fresh stamp
unfoldable pub has_room_for : Store → ℕ → ℕ → Dts → Bool
has_room_for s sender action T = has_place s.clock action T && ltb sender room
