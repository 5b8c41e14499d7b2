-- What is asked of a node before an event reaches it.
use Rattle.std.specs.Prelude.{ℕ, ◌≤◌, Bool, true, false, ◌&&◌, leb, Option, Some, None}
use Rattle.time.specs.declared.Dts.{Dts}
use Rattle.pairs.specs.declared.Pair.{Pair}
use Rattle.time.specs.Newer.{newer}
use Rattle.time.specs.Limits.{stamp_sound, clock_sound}
use Rattle.store.specs.Store.{store_within}
use Rattle.pairs.specs.Pair.{is_known}
use Rattle.node.specs.declared.Learned.{Learned}
use Rattle.node.specs.declared.Record.{Record}
use Rattle.node.specs.declared.Phase.{Phase}
use Rattle.node.specs.declared.Phase.TheVariants.{Down, Starting, Running}
use Rattle.node.specs.declared.Node.{Node}
use Rattle.node.specs.State.{attempts}

abbrev pub phase_down : Phase → Bool
phase_down Down = true
phase_down (Starting l) = false
phase_down (Running rec) = false

abbrev pub phase_starting : Phase → Bool
phase_starting Down = false
phase_starting (Starting l) = true
phase_starting (Running rec) = false

abbrev pub phase_running : Phase → Bool
phase_running Down = false
phase_running (Starting l) = false
phase_running (Running rec) = true

abbrev pub is_down : Node → Bool
is_down node = phase_down node.phase

abbrev pub is_starting : Node → Bool
is_starting node = phase_starting node.phase

abbrev pub is_running : Node → Bool
is_running node = phase_running node.phase

-- what is known in a phase of the relay, if anything: r
abbrev pub known_r : Phase → Option Pair
known_r Down = None
known_r (Starting l) = l.r
known_r (Running rec) = Some rec.r

-- and of the breaker: b
abbrev pub known_b : Phase → Option Pair
known_b Down = None
known_b (Starting l) = l.b
known_b (Running rec) = Some rec.b

-- "Its record gains a second pair: the breaker's status and stamp as acknowledged or queried." (§9 of 02)
abbrev pub known_second : Phase → Option Pair
known_second Down = None
known_second (Starting l) = l.second
known_second (Running rec) = rec.second

-- the stamp being resent, if one is
abbrev pub resending : Phase → Option Dts
resending Down = None
resending (Starting l) = None
resending (Running rec) = rec.resend

-- "a number is new when none is known since start-up, or when number minus last, wrapping at 32 bits, is 1 to 2,147,483,647"
abbrev pub new_after : ℕ → Option ℕ → Bool
new_after number (Some last) = newer number last
new_after number None = true

-- the relay's last state number since start-up
abbrev pub last_number : Phase → Option ℕ
last_number Down = None
last_number (Starting l) = l.number
last_number (Running rec) = rec.number

abbrev pub is_new : Node → ℕ → Bool
is_new node number = new_after number (last_number node.phase)

-- "Share timeout. Armed exactly in Attempt."
abbrev pub phase_attempt : Phase → Bool
phase_attempt Down = false
phase_attempt (Starting l) = false
phase_attempt (Running rec) = attempts rec.r rec.b

abbrev pub in_attempt : Node → Bool
in_attempt node = phase_attempt node.phase

-- "Resend timeout. Armed after a command was sent."
abbrev resend_armed : Option Dts → Bool
resend_armed (Some T) = true
resend_armed None = false

abbrev phase_armed : Phase → Bool
phase_armed Down = false
phase_armed (Starting l) = false
phase_armed (Running rec) = resend_armed rec.resend

abbrev pub armed : Node → Bool
armed node = phase_armed node.phase

-- ---- 16: "a stamp or clock above 1,000,000,003 or a sender not below n"

abbrev pub known_sound : Option Pair → Bool
known_sound (Some pair) = stamp_sound pair.stamp
known_sound None = true

abbrev pub resend_sound : Option Dts → Bool
resend_sound (Some T) = stamp_sound T
resend_sound None = true

abbrev pub learned_sound : Learned → Bool
learned_sound l = known_sound l.r && known_sound l.b && known_sound l.second

abbrev pub record_sound : Record → Bool
record_sound rec = stamp_sound rec.r.stamp && stamp_sound rec.b.stamp && resend_sound rec.resend && known_sound rec.second

abbrev pub phase_sound : Phase → Bool
phase_sound Down = true
phase_sound (Starting l) = learned_sound l
phase_sound (Running rec) = record_sound rec

unfoldable pub node_in_range : Node → ℕ → Bool
node_in_range node n = clock_sound node.store.clock && store_within node.store n && phase_sound node.phase

-- "16 also for a record whose second pair has a stamp above b's, and for a running record with no second pair" (§9 of 02)

-- its stamp is not above b's: where one of the two is not known, there is none to be above
abbrev pub not_above : Option Pair → Option Pair → Bool
not_above (Some second) (Some b) = leb second.stamp.0 b.stamp.0
not_above (Some second) None = true
not_above None b = true

abbrev pub second_sound : Phase → Bool
second_sound Down = true
second_sound (Starting l) = not_above l.second l.b
second_sound (Running rec) = is_known rec.second && not_above rec.second (Some rec.b)

unfoldable pub node_sound : Node → ℕ → Bool
node_sound node n = node_in_range node n && second_sound node.phase

-- ---- "it is never above b's stamp" (§9 of 02), and it is known exactly where b is: of every node that came from a Start, which is more than 16 asks
abbrev pub Follows : Option Pair → Option Pair → Type 0
Follows (Some second) (Some b) = second.stamp.0 ≤ b.stamp.0
Follows (Some second) None = ⊥
Follows None (Some b) = ⊥
Follows None None = Unit {0}
