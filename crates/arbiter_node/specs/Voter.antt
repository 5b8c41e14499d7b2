-- A node of the Arbiter Protocol. "Nodes keep no shares and send (status, t) straight to the breaker, on the reports at which a Peer node shares and on each share
-- timeout" (§3 of 02): it is 01's node, of which the phase is kept and the last clock, with no stamp being resent. It sends no command, and so has no
-- second pair that it could return to (§9 of 02).
use Rattle.std.specs.Prelude.{Option, None, Some}
use Rattle.pairs.specs.declared.Pair.{Pair}
use Rattle.time.specs.declared.Dts.{Dts}
use Rattle.store.specs.Store.{empty}
use Rattle.pairs.specs.declared.Pairs.{Pairs}
use Rattle.pairs.specs.declared.Pairs.TheVariants.{Zero, One, Two}
use Rattle.node.specs.declared.Phase.{Phase as PeerPhase}
use Rattle.node.specs.declared.Phase.TheVariants as Peer
use Rattle.node.specs.declared.Node.{Node}
use Rattle.breaker.specs.declared.Breaker.{Breaker}
use Rattle.acting.specs.Acting.{changed_by}
use Rattle.arbiter_steps.specs.declared.Event.{Event}
use Rattle.arbiter_steps.specs.Steps as Steps
use Rattle.arbiter_node.specs.declared.Phase.{Phase}
use Rattle.arbiter_node.specs.declared.Phase.TheVariants.{Down, Starting, Running}
use Rattle.arbiter_node.specs.declared.Voter.{Voter}
use Rattle.arbiter_node.specs.declared.Voted.{Voted}

-- ---- the two kinds of node

-- as 01's phase it has b itself for the second pair, against which 16 has nothing
abbrev pub phase_in_peer : Phase → PeerPhase
phase_in_peer Down = Peer.Down
phase_in_peer (Starting l) = Peer.Starting (record { r = l.r; b = l.b; second = l.b; number = l.number })
phase_in_peer (Running heard) = Peer.Running (record { r = heard.r; b = heard.b; second = Some heard.b; number = heard.number; resend = None })

-- the node as 01's, which holds nothing and resends nothing
abbrev pub in_peer : Voter → Node
in_peer voter = record { phase = phase_in_peer voter.phase; store = empty voter.clock }

abbrev pub of_peer_phase : PeerPhase → Phase
of_peer_phase Peer.Down = Down
of_peer_phase (Peer.Starting l) = Starting (record { r = l.r; b = l.b; number = l.number })
of_peer_phase (Peer.Running rec) = Running (record { r = rec.r; b = rec.b; number = rec.number })

-- 01's node without its shares, its second pair and what it resends
abbrev pub of_peer : Node → Voter
of_peer node = record { phase = of_peer_phase node.phase; clock = node.store.clock }

-- ---- an event

-- the message in the place of shares: the first of them, (status, t)
abbrev pub first_of : Pairs → Option Pair
first_of Zero = None
first_of (One p) = Some p
first_of (Two p q) = Some p

-- what an event makes of a node is what it makes of 01's before the combining rule; its clock is t
unfoldable pub voted : Breaker → Voter → Dts → Event → Voted
voted breaker voter t event =
    record {
      voter = record { phase = of_peer_phase (changed_by breaker (phase_in_peer voter.phase) t (Steps.in_peer event)).phase; clock = t };
      message = first_of (changed_by breaker (phase_in_peer voter.phase) t (Steps.in_peer event)).shares;
    }
