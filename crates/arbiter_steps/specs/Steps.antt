-- What a step of an Arbiter site is, and what it names: the steps that 01's site has too name what they name there, and a message is "Deliver, with the breaker
-- as receiver" (§3 of 02).
use Rattle.std.specs.Prelude.{Some, None}
use Rattle.steps.specs.declared.Event.{Event as PeerEvent}
use Rattle.steps.specs.declared.Event.TheVariants as Peer
use Rattle.steps.specs.declared.Step.TheVariants as PeerStep
use Rattle.steps.specs.Named.{Named, said_by}
use Rattle.steps.specs.Named as PeerNamed
use Rattle.arbiter_steps.specs.declared.Event.{Event}
use Rattle.arbiter_steps.specs.declared.Event.TheVariants.{Report, ShareTimeout, Ack, Query}
use Rattle.arbiter_steps.specs.declared.Message.{Message}
use Rattle.arbiter_steps.specs.declared.Step.{Step}
use Rattle.arbiter_steps.specs.declared.Step.TheVariants.{Start, Tick, AtNode, Life, AtBreaker}

-- the event of 01's that it is
abbrev pub in_peer : Event → PeerEvent
in_peer (Report status number) = Peer.Report status number
in_peer ShareTimeout = Peer.ShareTimeout
in_peer (Ack back) = Peer.Ack back
in_peer Query = Peer.Query

-- a message says what a Deliver says
abbrev pub delivered : Message → PeerEvent
delivered m = Peer.Deliver m.sender m.status m.stamp

-- what a step names: no node acts at the breaker
abbrev pub named : Step → Named
named (Start b) = PeerNamed.named (PeerStep.Start b)
named Tick = PeerNamed.named PeerStep.Tick
named (AtNode i t event) = PeerNamed.named (PeerStep.AtNode i t (in_peer event))
named (Life i turn) = PeerNamed.named (PeerStep.Life i turn)
named (AtBreaker t m) = record { actor = None; clock = Some t; beginning = None; said = said_by (delivered m) }
