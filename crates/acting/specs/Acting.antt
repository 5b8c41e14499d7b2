-- An event at a node, to its end: what it makes of the phase, what it makes of the store, and then the node's own shares and the combining rule.
-- An event that the phase does not take, and an ack of a change that is not remembered, are refused before they come here.
use Rattle.std.specs.Prelude.{ℕ, Option, None, Some}
use Rattle.pairs.specs.declared.Pair.{Pair}
use Rattle.time.specs.declared.Dts.{Dts}
use Rattle.time.specs.Fresh.{next}
use Rattle.store.specs.declared.Store.{Store}
use Rattle.store.specs.Store.{put}
use Rattle.node.specs.declared.Phase.{Phase}
use Rattle.node.specs.declared.Node.{Node}
use Rattle.node.specs.declared.Changed.{Changed}
use Rattle.node.specs.declared.Acted.{Acted}
use Rattle.combining.specs.Combining.{finished}
use Rattle.events.specs.Events.{unchanged, store_at, reported, share_timed_out, resend_timed_out, acked, queried}
use Rattle.breaker.specs.declared.Breaker.{Breaker}
use Rattle.breaker.specs.Breaker.{change_at}
use Rattle.steps.specs.declared.Event.{Event}
use Rattle.steps.specs.declared.Event.TheVariants.{Report, Deliver, DeliverPair, ShareTimeout, ResendTimeout, Ack, Query}

-- an ack brings a change, if it is remembered
abbrev pub acked_by : Phase → Option Pair → Changed
acked_by phase (Some change) = acked phase change
acked_by phase None = unchanged phase

-- what an event makes of the phase that it finds
unfoldable pub changed_by : Breaker → Phase → Dts → Event → Changed
changed_by breaker phase t (Report status number) = reported phase t status number
changed_by breaker phase t (Deliver sender status T) = unchanged phase
changed_by breaker phase t (DeliverPair sender status T) = unchanged phase
changed_by breaker phase t ShareTimeout = share_timed_out phase t
changed_by breaker phase t ResendTimeout = resend_timed_out phase t
changed_by breaker phase t (Ack back) = acked_by phase (change_at breaker back)
changed_by breaker phase t Query = queried phase breaker.pair

-- the store at the clock of an event, with the share that it delivers: Deliver "Stores the share, in every running state." Of a pair "The fresh ones of the two
-- are stored together, all else as Deliver" (§6 of 02): a store takes what is fresh at its clock, and nothing else (`put`)
unfoldable pub stored : Phase → Store → Dts → Event → Store
stored phase store t (Report status number) = store_at phase store t
stored phase store t (Deliver sender status T) = put (store_at phase store t) sender status T
stored phase store t (DeliverPair sender status T) = put (put (store_at phase store t) sender status (next T)) sender status T
stored phase store t ShareTimeout = store_at phase store t
stored phase store t ResendTimeout = store_at phase store t
stored phase store t (Ack back) = store_at phase store t
stored phase store t Query = store_at phase store t

-- an event at node i of a site whose threshold is f + 1
unfoldable pub acted : Breaker → Node → ℕ → ℕ → Dts → Event → Acted
acted breaker node i f t event = finished (changed_by breaker node.phase t event) (stored node.phase node.store t event) i f
