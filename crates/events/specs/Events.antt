-- What an event makes of a node: of its phase, before the combining rule, and of its store. An event that the phase does not take leaves it as it was.
use Rattle.std.specs.Prelude.{ℕ, not, ◌&&◌, cond, leb, Option, Some, None}
use Rattle.time.specs.declared.Dts.{Dts}
use Rattle.time.specs.Fresh.{next, fresh}
use Rattle.time.specs.Larger.{larger}
use Rattle.store.specs.declared.Store.{Store}
use Rattle.store.specs.Store.{empty, moved_to}
use Rattle.pairs.specs.declared.Pair.{Pair}
use Rattle.node.specs.declared.Learned.{Learned}
use Rattle.node.specs.declared.Record.{Record}
use Rattle.node.specs.declared.Phase.{Phase}
use Rattle.node.specs.declared.Phase.TheVariants.{Down, Starting, Running}
use Rattle.node.specs.declared.Node.{Node}
use Rattle.pairs.specs.declared.Pairs.{Pairs}
use Rattle.pairs.specs.declared.Pairs.TheVariants.{Zero, One, Two}
use Rattle.node.specs.declared.Changed.{Changed}
use Rattle.node.specs.State.{attempts}
use Rattle.node.specs.Asked.{known_b}
use Rattle.pairs.specs.Pair.{pair, same}

-- an event that leaves the phase, and sends nothing
abbrev pub unchanged : Phase → Changed
unchanged phase = record { phase = phase; shares = Zero; command = None }

-- ---- start-up: "When r and b are both known it runs, its store empty; that step shares nothing."

abbrev both_known : Option Pair → Option Pair → Learned → Phase
both_known (Some r) (Some b) l = Running (record { r = r; b = b; second = l.second; number = l.number; resend = None })
both_known (Some r) None l = Starting l
both_known None b l = Starting l

abbrev pub once_known : Learned → Phase
once_known l = both_known l.r l.b l

unfoldable pub begun : Learned → Changed
begun l = record { phase = once_known l; shares = Zero; command = None }

-- The store at the clock of an event, for the phase that the event finds: that of a node that starts up is empty, that of one that runs forgets what is
-- no longer fresh.
abbrev pub store_at : Phase → Store → Dts → Store
store_at Down store t = store
store_at (Starting l) store t = empty t
store_at (Running rec) store t = moved_to store t

-- ---- Report: "a report at a node that knows b stamps r with the larger of t and b's stamp, so no report ends in Wait. Shares still carry t and t+1."
-- (§1 of 02.) "If a running node was not in Attempt and now is, it shares (status, t) and (status, t+1)."

-- the stamp that a report at clock t gives r, for what the node knows of the breaker; where that is nothing, 01's: "It sets r to the status and t."
abbrev pub report_stamp : Option Pair → Dts → Dts
report_stamp (Some b) t = larger t b.stamp
report_stamp None t = t

-- r after a report
abbrev pub report_r : Phase → Dts → ℕ → Pair
report_r phase t status = pair status (report_stamp (known_b phase) t)

-- "Leaving Done disarms resend."
unfoldable pub kept : Record → Pair → Pair → Option Dts
kept rec r b = cond (same rec.r rec.b && not (same r b)) None rec.resend

unfoldable pub report_shares : Pair → Pair → Pair → Dts → Pairs
report_shares old r b t = cond (not (attempts old b) && attempts r b) (Two (pair r.status t) (pair r.status (next t))) Zero

unfoldable pub report_running : Record → Pair → Dts → ℕ → Changed
report_running rec r t number =
    record {
      phase = Running (record { r = r; b = rec.b; second = rec.second; number = Some number; resend = kept rec r rec.b });
      shares = report_shares rec.r r rec.b t;
      command = None;
    }

unfoldable pub report_starting : Learned → Pair → ℕ → Changed
report_starting l r number = begun (record { r = Some r; b = l.b; second = l.second; number = Some number })

unfoldable pub reported : Phase → Dts → ℕ → ℕ → Changed
reported Down t status number = unchanged Down
reported (Starting l) t status number = report_starting l (report_r (Starting l) t status) number
reported (Running rec) t status number = report_running rec (report_r (Running rec) t status) t number

-- ---- Share timeout: "Shares (r's status, t)."

unfoldable pub share_timed_out : Phase → Dts → Changed
share_timed_out Down t = unchanged Down
share_timed_out (Starting l) t = unchanged (Starting l)
share_timed_out (Running rec) t = record { phase = Running rec; shares = One (pair rec.r.status t); command = None }

-- ---- Resend timeout: "Sends that command (b's status, that stamp) again." And, with the stamp no longer fresh (§9 of 02): "On a resend timeout when the
-- stamp is no longer fresh, b returns to that pair, the old command is not sent, resend is disarmed, and the state is read afresh, with 01's combining rule at
-- the end."

abbrev pub sent_again : Record → Dts → Changed
sent_again rec T = record { phase = Running rec; shares = Zero; command = Some (pair rec.b.status T) }

-- "that pair" is the second; a running record without one is refused with 16, and comes to no event
abbrev pub returned : Option Pair → Pair → Pair
returned (Some second) b = second
returned None b = b

unfoldable pub given_up : Record → Changed
given_up rec =
    record {
      phase = Running (record { r = rec.r; b = returned rec.second rec.b; second = rec.second; number = rec.number; resend = None });
      shares = Zero;
      command = None;
    }

abbrev pub resent_as : Option Dts → Record → Dts → Changed
resent_as (Some T) rec t = cond (fresh T t) (sent_again rec T) (given_up rec)
resent_as None rec t = unchanged (Running rec)

unfoldable pub resend_timed_out : Phase → Dts → Changed
resend_timed_out Down t = unchanged Down
resend_timed_out (Starting l) t = unchanged (Starting l)
resend_timed_out (Running rec) t = resent_as rec.resend rec t

-- ---- Ack: "If its stamp ≥ b's stamp, b becomes that change; a later-arriving older one leaves b."

abbrev pub later : Pair → Pair → Pair
later b change = cond (leb b.stamp.0 change.stamp.0) change b

-- "With no b, any ack sets it." And the second pair (§9 of 02): "A query sets it, and so does an ack when there is none yet or its stamp is not below the
-- pair's"
abbrev pub later_than : Option Pair → Pair → Pair
later_than (Some b) change = later b change
later_than None change = change

-- "An ack of the status that b has beforehand disarms resend, older or not."
unfoldable pub ack_resend : Record → Pair → Pair → Option Dts
ack_resend rec b change = cond (same change rec.b) None (kept rec rec.r b)

unfoldable pub ack_running : Record → Pair → Changed
ack_running rec change =
    record {
      phase =
          Running
          (record {
            r = rec.r;
            b = later rec.b change;
            second = Some (later_than rec.second change);
            number = rec.number;
            resend = ack_resend rec (later rec.b change) change;
          });
      shares = Zero;
      command = None;
    }

unfoldable pub ack_starting : Learned → Pair → Changed
ack_starting l change = begun (record { r = l.r; b = Some (later_than l.b change); second = Some (later_than l.second change); number = l.number })

unfoldable pub acked : Phase → Pair → Changed
acked Down change = unchanged Down
acked (Starting l) change = ack_starting l change
acked (Running rec) change = ack_running rec change

-- ---- Query (starting nodes only): "b becomes the breaker's status and stamp now", and so does the second pair

unfoldable pub queried : Phase → Pair → Changed
queried Down breaker = unchanged Down
queried (Starting l) breaker = begun (record { r = l.r; b = Some breaker; second = Some breaker; number = l.number })
queried (Running rec) breaker = unchanged (Running rec)

-- ---- "Down loses the record. Up makes a down node a starting one, with no clock yet."

abbrev no_clock : Dts
no_clock = record { 0 = 0 }

unfoldable pub went_down : Node
went_down = record { phase = Down; store = empty no_clock }

unfoldable pub went_up : Node
went_up = record { phase = Starting (record { r = None; b = None; second = None; number = None }); store = empty no_clock }
