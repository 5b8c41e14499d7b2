-- The combining rule, and the end of an event.
use Rattle.std.specs.Prelude.{ℕ, cond, Option, Some, None}
use Rattle.pairs.specs.declared.Pair.{Pair}
use Rattle.time.specs.declared.Dts.{Dts}
use Rattle.store.specs.declared.Store.{Store}
use Rattle.store.specs.Store.{put}
use Rattle.store.specs.Earliest.{earliest}
use Rattle.node.specs.declared.Record.{Record}
use Rattle.node.specs.declared.Phase.{Phase}
use Rattle.node.specs.declared.Phase.TheVariants.{Down, Starting, Running}
use Rattle.pairs.specs.declared.Pairs.{Pairs}
use Rattle.pairs.specs.declared.Pairs.TheVariants.{Zero, One, Two}
use Rattle.node.specs.declared.Changed.{Changed}
use Rattle.node.specs.declared.Acted.{Acted}
use Rattle.combining.specs.declared.Combined.{Combined}
use Rattle.combining.specs.declared.Ended.{Ended}
use Rattle.pairs.specs.Pair.{pair}
use Rattle.node.specs.State.{attempts}

-- "sends command (A, T), sets b to (A, T), arms resend"
abbrev pub commanding : Record → Option Dts → Combined
commanding rec (Some T) =
    record {
      rec = record { r = rec.r; b = pair rec.r.status T; second = rec.second; number = rec.number; resend = Some T };
      command = Some (pair rec.r.status T);
    }
commanding rec None = record { rec = rec; command = None }

-- "leaves it running in Attempt of A: if some fresh stamp above b's stamp is held from at least f+1 senders for A, it takes the earliest such T"
unfoldable pub combined : Record → Store → ℕ → Combined
combined rec store f =
    cond (attempts rec.r rec.b)
    (commanding rec (earliest store rec.r.status rec.b.stamp f))
    (record { rec = rec; command = None })

-- the rule is of a node that the step leaves running
abbrev pub ended : Phase → Store → ℕ → Ended
ended Down store f = record { phase = Down; command = None }
ended (Starting l) store f = record { phase = Starting l; command = None }
ended (Running rec) store f = record { phase = Running (combined rec store f).rec; command = (combined rec store f).command }

-- "Own shares count at once as delivered."
unfoldable pub put_all : Store → ℕ → Pairs → Store
put_all store i Zero = store
put_all store i (One p) = put store i p.status p.stamp
put_all store i (Two p q) = put (put store i p.status p.stamp) i q.status q.stamp

-- the commands of a step: the event's own, then that of the combining rule
abbrev pub followed : Option Pair → Option Pair → Pairs
followed (Some p) (Some q) = Two p q
followed (Some p) None = One p
followed None (Some q) = One q
followed None None = Zero

-- with the node's own shares in its store
abbrev finished_with : Changed → Store → ℕ → Acted
finished_with change own f =
    record {
      node = record { phase = (ended change.phase own f).phase; store = own };
      shares = change.shares;
      commands = followed change.command (ended change.phase own f).command;
    }

-- the end of an event at node i, which changed the phase so and left this store: its own shares are delivered to it, and the combining rule is applied
unfoldable pub finished : Changed → Store → ℕ → ℕ → Acted
finished change store i f = finished_with change (put_all store i change.shares) f
