-- What a running node takes for the breaker's status and stamp, b, moves only by an ack, by a command that it sends in that step, or, at a resend timeout
-- whose stamp is no longer fresh, back to the second pair (§9 of 02). So its stamp can fall, and then alone.
use Rattle.std.specs.Prelude.{ℕ, ◌≡◌, true, ◌⊎◌, Option, Some}
use Rattle.std.proofs.Common.{sym, ap, subst, ◌∙◌, inl, inr}
use Rattle.time.specs.declared.Dts.{Dts}
use Rattle.store.specs.declared.Store.{Store}
use Rattle.pairs.specs.declared.Pair.{Pair}
use Rattle.pairs.specs.declared.Pairs.{Pairs}
use Rattle.pairs.specs.Pair.{listed, has}
use Rattle.pairs.specs.laws.KnownLaws.{same_known}
use Rattle.node.specs.declared.Record.{Record}
use Rattle.node.specs.declared.Phase.{Phase}
use Rattle.node.specs.declared.Phase.TheVariants.{Running}
use Rattle.node.specs.declared.Node.{Node}
use Rattle.node.specs.Asked.{phase_running, known_b}
use Rattle.combining.specs.Combining.{ended, followed, finished, put_all}
use Rattle.combining.specs.laws.CombiningLaws.{ended-b, followed-has}
use Rattle.breaker.specs.declared.Breaker.{Breaker}
use Rattle.steps.specs.declared.Event.{Event}
use Rattle.acting.specs.Acting.{changed_by, stored, acted}
use Rattle.acting.specs.laws.ByEvent.{BreakerLeft, b-stays, b-learned, b-returns, left_by}
pub use Rattle.acting.specs.laws.ByEvent.{Acked, Returned}

-- b as it was, as an ack made it, as sent, or returned
abbrev pub MovedTo : Breaker → Dts → Event → Phase → Pair → Pair → Pairs → Type 0
MovedTo breaker t event p old new commands =
    (new ≡ old) ⊎ Acked breaker event new ⊎ (has (listed commands) new.status new.stamp ≡ true) ⊎ Returned t event p new

pub moved_to : (breaker : Breaker) (node : Node) (i f : ℕ) (t : Dts) (event : Event) (rec new : Record) → node.phase ≡ Running rec
    → (acted breaker node i f t event).node.phase ≡ Running new → MovedTo breaker t event node.phase rec.b new.b (acted breaker node i f t event).commands
unfolding acted finished
moved_to breaker node i f t event rec new runs e = go (ended-b own f left new e)
  where
    left : Phase
    left = (changed_by breaker node.phase t event).phase

    own : Store
    own = put_all (stored node.phase node.store t event) i (changed_by breaker node.phase t event).shares

    before : Option Pair
    before = (changed_by breaker node.phase t event).command

    Moved : Type 0
    Moved = MovedTo breaker t event node.phase rec.b new.b (followed before (ended left own f).command)

    as_it_was : known_b node.phase ≡ Some new.b → Moved
    as_it_was h = inl (same_known new.b rec.b (sym h ∙ ap known_b runs))

    by-ack : (known_b node.phase ≡ Some new.b) ⊎ Acked breaker event new.b → Moved
    by-ack (inl h) = as_it_was h
    by-ack (inr h) = inr (inl h)

    by-return : (known_b node.phase ≡ Some new.b) ⊎ Returned t event node.phase new.b → Moved
    by-return (inl h) = as_it_was h
    by-return (inr h) = inr (inr (inr h))

    -- before the combining rule
    event-moved : BreakerLeft breaker t event node.phase left → known_b left ≡ Some new.b → Moved
    event-moved (b-stays no-news same) h = as_it_was (sym same ∙ h)
    event-moved (b-learned is-news known moves) h = by-ack (moves (ap phase_running runs) new.b h)
    event-moved (b-returns no-news same moves) h = by-return (moves new.b h)

    go : (known_b left ≡ Some new.b) ⊎ ((ended left own f).command ≡ Some new.b) → Moved
    go (inl h) = event-moved (left_by breaker node.phase t event).of-phase.b h
    go (inr h) =
        inr
        (inr
        (inl
        (subst (λ (k : Option Pair). has (listed (followed before k)) new.b.status new.b.stamp ≡ true) (sym h)
        (followed-has before new.b))))
