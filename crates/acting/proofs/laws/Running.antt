-- Whether a node runs after an event, and what it knows of the breaker then.
use Rattle.std.specs.Prelude.{ℕ, ◌≡◌, true, not, ◌||◌, [], ◌∷◌}
use Rattle.std.proofs.Common.{sym, ap, ◌∙◌}
use Rattle.std.proofs.Math.Bool.{Bool}
use Rattle.time.specs.declared.Dts.{Dts}
use Rattle.pairs.specs.laws.KnownLaws.{is_known}
use Rattle.node.specs.declared.Record.{Record}
use Rattle.node.specs.declared.Phase.{Phase}
use Rattle.node.specs.declared.Phase.TheVariants.{Running}
use Rattle.node.specs.declared.Node.{Node}
use Rattle.node.specs.Asked.{phase_down, phase_running, known_b}
use Rattle.node.specs.laws.PhaseLaws.{running-record, GoesOn, goes_then}
use Rattle.combining.specs.Combining.{finished}
use Rattle.combining.specs.laws.CombiningLaws.{Quiet, ended-knows, ended-goes, ended-quiet}
use Rattle.breaker.specs.declared.Breaker.{Breaker}
use Rattle.steps.specs.declared.Event.{Event}
use Rattle.steps.specs.Named.{ack, query, said_by, among}
use Rattle.acting.specs.Acting.{changed_by, acted}
use Rattle.acting.specs.laws.ByEvent.{BreakerLeft, b-stays, b-learned, b-returns, left_by}
pub use Rattle.acting.specs.laws.ByEvent.{remembers}

module _ (breaker : Breaker) (node : Node) (i f : ℕ) (t : Dts) (event : Event) where
  abbrev before : Phase
  before = node.phase

  abbrev left : Phase
  left = (changed_by breaker node.phase t event).phase

  abbrev after : Phase
  after = (acted breaker node i f t event).node.phase

  -- a node that is not down stays so, one that runs stays running, and one that starts up runs exactly when r and b are both known then
  pub goes_on : GoesOn before after
  unfolding acted finished
  goes_on = goes_then (left_by breaker before t event).of-phase.goes (ended-goes _ f left)

  pub stays-running : phase_running before ≡ true → (new : Record) × (after ≡ Running new)
  stays-running e = running-record after (goes_on.runs_on e)

  -- b is known once an ack or a query was taken
  pub breaker-known : not (phase_down before) ≡ true → remembers breaker event ≡ true
      → is_known (known_b after) ≡ (among (said_by event).kind (ack ∷ query ∷ []) || is_known (known_b before))
  unfolding acted finished
  breaker-known up r = ended-knows _ f left ∙ go (left_by breaker before t event).of-phase.b
    where
      by : Bool → Bool
      by x = x || is_known (known_b before)

      go : BreakerLeft breaker t event before left → is_known (known_b left) ≡ (among (said_by event).kind (ack ∷ query ∷ []) || is_known (known_b before))
      go (b-stays no-news same) = ap is_known same ∙ sym (ap by no-news)
      go (b-learned is-news known moves) = known up r ∙ sym (ap by is-news)
      go (b-returns no-news same moves) = same ∙ sym (ap by no-news)

  -- nothing is left to combine
  pub left-quiet : (new : Record) → after ≡ Running new → Quiet new (acted breaker node i f t event).node.store f
  unfolding acted finished
  left-quiet new e = ended-quiet _ f left new e
