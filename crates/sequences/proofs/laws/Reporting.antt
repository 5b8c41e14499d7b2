-- §1 of 02: "a report at a node that knows b stamps r with the larger of t and b's stamp, so no report ends in Wait. Shares still carry t and t+1."
-- Of an accepted report at any moment whatever, reached or not, and of what the lent table has afterwards.
use Rattle.std.specs.Prelude.{ℕ, ◌≡◌, cond, Some, None, Ok}
use Rattle.time.specs.declared.Dts.{Dts}
use Rattle.time.specs.Fresh.{next}
use Rattle.pairs.specs.declared.Pair.{Pair}
use Rattle.pairs.specs.declared.Pairs.TheVariants.{Zero, Two}
use Rattle.pairs.specs.Pair.{pair}
use Rattle.node.specs.Asked.{known_b}
use Rattle.events.specs.laws.ReportLaws.{Told, enters_by}
use Rattle.steps.specs.declared.Event.TheVariants.{Report}
use Rattle.steps.specs.declared.Step.{Step}
use Rattle.steps.specs.declared.Step.TheVariants.{AtNode}
use Rattle.acting.specs.laws.Reports.{RunsUnwaiting, report-unwaiting, report-told, report-shared}
use Rattle.site.specs.declared.Sent.{Sent}
use Rattle.sequences.specs.Moments.{Moment, Accepts, answer_to, node_at}
use Rattle.sequences.proofs.laws.OneEvent.{phase_after, event-leaves, event-sends}

-- the step: node j's relay reports A with a state number
abbrev pub reports : ℕ → Dts → ℕ → ℕ → Step
reports j t A number = AtNode j t (Report A number)

-- A report at a node that knows b leaves it running and not in Wait.
abbrev pub NoReportWaits : Type 0
NoReportWaits =
    (m : Moment) (j : ℕ) (t : Dts) (A number : ℕ) → Accepts m (reports j t A number) → (b : Pair) → known_b (node_at m j).phase ≡ Some b
    → RunsUnwaiting A t b (phase_after m (reports j t A number) j)

-- One at a node that knows no b leaves it starting up, with r stamped t as in 01.
abbrev pub StampedAsBefore : Type 0
StampedAsBefore =
    (m : Moment) (j : ℕ) (t : Dts) (A number : ℕ) → Accepts m (reports j t A number) → known_b (node_at m j).phase ≡ None
    → Told A t (phase_after m (reports j t A number) j)

-- It shares its status with t and with t + 1 exactly when the node runs, was not in Attempt, and b has another status.
abbrev pub SharesOnEntering : Type 0
SharesOnEntering =
    (m : Moment) (j : ℕ) (t : Dts) (A number : ℕ) (sent : Sent) → answer_to m (reports j t A number) ≡ Ok sent
    → sent.shares ≡ cond (enters_by A (node_at m j).phase) (Two (pair A t) (pair A (next t))) Zero

pub no-report-waits : NoReportWaits
no-report-waits m j t A number is-done b e =
    event-leaves m j t (Report A number) (RunsUnwaiting A t b) (λ up l. report-unwaiting m.site.breaker (node_at m j) j m.site.f t A number b e) is-done

pub stamped-as-before : StampedAsBefore
stamped-as-before m j t A number is-done e =
    event-leaves m j t (Report A number) (Told A t) (λ up l. report-told m.site.breaker (node_at m j) j m.site.f t A number up e) is-done

pub shares-on-entering : SharesOnEntering
shares-on-entering m j t A number sent e =
    event-sends m j t (Report A number) (λ sent. sent.shares ≡ cond (enters_by A (node_at m j).phase) (Two (pair A t) (pair A (next t))) Zero)
    (λ up l. report-shared m.site.breaker (node_at m j) j m.site.f t A number) sent e
