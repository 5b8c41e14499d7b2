-- A Report to its end. §1 of 02: "a report at a node that knows b stamps r with the larger of t and b's stamp, so no report ends in Wait. Shares still carry
-- t and t+1."
use Rattle.std.specs.Prelude.{ℕ, ◌≡◌, refl, true, false, not, cond, Some, None}
use Rattle.std.proofs.Common.{sym, subst, ◌∙◌}
use Rattle.time.specs.declared.Dts.{Dts}
use Rattle.time.specs.Fresh.{next}
use Rattle.time.specs.Larger.{larger}
use Rattle.store.specs.declared.Store.{Store}
use Rattle.pairs.specs.declared.Pair.{Pair}
use Rattle.pairs.specs.declared.Pairs.TheVariants.{Zero, Two}
use Rattle.pairs.specs.Pair.{pair}
use Rattle.node.specs.declared.Record.{Record}
use Rattle.node.specs.declared.Phase.{Phase}
use Rattle.node.specs.declared.Phase.TheVariants.{Running}
use Rattle.node.specs.declared.Node.{Node}
use Rattle.node.specs.State.{state, says_wait}
use Rattle.node.specs.Asked.{phase_down, known_b}
use Rattle.combining.specs.Combining.{ended, put_all, finished}
use Rattle.combining.specs.laws.CombiningLaws.{combined-r, combined-no-wait, ended-starting}
use Rattle.events.specs.Events.{reported}
use Rattle.events.specs.laws.ReportLaws.{Stamped, Told, enters_by, stamped-no-wait, report-knowing, report-unknowing, report-shares}
use Rattle.breaker.specs.declared.Breaker.{Breaker}
use Rattle.steps.specs.declared.Event.TheVariants.{Report}
use Rattle.acting.specs.Acting.{changed_by, stored, acted}

-- running, with r stamped as §1 says for this b, and not in Wait
abbrev pub RunsUnwaiting : ℕ → Dts → Pair → Phase → Type 0
RunsUnwaiting A t b p = (rec : Record) × (p ≡ Running rec) × (rec.r ≡ pair A (larger t b.stamp)) × (says_wait (state rec.r rec.b) ≡ false)

module _ (breaker : Breaker) (node : Node) (i f : ℕ) (t : Dts) (A number : ℕ) where
  -- A report at a node that knows b leaves it running and not in Wait.
  pub report-unwaiting : (b : Pair) → known_b node.phase ≡ Some b → RunsUnwaiting A t b (acted breaker node i f t (Report A number)).node.phase
  unfolding acted finished changed_by
  report-unwaiting b e = go (report-knowing t A number node.phase b e)
    where
      left : Phase
      left = (reported node.phase t A number).phase

      own : Store
      own = put_all (stored node.phase node.store t (Report A number)) i (reported node.phase t A number).shares

      go : Stamped A t b left → RunsUnwaiting A t b (ended left own f).phase
      go (rec, runs, r, same) =
          subst (λ (p : Phase). RunsUnwaiting A t b (ended p own f).phase) (sym runs)
          (_, refl, combined-r rec own f ∙ r, combined-no-wait rec own f (rw (r, same) (stamped-no-wait A t b)))

  -- One at a node that knows no b leaves it starting up, with r stamped t as in 01.
  pub report-told : not (phase_down node.phase) ≡ true → known_b node.phase ≡ None → Told A t (acted breaker node i f t (Report A number)).node.phase
  unfolding acted finished changed_by
  report-told up e = go (report-unknowing t A number node.phase up e)
    where
      left : Phase
      left = (reported node.phase t A number).phase

      own : Store
      own = put_all (stored node.phase node.store t (Report A number)) i (reported node.phase t A number).shares

      go : Told A t left → Told A t (ended left own f).phase
      go (l, starts, r) = (l, ended-starting own f l left starts, r)

  -- It shares its status with t and with t + 1 exactly when the node runs, was not in Attempt, and b has another status.
  pub report-shared : (acted breaker node i f t (Report A number)).shares ≡ cond (enters_by A node.phase) (Two (pair A t) (pair A (next t))) Zero
  unfolding acted finished changed_by
  report-shared = report-shares t A number node.phase
