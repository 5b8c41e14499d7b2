-- What a report leaves, and what it shares. §1 of 02: "a report at a node that knows b stamps r with the larger of t and b's stamp, so no report ends in
-- Wait. Shares still carry t and t+1."
use Rattle.std.specs.Prelude.{ℕ, ◌≡◌, Bool, true, false, not, ◌&&◌, eqb, Option, None, Some}
use Rattle.std.proofs.Math.Path.{refl, ap, subst}
use Rattle.std.proofs.Common.{sym, ◌∙◌, le-leb}
use Rattle.std.proofs.Math.Bool.{cond}
use Rattle.std.proofs.lemmas.Bool.{false≢true}
use Rattle.refusals.specs.laws.Bools.{and-true}
use Rattle.time.specs.declared.Dts.{Dts}
use Rattle.time.specs.Fresh.{next}
use Rattle.time.specs.Larger.{larger}
use Rattle.time.specs.laws.Larger.{larger-second}
use Rattle.pairs.specs.declared.Pair.{Pair}
use Rattle.pairs.specs.declared.Pairs.TheVariants.{Zero, Two}
use Rattle.pairs.specs.Pair.{pair}
use Rattle.pairs.specs.laws.KnownLaws.{known_as, none-known, same_known}
use Rattle.node.specs.declared.Learned.{Learned}
use Rattle.node.specs.declared.Record.{Record}
use Rattle.node.specs.declared.Phase.{Phase}
use Rattle.node.specs.declared.Phase.TheVariants.{Down, Starting, Running}
use Rattle.node.specs.State.{state, attempts, says_wait}
use Rattle.node.specs.laws.State.{no-older-no-wait}
use Rattle.node.specs.Asked.{phase_down, phase_running, phase_attempt, known_b}
use Rattle.events.specs.Events.{once_known, begun, report_stamp, report_shares, report_running, report_starting, reported}

-- whatever the status reported, the state that the stamp leads to is not Wait
pub stamped-no-wait : (A : ℕ) (t : Dts) (b : Pair) → says_wait (state (pair A (report_stamp (Some b) t)) b) ≡ false
stamped-no-wait A t b = no-older-no-wait (pair A (report_stamp (Some b) t)) b (larger-second t b.stamp)

-- a running record with b as it was and r so stamped
abbrev pub Stamped : ℕ → Dts → Pair → Phase → Type 0
Stamped A t b p = (rec : Record) × (p ≡ Running rec) × (rec.r ≡ pair A (larger t b.stamp)) × (rec.b ≡ b)

-- starting up, with r stamped t
abbrev pub Told : ℕ → Dts → Phase → Type 0
Told A t p = (l : Learned) × (p ≡ Starting l) × (l.r ≡ Some (pair A t))

-- "If a running node was not in Attempt and now is": no report ends in Wait, so it now is where the status reported is not b's
abbrev pub enters_by : ℕ → Phase → Bool
enters_by A p = phase_running p && not (phase_attempt p) && not (known_as A (known_b p))

module _ (t : Dts) (A number : ℕ) where
  -- a node that knows b runs after a report, and b is as it was
  pub report-knowing : (p : Phase) (b : Pair) → known_b p ≡ Some b → Stamped A t b (reported p t A number).phase
  unfolding reported report_running report_starting begun
  report-knowing Down b e = absurd (none-known e)
  report-knowing (Starting l) b e =
      subst (λ (k : Option Pair). Stamped A t b (once_known (record { r = Some (pair A (report_stamp k t)); b = k; second = l.second; number = Some number })))
      (sym e) (_, refl, refl, refl)
  report-knowing (Running rec) b e = let q : rec.b ≡ b = same_known rec.b b e in (_, refl, ap (λ (x : Pair). pair A (larger t x.stamp)) q, q)

  -- one that knows no b goes on starting up
  pub report-unknowing : (p : Phase) → not (phase_down p) ≡ true → known_b p ≡ None → Told A t (reported p t A number).phase
  unfolding reported report_running report_starting begun
  report-unknowing Down up e = absurd (false≢true up)
  report-unknowing (Starting l) up e =
      subst (λ (k : Option Pair). Told A t (once_known (record { r = Some (pair A (report_stamp k t)); b = k; second = l.second; number = Some number }))) (sym e) (_, refl, refl)
  report-unknowing (Running rec) up e = absurd (none-known (sym e))

  -- a report shares its status with t and with t + 1 exactly when the node runs, was not in Attempt, and b has another status
  pub report-shares : (p : Phase) → (reported p t A number).shares ≡ cond (enters_by A p) (Two (pair A t) (pair A (next t))) Zero
  unfolding reported report_running report_starting report_shares begun
  report-shares Down = refl
  report-shares (Starting l) = refl
  report-shares (Running rec) =
      ap (λ (x : Bool). cond (not (attempts rec.r rec.b) && (not (eqb A rec.b.status) && x)) (Two (pair A t) (pair A (next t))) Zero)
      (le-leb _ _ (larger-second t rec.b.stamp))
      ∙ ap (λ (x : Bool). cond (not (attempts rec.r rec.b) && x) (Two (pair A t) (pair A (next t))) Zero) (and-true _)
