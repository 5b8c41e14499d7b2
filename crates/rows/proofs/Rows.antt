-- Document 01's table of refusals, row by row: a step is answered with a row's number exactly when the row's condition is met and that of no row
-- which is checked earlier. The conditions and the order of the rows are in Conditions.antt.
use Rattle.std.specs.Prelude.{ℕ, ◌≤◌, ◌≡◌, refl, false, not, ◌↔◌}
use Rattle.std.proofs.Common.{sym, ap, ◌∙◌, true≢false, inl, inr, lit<}
use Rattle.time.specs.declared.Dts.{Dts}
use Rattle.steps.specs.declared.Step.{Step}
use Rattle.steps.specs.Named.{StepKind, tick, share_timeout, resend_timeout, command, down, named, is_kind}
use Rattle.node.specs.declared.Node.{Node}
use Rattle.site.specs.declared.Site.{Site}
use Rattle.rows.specs.Exactly.{None}
use Rattle.rows.specs.Conditions.{StartOutOfRange, OutsideItsRange, ActorCompromised, PhaseDoesNotTake, NeitherNowNorNext, BelowLastClock, NotFresh, NotVouchedFor, ReportNotNew, StampNotAbove, NotArmed, TooFewChanges, EnoughDown, TickAtTheLast, SiteOrRecordOutOfRange, refusal_table}
use Rattle.rows.specs.laws.Telling.{kind-is}
use Rattle.rows.proofs.laws.Cases.{told, told-done, told-at-most}
use Rattle.rows.specs.Rows as R
use Rattle.rows.specs.Rows.{commands}

-- for every site, number of records that are lent, record of the acting node, and step
module _ (site : Site) (lent : ℕ) (node : Node) (step : Step) where
  -- the step is answered with this number
  abbrev pub AnsweredWith : ℕ → Type 0
  AnsweredWith = R.AnsweredWith site lent node step

  -- no row that is checked before this one has its condition met
  abbrev pub NoneEarlier : ℕ → Type 0
  NoneEarlier = R.NoneEarlier site lent node step

  -- "done": no row at all has its condition met
  pub row-0 : AnsweredWith 0 ↔ None (refusal_table site lent node (named step))
  row-0 = told-done site lent node step

  -- "Start: f, k, status or g out of range, a compromised number not below n, more than f compromised, table shorter than n"
  pub row-1 : AnsweredWith 1 ↔ (NoneEarlier 1 × StartOutOfRange site lent node (named step))
  row-1 = told site lent node step 1 (lit< tt)

  -- "node or sender ≥ n, status above 1, back above 7"
  pub row-2 : AnsweredWith 2 ↔ (NoneEarlier 2 × OutsideItsRange site lent node (named step))
  row-2 = told site lent node step 2 (lit< tt)

  -- "the acting node (for Deliver, the receiver) is compromised"
  pub row-3 : AnsweredWith 3 ↔ (NoneEarlier 3 × ActorCompromised site lent node (named step))
  row-3 = told site lent node step 3 (lit< tt)

  -- "the node's phase does not take this step (Down of a down node, Up of another)"
  pub row-4 : AnsweredWith 4 ↔ (NoneEarlier 4 × PhaseDoesNotTake site lent node (named step))
  row-4 = told site lent node step 4 (lit< tt)

  -- "t is neither g nor g+1"
  pub row-5 : AnsweredWith 5 ↔ (NoneEarlier 5 × NeitherNowNorNext site lent node (named step))
  row-5 = told site lent node step 5 (lit< tt)

  -- "t is below that node's, or the breaker's, last accepted clock since it started"
  pub row-6 : AnsweredWith 6 ↔ (NoneEarlier 6 × BelowLastClock site lent node (named step))
  row-6 = told site lent node step 6 (lit< tt)

  -- "T not fresh at t"
  pub row-7 : AnsweredWith 7 ↔ (NoneEarlier 7 × NotFresh site lent node (named step))
  row-7 = told site lent node step 7 (lit< tt)

  -- "share not made by its correct sender; for Command, verdict no"
  pub row-8 : AnsweredWith 8 ↔ (NoneEarlier 8 × NotVouchedFor site lent node (named step))
  row-8 = told site lent node step 8 (lit< tt)

  -- "report not new"
  pub row-9 : AnsweredWith 9 ↔ (NoneEarlier 9 × ReportNotNew site lent node (named step))
  row-9 = told site lent node step 9 (lit< tt)

  -- 10 is never given: "10 is not given by Command from then on" (§4 of 02), and it was no other step's.
  pub row-10 : AnsweredWith 10 → ⊥
  row-10 e = ((told site lent node step 10 (lit< tt)).0 e).1

  -- "T ≤ breaker's stamp", and "only for a command that would change the status" (§4 of 02)
  pub row-11 : AnsweredWith 11 ↔ (NoneEarlier 11 × StampNotAbove site lent node (named step))
  row-11 = told site lent node step 11 (lit< tt)

  -- "timeout not armed"
  pub row-12 : AnsweredWith 12 ↔ (NoneEarlier 12 × NotArmed site lent node (named step))
  row-12 = told site lent node step 12 (lit< tt)

  -- "fewer changes than `back` + 1"
  pub row-13 : AnsweredWith 13 ↔ (NoneEarlier 13 × TooFewChanges site lent node (named step))
  row-13 = told site lent node step 13 (lit< tt)

  -- "Down: already k correct nodes down, by the site's own count"
  pub row-14 : AnsweredWith 14 ↔ (NoneEarlier 14 × EnoughDown site lent node (named step))
  row-14 = told site lent node step 14 (lit< tt)

  -- "Tick when g is 1,000,000,000"
  pub row-15 : AnsweredWith 15 ↔ (NoneEarlier 15 × TickAtTheLast site lent node (named step))
  row-15 = told site lent node step 15 (lit< tt)

  -- "any step but Start: no site started yet; a table shorter than n; a site number outside its range [..]; or the record of the acting node [..]"
  pub row-16 : AnsweredWith 16 ↔ (NoneEarlier 16 × SiteOrRecordOutOfRange site lent node (named step))
  row-16 = told site lent node step 16 (lit< tt)

  -- A step is answered with no other number.
  pub no_other : (number : ℕ) → AnsweredWith number → number ≤ 16
  no_other number e = rw (← e) (told-at-most site lent node step)

-- "A command for the status the breaker has, fresh and with verdict yes, is now done at any T" (§4 of 02): exactly when it has nothing of 16, 2, 5, 6, 7
-- and 8 against it.
module _ (site : Site) (lent : ℕ) (node : Node) (t : Dts) (A : ℕ) (T : Dts) (same : A ≡ site.breaker.pair.status) where
  pub done-at-any-stamp : AnsweredWith site lent node (commands t A T) 0
      ↔ ((SiteOrRecordOutOfRange site lent node (named (commands t A T)) → ⊥)
      × (OutsideItsRange site lent node (named (commands t A T)) → ⊥)
      × (NeitherNowNorNext site lent node (named (commands t A T)) → ⊥)
      × (BelowLastClock site lent node (named (commands t A T)) → ⊥)
      × (NotFresh site lent node (named (commands t A T)) → ⊥)
      × (NotVouchedFor site lent node (named (commands t A T)) → ⊥))
  done-at-any-stamp = (
    λ done. let no = (row-0 site lent node (commands t A T)).0 done in
        (no.0, no.1.1.0, no.1.1.1.1.1.0, no.1.1.1.1.1.1.0, no.1.1.1.1.1.1.1.0, no.1.1.1.1.1.1.1.1.0),
    λ no.
        (row-0 site lent node (commands t A T)).1
        (no.0, (absurd, (no.1, (absurd, (absurd, (no.2, (no.3, (no.4, (no.5, (absurd, (λ c. c.1.0 same, (no-timeout, (absurd, (λ c. other down refl c.0, (λ c. other tick refl c.0, tt))))))))))))))),
  )
    where
      other : (kind : StepKind) → is_kind command kind ≡ false → command ≡ kind → ⊥
      other kind differs e = true≢false (sym (ap not differs) ∙ (kind-is command kind).1 e)

      no-timeout : NotArmed site lent node (named (commands t A T)) → ⊥
      no-timeout (inl c) = other share_timeout refl c.0
      no-timeout (inr c) = other resend_timeout refl c.0
