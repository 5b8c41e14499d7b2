-- Document 01's table of refusals, row by row, of an Arbiter site: a step is answered with a row's number exactly when the row's condition is met and that of no
-- row which is checked earlier. The conditions and the order of the rows are in Conditions.antt.
use Rattle.std.specs.Prelude.{ℕ, ◌≤◌, ◌↔◌}
use Rattle.std.proofs.Common.{lit<}
use Rattle.rows.specs.Exactly.{None}
use Rattle.rows.specs.Conditions.{StartOutOfRange, OutsideItsRange, ActorCompromised, PhaseDoesNotTake, NeitherNowNorNext, BelowLastClock, NotFresh, NotVouchedFor, ReportNotNew, NotArmed, TooFewChanges, EnoughDown, TickAtTheLast}
use Rattle.arbiter_steps.specs.declared.Step.{Step}
use Rattle.arbiter_steps.specs.Steps.{named}
use Rattle.arbiter_node.specs.declared.Voter.{Voter}
use Rattle.arbiter_node.specs.Voter.{in_peer}
use Rattle.arbiter_site.specs.declared.Arbiter.{Arbiter}
use Rattle.arbiter_rows.specs.Conditions.{SiteOrRecordOutOfRange, refusal_table}
use Rattle.arbiter_rows.proofs.laws.Cases.{no-command, told, told-done, told-at-most}
use Rattle.arbiter_rows.specs.Rows as R

-- for every site, number of records that are lent, record of the acting node, and step
module _ (a : Arbiter) (lent : ℕ) (voter : Voter) (step : Step) where
  -- the step is answered with this number
  abbrev pub AnsweredWith : ℕ → Type 0
  AnsweredWith = R.AnsweredWith a lent voter step

  -- no row that is checked before this one has its condition met
  abbrev pub NoneEarlier : ℕ → Type 0
  NoneEarlier = R.NoneEarlier a lent voter step

  -- "done": no row at all has its condition met
  pub row-0 : AnsweredWith 0 ↔ None (refusal_table a lent voter (named step))
  row-0 = told-done a lent voter step

  -- "Start: f, k, status or g out of range, a compromised number not below n, more than f compromised, table shorter than n"
  pub row-1 : AnsweredWith 1 ↔ (NoneEarlier 1 × StartOutOfRange a.site lent (in_peer voter) (named step))
  row-1 = told a lent voter step 1 (lit< tt)

  -- "node or sender ≥ n, status above 1, back above 7"
  pub row-2 : AnsweredWith 2 ↔ (NoneEarlier 2 × OutsideItsRange a.site lent (in_peer voter) (named step))
  row-2 = told a lent voter step 2 (lit< tt)

  -- "the acting node is compromised"
  pub row-3 : AnsweredWith 3 ↔ (NoneEarlier 3 × ActorCompromised a.site lent (in_peer voter) (named step))
  row-3 = told a lent voter step 3 (lit< tt)

  -- "the node's phase does not take this step (Down of a down node, Up of another)"
  pub row-4 : AnsweredWith 4 ↔ (NoneEarlier 4 × PhaseDoesNotTake a.site lent (in_peer voter) (named step))
  row-4 = told a lent voter step 4 (lit< tt)

  -- "t is neither g nor g+1"
  pub row-5 : AnsweredWith 5 ↔ (NoneEarlier 5 × NeitherNowNorNext a.site lent (in_peer voter) (named step))
  row-5 = told a lent voter step 5 (lit< tt)

  -- "t is below that node's, or the breaker's, last accepted clock since it started"
  pub row-6 : AnsweredWith 6 ↔ (NoneEarlier 6 × BelowLastClock a.site lent (in_peer voter) (named step))
  row-6 = told a lent voter step 6 (lit< tt)

  -- "T not fresh at t"
  pub row-7 : AnsweredWith 7 ↔ (NoneEarlier 7 × NotFresh a.site lent (in_peer voter) (named step))
  row-7 = told a lent voter step 7 (lit< tt)

  -- "share not made by its correct sender"
  pub row-8 : AnsweredWith 8 ↔ (NoneEarlier 8 × NotVouchedFor a.site lent (in_peer voter) (named step))
  row-8 = told a lent voter step 8 (lit< tt)

  -- "report not new"
  pub row-9 : AnsweredWith 9 ↔ (NoneEarlier 9 × ReportNotNew a.site lent (in_peer voter) (named step))
  row-9 = told a lent voter step 9 (lit< tt)

  -- "10 and 11 are not given": both are a command's, and there is none.
  pub row-10 : AnsweredWith 10 → ⊥
  row-10 e = ((told a lent voter step 10 (lit< tt)).0 e).1

  pub row-11 : AnsweredWith 11 → ⊥
  row-11 e = no-command step ((told a lent voter step 11 (lit< tt)).0 e).1.0

  -- "timeout not armed"
  pub row-12 : AnsweredWith 12 ↔ (NoneEarlier 12 × NotArmed a.site lent (in_peer voter) (named step))
  row-12 = told a lent voter step 12 (lit< tt)

  -- "fewer changes than `back` + 1"
  pub row-13 : AnsweredWith 13 ↔ (NoneEarlier 13 × TooFewChanges a.site lent (in_peer voter) (named step))
  row-13 = told a lent voter step 13 (lit< tt)

  -- "Down: already k correct nodes down, by the site's own count"
  pub row-14 : AnsweredWith 14 ↔ (NoneEarlier 14 × EnoughDown a.site lent (in_peer voter) (named step))
  row-14 = told a lent voter step 14 (lit< tt)

  -- "Tick when g is 1,000,000,000"
  pub row-15 : AnsweredWith 15 ↔ (NoneEarlier 15 × TickAtTheLast a.site lent (in_peer voter) (named step))
  row-15 = told a lent voter step 15 (lit< tt)

  -- "any step but Start: no site started yet; a table shorter than n; a site number outside its range [..]; or the record of the acting node [..]"
  pub row-16 : AnsweredWith 16 ↔ (NoneEarlier 16 × SiteOrRecordOutOfRange a lent voter (named step))
  row-16 = told a lent voter step 16 (lit< tt)

  -- A step is answered with no other number.
  pub no_other : (number : ℕ) → AnsweredWith number → number ≤ 16
  no_other number e = rw (← e) (told-at-most a lent voter step)
