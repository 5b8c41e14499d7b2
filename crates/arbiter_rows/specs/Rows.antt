-- Document 01's table of refusals, row by row, of an Arbiter site: a step is answered with a row's number exactly when the row's condition is met and that of no
-- row which is checked earlier. The conditions and the order of the rows are in Conditions.antt.
use Rattle.std.specs.Prelude.{ℕ, ◌≡◌}
use Rattle.rows.specs.Exactly.{NoneBefore}
use Rattle.arbiter_steps.specs.declared.Step.{Step}
use Rattle.arbiter_steps.specs.Steps.{named}
use Rattle.arbiter_node.specs.declared.Voter.{Voter}
use Rattle.arbiter_site.specs.declared.Arbiter.{Arbiter}
use Rattle.site.specs.Answers.{number_of}
use Rattle.arbiter_site.specs.Steps.{stepped}
use Rattle.arbiter_rows.specs.Conditions.{refusal_table}

-- for every site, number of records that are lent, record of the acting node, and step
module _ (a : Arbiter) (lent : ℕ) (voter : Voter) (step : Step) where
  -- the number that the step is answered with
  abbrev pub answered_with : ℕ
  answered_with = number_of (stepped a lent voter step).answer

  -- the step is answered with this number
  abbrev pub AnsweredWith : ℕ → Type 0
  AnsweredWith number = answered_with ≡ number

  -- no row that is checked before this one has its condition met
  abbrev pub NoneEarlier : ℕ → Type 0
  NoneEarlier number = NoneBefore number (refusal_table a lent voter (named step))
