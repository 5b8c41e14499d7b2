-- Document 01's table of refusals, row by row: a step is answered with a row's number exactly when the row's condition is met and that of no row
-- which is checked earlier. The conditions and the order of the rows are in Conditions.antt.
use Rattle.std.specs.Prelude.{ℕ, ◌≡◌}
use Rattle.time.specs.declared.Dts.{Dts}
use Rattle.steps.specs.declared.Step.{Step}
use Rattle.steps.specs.declared.Step.TheVariants.{AtBreaker}
use Rattle.steps.specs.Named.{named}
use Rattle.node.specs.declared.Node.{Node}
use Rattle.site.specs.declared.Site.{Site}
use Rattle.rows.specs.Exactly.{NoneBefore}
use Rattle.rows.specs.Conditions.{refusal_table}
use Rattle.rows.specs.laws.Answered.{answered_with}

-- for every site, number of records that are lent, record of the acting node, and step
module _ (site : Site) (lent : ℕ) (node : Node) (step : Step) where
  -- the step is answered with this number
  abbrev pub AnsweredWith : ℕ → Type 0
  AnsweredWith number = answered_with site lent node step ≡ number

  -- no row that is checked before this one has its condition met
  abbrev pub NoneEarlier : ℕ → Type 0
  NoneEarlier number = NoneBefore number (refusal_table site lent node (named step))

-- the command (A, T) at the breaker's clock t
abbrev pub commands : Dts → ℕ → Dts → Step
commands t A T = AtBreaker t (record { status = A; stamp = T })
