-- An Arbiter site with its table, and every sequence of steps, "each given the site and table the last one left".
use Rattle.std.specs.Prelude.{ℕ, List, get_or}
use Rattle.site.specs.Answers.{Answer}
use Rattle.history.specs.Sequences as Of
pub use Rattle.history.specs.Sequences.{from, then}
use Rattle.arbiter_steps.specs.declared.Step.{Step}
use Rattle.arbiter_node.specs.declared.Voter.{Voter}
use Rattle.arbiter_site.specs.declared.Arbiter.{Arbiter}
use Rattle.arbiter_lent.specs.Lent.{down_voter, out_of, table_after}
use Rattle.arbiter_sequences.specs.History.{Entry}

pub record Moment : Type 0 where
  pub site : Arbiter
  pub records : List Voter

abbrev pub answer_to : Moment → Step → Answer
answer_to m step = (out_of m.site m.records step).answer

abbrev pub after_step : Moment → Step → Moment
after_step m step = record { site = (out_of m.site m.records step).site; records = table_after m.site m.records step }

abbrev pub entry : Moment → Step → Entry
entry m step = record { step = step; answer = answer_to m step }

-- From a first moment a history leads to another: by any steps, accepted and refused, of every kind.
abbrev pub Reached : Moment → List Entry → Moment → Type 0
Reached = Of.Reached answer_to after_step

-- the record of node j
abbrev pub node_at : Moment → ℕ → Voter
node_at m j = get_or m.records j down_voter
