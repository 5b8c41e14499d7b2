-- A site with its table, and every sequence of steps, "each given the site and table the last one left".
use Rattle.std.specs.Prelude.{ℕ, ◌≡◌, Bool, true, List, get_or}
use Rattle.time.specs.declared.Dts.{Dts}
use Rattle.store.specs.Held.{held}
use Rattle.node.specs.declared.Node.{Node}
use Rattle.events.specs.Events.{went_down}
use Rattle.steps.specs.declared.Step.{Step}
use Rattle.site.specs.declared.Site.{Site}
use Rattle.lent.specs.Lent.{out_of, table_after}
use Rattle.site.specs.Answers.{is_done, Answer}
use Rattle.history.specs.Sequences as Of
pub use Rattle.history.specs.Sequences.{from, then}
use Rattle.sequences.specs.History.{Entry}

pub record Moment : Type 0 where
  pub site : Site
  pub records : List Node

abbrev pub answer_to : Moment → Step → Answer
answer_to m step = (out_of m.site m.records step).answer

abbrev pub after_step : Moment → Step → Moment
after_step m step = record { site = (out_of m.site m.records step).site; records = table_after m.site m.records step }

abbrev pub entry : Moment → Step → Entry
entry m step = record { step = step; answer = answer_to m step }

-- From a first moment a history leads to another: by any steps, accepted and refused, of every kind.
abbrev pub Reached : Moment → List Entry → Moment → Type 0
Reached = Of.Reached answer_to after_step

-- the step is accepted at this moment
abbrev pub Accepts : Moment → Step → Type 0
Accepts m step = is_done (answer_to m step) ≡ true

-- the record of node j, and what that node holds
abbrev pub node_at : Moment → ℕ → Node
node_at m j = get_or m.records j went_down

abbrev pub holds : Moment → ℕ → ℕ → Dts → ℕ → Bool
holds m j A T i = held (node_at m j).store A T i
