-- "The table of nodes is lent by the caller, one record for each node; a step changes the record of the node it names and no other. Tick and
-- Command change none. Start sets the first n and leaves the rest."
use Rattle.std.specs.Prelude.{ℕ, ◌≡◌, List, ◌++◌, length, get_or, set, take, drop, Option, None, Some, Ok, Err}
use Rattle.node.specs.declared.Node.{Node}
use Rattle.events.specs.Events.{went_down}
use Rattle.steps.specs.declared.Step.{Step}
use Rattle.steps.specs.Named.{named}
use Rattle.steps.specs.declared.Step.TheVariants.{Start, Tick, AtNode, Life, AtBreaker}
use Rattle.site.specs.declared.Site.{Site}
use Rattle.site.specs.Answers.{Answer}
use Rattle.site.specs.declared.Out.{Out}
use Rattle.site.specs.Site.{nodes}
use Rattle.stepping.specs.Steps.{stepped}
use Rattle.loans.specs.Loans.{first_records}
use Rattle.lent.specs.declared.kinds.Turned.{Turned}

-- the record of the node that a step names, where the table has one
abbrev pub record_of : Option ℕ → List Node → Node
record_of None records = went_down
record_of (Some i) records = get_or records i went_down

-- the step with that record
unfoldable pub out_of : Site → List Node → Step → Out
out_of site records step = stepped site (length records) (record_of (named step).actor records) step

-- a step with the record of the acting node, as it is handed back
abbrev pub turned : Site → ℕ → Node → Step → Turned Site Node
turned site lent node step =
    record { answer = (stepped site lent node step).answer; site = (stepped site lent node step).site; node = (stepped site lent node step).node }

-- the table after an answer to a step
abbrev pub after_done : Step → List Node → Node → List Node
after_done (Start b) records node = first_records (nodes b.f b.k) b.compromised records
after_done Tick records node = records
after_done (AtNode i t event) records node = set records i node
after_done (Life i turn) records node = set records i node
after_done (AtBreaker t act) records node = records

-- a refused step changes none: "Every refusal sends nothing and leaves site, table and clocks unchanged."
abbrev pub table_after_answer : Answer → Step → List Node → Node → List Node
table_after_answer (Ok sent) step records node = after_done step records node
table_after_answer (Err refusal) step records node = records

unfoldable pub table_after : Site → List Node → Step → List Node
table_after site records step = table_after_answer (out_of site records step).answer step records (out_of site records step).node

-- what is answered, and the site and the records afterwards
abbrev pub Said : Site → List Node → Step → Answer → Site → List Node → Type 0
Said site records step answer next left =
    (answer ≡ (out_of site records step).answer) × ((next ≡ (out_of site records step).site) × (left ≡ table_after site records step))

-- the same where the first records alone are lent: the others stay
abbrev pub SaidWithin : Site → List Node → ℕ → Step → Answer → Site → List Node → Type 0
SaidWithin site records count step answer next left =
    (answer ≡ (out_of site (take count records) step).answer)
    × ((next ≡ (out_of site (take count records) step).site) × (left ≡ table_after site (take count records) step ++ drop count records))
