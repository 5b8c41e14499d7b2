-- "The table of nodes is lent by the caller, one record for each node; a step changes the record of the node it names and no other. Tick and [a message] change
-- none. Start sets the first n and leaves the rest."
use Rattle.std.specs.Prelude.{ℕ, ◌≡◌, List, length, get_or, set, Option, None, Some, Ok, Err}
use Rattle.events.specs.Events.{went_down}
use Rattle.effects.specs.Effects.{first_record}
use Rattle.site.specs.Answers.{Answer}
use Rattle.site.specs.Site.{nodes}
use Rattle.loans.specs.Loans.{first_by, made_by}
use Rattle.lent.specs.declared.kinds.Turned.{Turned}
use Rattle.arbiter_steps.specs.declared.Step.{Step}
use Rattle.arbiter_steps.specs.declared.Step.TheVariants.{Start, Tick, AtNode, Life, AtBreaker}
use Rattle.arbiter_steps.specs.Steps.{named}
use Rattle.arbiter_node.specs.declared.Voter.{Voter}
use Rattle.arbiter_node.specs.Voter.{of_peer}
use Rattle.arbiter_site.specs.declared.Arbiter.{Arbiter}
use Rattle.arbiter_site.specs.declared.Out.{Out}
use Rattle.arbiter_site.specs.Steps.{stepped}

-- the record of a node that is down
abbrev pub down_voter : Voter
down_voter = of_peer went_down

-- the rule by which records are made at a start
abbrev pub rule : ℕ → ℕ → Voter
rule compromised i = of_peer (first_record compromised i)

-- the records that a Start makes, in front of those that it leaves
abbrev pub first_records : ℕ → ℕ → List Voter → List Voter
first_records = first_by rule

-- the same in a table of at least n records; a shorter one stays as it is
abbrev pub made_first : ℕ → ℕ → List Voter → List Voter
made_first = made_by rule

-- the record of the node that a step names, where the table has one
abbrev pub record_of : Option ℕ → List Voter → Voter
record_of None records = down_voter
record_of (Some i) records = get_or records i down_voter

-- the step with that record
unfoldable pub out_of : Arbiter → List Voter → Step → Out
out_of a records step = stepped a (length records) (record_of (named step).actor records) step

-- a step with the record of the acting node, as it is handed back
abbrev pub turned : Arbiter → ℕ → Voter → Step → Turned Arbiter Voter
turned a lent voter step =
    record { answer = (stepped a lent voter step).answer; site = (stepped a lent voter step).site; node = (stepped a lent voter step).node }

-- the table after an answer to a step
abbrev pub after_done : Step → List Voter → Voter → List Voter
after_done (Start b) records voter = first_records (nodes b.f b.k) b.compromised records
after_done Tick records voter = records
after_done (AtNode i t event) records voter = set records i voter
after_done (Life i turn) records voter = set records i voter
after_done (AtBreaker t m) records voter = records

-- a refused step changes none
abbrev pub table_after_answer : Answer → Step → List Voter → Voter → List Voter
table_after_answer (Ok sent) step records voter = after_done step records voter
table_after_answer (Err refusal) step records voter = records

unfoldable pub table_after : Arbiter → List Voter → Step → List Voter
table_after a records step = table_after_answer (out_of a records step).answer step records (out_of a records step).node

-- what is answered, and the site and the records afterwards
abbrev pub Said : Arbiter → List Voter → Step → Answer → Arbiter → List Voter → Type 0
Said a records step answer next left =
    (answer ≡ (out_of a records step).answer) × ((next ≡ (out_of a records step).site) × (left ≡ table_after a records step))
