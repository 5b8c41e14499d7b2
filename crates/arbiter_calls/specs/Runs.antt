-- A run over calls: what each does, and its line, in sitelog's form; "a message that a node sends is `M`, node, status, `@`, stamp, an ack as there".
use Rattle.std.specs.Prelude.{◌≡◌, ℕ, ◌+◌, ◌%◌, ◌^◌, Bool, true, false, List, [], Option, None, Some, Ok, Err}
use Rattle.refusals.specs.Numbers.{number}
use Rattle.arbiter_steps.specs.declared.Step.{Step}
use Rattle.tables.specs.Tables.{table}
use Rattle.pairs.specs.declared.Pairs.{Pairs}
use Rattle.pairs.specs.declared.Pairs.TheVariants.{Zero, One, Two}
use Rattle.steps.specs.Named.{actor_or0}
use Rattle.site.specs.declared.Site.{Site}
use Rattle.site.specs.declared.Sent.{Sent}
use Rattle.site.specs.Answers.{Answer}
use Rattle.text.specs.Line.{line_with, message_line, shown_status, shown_stamp}
use Rattle.text.specs.Lines.{sent_messages, line_bytes, line_next}
use Rattle.arbiter_steps.specs.Steps.{named}
use Rattle.arbiter_site.specs.Site.{no_arbiter}
use Rattle.arbiter_lent.specs.Lent.{down_voter, out_of, table_after}
use Rattle.arbiter_calls.specs.declared.Run.{Run}
use Rattle.arbiter_calls.specs.declared.Ran.{Ran}
use Rattle.arbiter_calls.specs.Calls.{read_as}

-- before the first call there is no site
unfoldable pub first_run : Run
first_run = record { site = no_arbiter; nodes = table 12 (λ i. down_voter); lines = 0 }

-- ---- the line of an answer, the site being the one afterwards, and i the acting node

abbrev pub shared_text : Pairs → ℕ → ℕ → ℕ → ℕ → Sent → List ℕ
shared_text Zero number status stamp i sent = line_with number 0 status stamp i (sent_messages sent)
shared_text (One p) number status stamp i sent = message_line number status stamp i p
shared_text (Two p q) number status stamp i sent = line_with number 0 status stamp i (sent_messages sent)

abbrev pub done_text : ℕ → ℕ → ℕ → ℕ → Sent → List ℕ
done_text number status stamp i sent = shared_text sent.shares number status stamp i sent

abbrev pub answer_text : ℕ → Site → ℕ → Answer → List ℕ
answer_text line site i (Ok sent) = done_text line (shown_status site) (shown_stamp site) i sent
answer_text line site i (Err refusal) = line_with line (number refusal) (shown_status site) (shown_stamp site) 0 []

-- "A malformed record prints its line with 17 and ends the run"
abbrev pub malformed_text : ℕ → Site → List ℕ
malformed_text number site = line_with number 17 (shown_status site) (shown_stamp site) 0 []

-- ---- a call

-- the number of its line, in 64 bits
abbrev pub next_line : Run → ℕ
next_line run = (run.lines + 1) % 2 ^ 64

abbrev pub after : Option Step → Run → Run
after (Some step) run = record { site = (out_of run.site run.nodes step).site; nodes = table_after run.site run.nodes step; lines = next_line run }
after None run = record { site = run.site; nodes = run.nodes; lines = next_line run }

abbrev pub line_for : Option Step → Run → List ℕ
line_for (Some step) run =
    answer_text (next_line run) (out_of run.site run.nodes step).site.site (actor_or0 (named step).actor) (out_of run.site run.nodes step).answer
line_for None run = malformed_text (next_line run) run.site.site

abbrev pub ends : Option Step → Bool
ends (Some step) = false
ends None = true

-- the run after a call, whether it has ended, and its line at the front of the output
unfoldable pub ran_of : Run → List ℕ → List ℕ → Ran
ran_of run call out = record { run = after (read_as call) run; put = line_next out 0 (line_for (read_as call) run); ended = ends (read_as call) }

abbrev pub Took : Run → List ℕ → List ℕ → List ℕ → Ran → Type 0
Took run call before left ran = (ran ≡ ran_of run call before) × (left ≡ line_bytes before 0 (line_for (read_as call) run))
