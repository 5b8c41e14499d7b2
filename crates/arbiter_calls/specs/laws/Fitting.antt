-- The line of a call has its place in a buffer with room for the longest: its first bytes, as many as were put, are the line, whole.
use Rattle.std.specs.Prelude.{◌≡◌, ℕ, ◌+◌, ◌≤◌, Bool, cond, List, length, take, Option, None, Some, Ok, Err}
use Rattle.refusals.specs.declared.Refusal.TheVariants.{Malformed}
use Rattle.refusals.specs.Numbers.{number}
use Rattle.arbiter_steps.specs.declared.Step.{Step}
use Rattle.std.proofs.Math.Path.{ap}
use Rattle.std.proofs.Common.{◌∙◌, arith, le-leb}
use Rattle.std.proofs.Math.Nat.{zero-add}
use Rattle.std.proofs.lemmas.List.Edits.{sets}
use Rattle.std.proofs.Math.Seq.{length-sets}
use Rattle.pairs.specs.declared.Pairs.{Pairs}
use Rattle.pairs.specs.declared.Pairs.TheVariants.{Zero, One, Two}
use Rattle.steps.specs.Named.{actor_or0}
use Rattle.site.specs.declared.Site.{Site}
use Rattle.site.specs.declared.Sent.{Sent}
use Rattle.site.specs.Answers.{Answer}
use Rattle.text.specs.Line.{shown_status, shown_stamp}
use Rattle.text.specs.Lines.{longest_line, line_bytes, line_next}
use Rattle.text.specs.laws.Lengths.{line-short, message-short, put_front}
use Rattle.arbiter_steps.specs.Steps.{named}
use Rattle.arbiter_lent.specs.Lent.{out_of}
use Rattle.arbiter_calls.specs.declared.Run.{Run}
use Rattle.arbiter_calls.specs.declared.Ran.{Ran}
use Rattle.arbiter_calls.specs.Calls.{read_as}
use Rattle.arbiter_calls.specs.Runs.{shared_text, answer_text, next_line, line_for, ran_of, Took}

shared-short : (shares : Pairs) (number status stamp i : ℕ) (sent : Sent) → length (shared_text shares number status stamp i sent) ≤ longest_line
shared-short Zero number status stamp i sent = line-short number 0 status stamp i (Ok sent)
shared-short (One p) number status stamp i sent = message-short number status stamp i p
shared-short (Two p q) number status stamp i sent = line-short number 0 status stamp i (Ok sent)

answer-short : (number : ℕ) (site : Site) (i : ℕ) (answer : Answer) → length (answer_text number site i answer) ≤ longest_line
answer-short line site i (Ok sent) = shared-short sent.shares line (shown_status site) (shown_stamp site) i sent
answer-short line site i (Err refusal) = line-short line (number refusal) (shown_status site) (shown_stamp site) 0 (Err refusal)

line-fits : (found : Option Step) (run : Run) → length (line_for found run) ≤ longest_line
line-fits (Some step) run = answer-short (next_line run) (out_of run.site run.nodes step).site.site (actor_or0 (named step).actor) (out_of run.site run.nodes step).answer
line-fits None run = line-short (next_line run) 17 (shown_status run.site.site) (shown_stamp run.site.site) 0 (Err Malformed)

-- What `take` leaves: the bytes that it says it has put are the line, and nothing else.
module _ (run : Run) (call before left : List ℕ) (ran : Ran) (room : longest_line ≤ length before) (took : Took run call before left ran) where
  abbrev text : List ℕ
  text = line_for (read_as call) run

  put_is : ran.put ≡ length text
  unfolding ran_of line_next
  put_is = ap (λ (r : Ran). r.put) took.0 ∙ ap (λ (b : Bool). cond b (0 + length text) 0) (le-leb longest_line (length before) room) ∙ zero-add (length text)

  left_is : left ≡ sets before 0 text
  unfolding line_bytes
  left_is = took.1 ∙ ap (λ (b : Bool). cond b (sets before 0 text) before) (le-leb longest_line (length before) room)

  pub fits : ran.put ≤ length left
  fits =
      let short = line-fits (read_as call) run in
      let long : length left ≡ length before = ap length left_is ∙ length-sets before 0 text in
      let put = put_is in
      omega (arith, short, long, put, room)

  pub stands : take ran.put left ≡ text
  stands =
      let short = line-fits (read_as call) run in
      ap (λ (k : ℕ). take k left) put_is ∙ ap (take (length text)) left_is ∙ put_front text before (omega (arith, short, room))
