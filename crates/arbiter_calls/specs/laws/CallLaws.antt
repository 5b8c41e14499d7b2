-- Laws over plain variables, which the functions' proofs cite.
use Rattle.std.specs.Prelude.{◌≡◌, ℕ, true, false, List, [], ◌∷◌, Option, None, Some}
use Rattle.std.proofs.Math.Path.{sym, ap}
use Rattle.std.proofs.Common.{ap₂, ◌∙◌, arith}
use Rattle.std.specs.Int.{w32, from_be_bytes}
use Rattle.pairs.specs.declared.Pair.{Pair}
use Rattle.pairs.specs.declared.Pairs.{Pairs}
use Rattle.pairs.specs.declared.Pairs.TheVariants.{Zero, One, Two}
use Rattle.steps.specs.Named.{actor_or0}
use Rattle.site.specs.declared.Sent.{Sent}
use Rattle.site.specs.Answers.{Answer}
use Rattle.text.specs.Line.{line_with, message_line}
use Rattle.text.specs.Lines.{sent_messages, line_bytes, line_next}
use Rattle.arbiter_steps.specs.declared.Step.{Step}
use Rattle.arbiter_steps.specs.Steps.{named}
use Rattle.arbiter_node.specs.declared.Voter.{Voter}
use Rattle.arbiter_site.specs.declared.Arbiter.{Arbiter}
use Rattle.arbiter_lent.specs.Lent.{Said}
use Rattle.arbiter_calls.specs.declared.Run.{Run}
use Rattle.arbiter_calls.specs.Calls.{word, read_as}
use Rattle.arbiter_calls.specs.Runs.{shared_text, done_text, answer_text, malformed_text, next_line, after, line_for, ends, ran_of, Took}

-- four bytes, the highest first
pub four_bytes : (a b c d : ℕ) → from_be_bytes w32 (a ∷ b ∷ c ∷ d ∷ []) ≡ word a b c d
four_bytes a b c d = omega arith

-- what is put, and the place after it
abbrev pub Put : List ℕ → List ℕ → List ℕ → ℕ → Type 0
Put before text left put = (left ≡ line_bytes before 0 text) × (put ≡ line_next before 0 text)

-- the line of a step that was done, by what it shared
module _ (number status stamp i : ℕ) (sent : Sent) (before left : List ℕ) (put : ℕ) where
  done-by : (shares : Pairs) → sent.shares ≡ shares → Put before (shared_text shares number status stamp i sent) left put → Put before (done_text number status stamp i sent) left put
  done-by shares e text =
      let same = ap (λ (x : Pairs). shared_text x number status stamp i sent) (sym e) in
      (text.0 ∙ ap (line_bytes before 0) same, text.1 ∙ ap (line_next before 0) same)

  pub done_none : sent.shares ≡ Zero → Put before (line_with number 0 status stamp i (sent_messages sent)) left put → Put before (done_text number status stamp i sent) left put
  done_none = done-by Zero

  pub done-one : (p : Pair) → sent.shares ≡ One p → Put before (message_line number status stamp i p) left put → Put before (done_text number status stamp i sent) left put
  done-one p = done-by (One p)

  pub done-two : (p q : Pair) → sent.shares ≡ Two p q → Put before (line_with number 0 status stamp i (sent_messages sent)) left put → Put before (done_text number status stamp i sent) left put
  done-two p q = done-by (Two p q)

module _ (run : Run) (call before : List ℕ) (number : ℕ) (n-is : number ≡ next_line run) (found : Option Step) (f-is : found ≡ read_as call) (left : List ℕ) (put : ℕ) where
  -- a call by what was found in it
  took : (f : Option Step) → found ≡ f → (next : Run) → next ≡ after f run → Put before (line_for f run) left put → Took run call before left (record { run = next; put = put; ended = ends f })
  unfolding ran_of
  took f e next is text =
      let same : f ≡ read_as call = sym e ∙ f-is in (
        (λ j. record { run = is j; put = text.1 j; ended = ends f }) ∙ ap (λ (g : Option Step). record { run = after g run; put = line_next before 0 (line_for g run); ended = ends g }) same,
        text.0 ∙ ap (λ (g : Option Step). line_bytes before 0 (line_for g run)) same,
      )

  pub took-malformed : found ≡ None → Put before (malformed_text number run.site.site) left put
      → Took run call before left (record { run = record { site = run.site; nodes = run.nodes; lines = number }; put = put; ended = true })
  took-malformed e text =
      took None e _ (λ j. record { site = run.site; nodes = run.nodes; lines = n-is j })
      (text.0 ∙ ap (λ (k : ℕ). line_bytes before 0 (malformed_text k run.site.site)) n-is, text.1 ∙ ap (λ (k : ℕ). line_next before 0 (malformed_text k run.site.site)) n-is)

  pub took-call : (step : Step) → found ≡ Some step → (i : ℕ) → i ≡ actor_or0 (named step).actor → (answer : Answer) (site : Arbiter) (nodes : List Voter)
      → Said run.site run.nodes step answer site nodes → Put before (answer_text number site.site i answer) left put
      → Took run call before left (record { run = record { site = site; nodes = nodes; lines = number }; put = put; ended = false })
  took-call step e i i-is answer site nodes said text =
      took (Some step) e _ (λ j. record { site = said.1.0 j; nodes = said.1.1 j; lines = n-is j }) (text.0 ∙ ap (line_bytes before 0) same, text.1 ∙ ap (line_next before 0) same)
    where
      same : answer_text number site.site i answer ≡ line_for (Some step) run
      same =
          ap₂ (λ (k m : ℕ). answer_text k site.site m answer) n-is i-is
          ∙ ap₂ (λ (s : Arbiter) (x : Answer). answer_text (next_line run) s.site (actor_or0 (named step).actor) x) said.1.0 said.0
