-- A block of a log takes steps, and prints their lines.
use Rattle.std.specs.Prelude.{ℕ, zero, suc, ◌+◌, ◌≡◌, refl, Bool, true, false, cond, List, [], ◌∷◌, ◌++◌, leb, length}
use Rattle.std.proofs.Common.{sym, ap, ◌∙◌, append-nil}
use Rattle.std.proofs.lemmas.Bool.{false≢true}
use Rattle.steps.specs.declared.Step.{Step}
use Rattle.text.specs.Lines.{longest_line}
use Rattle.turns.specs.declared.Run.{Run}
use Rattle.turns.specs.declared.Ran.{Ran}
use Rattle.turns.specs.declared.Next.{Next}
use Rattle.turns.specs.declared.Next.TheVariants.{Halt, Fault, Front, Take}
use Rattle.turns.specs.Turns.{applied, step_line, over_after, malformed_line, versioned, next_turn, doing}
use Rattle.turns.specs.Blocks.{Advance, onward, next_in, advanced, turns_for, ran_of, Block}
use Rattle.turns.specs.laws.RunLaws.{goes_on}
use Rattle.replay.specs.Replay.{due_at, Prints, no_lines, version, malformed, line}

-- A run that has ended has nothing due, and where nothing is due nothing is printed.
pub ended-due : (log : List ℕ) (last : Bool) (run : Run) (at : ℕ) → run.ended ≡ true → due_at log last run at ≡ Halt
unfolding next_turn
ended-due log last run at e = simp e

pub nothing-more : {log : List ℕ} {last : Bool} {run end : Run} {at to : ℕ} {steps : List Step} {text : List ℕ} → Prints log last run at steps text end to
    → due_at log last run at ≡ Halt → (steps ≡ []) × (text ≡ []) × (end ≡ run) × (to ≡ at)
nothing-more no_lines h = (refl, refl, refl, refl)
nothing-more (version v is p) h = absurd (false≢true (ap goes_on (sym h ∙ is)))
nothing-more (malformed is) h = absurd (false≢true (ap goes_on (sym h ∙ is)))
nothing-more (line step next is p) h = absurd (false≢true (ap goes_on (sym h ∙ is)))

-- ---- a block of a log

-- the steps that are taken in at most so many turns
abbrev taken_next : Run → ℕ → Next → (Run → ℕ → List ℕ → List Step) → List Step
taken_next run at Halt rest = []
taken_next run at Fault rest = []
taken_next run at (Front v) rest = rest (versioned run v) (at + 1) []
taken_next run at (Take step next) rest = step ∷ rest (applied run step) next (step_line run step)

unfoldable pub taken : ℕ → Run → List ℕ → ℕ → Bool → ℕ → ℕ → List Step
taken zero run log at last size put = []
taken (suc turns) run log at last size put =
    taken_next run at (next_in run.version run.ended log at last size put) (λ next place text. taken turns next log place last size (put + length text))

unfoldable pub taken_in : Run → List ℕ → Bool → ℕ → List Step
taken_in run log last size = taken (turns_for log) run log 0 last size 0

abbrev Printed : List ℕ → Bool → Run → ℕ → List Step → Advance → Type 0
Printed log last run at steps a = Prints log last run at steps a.text a.run a.read

onward-prints : (log : List ℕ) (last : Bool) (run : Run) (at : ℕ) (next : Next) → due_at log last run at ≡ next → (rest : Run → ℕ → List ℕ → Advance) (steps : Run → ℕ → List ℕ → List Step)
    → ((after : Run) (place : ℕ) (text : List ℕ) → Printed log last after place (steps after place text) (rest after place text))
    → Printed log last run at (taken_next run at next steps) (onward (doing run at next) run at rest)
unfolding over_after
onward-prints log last run at Halt is rest steps more = no_lines
onward-prints log last run at Fault is rest steps more =
    let over = over_after run in
    let none = nothing-more (more over at (malformed_line run)) (ended-due log last over at refl) in
    ended (rest over at (malformed_line run)) none.1 none.2 none.3
  where
    ended : (a : Advance) → a.text ≡ [] → a.run ≡ over_after run → a.read ≡ at → Prints log last run at [] (malformed_line run ++ a.text) a.run a.read
    ended a e r t = rw (e, r, t, append-nil) (malformed is)
onward-prints log last run at (Front v) is rest steps more = version v is (more (versioned run v) (at + 1) [])
onward-prints log last run at (Take step place) is rest steps more = line step place is (more (applied run step) place (step_line run step))

advanced-prints : (turns : ℕ) (run : Run) (log : List ℕ) (at : ℕ) (last : Bool) (size put : ℕ)
    → Printed log last run at (taken turns run log at last size put) (advanced turns run log at last size put)
unfolding advanced taken next_in
advanced-prints zero run log at last size put = no_lines
advanced-prints (suc turns) run log at last size put =
    room (leb (put + longest_line) size) (λ next place text. advanced-prints turns next log place last size (put + length text))
  where
    room : (b : Bool)
        → ((after : Run) (place : ℕ) (text : List ℕ)
        → Printed log last after place (taken turns after log place last size (put + length text)) (advanced turns after log place last size (put + length text)))
        → Printed log last run at
        (taken_next run at (cond b (due_at log last run at) Halt) (λ next place text. taken turns next log place last size (put + length text)))
        (onward (doing run at (cond b (due_at log last run at) Halt)) run at (λ next place text. advanced turns next log place last size (put + length text)))
    room true more = onward-prints log last run at (due_at log last run at) refl _ _ more
    room false more = no_lines

pub ran-prints : (run : Run) (log : List ℕ) (last : Bool) (size : ℕ)
    → Prints log last run 0 (taken_in run log last size) (ran_of run log last size).text (ran_of run log last size).run (ran_of run log last size).read
unfolding ran_of taken_in
ran-prints run log last size = advanced-prints (turns_for log) run log 0 last size 0

-- What `run_block` promises says this of every block: the text at the front of the buffer is printed by steps that lead to the run that it hands back.
pub block-prints : (run : Run) (log : List ℕ) (last : Bool) (before after : List ℕ) (ran : Ran) → Block run log last before after ran
    → (steps : List Step) × Prints log last run 0 steps (ran_of run log last (length before)).text ran.run ran.read
block-prints run log last before after ran block =
    (taken_in run log last (length before), rw (block.run-after, block.read-after) (ran-prints run log last (length before)))
