-- A run over a log is a sequence of steps, and its lines are the lines of those steps.
use Rattle.std.specs.Prelude.{ℕ, ◌+◌, ◌≡◌, Bool, true, List, [], ◌∷◌, ◌++◌}
use Rattle.steps.specs.declared.Step.{Step}
use Rattle.turns.specs.declared.Run.{Run}
use Rattle.turns.specs.declared.Next.{Next}
use Rattle.turns.specs.declared.Next.TheVariants.{Halt, Fault, Front, Take}
use Rattle.turns.specs.Turns.{first_run, applied, step_line, over_after, malformed_line, versioned, next_turn}
use Rattle.sequences.specs.History.{Entry}
use Rattle.sequences.specs.Moments.{Moment, entry, after_step, Reached, then}

-- the site and the table of a run
abbrev pub moment_of : Run → Moment
moment_of run = record { site = run.site; records = run.nodes }

-- what is to be done at a place of the log, by where the run stands; `last` says that no more of the log comes behind these bytes
abbrev pub due_at : List ℕ → Bool → Run → ℕ → Next
due_at log last run at = next_turn run.version run.ended log at last

-- From a run at a place of the log, by these steps, the first of them first, exactly this text is printed, and the run is then that one, at that place.
-- The version byte prints nothing. A step is the one that the log has there, in the log's version, and prints its line. Where the log is malformed, that
-- line is printed, no step is taken, and nothing follows. A run that has ended has nothing due.
pub data Prints (log : List ℕ) (last : Bool) : Run → ℕ → List Step → List ℕ → Run → ℕ → Type 0 where
  no_lines : {run : Run} {at : ℕ} → Prints log last run at [] [] run at
  version : {run end : Run} {at to : ℕ} {steps : List Step} {text : List ℕ} (v : ℕ) → due_at log last run at ≡ Front v
      → Prints log last (versioned run v) (at + 1) steps text end to → Prints log last run at steps text end to
  malformed : {run : Run} {at : ℕ} → due_at log last run at ≡ Fault → Prints log last run at [] (malformed_line run) (over_after run) at
  line : {run end : Run} {at to : ℕ} {steps : List Step} {text : List ℕ} (step : Step) (next : ℕ) → due_at log last run at ≡ Take step next
      → Prints log last (applied run step) next steps text end to → Prints log last run at (step ∷ steps) (step_line run step ++ text) end to

-- The whole of a log, from its first byte: these steps are taken, this text is printed, and then nothing is due any more.
pub record Whole (log : List ℕ) (steps : List Step) (text : List ℕ) : Type 0 where
  pub end : Run
  pub to : ℕ
  pub prints : Prints log true first_run 0 steps text end to
  pub over : due_at log true end to ≡ Halt

-- a history with more steps told
abbrev pub told : Moment → List Step → List Entry → List Entry
told m [] h = h
told m (step ∷ steps) h = told (after_step m step) steps (entry m step ∷ h)

-- what is printed is of a sequence of steps, each given the site and table that the last one left
pub prints-reached : {first : Moment} {log : List ℕ} {last : Bool} {run end : Run} {at to : ℕ} {steps : List Step} {text : List ℕ} {h : List Entry}
    → Prints log last run at steps text end to → Reached first h (moment_of run) → Reached first (told (moment_of run) steps h) (moment_of end)
unfolding applied over_after
prints-reached no_lines r = r
prints-reached (version v is p) r = prints-reached p r
prints-reached (malformed is) r = r
prints-reached {h = h} (line {run = run} step next is p) r = prints-reached {h = entry (moment_of run) step ∷ h} p (then r step)
