-- Every run has come about from its beginning, and what is promised of such a run holds.
use Rattle.std.specs.Prelude.{ℕ, refl, Bool, List, [], length}
use Rattle.steps.specs.declared.Step.{Step}
use Rattle.turns.specs.declared.Run.{Run}
use Rattle.turns.specs.declared.Ran.{Ran}
use Rattle.turns.specs.Turns.{first_run}
use Rattle.turns.specs.Blocks.{ran_of, Block}
use Rattle.sequences.specs.History.{Entry}
use Rattle.sequences.specs.Moments.{from}
use Rattle.sequences.specs.laws.Started.{started-before}
use Rattle.sequences.proofs.laws.AsTold.{state-as-told}
use Rattle.sequences.proofs.laws.SentTold.{sent-as-told, sends-at-once}
use Rattle.sequences.proofs.laws.Soundness.{never-damaged, never-above}
use Rattle.sequences.proofs.laws.Hearing.{latest-heard}
use Rattle.sequences.proofs.laws.Proved.{at-most-f, status-as-told, shared-by-a-correct-node, stamps-rise, runs-as-told, held-exactly, none_left}
use Rattle.replay.specs.Replay.{moment_of, Prints, Whole, told, prints-reached}
use Rattle.replay.proofs.laws.Taken.{block-prints}
use Rattle.replay.specs.Promised.{Replayed, Promised}

-- What `begin` hands back has no history,
pub at-first : Replayed [] first_run
at-first = from

-- and `run_block`, given a run with a history, prints the lines of some more steps and hands back the run with those told too.
pub one-more-block : (h : List Entry) (run : Run) → Replayed h run
    → (log : List ℕ) (last : Bool) (before after : List ℕ) (ran : Ran) → Block run log last before after ran
    → (steps : List Step) × Prints log last run 0 steps (ran_of run log last (length before)).text ran.run ran.read × Replayed (told (moment_of run) steps h) ran.run
one-more-block h run r log last before after ran block =
    let p = block-prints run log last before after ran block in
    (p.0, p.1, prints-reached p.1 r)

pub promised : (h : List Entry) (run : Run) → Replayed h run → Promised h run
unfolding first_run
promised h run r =
    record {
      started-first = started-before refl r;
      few = at-most-f (moment_of first_run) h (moment_of run) r;
      status = status-as-told (moment_of first_run) h (moment_of run) r;
      shared = shared-by-a-correct-node (moment_of first_run) h (moment_of run) r;
      rising = stamps-rise (moment_of first_run) h (moment_of run) r;
      running = runs-as-told (moment_of first_run) h (moment_of run) r;
      held = held-exactly (moment_of first_run) h (moment_of run) r;
      at_once = sends-at-once (moment_of first_run) h (moment_of run) r;
      none-waits = none_left (moment_of first_run) h (moment_of run) r;
      state = state-as-told (moment_of first_run) h (moment_of run) r;
      sent = sent-as-told (moment_of first_run) h (moment_of run) r;
      undamaged = never-damaged (moment_of first_run) h (moment_of run) r;
      second_below = never-above (moment_of first_run) h (moment_of run) r;
      second-latest = latest-heard (moment_of first_run) h (moment_of run) r;
    }

-- and of the run over a whole log, with the history of the steps that it takes.
pub whole-promised : {log : List ℕ} {steps : List Step} {text : List ℕ} (w : Whole log steps text) → Promised (told (moment_of first_run) steps []) w.end
whole-promised {steps = steps} w = promised (told (moment_of first_run) steps []) w.end (prints-reached w.prints at-first)
