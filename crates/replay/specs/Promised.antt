-- The third demand, for every run over a log. A run is told by the steps that it read, with their answers.
use Rattle.std.specs.Prelude.{◌≡◌, List, Some}
use Rattle.time.specs.declared.Dts.{Dts}
use Rattle.steps.specs.declared.Beginning.{Beginning}
use Rattle.steps.specs.declared.Act.{Act}
use Rattle.steps.specs.declared.Step.TheVariants.{AtBreaker}
use Rattle.turns.specs.declared.Run.{Run}
use Rattle.turns.specs.Turns.{first_run}
use Rattle.sequences.specs.History.{Entry, last_start}
use Rattle.sequences.specs.Moments.{Reached, Accepts}
use Rattle.sequences.specs.Demand.{AtMostF, StatusAsTold, SharedByACorrectNode, StampsRise, RunsAsTold, HeldExactly, SendsAtOnce, NoneLeft}
use Rattle.sequences.specs.State.{StateAsTold, SentAsTold, NeverDamaged, NeverAbove, LatestHeard}
use Rattle.replay.specs.Replay.{moment_of}

-- the run has come about from its beginning by the steps of this history
abbrev pub Replayed : List Entry → Run → Type 0
Replayed h run = Reached (moment_of first_run) h (moment_of run)

-- So of every run:
pub record Promised (h : List Entry) (run : Run) : Type 0 where
  -- a command, and so a change, is accepted only after an accepted Start,
  pub started-first : (t : Dts) (command : Act) → Accepts (moment_of run) (AtBreaker t command) → (b : Beginning) × (last_start h ≡ Some b)
  -- and, counted from the last one, the demand's four parts hold
  pub few : (b : Beginning) → last_start h ≡ Some b → AtMostF h (moment_of run) b
  pub status : (b : Beginning) → last_start h ≡ Some b → StatusAsTold h (moment_of run) b
  pub shared : (b : Beginning) → last_start h ≡ Some b → SharedByACorrectNode h (moment_of run) b
  pub rising : (b : Beginning) → last_start h ≡ Some b → StampsRise h (moment_of run) b
  pub running : (b : Beginning) → last_start h ≡ Some b → RunsAsTold h (moment_of run) b
  pub held : (b : Beginning) → last_start h ≡ Some b → HeldExactly h (moment_of run) b
  pub at_once : (b : Beginning) → last_start h ≡ Some b → SendsAtOnce h (moment_of run) b
  pub none-waits : (b : Beginning) → last_start h ≡ Some b → NoneLeft h (moment_of run) b
  -- site, records and messages are what the history says, and no step is answered 16
  pub state : (b : Beginning) → last_start h ≡ Some b → StateAsTold h (moment_of run) b
  pub sent : (b : Beginning) → last_start h ≡ Some b → SentAsTold h (moment_of run) b
  pub undamaged : (b : Beginning) → last_start h ≡ Some b → NeverDamaged h (moment_of run) b
  -- and a node's second pair is never above b, and is the latest that it has heard
  pub second_below : (b : Beginning) → last_start h ≡ Some b → NeverAbove h (moment_of run) b
  pub second-latest : (b : Beginning) → last_start h ≡ Some b → LatestHeard h (moment_of run) b
