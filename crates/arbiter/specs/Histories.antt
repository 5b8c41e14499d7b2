-- Whatever bytes the program was fed, the site and the table that it has come to were reached by a sequence of steps: what holds over every sequence
-- (crates/arbiter_sequences, specs/Demand.antt) holds of them.
use Rattle.std.specs.Prelude.{ℕ, List, [], Option, None, Some}
use Rattle.arbiter_steps.specs.declared.Step.{Step}
use Rattle.std.proofs.Common.{sym, subst}
use Rattle.arbiter_calls.specs.declared.Run.{Run}
use Rattle.arbiter_calls.specs.Calls.{read_as}
use Rattle.arbiter_calls.specs.Runs.{first_run, after}
use Rattle.arbiter_sequences.specs.History.{Entry}
use Rattle.arbiter_sequences.specs.Moments.{Moment, Reached, from, then}
use Rattle.arbiter.specs.declared.Progress.{Progress}
use Rattle.arbiter.specs.Moving.{at_first, Came, none_yet, no_more, one_more, Gone}

abbrev pub moment_of : Run → Moment
moment_of run = record { site = run.site; records = run.nodes }

-- a history led to the run, from the one before the first call
abbrev pub HasHistory : Run → Type 0
HasHistory run = (h : List Entry) × Reached (moment_of first_run) h (moment_of run)

after_call : (found : Option Step) (run : Run) → HasHistory run → HasHistory (after found run)
after_call (Some step) run r = (_, then r.1 step)
after_call None run r = r

pub every-run : (n : ℕ) (calls : List (List ℕ)) (progress : Progress) → Came at_first n calls progress → HasHistory progress.run
every-run n calls progress none_yet = ([], from)
every-run n calls progress (no_more {mid = mid} came same stops) = subst HasHistory (sym same) (every-run _ _ mid came)
every-run n calls progress (one_more {mid = mid} call came going is why) = subst HasHistory (sym is) (after_call (read_as call) mid.run (every-run _ _ mid came))

pub at-its-end : (progress : Progress) → Gone at_first progress → HasHistory progress.run
at-its-end progress gone = every-run gone.turns gone.calls progress gone.came
