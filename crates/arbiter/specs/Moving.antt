-- What a turn of the program does, and why it stops.
use Rattle.std.specs.Prelude.{ℕ, ◌+◌, ◌≡◌, true, false, List, [], ◌∷◌, ◌⊎◌, take}
use Rattle.arbiter_calls.specs.Calls.{read_as}
use Rattle.arbiter_calls.specs.Runs.{first_run, after, ends}
use Rattle.arbiter.specs.declared.Progress.{Progress}

-- what the program begins with
abbrev pub at_first : Progress
at_first = record { run = first_run; going = true; failed = false }

-- A turn: nothing came, and it stops; or so many bytes came, a call or what is left of one, the run takes them, and it stops where they are malformed or the line
-- could not be written.
pub data Turned (before : Progress) (call : List ℕ) (next : Progress) : Type 0 where
  nothing-came : next.run ≡ before.run → next.going ≡ false → Turned before call next
  one-call : (count : ℕ) → next.run ≡ after (read_as (take count call)) before.run
      → (next.going ≡ false → (next.failed ≡ true) ⊎ (ends (read_as (take count call)) ≡ true)) → Turned before call next

-- a number of turns that no run comes to
abbrev pub most_turns : ℕ
most_turns = 18_446_744_073_709_551_615

-- the calls that came, the latest first: whatever bytes they are, the run took each
pub data Came (first : Progress) : ℕ → List (List ℕ) → Progress → Type 0 where
  none_yet : Came first 0 [] first
  no_more : {n : ℕ} {calls : List (List ℕ)} {mid next : Progress} → Came first n calls mid → next.run ≡ mid.run → next.going ≡ false → Came first (n + 1) calls next
  one_more : {n : ℕ} {calls : List (List ℕ)} {mid next : Progress} (call : List ℕ) → Came first n calls mid → mid.going ≡ true → next.run ≡ after (read_as call) mid.run
      → (next.going ≡ false → (next.failed ≡ true) ⊎ (ends (read_as call) ≡ true)) → Came first (n + 1) (call ∷ calls) next

-- It ends where there is no more to do, or after so many turns.
pub record Gone (first next : Progress) : Type 0 where
  pub turns : ℕ
  pub calls : List (List ℕ)
  pub came : Came first turns calls next
  pub stopped : (next.going ≡ false) ⊎ (turns ≡ most_turns)
