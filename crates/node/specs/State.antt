-- "State of a running node, read from r and b: equal statuses, Done of that status. Otherwise Attempt of r's status where r's stamp ≥ b's stamp,
-- and Wait for b's status where it is less."
use Rattle.std.specs.Prelude.{ℕ, Bool, true, false, not, ◌&&◌, cond, leb}
use Rattle.pairs.specs.declared.Pair.{Pair}
use Rattle.pairs.specs.Pair.{same}

pub data State : Type 0 where
  Done Attempt Wait : ℕ → State

unfoldable pub state : Pair → Pair → State
state r b = cond (same r b) (Done b.status) (cond (leb b.stamp.0 r.stamp.0) (Attempt r.status) (Wait b.status))

-- the state is Attempt
abbrev pub attempts : Pair → Pair → Bool
attempts r b = not (same r b) && leb b.stamp.0 r.stamp.0

-- what is asked of a state
abbrev pub says_attempt : State → Bool
says_attempt (Done A) = false
says_attempt (Attempt A) = true
says_attempt (Wait A) = false

abbrev pub says_done : State → Bool
says_done (Done A) = true
says_done (Attempt A) = false
says_done (Wait A) = false

abbrev pub says_wait : State → Bool
says_wait (Done A) = false
says_wait (Attempt A) = false
says_wait (Wait A) = true
