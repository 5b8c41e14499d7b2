-- A call is twelve bytes: a letter, three bytes a, b and c, and two numbers x and y of four bytes each, big-endian. Bytes that a letter does not use are not read.
-- Letters are their numbers in ASCII.
use Rattle.std.specs.Prelude.{ℕ, ◌+◌, ◌*◌, ◌%◌, cond, List, length, ◌==◌, slice_index, Option, None, Some}
use Rattle.time.specs.declared.Dts.{Dts}
use Rattle.steps.specs.declared.Turn.TheVariants.{Down, Up}
use Rattle.arbiter_steps.specs.declared.Step.{Step}
use Rattle.arbiter_steps.specs.declared.Event.TheVariants.{Report, ShareTimeout, Ack, Query}
use Rattle.arbiter_steps.specs.declared.Step.TheVariants.{Start, Tick, AtNode, Life, AtBreaker}

abbrev pub word : ℕ → ℕ → ℕ → ℕ → ℕ
word a b c d = ((a * 256 + b) * 256 + c) * 256 + d

abbrev dts : ℕ → Dts
dts n = record { 0 = n }

-- R: Report (node a, status b, t = x, number y); H: Share timeout (node a, t = x); A: Ack (node a, back b, t = x); Q: Query (node a, t = x)
unfoldable pub at_node_of : ℕ → ℕ → ℕ → ℕ → ℕ → Option Step
at_node_of letter a b x y =
    cond (letter == 82) (Some (AtNode a (dts x) (Report b y)))
    (cond (letter == 72) (Some (AtNode a (dts x) ShareTimeout))
    (cond (letter == 65) (Some (AtNode a (dts x) (Ack b)))
    (cond (letter == 81) (Some (AtNode a (dts x) Query)) None)))

-- S: Start (f = a, k = b, status c, g = x, the set in the lower half of y); T: Tick; D, U: Down, Up (node a); M: Message (sender a, status b, t = x, T = y)
unfoldable pub step_of : ℕ → ℕ → ℕ → ℕ → ℕ → ℕ → Option Step
step_of letter a b c x y =
    cond (letter == 83) (Some (Start (record { f = a; k = b; compromised = y % 65_536; status = c; g = dts x })))
    (cond (letter == 84) (Some Tick)
    (cond (letter == 68) (Some (Life a Down))
    (cond (letter == 85) (Some (Life a Up))
    (cond (letter == 77) (Some (AtBreaker (dts x) (record { sender = a; status = b; stamp = dts y })))
    (at_node_of letter a b x y)))))

abbrev byte : List ℕ → ℕ → ℕ
byte call k = slice_index call k

-- a call that is not whole, or has another letter, is malformed
unfoldable pub read_as : List ℕ → Option Step
read_as call =
    cond (length call == 12)
    (step_of (byte call 0) (byte call 1) (byte call 2) (byte call 3) (word (byte call 4) (byte call 5) (byte call 6) (byte call 7)) (word (byte call 8) (byte call 9) (byte call 10) (byte call 11)))
    None
