-- Text that is put into an output, and the room that it takes.
use Rattle.std.specs.Prelude.{ℕ, ◌+◌, ◌≤◌, List, length, Option, None, Some}
use Rattle.text.specs.declared.line.Output.{Output}
use Rattle.text.specs.Puts.{Puts}

abbrev pub HasRoom : Output → ℕ → Type 0
HasRoom output k = output.at + k ≤ length output.bytes.now

-- the text stands in the buffer from the place on, and the place is the one after it
abbrev pub Put : Output → List ℕ → Output → Type 0
Put before text after = Puts before.bytes.now before.at text after.bytes.now after.at

-- the number of a node has at most twenty digits, and takes no room where none is named
abbrev pub node_room : Option ℕ → ℕ
node_room None = 0
node_room (Some i) = 20
