-- Whole logs, to the byte, with the bytes that they print.
use Rattle.std.specs.Prelude.{ℕ, List, [], ◌∷◌, ◌++◌}
use Prim.Native.Char.{code}
use Prim.Native.String as Text
use Rattle.time.specs.declared.Dts.{Dts}
use Rattle.steps.specs.declared.Event.TheVariants.{Report, Deliver, DeliverPair, ShareTimeout, ResendTimeout, Ack, Query}
use Rattle.steps.specs.declared.Turn.TheVariants.{Down, Up}
use Rattle.steps.specs.declared.Step.{Step}
use Rattle.steps.specs.declared.Step.TheVariants.{Start, Tick, AtNode, Life, AtBreaker}

-- a text in ASCII
abbrev pub ascii : Text.String → List ℕ
ascii Text.[] = []
ascii (Text.◌∷◌ c s) = code c ∷ ascii s

abbrev stamp : ℕ → Dts
stamp n = record { 0 = n }

-- ---- document 01's listing

-- Start(1, 0, {2}, CLOSE, 100); Query(0, 100); Report(0, 100, CLOSE, 1); Report(0, 100, TRIP, 2); Deliver(2, 0, 100, TRIP, 101); Command(100, TRIP, 101)
-- twice; Deliver(1, 0, 100, TRIP, 100); Command(100, CLOSE, 101); Start(0, 0, {}, TRIP, 50); Command(50, CLOSE, 51)
abbrev pub listed : List Step
listed =
    Start (record { f = 1; k = 0; compromised = 4; status = 0; g = stamp 100 })
    ∷ AtNode 0 (stamp 100) Query
    ∷ AtNode 0 (stamp 100) (Report 0 1)
    ∷ AtNode 0 (stamp 100) (Report 1 2)
    ∷ AtNode 0 (stamp 100) (Deliver 2 1 (stamp 101))
    ∷ AtBreaker (stamp 100) (record { status = 1; stamp = stamp 101 })
    ∷ AtBreaker (stamp 100) (record { status = 1; stamp = stamp 101 })
    ∷ AtNode 0 (stamp 100) (Deliver 1 1 (stamp 100))
    ∷ AtBreaker (stamp 100) (record { status = 0; stamp = stamp 101 })
    ∷ Start (record { f = 0; k = 0; compromised = 0; status = 1; g = stamp 50 })
    ∷ AtBreaker (stamp 50) (record { status = 0; stamp = stamp 51 })
    ∷ []

abbrev pub listing : List ℕ
listing =
    1 ∷ 0 ∷ 10 ∷ 1 ∷ 1 ∷ 0 ∷ 0 ∷ 4 ∷ 0 ∷ 0 ∷ 0 ∷ 0 ∷ 100
    ∷ 0 ∷ 6 ∷ 9 ∷ 0 ∷ 0 ∷ 0 ∷ 0 ∷ 100
    ∷ 0 ∷ 11 ∷ 3 ∷ 0 ∷ 0 ∷ 0 ∷ 0 ∷ 100 ∷ 0 ∷ 0 ∷ 0 ∷ 0 ∷ 1
    ∷ 0 ∷ 11 ∷ 3 ∷ 0 ∷ 0 ∷ 0 ∷ 0 ∷ 100 ∷ 1 ∷ 0 ∷ 0 ∷ 0 ∷ 2
    ∷ 0 ∷ 12 ∷ 4 ∷ 2 ∷ 0 ∷ 0 ∷ 0 ∷ 0 ∷ 100 ∷ 1 ∷ 0 ∷ 0 ∷ 0 ∷ 101
    ∷ 0 ∷ 10 ∷ 7 ∷ 0 ∷ 0 ∷ 0 ∷ 100 ∷ 1 ∷ 0 ∷ 0 ∷ 0 ∷ 101
    ∷ 0 ∷ 10 ∷ 7 ∷ 0 ∷ 0 ∷ 0 ∷ 100 ∷ 1 ∷ 0 ∷ 0 ∷ 0 ∷ 101
    ∷ 0 ∷ 12 ∷ 4 ∷ 1 ∷ 0 ∷ 0 ∷ 0 ∷ 0 ∷ 100 ∷ 1 ∷ 0 ∷ 0 ∷ 0 ∷ 100
    ∷ 0 ∷ 10 ∷ 7 ∷ 0 ∷ 0 ∷ 0 ∷ 100 ∷ 0 ∷ 0 ∷ 0 ∷ 0 ∷ 101
    ∷ 0 ∷ 10 ∷ 1 ∷ 0 ∷ 0 ∷ 0 ∷ 0 ∷ 1 ∷ 0 ∷ 0 ∷ 0 ∷ 50
    ∷ 0 ∷ 10 ∷ 7 ∷ 0 ∷ 0 ∷ 0 ∷ 50 ∷ 0 ∷ 0 ∷ 0 ∷ 0 ∷ 51
    ∷ []

-- "Whole output", with line 7 as §4 of document 02 has it
abbrev pub output : List ℕ
output =
    ascii "1 0 C 100 -\n"
    ++ ascii "2 0 C 100 -\n"
    ++ ascii "3 0 C 100 -\n"
    ++ ascii "4 0 C 100 S0T@100,S0T@101\n"
    ++ ascii "5 0 C 100 CT@101\n"
    ++ ascii "6 0 T 101 AT@101\n"
    ++ ascii "7 0 T 101 AT@101\n"
    ++ ascii "8 8 T 101 -\n"
    ++ ascii "9 8 T 101 -\n"
    ++ ascii "10 0 T 50 -\n"
    ++ ascii "11 8 T 50 -\n"

-- ---- one record of every kind

-- Start(1, 1, {3}, CLOSE, 100); Query(0, 100); Report(0, 100, TRIP, 1); Tick; ShareTimeout(0, 101); Deliver(3, 0, 101, TRIP, 101); ResendTimeout(0, 101);
-- Command(101, TRIP, 101); Ack(0, 101, 0); Down(1); Up(1)
abbrev pub of_every_kind : List Step
of_every_kind =
    Start (record { f = 1; k = 1; compromised = 8; status = 0; g = stamp 100 })
    ∷ AtNode 0 (stamp 100) Query
    ∷ AtNode 0 (stamp 100) (Report 1 1)
    ∷ Tick
    ∷ AtNode 0 (stamp 101) ShareTimeout
    ∷ AtNode 0 (stamp 101) (Deliver 3 1 (stamp 101))
    ∷ AtNode 0 (stamp 101) ResendTimeout
    ∷ AtBreaker (stamp 101) (record { status = 1; stamp = stamp 101 })
    ∷ AtNode 0 (stamp 101) (Ack 0)
    ∷ Life 1 Down
    ∷ Life 1 Up
    ∷ []

abbrev pub every_kind : List ℕ
every_kind =
    1 ∷ 0 ∷ 10 ∷ 1 ∷ 1 ∷ 1 ∷ 0 ∷ 8 ∷ 0 ∷ 0 ∷ 0 ∷ 0 ∷ 100
    ∷ 0 ∷ 6 ∷ 9 ∷ 0 ∷ 0 ∷ 0 ∷ 0 ∷ 100
    ∷ 0 ∷ 11 ∷ 3 ∷ 0 ∷ 0 ∷ 0 ∷ 0 ∷ 100 ∷ 1 ∷ 0 ∷ 0 ∷ 0 ∷ 1
    ∷ 0 ∷ 1 ∷ 2
    ∷ 0 ∷ 6 ∷ 5 ∷ 0 ∷ 0 ∷ 0 ∷ 0 ∷ 101
    ∷ 0 ∷ 12 ∷ 4 ∷ 3 ∷ 0 ∷ 0 ∷ 0 ∷ 0 ∷ 101 ∷ 1 ∷ 0 ∷ 0 ∷ 0 ∷ 101
    ∷ 0 ∷ 6 ∷ 6 ∷ 0 ∷ 0 ∷ 0 ∷ 0 ∷ 101
    ∷ 0 ∷ 10 ∷ 7 ∷ 0 ∷ 0 ∷ 0 ∷ 101 ∷ 1 ∷ 0 ∷ 0 ∷ 0 ∷ 101
    ∷ 0 ∷ 7 ∷ 8 ∷ 0 ∷ 0 ∷ 0 ∷ 0 ∷ 101 ∷ 0
    ∷ 0 ∷ 2 ∷ 10 ∷ 1
    ∷ 0 ∷ 2 ∷ 11 ∷ 1
    ∷ []

abbrev pub every_output : List ℕ
every_output =
    ascii "1 0 C 100 -\n"
    ++ ascii "2 0 C 100 -\n"
    ++ ascii "3 0 C 100 -\n"
    ++ ascii "4 0 C 100 -\n"
    ++ ascii "5 0 C 100 S0T@101\n"
    ++ ascii "6 0 C 100 CT@101\n"
    ++ ascii "7 0 C 100 CT@101\n"
    ++ ascii "8 0 T 101 AT@101\n"
    ++ ascii "9 0 T 101 -\n"
    ++ ascii "10 0 T 101 -\n"
    ++ ascii "11 0 T 101 -\n"

-- ---- a log that ends inside a record

-- Start(1, 0, {2}, CLOSE, 100), and Query without its fields: its line has 17, and nothing comes after it
abbrev pub cut_steps : List Step
cut_steps = Start (record { f = 1; k = 0; compromised = 4; status = 0; g = stamp 100 }) ∷ []

abbrev pub cut : List ℕ
cut =
    1 ∷ 0 ∷ 10 ∷ 1 ∷ 1 ∷ 0 ∷ 0 ∷ 4 ∷ 0 ∷ 0 ∷ 0 ∷ 0 ∷ 100
    ∷ 0 ∷ 6 ∷ 9
    ∷ []

abbrev pub cut_output : List ℕ
cut_output = ascii "1 0 C 100 -\n" ++ ascii "2 17 C 100 -\n"

-- ---- a pair, in version 2 and in version 1

-- Start(1, 0, {2}, CLOSE, 99); Query(0, 100); Report(0, 100, CLOSE, 1); Report(0, 100, TRIP, 2); and then Pair(2, 0, 100, TRIP, 100); Command(100, TRIP, 100)
abbrev pub before_pair : List Step
before_pair =
    Start (record { f = 1; k = 0; compromised = 4; status = 0; g = stamp 99 })
    ∷ AtNode 0 (stamp 100) Query
    ∷ AtNode 0 (stamp 100) (Report 0 1)
    ∷ AtNode 0 (stamp 100) (Report 1 2)
    ∷ []

abbrev pub from_pair : List Step
from_pair = AtNode 0 (stamp 100) (DeliverPair 2 1 (stamp 100)) ∷ AtBreaker (stamp 100) (record { status = 1; stamp = stamp 100 }) ∷ []

abbrev pub paired : ℕ → List ℕ
paired version =
    version ∷ 0 ∷ 10 ∷ 1 ∷ 1 ∷ 0 ∷ 0 ∷ 4 ∷ 0 ∷ 0 ∷ 0 ∷ 0 ∷ 99
    ∷ 0 ∷ 6 ∷ 9 ∷ 0 ∷ 0 ∷ 0 ∷ 0 ∷ 100
    ∷ 0 ∷ 11 ∷ 3 ∷ 0 ∷ 0 ∷ 0 ∷ 0 ∷ 100 ∷ 0 ∷ 0 ∷ 0 ∷ 0 ∷ 1
    ∷ 0 ∷ 11 ∷ 3 ∷ 0 ∷ 0 ∷ 0 ∷ 0 ∷ 100 ∷ 1 ∷ 0 ∷ 0 ∷ 0 ∷ 2
    ∷ 0 ∷ 12 ∷ 12 ∷ 2 ∷ 0 ∷ 0 ∷ 0 ∷ 0 ∷ 100 ∷ 1 ∷ 0 ∷ 0 ∷ 0 ∷ 100
    ∷ 0 ∷ 10 ∷ 7 ∷ 0 ∷ 0 ∷ 0 ∷ 100 ∷ 1 ∷ 0 ∷ 0 ∷ 0 ∷ 100
    ∷ []

abbrev before_pair_output : List ℕ
before_pair_output =
    ascii "1 0 C 99 -\n"
    ++ ascii "2 0 C 99 -\n"
    ++ ascii "3 0 C 99 -\n"
    ++ ascii "4 0 C 99 S0T@100,S0T@101\n"

-- of the two stamps that the pair completes the earlier is sent; in version 1 there is no such kind
abbrev pub paired_output : List ℕ
paired_output = before_pair_output ++ ascii "5 0 C 99 CT@100\n" ++ ascii "6 0 T 100 AT@100\n"

abbrev pub unpaired_output : List ℕ
unpaired_output = before_pair_output ++ ascii "5 17 C 99 -\n"
