-- What has happened, told by the steps and their answers alone: no field of a site or of a record is looked at. Every list has the latest first.
use Rattle.std.specs.Prelude.{ℕ, Bool, false, ◌&&◌, ◌||◌, cond, List, [], ◌∷◌, ◌++◌, eqb, Option, None, Some}
use Rattle.time.specs.declared.Dts.{Dts}
use Rattle.time.specs.Fresh.{fresh, fresh_ones}
use Rattle.senders.specs.Masks.{is_in}
use Rattle.pairs.specs.declared.Pair.{Pair}
use Rattle.pairs.specs.Pair.{listed}
use Rattle.pairs.specs.Shares.{delivered_from}
use Rattle.steps.specs.declared.Beginning.{Beginning}
use Rattle.steps.specs.declared.Step.{Step}
use Rattle.steps.specs.declared.Step.TheVariants.{Start, Tick, AtNode, Life, AtBreaker}
use Rattle.steps.specs.Named.{StepKind, report, ack, query, down, up, said_by_turn, named, among}
use Rattle.history.specs.History as Of
use Rattle.history.specs.History.{those}
pub use Rattle.history.specs.History.{next_number}

-- What is the same for any kind of site stands in crates/history; here it is of this site's steps: a step with its answer, an accepted step with its number and
-- what was sent in it, what the last accepted Start gave, and the steps accepted since
abbrev pub Entry : Type 0
Entry = Of.Entry Step

abbrev pub Accepted : Type 0
Accepted = Of.Accepted Step

abbrev pub last_start : List Entry → Option Beginning
last_start = Of.last_start named

abbrev pub accepted : List Entry → List Accepted
accepted = Of.accepted named

abbrev pub step_kind : Accepted → StepKind
step_kind = Of.step_kind named

-- who is compromised, for what the last Start gave and the steps accepted since: "a fixed set", the Start's
abbrev pub is_compromised : Beginning → List Accepted → ℕ → Bool
is_compromised b steps i = is_in b.compromised i

-- ---- at the breaker

-- the status that a step leaves the breaker with: that of an accepted command
abbrev pub status_by : Step → ℕ → ℕ
status_by (Start b) had = had
status_by Tick had = had
status_by (AtNode i t event) had = had
status_by (Life i turn) had = had
status_by (AtBreaker t act) had = act.status

-- its status: the one that Start gave, and then that of the latest accepted command
abbrev pub breaker_status : ℕ → List Accepted → ℕ
breaker_status first [] = first
breaker_status first (a ∷ before) = status_by a.step (breaker_status first before)

-- an accepted change: the step's number, its clock t, its action, its stamp T, the ack that was sent, and the accepted steps before it
pub record Change : Type 0 where
  pub number : ℕ
  pub clock : Dts
  pub action : ℕ
  pub stamp : Dts
  pub acked : Option Pair
  pub before : List Accepted

-- A command is a change unless its status is the one that the breaker had: it then "is not an accepted change in demand 3" (§4 of 02).
abbrev pub unless_had : Bool → Change → List Change
unless_had had c = cond had [] (c ∷ [])

abbrev pub change_by : Step → Accepted → ℕ → List Accepted → List Change
change_by (Start b) a had before = []
change_by Tick a had before = []
change_by (AtNode i t event) a had before = []
change_by (Life i turn) a had before = []
change_by (AtBreaker t act) a had before =
    unless_had (eqb act.status had) (record { number = a.number; clock = t; action = act.status; stamp = act.stamp; acked = a.sent.ack; before = before })

-- the accepted changes
abbrev pub changes_in : ℕ → List Accepted → List Change
changes_in first [] = []
changes_in first (a ∷ before) = change_by a.step a (breaker_status first before) before ++ changes_in first before

-- ---- at one node

-- the step is at node j: for Deliver and for a pair, j is the receiver
abbrev pub is_at : ℕ → Accepted → Bool
is_at = Of.is_at named

-- the step concerns node j: it is at j
abbrev pub concerns : ℕ → Accepted → Bool
concerns j a = is_at j a

-- those that concern node j
abbrev pub at_node : ℕ → List Accepted → List Accepted
at_node j steps = those (concerns j) steps

-- The rest is of a list of the accepted steps that concern one node.

-- "its relay's last accepted report": the status
abbrev pub last_report : List Accepted → Option ℕ
last_report = Of.last_report named

abbrev latest_of : Option Dts → Option Dts → Option Dts
latest_of (Some t) before = Some t
latest_of None before = before

-- its clock: the one that its last step with a clock named
abbrev pub clock : List Accepted → Option Dts
clock [] = None
clock (a ∷ rest) = latest_of (named a.step).clock (clock rest)

-- it went down, or came up
abbrev pub ends_life : Step → Bool
ends_life (Start b) = false
ends_life Tick = false
ends_life (AtNode i t event) = false
ends_life (Life i turn) = among (said_by_turn turn).kind (down ∷ up ∷ [])
ends_life (AtBreaker t act) = false

-- the steps since it last went down or came up, or since Start
abbrev pub life : List Accepted → List Accepted
life [] = []
life (a ∷ rest) = cond (ends_life a.step) [] (a ∷ life rest)

-- one of these kinds is among the steps
abbrev pub one_of : List StepKind → List Accepted → Bool
one_of kinds [] = false
one_of kinds (a ∷ rest) = among (step_kind a) kinds || one_of kinds rest

-- "When r and b are both known it runs": in this life its relay has reported, and the breaker has acknowledged or answered a query
abbrev pub runs : List Accepted → Bool
runs rest = one_of (report ∷ []) (life rest) && one_of (ack ∷ query ∷ []) (life rest)

-- the fresh ones of the stamps that a step names, at the clock that it names
abbrev pub fresh_named : Option Dts → List Dts → List Dts
fresh_named (Some t) stamps = fresh_ones t stamps
fresh_named None stamps = []

-- the shares of sender i that a step at node j brings it: the fresh ones of those that it delivers and, where the sender is j itself, those that it makes.
-- "Own shares count at once as delivered."
abbrev pub brought : ℕ → ℕ → Accepted → List Pair
brought i j a =
    delivered_from i (named a.step).said.sender (named a.step).said.status (fresh_named (named a.step).clock (named a.step).said.stamps)
    ++ cond (eqb i j) (listed a.sent.shares) []

-- the shares of sender i that were delivered to node j since it began running
abbrev pub deliveries : ℕ → ℕ → List Accepted → List Pair
deliveries i j [] = []
deliveries i j (a ∷ rest) = cond (runs rest) (brought i j a ++ deliveries i j rest) []

-- the stamp is fresh at the clock, if there is one
abbrev pub fresh_at_clock : Dts → Option Dts → Bool
fresh_at_clock T None = false
fresh_at_clock T (Some t) = fresh T t
