-- What a step is, and what it names.
use Rattle.std.specs.Prelude.{ℕ, Bool, true, false, ◌&&◌, ◌||◌, ◌⊎◌, List, [], ◌∷◌, Option, None, Some}
use Rattle.time.specs.declared.Dts.{Dts}
use Rattle.time.specs.Fresh.{next}
use Rattle.steps.specs.declared.Beginning.{Beginning}
use Rattle.steps.specs.declared.Event.{Event}
use Rattle.steps.specs.declared.Event.TheVariants.{Report, Deliver, DeliverPair, ShareTimeout, ResendTimeout, Ack, Query}
use Rattle.steps.specs.declared.Turn.{Turn}
use Rattle.steps.specs.declared.Turn.TheVariants.{Down, Up}
use Rattle.steps.specs.declared.Act.{Act}
use Rattle.steps.specs.declared.Step.{Step}
use Rattle.steps.specs.declared.Step.TheVariants.{Start, Tick, AtNode, Life, AtBreaker}

-- The steps of 01, and "kind 12, a pair" (§6 of 02).
pub data StepKind : Type 0 where
  start tick report deliver share_timeout resend_timeout command ack query down up deliver_pair : StepKind
  deriving Discrete as Kind-discrete

-- The kind of a step and what it says: a status, stamps T, a sender, a state number, `back`. `None` where it says no such thing.
pub record Said : Type 0 where
  pub kind : StepKind
  pub status : Option ℕ
  pub stamps : List Dts
  pub sender : Option ℕ
  pub number : Option ℕ
  pub back : Option ℕ

-- a kind, and nothing more
abbrev pub only : StepKind → Said
only kind = record { kind = kind; status = None; stamps = []; sender = None; number = None; back = None }

abbrev pub said_by : Event → Said
said_by (Report status number) = record { kind = report; status = Some status; stamps = []; sender = None; number = Some number; back = None }
said_by (Deliver sender status T) = record { kind = deliver; status = Some status; stamps = T ∷ []; sender = Some sender; number = None; back = None }
-- "a pair: sender, receiver, t, status, T, standing for T and T+1" (§6 of 02); for the last T of 32 bits, which refusal 2 turns away, `next` wraps
said_by (DeliverPair sender status T) =
    record { kind = deliver_pair; status = Some status; stamps = T ∷ next T ∷ []; sender = Some sender; number = None; back = None }
said_by ShareTimeout = only share_timeout
said_by ResendTimeout = only resend_timeout
said_by (Ack back) = record { kind = ack; status = None; stamps = []; sender = None; number = None; back = Some back }
said_by Query = only query

abbrev pub said_by_turn : Turn → Said
said_by_turn Down = only down
said_by_turn Up = only up

abbrev pub said_by_act : Act → Said
said_by_act act = record { kind = command; status = Some act.status; stamps = act.stamp ∷ []; sender = None; number = None; back = None }

-- What a step names: the acting node (for Deliver and for a pair, the receiver), the clock t, what Start gives (its status is judged with its other fields), and
-- what it says beside these.
pub record Named : Type 0 where
  pub actor : Option ℕ
  pub clock : Option Dts
  pub beginning : Option Beginning
  pub said : Said

abbrev pub named : Step → Named
named (Start b) = record { actor = None; clock = None; beginning = Some b; said = only start }
named Tick = record { actor = None; clock = None; beginning = None; said = only tick }
named (AtNode i t event) = record { actor = Some i; clock = Some t; beginning = None; said = said_by event }
named (Life i turn) = record { actor = Some i; clock = None; beginning = None; said = said_by_turn turn }
named (AtBreaker t act) = record { actor = None; clock = Some t; beginning = None; said = said_by_act act }

abbrev pub kind_of : Step → StepKind
kind_of step = (named step).said.kind

-- the number of the acting node, and 0 where a step names none
abbrev pub actor_or0 : Option ℕ → ℕ
actor_or0 None = 0
actor_or0 (Some i) = i

-- ---- kinds

abbrev pub is_yes : {P : Type 0} → Dec P → Bool
is_yes (yes p) = true
is_yes (no p) = false

abbrev pub is_kind : StepKind → StepKind → Bool
is_kind a b = is_yes (Kind-discrete a b)

abbrev pub among : StepKind → List StepKind → Bool
among kind [] = false
among kind (a ∷ others) = is_kind kind a || among kind others

-- ---- of what a step may name

-- it names one, and of that P holds
abbrev pub Of : {A : Type 0} → Option A → (A → Type 0) → Type 0
Of None P = ⊥
Of (Some a) P = P a

-- one of those that it names is as P says
abbrev pub OneOf : {A : Type 0} → List A → (A → Type 0) → Type 0
OneOf [] P = ⊥
OneOf (a ∷ others) P = P a ⊎ OneOf others P

-- each of those that it names is as P says
abbrev pub EachOf : {A : Type 0} → List A → (A → Type 0) → Type 0
EachOf [] P = Unit {0}
EachOf (a ∷ others) P = P a × EachOf others P

-- and it names some
abbrev pub AllOf : {A : Type 0} → List A → (A → Type 0) → Type 0
AllOf [] P = ⊥
AllOf (a ∷ others) P = P a × EachOf others P

-- a test of what a step may name is passed by a step that does not name it
abbrev pub of_named : {A : Type 0} → Option A → (A → Bool) → Bool
of_named None p = true
of_named (Some a) p = p a

abbrev pub of_each : {A : Type 0} → List A → (A → Bool) → Bool
of_each [] p = true
of_each (a ∷ others) p = p a && of_each others p

-- passed by one of them; and by a step that names none
abbrev pub any_of : {A : Type 0} → List A → (A → Bool) → Bool
any_of [] p = false
any_of (a ∷ others) p = p a || any_of others p

abbrev pub of_one : {A : Type 0} → List A → (A → Bool) → Bool
of_one [] p = true
of_one (a ∷ others) p = p a || any_of others p

-- the first of those that it names, where they are more than one: T of a pair
abbrev pub paired : {A : Type 0} → List A → Option A
paired [] = None
paired (a ∷ []) = None
paired (a ∷ b ∷ others) = Some a
