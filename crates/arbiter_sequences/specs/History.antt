-- What has happened at an Arbiter site, told by the steps and their answers alone: no field of a site or of a record is looked at. Every list has the latest first.
use Rattle.std.specs.Prelude.{ℕ, Bool, ◌&&◌, ◌||◌, false, cond, List, [], ◌∷◌, ◌++◌, eqb, ltb, Option, None, Some}
use Rattle.time.specs.declared.Dts.{Dts}
use Rattle.time.specs.Fresh.{fresh}
use Rattle.store.specs.Earliest.{dts, fresh_stamps}
use Rattle.pairs.specs.declared.Pair.{Pair}
use Rattle.pairs.specs.Pair.{pair, has}
use Rattle.steps.specs.declared.Beginning.{Beginning}
use Rattle.history.specs.History as Of
use Rattle.history.specs.History.{those}
pub use Rattle.history.specs.History.{next_number}
use Rattle.arbiter_breaker.specs.Arbitrating.{other}
use Rattle.arbiter_steps.specs.declared.Step.{Step}
use Rattle.arbiter_steps.specs.declared.Step.TheVariants.{Start, Tick, AtNode, Life, AtBreaker}
use Rattle.arbiter_steps.specs.Steps.{named}

-- what is the same for any kind of site, of this one's steps: a step with its answer, an accepted step with its number and what was sent in it, what the last
-- accepted Start gave, and the steps accepted since; those at node j, and "its relay's last accepted report" among them
abbrev pub Entry : Type 0
Entry = Of.Entry Step

abbrev pub Accepted : Type 0
Accepted = Of.Accepted Step

abbrev pub last_start : List Entry → Option Beginning
last_start = Of.last_start named

abbrev pub accepted : List Entry → List Accepted
accepted = Of.accepted named

abbrev pub is_at : ℕ → Accepted → Bool
is_at = Of.is_at named

abbrev pub at_node : ℕ → List Accepted → List Accepted
at_node j steps = those (is_at j) steps

abbrev pub last_report : List Accepted → Option ℕ
last_report = Of.last_report named

-- ---- the messages that reached the breaker since Start

-- those of sender i that a step brings it
abbrev pub brought : ℕ → Step → List Pair
brought i (Start b) = []
brought i Tick = []
brought i (AtNode j t event) = []
brought i (Life j turn) = []
brought i (AtBreaker t m) = cond (eqb i m.sender) (pair m.status m.stamp ∷ []) []

abbrev pub deliveries : ℕ → List Accepted → List Pair
deliveries i [] = []
deliveries i (a ∷ before) = brought i a.step ++ deliveries i before

-- who is held for an action and a stamp at clock t: whoever's message was delivered, as long as its stamp is fresh
abbrev pub held_of : List Pair → Dts → ℕ → Dts → Bool
held_of delivered t A T = has delivered A T && fresh T t

abbrev pub held_told : List Accepted → Dts → ℕ → Dts → ℕ → Bool
held_told steps t A T i = held_of (deliveries i steps) t A T

-- ---- the breaker

-- its clock: that of the latest accepted message, before any g
abbrev clock_by : Step → Dts → Dts
clock_by (Start b) t = t
clock_by Tick t = t
clock_by (AtNode i u event) t = t
clock_by (Life i turn) t = t
clock_by (AtBreaker u m) t = u

abbrev pub breaker_clock : Beginning → List Accepted → Dts
breaker_clock b [] = b.g
breaker_clock b (a ∷ before) = clock_by a.step (breaker_clock b before)

-- an accepted change: the breaker acknowledged it. The step, its clock t, the action, the breaker's stamp from then on, and the accepted steps before it
pub record Change : Type 0 where
  pub at : Accepted
  pub clock : Dts
  pub action : ℕ
  pub stamp : Dts
  pub before : List Accepted

abbrev acknowledged : Option Pair → Accepted → Dts → List Accepted → List Change
acknowledged (Some p) a t before = record { at = a; clock = t; action = p.status; stamp = p.stamp; before = before } ∷ []
acknowledged None a t before = []

abbrev pub change_by : Step → Accepted → List Accepted → List Change
change_by (Start b) a before = []
change_by Tick a before = []
change_by (AtNode i t event) a before = []
change_by (Life i turn) a before = []
change_by (AtBreaker t m) a before = acknowledged a.sent.ack a t before

abbrev pub changes_in : List Accepted → List Change
changes_in [] = []
changes_in (a ∷ before) = change_by a.step a before ++ changes_in before

-- its status and stamp: those of the latest change, before any the status that Start gave and g
abbrev pair_after : Pair → List Change → Pair
pair_after first [] = first
pair_after first (c ∷ cs) = pair c.action c.stamp

abbrev pub breaker_pair : Beginning → List Accepted → Pair
breaker_pair b steps = pair_after (pair b.status b.g) (changes_in steps)

-- "the action it doesn't have"
abbrev pub wanted : Beginning → List Accepted → ℕ
wanted b steps = other (breaker_pair b steps).status

-- ---- who is counted at a message at clock t, with the steps before it and, in front of them, the message's own: whoever is held for the action that the breaker
-- does not have at a fresh stamp above its own, "over all its fresh stamps above its own stamp taken together"

abbrev pub some_of : List ℕ → (ℕ → Bool) → Bool
some_of [] test = false
some_of (T ∷ Ts) test = test T || some_of Ts test

abbrev pub is_counted : Beginning → List Accepted → Accepted → Dts → ℕ → Bool
is_counted b before a t i =
    some_of (fresh_stamps t) λ T. ltb (breaker_pair b before).stamp.0 T && held_told (a ∷ before) t (wanted b before) (dts T) i
