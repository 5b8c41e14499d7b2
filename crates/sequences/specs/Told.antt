-- What a site and its nodes are, told by what has happened: by the accepted steps since the last accepted Start and what was sent in them. No field of a site
-- or of a record is looked at, and no definition of a step: this is a second text beside those, and that both say the same is a theorem (State.antt). Every
-- list has the latest first. What one step tells a node stands in crates/told, specs/Telling.antt.
use Rattle.std.specs.Prelude.{ℕ, zero, suc, ◌+◌, Bool, false, ◌&&◌, cond, List, [], ◌∷◌, ◌++◌, map, ltb, length, get_or, Option, None, Some}
use Rattle.tables.specs.Tables.{table}
use Rattle.time.specs.declared.Dts.{Dts}
use Rattle.time.specs.Larger.{larger}
use Rattle.time.specs.Fresh.{fresh}
use Rattle.pairs.specs.declared.Pair.{Pair}
use Rattle.pairs.specs.Pair.{pair, listed, listed_known, has}
use Rattle.breaker.specs.declared.Changes.{Changes}
use Rattle.breaker.specs.declared.Breaker.{Breaker}
use Rattle.breaker.specs.Breaker.{most_changes, no_change}
use Rattle.steps.specs.declared.Beginning.{Beginning}
use Rattle.steps.specs.declared.Event.{Event}
use Rattle.steps.specs.declared.Step.{Step}
use Rattle.steps.specs.declared.Step.TheVariants.{Start, Tick, AtNode, Life, AtBreaker}
use Rattle.steps.specs.Named.{query, down, said_by, said_by_turn, is_kind}
use Rattle.told.specs.Telling.{Knows, nothing, relay_by, breaker_by, knows_after, last_of}
use Rattle.sequences.specs.History.{Accepted, Change, changes_in, is_at, concerns, at_node, life, clock, runs, deliveries}

-- ---- the site clock: "Tick adds 1 to g"

abbrev ticks_by : Step → ℕ → ℕ
ticks_by (Start b) ticks = ticks
ticks_by Tick ticks = suc ticks
ticks_by (AtNode i t event) ticks = ticks
ticks_by (Life i turn) ticks = ticks
ticks_by (AtBreaker t act) ticks = ticks

abbrev pub ticks : List Accepted → ℕ
ticks [] = 0
ticks (a ∷ before) = ticks_by a.step (ticks before)

-- ---- the breaker, by the accepted changes

-- "the breaker becomes (A, larger of T and t), sends the ack of that pair and remembers it"
abbrev pub pair_of : Change → Pair
pair_of c = pair c.action (larger c.stamp c.clock)

abbrev pub first_or : Pair → List Pair → Pair
first_or other [] = other
first_or other (p ∷ more) = p

-- changes with these pairs, the newest first, "of the last eight": how many, and where; a place that none has is blank
abbrev pub up_to_eight : ℕ → ℕ
up_to_eight count = cond (ltb count most_changes) count most_changes

abbrev pub changes_of : List Pair → Changes
changes_of pairs = record { pairs = table most_changes (λ k. get_or pairs k no_change); count = up_to_eight (length pairs) }

-- "the breaker's change number `back` from the newest (0), of the last eight"
abbrev pub numbered : List Pair → ℕ → Option Pair
numbered [] back = None
numbered (p ∷ more) zero = Some p
numbered (p ∷ more) (suc back) = numbered more back

abbrev pub numbered_of : List Pair → ℕ → Option Pair
numbered_of pairs back = cond (ltb back most_changes) (numbered pairs back) None

-- the clock of an accepted command
abbrev clock_by : Step → Dts → Dts
clock_by (Start b) t = t
clock_by Tick t = t
clock_by (AtNode i u event) t = t
clock_by (Life i turn) t = t
clock_by (AtBreaker u act) t = u

-- what a step at a node leaves it told: an event as Telling says, for the breaker as it is then; a turn in its life, nothing
abbrev pub knows_by : Step → (ℕ → Option Pair) → Pair → Option Pair → Knows → Knows
knows_by (Start b) change now sent k = k
knows_by Tick change now sent k = k
knows_by (AtNode i t event) change now sent k = knows_after (said_by event) t change now sent k
knows_by (Life i turn) change now sent k = nothing
knows_by (AtBreaker t act) change now sent k = k

-- what a step at a node says of the breaker, with what it has heard before; a turn in its life forgets that
abbrev pub said_by_ack : Option ℕ → (ℕ → Option Pair) → List Pair
said_by_ack (Some back) change = listed_known (change back)
said_by_ack None change = []

abbrev pub heard_with : Step → (ℕ → Option Pair) → Pair → List Pair → List Pair
heard_with (Start b) change now heard = heard
heard_with Tick change now heard = heard
heard_with (AtNode i t event) change now heard = cond (is_kind (said_by event).kind query) (now ∷ []) (said_by_ack (said_by event).back change) ++ heard
heard_with (Life i turn) change now heard = []
heard_with (AtBreaker t act) change now heard = heard

-- for what the last Start gave
module _ (b : Beginning) where
  abbrev pub site_clock : List Accepted → ℕ
  site_clock steps = ticks steps + b.g.0

  -- the pairs of the accepted changes
  abbrev pub change_pairs : List Accepted → List Pair
  change_pairs steps = map pair_of (changes_in b.status steps)

  -- the breaker's pair: that of the latest change; before any, "The breaker's stamp is g", with the status that Start gave
  abbrev pub breaker_pair : List Accepted → Pair
  breaker_pair steps = first_or (pair b.status b.g) (change_pairs steps)

  -- its clock: that of the latest accepted command, before any g
  abbrev pub breaker_clock : List Accepted → Dts
  breaker_clock [] = b.g
  breaker_clock (a ∷ before) = clock_by a.step (breaker_clock before)

  abbrev pub breaker_told : List Accepted → Breaker
  breaker_told steps = record { pair = breaker_pair steps; clock = breaker_clock steps; changes = changes_of (change_pairs steps) }

  -- what node j has been told, r, b, the second pair, the last state number and the stamp being resent: by this life's reports, queries, acks, own commands and
  -- timeouts, in their order
  abbrev pub told_to : ℕ → List Accepted → Knows
  told_to j [] = nothing
  told_to j (a ∷ before) =
      cond (concerns j a)
      (knows_by a.step (numbered_of (change_pairs before)) (breaker_pair before) (last_of (listed a.sent.commands)) (told_to j before))
      (told_to j before)

  -- what node j has heard of the breaker in this life: by an ack the change that it brings, by a query the breaker's pair then
  abbrev pub heard_to : ℕ → List Accepted → List Pair
  heard_to j [] = []
  heard_to j (a ∷ before) = cond (concerns j a) (heard_with a.step (numbered_of (change_pairs before)) (breaker_pair before) (heard_to j before)) (heard_to j before)

  -- r and b of node j, and who it holds for an action and a stamp, once an event at its clock t has happened and before the combining rule is applied: a is that
  -- step with what was sent in it
  abbrev pub r_then : List Accepted → ℕ → Dts → Event → Option Pair
  r_then before j t event = relay_by (said_by event) t (told_to j before).b (told_to j before).r

  abbrev pub b_then : List Accepted → ℕ → Dts → Event → Option Pair
  b_then before j t event = breaker_by (said_by event) t (numbered_of (change_pairs before)) (breaker_pair before) (told_to j before)

abbrev pub held_then : List Accepted → Accepted → ℕ → Dts → ℕ → Dts → ℕ → Bool
held_then before a j t A T i = runs (at_node j before) && (has (deliveries i j (a ∷ at_node j before)) A T && fresh T t)

-- ---- shares that a node has made since Start: "which fresh shares correct nodes have made"

abbrev pub shares_of : ℕ → List Accepted → List Pair
shares_of i [] = []
shares_of i (a ∷ before) = cond (is_at i a) (listed a.sent.shares) [] ++ shares_of i before

-- The rest is of a list of the accepted steps that concern one node.

-- it went down, and has not come up
abbrev down_by : Step → Bool → Bool
down_by (Start b) was = was
down_by Tick was = was
down_by (AtNode i t event) was = was
down_by (Life i turn) was = is_kind (said_by_turn turn).kind down
down_by (AtBreaker t act) was = was

abbrev pub is_down_told : List Accepted → Bool
is_down_told [] = false
is_down_told (a ∷ rest) = down_by a.step (is_down_told rest)

-- its last clock in this life, 0 where it has none yet
abbrev or_none : Option Dts → Dts
or_none (Some t) = t
or_none None = record { 0 = 0 }

abbrev pub last_clock_told : List Accepted → Dts
last_clock_told own = or_none (clock (life own))
