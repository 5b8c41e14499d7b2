-- The state is the history's: over every sequence, counted from the last accepted Start, each field of the site and of every record is what Told.antt says.
-- And what is sent, and what a refused step leaves.
use Rattle.std.specs.Prelude.{ℕ, ◌≤◌, ◌<◌, ◌≡◌, true, ◌&&◌, List, [], ◌∷◌, ◌++◌, Option, None, Some, Ok, Err}
use Rattle.refusals.specs.declared.Refusal.{Refusal}
use Rattle.time.specs.declared.Dts.{Dts}
use Rattle.time.specs.Fresh.{fresh_at, fresh}
use Rattle.senders.specs.Masks.{is_in}
use Rattle.store.specs.Held.{held}
use Rattle.pairs.specs.declared.Pair.{Pair}
use Rattle.pairs.specs.declared.Pairs.{Pairs}
use Rattle.pairs.specs.declared.Pairs.TheVariants.{Zero}
use Rattle.pairs.specs.Pair.{listed, listed_known, has}
use Rattle.node.specs.declared.Record.{Record}
use Rattle.node.specs.declared.Phase.TheVariants.{Running}
use Rattle.node.specs.Asked.{is_down, is_running, known_b, known_second, Follows}
use Rattle.events.specs.Events.{went_down}
use Rattle.steps.specs.declared.Beginning.{Beginning}
use Rattle.steps.specs.declared.Step.{Step}
use Rattle.steps.specs.declared.Step.TheVariants.{Start, Tick, AtNode, Life, AtBreaker}
use Rattle.steps.specs.Named.{said_by}
use Rattle.told.specs.Telling.{shares_by, again_by, combined_of, known_in}
use Rattle.site.specs.declared.Sent.{Sent}
use Rattle.site.specs.Site.{nodes, g}
use Rattle.site.specs.Answers.{silence, number_of}
use Rattle.sequences.specs.History.{Entry, Accepted, accepted, is_compromised, at_node, runs, deliveries}
use Rattle.sequences.specs.Told.{site_clock, breaker_pair, breaker_told, told_to, heard_to, r_then, b_then, held_then, shares_of, is_down_told, last_clock_told}
use Rattle.sequences.specs.Moments.{Moment, answer_to, after_step, node_at, holds}
use Rattle.sequences.specs.Demand.{Correct, Each, EachStep}

-- ---- the state, for a history h, the moment m to which it leads, and what its last accepted Start gave

module _ (h : List Entry) (m : Moment) (b : Beginning) where
  abbrev steps : List Accepted
  steps = accepted h

  pub record SiteAsTold : Type 0 where
    -- "Start gives f, k, the set of compromised nodes"
    pub is-started : m.site.started ≡ true
    pub same-f : m.site.f ≡ b.f
    pub same-k : m.site.k ≡ b.k
    pub same-compromised : m.site.compromised ≡ b.compromised
    -- "Tick adds 1 to g"
    pub site-clock : (g m.site).0 ≡ site_clock b steps
    -- its pair, its clock and the changes that it remembers
    pub breaker : m.site.breaker ≡ breaker_told b steps
    -- "The site itself keeps which correct nodes are down and which fresh shares correct nodes have made."
    pub down : (i : ℕ) → is_in m.site.down i ≡ is_down_told (at_node i steps)
    pub made : (i A : ℕ) (T : Dts) → held m.site.made A T i ≡ (has (shares_of i steps) A T && fresh_at T.0 (site_clock b steps))

  -- of a correct node j
  pub record NodeAsTold (j : ℕ) : Type 0 where
    -- "A node is down, or starting up with what it has learned so far, or running with its full record."
    pub is-down : is_down (node_at m j) ≡ is_down_told (at_node j steps)
    pub is-running : is_running (node_at m j) ≡ runs (at_node j steps)
    -- r, b, the second pair, the last state number, and the stamp being resent
    pub knows : known_in (node_at m j).phase ≡ told_to b j steps
    -- "the last clock"
    pub last-clock : (node_at m j).store.clock ≡ last_clock_told (at_node j steps)
    -- "the share store": the shares delivered, or made by the node itself, since it began running, as far as they are fresh
    pub store : (i A : ℕ) (T : Dts)
        → holds m j A T i ≡ (runs (at_node j steps) && (has (deliveries i j (at_node j steps)) A T && fresh T (last_clock_told (at_node j steps))))

  pub record StateAsTold : Type 0 where
    pub site : SiteAsTold
    pub node : (j : ℕ) → Correct b steps j → NodeAsTold j
    -- "a compromised node's record is down and stays so"
    pub compromised : (j : ℕ) → j < nodes b.f b.k → is_compromised b steps j ≡ true → node_at m j ≡ went_down

-- ---- "the stamp being resent": of a correct node that runs, it is b's, and the node is in Done

abbrev pub ResendsB : List Entry → Moment → Beginning → Type 0
ResendsB h m b =
    (j : ℕ) → Correct b (accepted h) j → (rec : Record) → (node_at m j).phase ≡ Running rec → (T : Dts) → rec.resend ≡ Some T
    → (rec.b.stamp ≡ T) × (rec.r.status ≡ rec.b.status)

-- ---- what is sent, for what the last Start gave and the accepted steps before

module _ (b : Beginning) (before : List Accepted) where
  -- an event at node j shares as Telling says, for what the node had been told
  abbrev pub shares_told : Step → Pairs
  shares_told (Start b') = Zero
  shares_told Tick = Zero
  shares_told (AtNode j t event) = shares_by (said_by event) t (told_to b j before).r (told_to b j before).b (r_then b before j t event)
  shares_told (Life i turn) = Zero
  shares_told (AtBreaker t act) = Zero

  -- it sends the command that is being resent, at a resend timeout while its stamp is fresh, and that of the combining rule, for r, b and what is held after the
  -- event; nothing else sends one
  abbrev pub commands_told : Accepted → Step → List Pair
  commands_told a (Start b') = []
  commands_told a Tick = []
  commands_told a (AtNode j t event) =
      listed_known (again_by (said_by event) t (told_to b j before).resend (told_to b j before).b)
      ++ listed_known
      (combined_of (nodes b.f b.k) b.f t (held_then before a j t) (r_then b before j t event) (b_then b before j t event))
  commands_told a (Life i turn) = []
  commands_told a (AtBreaker t act) = []

  -- an accepted command is answered with the pair that the breaker has then, whether it changed it or not
  abbrev pub ack_told : Accepted → Step → Option Pair
  ack_told a (Start b') = None
  ack_told a Tick = None
  ack_told a (AtNode j t event) = None
  ack_told a (Life i turn) = None
  ack_told a (AtBreaker t act) = Some (breaker_pair b (a ∷ before))

-- of an accepted step and those before it
pub record SentSo (b : Beginning) (a : Accepted) (before : List Accepted) : Type 0 where
  pub shares : a.sent.shares ≡ shares_told b before a.step
  pub commands : listed a.sent.commands ≡ commands_told b before a a.step
  pub ack : a.sent.ack ≡ ack_told b before a a.step

-- In every sequence each step accepted since the last Start has sent what the history says,
abbrev pub SentAsTold : List Entry → Moment → Beginning → Type 0
SentAsTold h m b = EachStep (SentSo b) (accepted h)

-- and a Start sends nothing.
abbrev pub StartsSilent : Type 0
StartsSilent = (m : Moment) (b : Beginning) (sent : Sent) → answer_to m (Start b) ≡ Ok sent → sent ≡ silence

-- ---- "Every refusal sends nothing and leaves site, table and clocks unchanged": the moment after it is the moment before, reached or not

abbrev pub RefusedChangesNothing : Type 0
RefusedChangesNothing = (m : Moment) (step : Step) (refusal : Refusal) → answer_to m step ≡ Err refusal → after_step m step ≡ m

-- ---- A site that came from a Start is sound: with the table that was lent to it, no step after an accepted Start is answered 16. (So a flood of one sender's
-- messages can never turn another away by it.)

abbrev pub NeverDamaged : List Entry → Moment → Beginning → Type 0
NeverDamaged h m b = (step : Step) → number_of (answer_to m step) ≡ 16 → ⊥

-- ---- "it is never above b's stamp" (§9 of 02): of every node the second pair is known exactly where b is, and its stamp is not above b's

abbrev pub NeverAbove : List Entry → Moment → Beginning → Type 0
NeverAbove h m b = (j : ℕ) → j < nodes b.f b.k → Follows (known_second (node_at m j).phase) (known_b (node_at m j).phase)

-- ---- The second pair is the latest, by its stamp, of what this life's acks and queries have said of the breaker; where they have said nothing there is none.

abbrev pub IsLatest : List Pair → Option Pair → Type 0
IsLatest heard (Some p) = (has heard p.status p.stamp ≡ true) × Each (λ q. q.stamp.0 ≤ p.stamp.0) heard
IsLatest heard None = heard ≡ []

abbrev pub LatestHeard : List Entry → Moment → Beginning → Type 0
LatestHeard h m b = (j : ℕ) → Correct b (accepted h) j → IsLatest (heard_to b j (accepted h)) (known_second (node_at m j).phase)
