-- The third demand. "Count from the last accepted start, with a fixed set of at most f compromised nodes, and take every sequence of steps, each
-- given the site and table the last one left."
-- `Reached first h m` is such a sequence, from any site and table whatever: h tells its steps and answers, and m is the site and table that it leaves.
-- `accepted h` are the steps accepted since the last accepted Start, `last_start h` is what that Start gave.
use Rattle.std.specs.Prelude.{ℕ, ◌+◌, ◌≤◌, ◌<◌, ◌≡◌, true, false, ◌&&◌, List, [], ◌∷◌, ◌⊎◌, Some, Option, None}
use Rattle.time.specs.declared.Dts.{Dts}
use Rattle.time.specs.Fresh.{fresh}
use Rattle.senders.specs.Sets.{count_below}
use Rattle.senders.specs.Masks.{size}
use Rattle.pairs.specs.declared.Pair.{Pair}
use Rattle.pairs.specs.Pair.{listed, has}
use Rattle.node.specs.declared.Record.{Record}
use Rattle.node.specs.declared.Phase.TheVariants.{Running}
use Rattle.node.specs.State.{attempts}
use Rattle.node.specs.Asked.{is_running}
use Rattle.steps.specs.declared.Beginning.{Beginning}
use Rattle.steps.specs.declared.Event.{Event}
use Rattle.steps.specs.declared.Step.{Step}
use Rattle.steps.specs.declared.Step.TheVariants.{Start, Tick, AtNode, Life, AtBreaker}
use Rattle.steps.specs.Named.{resend_timeout, said_by, named, Of}
use Rattle.site.specs.Site.{nodes}
pub use Rattle.history.specs.Sequences.{Earlier, here, further, Each, EachStep}
use Rattle.sequences.specs.History.{Entry, Accepted, Change, last_start, accepted, is_compromised, breaker_status, changes_in, is_at, at_node, last_report, clock, runs, deliveries, fresh_at_clock}
use Rattle.sequences.specs.Told.{told_to, r_then, b_then, held_then}
use Rattle.sequences.specs.Moments.{Moment, Reached, node_at, holds}

-- a correct node, for what the last Start gave and the steps accepted since
abbrev pub Correct : Beginning → List Accepted → ℕ → Type 0
Correct b steps i = (i < nodes b.f b.k) × (is_compromised b steps i ≡ false)

-- a command with this action and stamp is being resent: b's status, and the stamp being resent
abbrev pub IsResent : Option Dts → Option Pair → ℕ → Dts → Type 0
IsResent (Some U) (Some p) A T = (A ≡ p.status) × (T.0 ≡ U.0)
IsResent (Some U) None A T = ⊥
IsResent None k A T = ⊥

-- In this step node i shared (A, T), "whose own clock then read T or T−1 and whose relay's last accepted report was that action".
pub record Shared (i A : ℕ) (T : Dts) (a : Accepted) (before : List Accepted) : Type 0 where
  pub by-node : is_at i a ≡ true
  pub shared : has (listed a.sent.shares) A T ≡ true
  pub at-clock : Of (named a.step).clock λ t. (t.0 ≡ T.0) ⊎ (t.0 + 1 ≡ T.0)
  pub reported : last_report (at_node i (a ∷ before)) ≡ Some A

-- a change was shared, earlier than it was accepted, by a correct node
abbrev pub SharedEarlier : Beginning → Change → Type 0
SharedEarlier b c = (i : ℕ) × Correct b c.before i × Earlier (Shared i c.action c.stamp) c.before

-- a change's stamp T, and the stamp that the breaker acknowledged, are as P says
abbrev pub BothStamps : (Dts → Type 0) → Change → Type 0
BothStamps P c = P c.stamp × ((p : Pair) → c.acked ≡ Some p → P p.stamp)

-- each change's stamp T is above those of all changes before it, the latest coming first
abbrev pub Rising : List Change → Type 0
Rising [] = Unit {0}
Rising (c ∷ before) = Each (BothStamps λ U. U.0 < c.stamp.0) before × Rising before

-- ---- 4: for what the last Start gave, an accepted step a, the accepted steps before it, and the event at node j at its clock t that it is

module _ (b : Beginning) (a : Accepted) (before : List Accepted) (j : ℕ) (t : Dts) (event : Event) where
  -- after the event the node attempts A, with p for the breaker's pair
  abbrev pub Attempts : ℕ → Pair → Type 0
  Attempts A p = (r : Pair) × (r_then b before j t event ≡ Some r) × (b_then b before j t event ≡ Some p) × (attempts r p ≡ true) × (A ≡ r.status)

  -- T is "a fresh stamp above its breaker stamp", and "f+1 senders are held" for A
  abbrev pub HeldEnough : ℕ → Pair → Dts → Type 0
  HeldEnough A p T = (fresh T t ≡ true) × (p.stamp.0 < T.0) × (b.f + 1 ≤ count_below (nodes b.f b.k) (held_then before a j t A T))

  -- the earliest of these
  abbrev pub IsEarliest : ℕ → Pair → Dts → Type 0
  IsEarliest A p T = HeldEnough A p T × ((U : Dts) → HeldEnough A p U → T.0 ≤ U.0)

  pub record SendsAtOnceHere : Type 0 where
    -- "it sends the command in that same step"
    pub at_once : (A : ℕ) (p : Pair) (T : Dts) → Attempts A p → HeldEnough A p T → (U : Dts) × IsEarliest A p U × (has (listed a.sent.commands) A U ≡ true)
    -- and a command is sent in no other case but an armed resend
    pub no_other : (A : ℕ) (T : Dts) → has (listed a.sent.commands) A T ≡ true
        → (IsResent (told_to b j before).resend (told_to b j before).b A T × ((said_by event).kind ≡ resend_timeout)) ⊎ ((p : Pair) × Attempts A p × IsEarliest A p T)

-- an event at a node sends so, and no other step sends a command
abbrev pub SendsAtOnceBy : Beginning → Accepted → List Accepted → Step → Type 0
SendsAtOnceBy b a before (Start b') = listed a.sent.commands ≡ []
SendsAtOnceBy b a before Tick = listed a.sent.commands ≡ []
SendsAtOnceBy b a before (AtNode j t event) = SendsAtOnceHere b a before j t event
SendsAtOnceBy b a before (Life i turn) = listed a.sent.commands ≡ []
SendsAtOnceBy b a before (AtBreaker t act) = listed a.sent.commands ≡ []

-- ---- the four parts

-- for a history h, the moment m to which it leads, and what its last accepted Start gave
module _ (h : List Entry) (m : Moment) (b : Beginning) where
  -- the accepted steps at node j
  abbrev pub at : ℕ → List Accepted
  at j = at_node j (accepted h)

  -- the accepted changes
  abbrev pub changes : List Change
  changes = changes_in b.status (accepted h)

  -- they are told by the status that the breaker had: the site's is the one that Start and the accepted commands say
  abbrev pub StatusAsTold : Type 0
  StatusAsTold = m.site.breaker.pair.status ≡ breaker_status b.status (accepted h)

  -- "a fixed set of at most f compromised nodes": the last Start's
  abbrev pub AtMostF : Type 0
  AtMostF = size b.compromised ≤ b.f

  -- 1. "Each accepted change to an action at stamp T was shared earlier by a correct node whose own clock then read T or T−1 and whose relay's last
  -- accepted report was that action"
  abbrev pub SharedByACorrectNode : Type 0
  SharedByACorrectNode = Each (SharedEarlier b) changes

  -- 2. "accepted stamps strictly rise"
  abbrev pub StampsRise : Type 0
  StampsRise = Rising changes

  -- 3. "What a running correct node holds from a sender follows from that sender's fresh shares delivered since the holder began running and the
  -- holder's clock, whatever the others send". A correct node runs when its history says so,
  abbrev pub RunsAsTold : Type 0
  RunsAsTold = (j : ℕ) → Correct b (accepted h) j → is_running (node_at m j) ≡ runs (at j)

  -- and then a share is held exactly when it was delivered, or made by the node itself, since the node began running, and its stamp is fresh now.
  abbrev pub HeldExactly : Type 0
  HeldExactly =
      (j : ℕ) → Correct b (accepted h) j → runs (at j) ≡ true
      → (i A : ℕ) (T : Dts) → holds m j A T i ≡ (has (deliveries i j (at j)) A T && fresh_at_clock T (clock (at j)))

  -- 4. "where f+1 senders are held at a fresh stamp above its breaker stamp, for the action it attempts, it sends the command in that same step"
  abbrev pub SendsAtOnce : Type 0
  SendsAtOnce = EachStep (λ a before. SendsAtOnceBy b a before a.step) (accepted h)

  -- so that after every step no running correct node is left in Attempt with such a stamp
  abbrev pub NoneLeft : Type 0
  NoneLeft =
      (j : ℕ) → Correct b (accepted h) j → (rec : Record) → (node_at m j).phase ≡ Running rec → attempts rec.r rec.b ≡ true
      → (T : Dts) → rec.b.stamp.0 < T.0 → count_below (nodes b.f b.k) (holds m j rec.r.status T) ≤ b.f

-- The demand, for every sequence that has an accepted Start
abbrev pub Always : (List Entry → Moment → Beginning → Type 0) → Type 0
Always P = (first : Moment) (h : List Entry) (m : Moment) → Reached first h m → (b : Beginning) → last_start h ≡ Some b → P h m b

-- 3, for two sequences: where they agree on one sender's deliveries and on the holder's clock, they agree on what is held from it.
abbrev pub OneSendersOwn : Type 0
OneSendersOwn =
    (first first' : Moment) (h h' : List Entry) (m m' : Moment) → Reached first h m → Reached first' h' m' → (b b' : Beginning) → last_start h ≡ Some b → last_start h' ≡ Some b'
    → (j : ℕ) → Correct b (accepted h) j → Correct b' (accepted h') j → runs (at h m b j) ≡ true → runs (at h' m' b' j) ≡ true
    → (i : ℕ) → deliveries i j (at h m b j) ≡ deliveries i j (at h' m' b' j) → clock (at h m b j) ≡ clock (at h' m' b' j)
    → (A : ℕ) (T : Dts) → holds m j A T i ≡ holds m' j A T i
