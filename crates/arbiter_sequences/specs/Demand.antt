-- "Demand 3 for this variant: some counted sender was correct, sent that action at one of those stamps, at its own clock equal to it, with that as its relay's last
-- accepted report; breaker stamps strictly rise" (§3 of 02); what the breaker holds; and that it changes at once. Counted "from the last accepted start, with a
-- fixed set of at most f compromised nodes", of "every sequence of steps, each given the site and table the last one left".
-- `Reached first h m` is such a sequence, from any site and table whatever: h tells its steps and answers, and m is the site and table that it leaves.
-- `accepted h` are the steps accepted since the last accepted Start, `last_start h` is what that Start gave.
use Rattle.std.specs.Prelude.{ℕ, ◌+◌, ◌≤◌, ◌<◌, ◌≡◌, true, false, List, [], ◌∷◌, ◌⊎◌, Some, None, Err}
use Rattle.refusals.specs.declared.Refusal.{Refusal}
use Rattle.time.specs.declared.Dts.{Dts}
use Rattle.senders.specs.Sets.{count_below}
use Rattle.senders.specs.Masks.{is_in, size}
use Rattle.store.specs.Held.{held}
use Rattle.pairs.specs.declared.Pair.{Pair}
use Rattle.pairs.specs.declared.Pairs.TheVariants.{Zero}
use Rattle.pairs.specs.Pair.{pair, listed, has}
use Rattle.steps.specs.declared.Beginning.{Beginning}
use Rattle.steps.specs.Named.{Of}
use Rattle.site.specs.Answers.{number_of}
use Rattle.site.specs.Site.{nodes}
pub use Rattle.history.specs.Sequences.{Earlier, here, further, Each, EachStep}
use Rattle.arbiter_steps.specs.declared.Step.{Step}
use Rattle.arbiter_steps.specs.declared.Step.TheVariants.{Start, Tick, AtNode, Life, AtBreaker}
use Rattle.arbiter_steps.specs.Steps.{named}
use Rattle.arbiter_sequences.specs.History.{Entry, Accepted, Change, last_start, accepted, is_at, at_node, last_report, deliveries, held_told, breaker_clock, changes_in, breaker_pair, wanted, is_counted}
use Rattle.arbiter_sequences.specs.Moments.{Moment, Reached, answer_to, after_step}

-- a correct node, for what the last Start gave
abbrev pub Correct : Beginning → ℕ → Type 0
Correct b i = (i < nodes b.f b.k) × (is_in b.compromised i ≡ false)

-- In this step node i sent (A, T), "at its own clock equal to it, with that as its relay's last accepted report".
pub record SentIt (i A : ℕ) (T : Dts) (a : Accepted) (before : List Accepted) : Type 0 where
  pub by-node : is_at i a ≡ true
  pub sent : has (listed a.sent.shares) A T ≡ true
  pub at-clock : Of (named a.step).clock λ t. t.0 ≡ T.0
  pub reported : last_report (at_node i (a ∷ before)) ≡ Some A

-- ---- a message a at the breaker's clock t, with the accepted steps before it, for what the last Start gave

module _ (b : Beginning) (before : List Accepted) (a : Accepted) (t : Dts) where
  -- sender i is counted at stamp T: it is above the breaker's own, and i is held there for the action that the breaker does not have (and so T is fresh)
  abbrev pub CountedAt : ℕ → Dts → Type 0
  CountedAt i T = ((breaker_pair b before).stamp.0 < T.0) × (held_told (a ∷ before) t (wanted b before) T i ≡ true)

  -- "at least f+1 distinct senders are held for the action it doesn't have"
  abbrev pub Enough : Type 0
  Enough = b.f + 1 ≤ count_below (nodes b.f b.k) (is_counted b before a t)

  -- "the largest of t and the stamps counted"
  pub record IsLargest (U : Dts) : Type 0 where
    pub not-before : t.0 ≤ U.0
    pub not-below : (i : ℕ) (T : Dts) → CountedAt i T → T.0 ≤ U.0
    pub one-of-them : (U ≡ t) ⊎ ((i : ℕ) × CountedAt i U)

  -- the breaker changes in that same step exactly when there are enough: it acknowledges that action, with that stamp
  pub record ChangesAtOnceHere : Type 0 where
    pub at_once : Enough → (U : Dts) × (a.sent.ack ≡ Some (pair (wanted b before) U)) × IsLargest U
    pub no_other : (p : Pair) → a.sent.ack ≡ Some p → Enough

-- a message does so, and no other step sends an ack
abbrev pub ChangesAtOnceBy : Beginning → Accepted → List Accepted → Step → Type 0
ChangesAtOnceBy b a before (Start b') = a.sent.ack ≡ None
ChangesAtOnceBy b a before Tick = a.sent.ack ≡ None
ChangesAtOnceBy b a before (AtNode i t event) = a.sent.ack ≡ None
ChangesAtOnceBy b a before (Life i turn) = a.sent.ack ≡ None
ChangesAtOnceBy b a before (AtBreaker t m) = ChangesAtOnceHere b before a t

-- ---- an accepted change

-- "some counted sender was correct, sent that action at one of those stamps", earlier than the change
abbrev pub SentByACorrectOne : Beginning → Change → Type 0
SentByACorrectOne b c =
    (i : ℕ) × Correct b i × ((T : Dts) × CountedAt b c.before c.at c.clock i T × Earlier (SentIt i c.action T) c.before)

-- a change's stamp is above the one that the breaker had
abbrev pub AboveItsOwn : Beginning → Change → Type 0
AboveItsOwn b c = (breaker_pair b c.before).stamp.0 < c.stamp.0

-- each change's stamp is above those of all changes before it, the latest coming first
abbrev pub Rising : List Change → Type 0
Rising [] = Unit {0}
Rising (c ∷ before) = Each (λ d. d.stamp.0 < c.stamp.0) before × Rising before

-- ---- the parts, for a history h, the moment m to which it leads, and what its last accepted Start gave

module _ (h : List Entry) (m : Moment) (b : Beginning) where
  -- "a fixed set of at most f compromised nodes": the last Start's
  abbrev pub AtMostF : Type 0
  AtMostF = size b.compromised ≤ b.f

  -- 1. each accepted change has a counted sender that was correct and sent that action at a counted stamp
  abbrev pub CountedOneWasCorrect : Type 0
  CountedOneWasCorrect = Each (SentByACorrectOne b) (changes_in (accepted h))

  -- 2. "breaker stamps strictly rise"
  abbrev pub StampsRise : Type 0
  StampsRise = Each (AboveItsOwn b) (changes_in (accepted h)) × Rising (changes_in (accepted h))

  -- The changes are the breaker's: its status and stamp are those of the latest, and its clock is that of the latest accepted message.
  abbrev pub BreakerAsTold : Type 0
  BreakerAsTold = (m.site.site.breaker.pair ≡ breaker_pair b (accepted h)) × (m.site.site.breaker.clock ≡ breaker_clock b (accepted h))

  -- 3. What the breaker holds follows from the messages delivered to it since Start and its clock, exactly.
  abbrev pub HeldExactly : Type 0
  HeldExactly = (i A : ℕ) (T : Dts) → held m.site.held A T i ≡ held_told (accepted h) (breaker_clock b (accepted h)) A T i

  -- 4. It changes in the very step in which enough are held, and in no other.
  abbrev pub ChangesAtOnce : Type 0
  ChangesAtOnce = EachStep (λ a before. ChangesAtOnceBy b a before a.step) (accepted h)

  -- No step sends a command.
  abbrev pub SendsNoCommand : Type 0
  SendsNoCommand = EachStep (λ a before. a.sent.commands ≡ Zero) (accepted h)

-- 16 has nothing against a site that was started: no step is answered with it.
abbrev pub NeverDamaged : List Entry → Moment → Beginning → Type 0
NeverDamaged h m b = (step : Step) → number_of (answer_to m step) ≡ 16 → ⊥

-- for every sequence that has an accepted Start
abbrev pub Always : (List Entry → Moment → Beginning → Type 0) → Type 0
Always P = (first : Moment) (h : List Entry) (m : Moment) → Reached first h m → (b : Beginning) → last_start h ≡ Some b → P h m b

-- 3, for two sequences: where they agree on one sender's deliveries and on the breaker's clock, they agree on what is held from it, whatever the others send.
abbrev pub OneSendersOwn : Type 0
OneSendersOwn =
    (first first' : Moment) (h h' : List Entry) (m m' : Moment) → Reached first h m → Reached first' h' m' → (b b' : Beginning) → last_start h ≡ Some b → last_start h' ≡ Some b'
    → (i : ℕ) → deliveries i (accepted h) ≡ deliveries i (accepted h') → breaker_clock b (accepted h) ≡ breaker_clock b' (accepted h')
    → (A : ℕ) (T : Dts) → held m.site.held A T i ≡ held m'.site.held A T i

-- "A refused step sends nothing and changes nothing": the moment after it is the moment before, reached or not.
abbrev pub RefusedChangesNothing : Type 0
RefusedChangesNothing = (m : Moment) (step : Step) (refusal : Refusal) → answer_to m step ≡ Err refusal → after_step m step ≡ m
