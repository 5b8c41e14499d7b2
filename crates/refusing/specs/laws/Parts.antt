-- What the functions inside this crate promise: the table, cut as the code goes through it.
use Rattle.std.specs.Prelude.{ℕ, ◌+◌, ◌≡◌, Bool, true, false, not, ◌&&◌, ◌||◌, cond, List, [], ◌∷◌, ◌++◌, eqb, leb, ltb, Result, Ok, Err}
use Rattle.std.proofs.Math.Path.{refl}
use Rattle.std.proofs.Common.{sym, ap, ap₂, ◌∙◌}
use Rattle.std.proofs.lemmas.Bool.{false≢true}
use Rattle.refusals.specs.declared.Refusal.{Refusal}
use Rattle.refusals.specs.declared.Refusal.TheVariants.{BadStart, BadNumber, Compromised, WrongPhase, NotNow, ClockBack, NotFresh, NotVouchedFor, NotNew, NotAbove, NotArmed, NotRemembered, TooManyDown, LastClock, Unsound}
use Rattle.refusals.specs.Tests.{Test, refusal}
use Rattle.refusals.specs.laws.Bools.{and-true, and_assoc, or-false}
use Rattle.refusals.specs.laws.Tests.{fails, goes_on}
use Rattle.time.specs.declared.Dts.{Dts}
use Rattle.time.specs.Fresh.{fresh, next}
use Rattle.senders.specs.Masks.{is_in, size}
use Rattle.refusing.specs.declared.Asked.{Asked}
use Rattle.steps.specs.declared.Beginning.{Beginning}
use Rattle.steps.specs.declared.Event.{Event}
use Rattle.steps.specs.declared.Event.TheVariants.{Report, Deliver, DeliverPair, ShareTimeout, ResendTimeout, Ack, Query}
use Rattle.steps.specs.declared.Turn.{Turn}
use Rattle.steps.specs.declared.Turn.TheVariants.{Down, Up}
use Rattle.steps.specs.declared.Act.{Act}
use Rattle.steps.specs.declared.Step.{Step}
use Rattle.steps.specs.declared.Step.TheVariants.{Start, Tick, AtNode, Life, AtBreaker}
use Rattle.steps.specs.Named.{report, deliver, share_timeout, resend_timeout, ack, query, down, up, deliver_pair, named, said_by, said_by_turn}
use Rattle.node.specs.declared.Node.{Node}
use Rattle.node.specs.declared.Phase.{Phase}
use Rattle.node.specs.declared.Phase.TheVariants.{Starting, Running, Down as NotUp}
use Rattle.node.specs.Asked.{phase_down, is_down, is_starting, is_running, is_new, in_attempt, armed}
use Rattle.breaker.specs.Breaker.{repeats}
use Rattle.site.specs.declared.Site.{Site}
use Rattle.site.specs.Site.{g, last_g}
use Rattle.refusing.specs.Tests.{is_now, is_node, is_status, verdict, can_deliver, phase_takes, node_clock, are_sound, can_begin, top_stamp, are_in_range, rows_for, tests_of}

-- 2, 3 and 4 of a step at a node
abbrev pub who_tests : Site → ℕ → Bool → Bool → List Test
who_tests site i fields phase =
    (BadNumber, is_node site i && fields)
    ∷ (Compromised, not (is_in site.compromised i))
    ∷ (WrongPhase, phase)
    ∷ []

-- 5 and 6
abbrev pub when_tests : Site → Node → Dts → List Test
when_tests site node t = (NotNow, is_now site t) ∷ (ClockBack, leb (node_clock node).0 t.0) ∷ []

abbrev pub share_tests : Site → Dts → ℕ → ℕ → Dts → List Test
share_tests site t sender status T = (NotFresh, fresh T t) ∷ (NotVouchedFor, can_deliver site sender status T) ∷ []

abbrev pub pair_tests : Site → Dts → ℕ → ℕ → Dts → List Test
pair_tests site t sender status T =
    (NotFresh, fresh T t || fresh (next T) t)
    ∷ (NotVouchedFor, (not (fresh T t) || can_deliver site sender status T) && (not (fresh (next T) t) || can_deliver site sender status (next T)))
    ∷ []

-- what is asked of one event, turn or act alone
abbrev pub event_tests : Site → Node → Dts → Event → List Test
event_tests site node t (Report status number) = (NotNew, is_new node number) ∷ []
event_tests site node t (Deliver sender status T) = share_tests site t sender status T
event_tests site node t (DeliverPair sender status T) = pair_tests site t sender status T
event_tests site node t ShareTimeout = (NotArmed, in_attempt node) ∷ []
event_tests site node t ResendTimeout = (NotArmed, armed node) ∷ []
event_tests site node t (Ack back) = (NotRemembered, leb (back + 1) site.breaker.changes.count) ∷ []
event_tests site node t Query = []

abbrev pub asked : Site → Node → Dts → Event → Asked
asked site node t event =
    record {
      fields = are_in_range site (said_by event);
      phase = phase_takes node.phase (said_by event).kind;
      own = refusal (event_tests site node t event);
    }

abbrev pub turn_tests : Site → Turn → List Test
turn_tests site Down = (TooManyDown, ltb (size site.down) site.k) ∷ []
turn_tests site Up = []

abbrev pub command_first : Site → Dts → ℕ → List Test
command_first site t status =
    (BadNumber, is_status status) ∷ (NotNow, is_now site t) ∷ (ClockBack, leb site.breaker.clock.0 t.0) ∷ []

abbrev pub command_last : Site → Dts → ℕ → Dts → List Test
command_last site t status T =
    (NotFresh, fresh T t)
    ∷ (NotVouchedFor, verdict site status T)
    ∷ (NotAbove, repeats site.breaker status || ltb site.breaker.pair.stamp.0 T.0)
    ∷ []

abbrev pub act_tests : Site → Dts → Act → List Test
act_tests site t act = command_first site t act.status ++ command_last site t act.status act.stamp

abbrev pub tick_tests : Site → List Test
tick_tests site = (LastClock, not (eqb (g site).0 last_g)) ∷ []

-- what is left of a step's tests after 16; a Start has none of these
abbrev pub sound_tests : Site → Node → Step → List Test
sound_tests site node (Start b) = []
sound_tests site node Tick = tick_tests site
sound_tests site node (AtNode i t event) =
    who_tests site i (are_in_range site (said_by event)) (phase_takes node.phase (said_by event).kind)
    ++ (when_tests site node t ++ event_tests site node t event)
sound_tests site node (Life i turn) =
    who_tests site i (are_in_range site (said_by_turn turn)) (phase_takes node.phase (said_by_turn turn).kind) ++ turn_tests site turn
sound_tests site node (AtBreaker t act) = act_tests site t act

-- a step's tests, with a verdict of 16 that is given
abbrev pub given_tests : Bool → Site → Node → Step → List Test
given_tests sound site node step = (Unsound, sound) ∷ sound_tests site node step

-- ---- what 2 asks of an event's fields, and 4 of a node's phase, as the code asks it

pub report-range : (site : Site) (status number : ℕ) → is_status status ≡ are_in_range site (said_by (Report status number))
report-range site status number = sym (and-true (is_status status))

pub deliver-range : (site : Site) (sender status : ℕ) (T : Dts) → (is_node site sender && is_status status) ≡ are_in_range site (said_by (Deliver sender status T))
deliver-range site sender status T = ap (λ (x : Bool). is_node site sender && x) (sym (and-true (is_status status)))

pub pair-range : (site : Site) (sender status : ℕ) (T : Dts)
    → (is_node site sender && is_status status && not (eqb T.0 top_stamp)) ≡ are_in_range site (said_by (DeliverPair sender status T))
pair-range site sender status T = and_assoc (is_node site sender) (is_status status) (not (eqb T.0 top_stamp))

pub ack-range : (site : Site) (back : ℕ) → leb back 7 ≡ are_in_range site (said_by (Ack back))
ack-range site back = sym (and-true (leb back 7))

abbrev Taken : Node → Type 0
Taken node =
    (phase_takes node.phase report ≡ not (is_down node))
    × (phase_takes node.phase deliver ≡ is_running node)
    × (phase_takes node.phase deliver_pair ≡ is_running node)
    × (phase_takes node.phase share_timeout ≡ is_running node)
    × (phase_takes node.phase resend_timeout ≡ is_running node)
    × (phase_takes node.phase ack ≡ not (is_down node))
    × (phase_takes node.phase query ≡ is_starting node)
    × (phase_takes node.phase down ≡ not (is_down node))
    × (phase_takes node.phase up ≡ is_down node)

pub taken : (node : Node) → Taken node
taken node = go node.phase
  where
    go : (phase : Phase) → Taken (record { phase = phase; store = node.store })
    go NotUp = (refl, refl, refl, refl, refl, refl, refl, refl, refl)
    go (Starting learned) = (refl, refl, refl, refl, refl, refl, refl, refl, refl)
    go (Running rec) = (refl, refl, refl, refl, refl, refl, refl, refl, refl)

-- an event is no Up, so a node that takes it is not down
pub not-down : (p : Phase) (event : Event) → phase_takes p (said_by event).kind ≡ true → not (phase_down p) ≡ true
not-down NotUp event e = absurd (false≢true (sym (no-up event) ∙ e))
  where
    no-up : (event : Event) → phase_takes NotUp (said_by event).kind ≡ false
    no-up (Report status number) = refl
    no-up (Deliver sender status T) = refl
    no-up (DeliverPair sender status T) = refl
    no-up ShareTimeout = refl
    no-up ResendTimeout = refl
    no-up (Ack back) = refl
    no-up Query = refl
not-down (Starting learned) event e = refl
not-down (Running rec) event e = refl

-- ---- that the cut gives the table's refusal

-- 8 is asked of a share that is fresh: after 7, of any share alone
pub if-fresh : {A : Type 0} (fresh made : Bool) (a b k : A) → cond fresh (cond (not fresh || made) a b) k ≡ cond fresh (cond made a b) k
if-fresh true made a b k = refl
if-fresh false made a b k = refl

-- after 16, whatever its verdict is
module _ (site : Site) (lent : ℕ) (node : Node) where
  abbrev pub Rest : Step → Type 0
  Rest step = refusal (sound_tests site node step) ≡ refusal (rows_for site lent node (named step))

  pub rest-event : (i : ℕ) (t : Dts) (event : Event) → Rest (AtNode i t event)
  unfolding refusal
  rest-event i t (Report status number) = simp and-true
  rest-event i t (Deliver sender status T) = simp (and-true, or-false, if-fresh)
  rest-event i t (DeliverPair sender status T) = simp (and-true, or-false)
  rest-event i t ShareTimeout = simp and-true
  rest-event i t ResendTimeout = simp and-true
  rest-event i t (Ack back) = refl
  rest-event i t Query = simp and-true

  pub rest-turn : (i : ℕ) (turn : Turn) → Rest (Life i turn)
  unfolding refusal
  rest-turn i Down = simp and-true
  rest-turn i Up = simp and-true

  pub rest-act : (t : Dts) (act : Act) → Rest (AtBreaker t act)
  unfolding refusal
  rest-act t act = simp (and-true, or-false)

  pub rest-tick : Rest Tick
  unfolding refusal
  rest-tick = refl

-- 16 in front of tests that refuse alike, with its verdict in another form
pub sixteen-first : (sound verdict : Bool) (ts us : List Test) → sound ≡ verdict → refusal ts ≡ refusal us → refusal ((Unsound, sound) ∷ ts) ≡ refusal ((Unsound, verdict) ∷ us)
unfolding refusal
sixteen-first sound verdict ts us is e = ap₂ (λ (x : Bool) (rest : Result (Unit {0}) Refusal). cond x rest (Err Unsound)) is e

-- so with the table's verdict it is the table's
module _ (site : Site) (lent : ℕ) (node : Node) where
  abbrev Cut : Step → Type 0
  Cut step = (sound : Bool) → sound ≡ are_sound site lent node (named step) → refusal (given_tests sound site node step) ≡ refusal (tests_of site lent node step)

  cut_by : (step : Step) → Rest site lent node step → Cut step
  unfolding tests_of
  cut_by step e sound is = sixteen-first sound _ (sound_tests site node step) _ is e

  pub cut-event : (i : ℕ) (t : Dts) (event : Event) → Cut (AtNode i t event)
  cut-event i t event = cut_by (AtNode i t event) (rest-event site lent node i t event)

  pub cut-turn : (i : ℕ) (turn : Turn) → Cut (Life i turn)
  cut-turn i turn = cut_by (Life i turn) (rest-turn site lent node i turn)

  pub cut-act : (t : Dts) (act : Act) → Cut (AtBreaker t act)
  cut-act t act = cut_by (AtBreaker t act) (rest-act site lent node t act)

  pub cut-tick : Cut Tick
  cut-tick = cut_by Tick (rest-tick site lent node)

-- the refusal of an event: that of the first of its parts that is not passed, with what is asked of it as the code has it
module _ (sound : Bool) (site : Site) (node : Node) (i : ℕ) (t : Dts) (event : Event) (own : Asked) (is : own ≡ asked site node t event)
    {u : Unit {0}} (whole : Ok u ≡ refusal ((Unsound, sound) ∷ [])) where
  abbrev all : Result (Unit {0}) Refusal
  all = refusal (given_tests sound site node (AtNode i t event))

  abbrev of_who : List Test
  of_who = who_tests site i (are_in_range site (said_by event)) (phase_takes node.phase (said_by event).kind)

  abbrev later : List Test
  later = when_tests site node t ++ event_tests site node t event

  as-asked : refusal (who_tests site i own.fields own.phase) ≡ refusal of_who
  as-asked = ap (λ (x : Asked). refusal (who_tests site i x.fields x.phase)) is

  pub stops-at-who : {fault : Refusal} → Err fault ≡ refusal (who_tests site i own.fields own.phase) → Err fault ≡ all
  stops-at-who e = sym (goes_on ((Unsound, sound) ∷ []) (of_who ++ later) (sym whole) ∙ fails of_who later (sym (e ∙ as-asked)))

  after-who : {v : Unit {0}} → Ok v ≡ refusal (who_tests site i own.fields own.phase) → all ≡ refusal later
  after-who e = goes_on ((Unsound, sound) ∷ []) (of_who ++ later) (sym whole) ∙ goes_on of_who later (sym (e ∙ as-asked))

  pub stops-at-when : {v : Unit {0}} {fault : Refusal} → Ok v ≡ refusal (who_tests site i own.fields own.phase) → Err fault ≡ refusal (when_tests site node t)
      → Err fault ≡ all
  stops-at-when e f = sym (after-who e ∙ fails (when_tests site node t) (event_tests site node t event) (sym f))

  pub its-own : {v w : Unit {0}} → Ok v ≡ refusal (who_tests site i own.fields own.phase) → Ok w ≡ refusal (when_tests site node t) → own.own ≡ all
  its-own e f =
      ap (λ (x : Asked). x.own) is ∙ sym (after-who e ∙ goes_on (when_tests site node t) (event_tests site node t event) (sym f))

-- a Start has row 1 alone
pub start-alone : (site : Site) (lent : ℕ) (node : Node) (b : Beginning) → refusal ((BadStart, can_begin lent b) ∷ []) ≡ refusal (tests_of site lent node (Start b))
unfolding tests_of refusal
start-alone site lent node b = refl
