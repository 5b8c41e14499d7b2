-- In every sequence each accepted step has sent what the history says.
use Rattle.std.specs.Prelude.{ℕ, ◌≤◌, ◌<◌, ◌≡◌, Bool, not, ◌&&◌, cond, List, ◌∷◌, ◌++◌, length, Some, Option}
use Rattle.std.proofs.Math.Path.{refl, ap, ap₂, fun_ext}
use Rattle.std.proofs.Common.{sym, subst, ◌∙◌}
use Rattle.std.proofs.Math.Bool.{true}
use Rattle.std.proofs.lemmas.Bool.{false≢true}
use Rattle.std.proofs.Math.Dec.{eqb}
use borrow.Author.Tests.{eq-eqb}
use Rattle.std.proofs.Math.ListN.{get_or}
use Rattle.std.proofs.Math.Seq.{get_or-set_same}
use Rattle.time.specs.declared.Dts.{Dts}
use Rattle.time.specs.Fresh.{fresh}
use Rattle.time.specs.laws.Fresh.{latest_clock}
use Rattle.store.specs.declared.Store.{Store}
use Rattle.store.specs.Store.{store_within}
use Rattle.store.specs.Held.{held}
use Rattle.store.proofs.laws.Held.{held-empty}
use Rattle.store.proofs.laws.WithinLaws.{within_held}
use Rattle.pairs.specs.declared.Pair.{Pair}
use Rattle.pairs.specs.Pair.{listed, listed_known, has}
use Rattle.node.specs.declared.Phase.{Phase}
use Rattle.node.specs.declared.Phase.TheVariants.{Starting, Running, Down as NotUp}
use Rattle.node.specs.declared.Node.{Node}
use Rattle.node.specs.declared.Acted.{Acted}
use Rattle.node.specs.Asked.{phase_down, phase_running}
use Rattle.node.specs.laws.Soundness.{parts}
use Rattle.combining.specs.Combining.{ended, finished}
use Rattle.events.specs.Events.{went_down}
use Rattle.breaker.specs.declared.Breaker.{Breaker}
use Rattle.breaker.specs.Breaker.{change_at}
use Rattle.steps.specs.declared.Beginning.{Beginning}
use Rattle.steps.specs.declared.Event.{Event}
use Rattle.steps.specs.declared.Turn.{Turn}
use Rattle.steps.specs.declared.Turn.TheVariants.{Down, Up}
use Rattle.steps.specs.declared.Act.{Act}
use Rattle.steps.specs.declared.Step.{Step}
use Rattle.steps.specs.declared.Step.TheVariants.{Start, Tick, AtNode, Life, AtBreaker}
use Rattle.steps.specs.Named.{said_by, named}
use Rattle.acting.specs.Acting.{changed_by, acted}
use Rattle.acting.specs.laws.ByEvent.{left_by}
use Rattle.acting.proofs.laws.Running.{remembers, goes_on}
use Rattle.acting.proofs.laws.Stores.{clock-of, still-empty}
use Rattle.told.specs.Telling.{Knows, relay_by, breaker_by, shares_by, again_by, combined_of, known_in}
use Rattle.told.proofs.laws.Exact.{told-by}
use Rattle.told.proofs.laws.Ending.{event-shares, event-commands}
use Rattle.told.proofs.laws.Rule.{by-rule}
use Rattle.site.specs.declared.Site.{Site}
use Rattle.site.specs.declared.Out.{Out}
use Rattle.site.specs.Site.{nodes}
use Rattle.refusing.specs.Tests.{phase_takes}
use Rattle.refusing.specs.laws.Accepted.{Passes, row-passed, happens}
use Rattle.effects.specs.Effects.{act, commanded, turned, effect_of}
use Rattle.stepping.specs.laws.StepLaws.{by_tests}
use Rattle.lent.specs.Lent.{record_of, out_of, table_after, table_after_answer}
use Rattle.sequences.specs.History.{Entry, Accepted, next_number, last_start, accepted, at_node, deliveries}
use Rattle.sequences.specs.Told.{change_pairs, told_to, r_then, b_then, held_then}
use Rattle.sequences.specs.Moments.{Moment, Reached, from, then, after_step, entry, node_at}
use Rattle.sequences.specs.Demand.{Always, Correct, EachStep, SendsAtOnce}
use Rattle.sequences.specs.State.{shares_told, commands_told, SentSo, SentAsTold}
use Rattle.sequences.proofs.laws.Fitting.{done_with, sent_by, runs-told}
use Rattle.sequences.proofs.laws.Keeps.{FitsNode, Keeps, correct}
use Rattle.sequences.proofs.laws.Reaching.{remembered, no_start, reached-keeps}
use Rattle.sequences.specs.laws.OfBreaker.{change-numbered}
use Rattle.sequences.proofs.laws.NodeTold.{suits}
use Rattle.sequences.proofs.laws.SiteTold.{Tells}
use Rattle.sequences.proofs.laws.StateTold.{reached-told}
use Rattle.sequences.proofs.laws.Soundness.{in-range}
use Rattle.sequences.proofs.laws.AtOnce.{each-sends}

-- ---- an event at node i

module _
    (b : Beginning) (steps : List Accepted) (site : Site) (records : List Node) (number i : ℕ) (t : Dts) (event : Event)
    (keeps : Keeps b steps site records) (told : Tells b steps site records) (c : Correct b steps i)
    (up : not (phase_down (get_or records i went_down).phase) ≡ true) (takes : phase_takes (get_or records i went_down).phase (said_by event).kind ≡ true)
    (known : remembers site.breaker event ≡ true) (l : (get_or records i went_down).store.clock.0 ≤ t.0) (late : t.0 ≤ latest_clock)
  where
    abbrev node : Node
    node = get_or records i went_down

    abbrev p : Phase
    p = node.phase

    abbrev end : Acted
    end = acted site.breaker node i site.f t event

    abbrev a : Accepted
    a = done_with number (AtNode i t event) (sent_by end)

    abbrev own : List Accepted
    own = at_node i steps

    abbrev k : Knows
    k = told_to b i steps

    knows : known_in p ≡ k
    knows = (told.nodes-told i c).knows

    shares-so : end.shares ≡ shares_told b steps (AtNode i t event)
    shares-so =
        event-shares site.breaker node i site.f t event up (suits p (said_by event).kind takes) known (told.nodes-told i c).armed (keeps.fits i c).once-known
        ∙ ap (λ (x : Knows). shares_by (said_by event) t x.r x.b (relay_by (said_by event) t x.b x.r)) knows

    -- what the node holds then
    module _ (fits : FitsNode site.f i end.node (a ∷ own)) (within : store_within end.node.store (nodes b.f b.k) ≡ true) where
      at : end.node.store.clock ≡ t
      at = clock-of site.breaker node i site.f t event up l

      held-so : (A : ℕ) (T : Dts) (s : ℕ) → held end.node.store A T s ≡ held_then steps a i t A T s
      held-so A T s = go p refl ∙ ap (λ (x : Bool). x && (has (deliveries s i (a ∷ own)) A T && fresh T t)) (runs-told site.f i p node.store own (keeps.fits i c))
        where
          go : (q : Phase) → p ≡ q → held end.node.store A T s ≡ (phase_running p && (has (deliveries s i (a ∷ own)) A T && fresh T t))
          go NotUp is = absurd (false≢true (ap (λ (x : Phase). not (phase_down x)) (sym is) ∙ up))
          go (Starting learned) is =
              ap (λ (x : Store). held x A T s)
              (ap (λ (q : Phase). (acted site.breaker (record { phase = q; store = node.store }) i site.f t event).node.store) is
              ∙ still-empty site.breaker learned node.store i site.f t event
              ((told-by site.breaker t event p).unsent (subst (λ (q : Phase). phase_takes q (said_by event).kind ≡ true) is takes)))
              ∙ held-empty t A T s
              ∙ sym (ap (λ (q : Phase). phase_running q && (has (deliveries s i (a ∷ own)) A T && fresh T t)) is)
          go (Running rec) is =
              (fits.while-running ((goes_on site.breaker node i site.f t event).runs_on (ap phase_running is))).holding s A T
              ∙ ap (λ (x : Dts). has (deliveries s i (a ∷ own)) A T && fresh T x) at
              ∙ sym (ap (λ (q : Phase). phase_running q && (has (deliveries s i (a ∷ own)) A T && fresh T t)) is)

      -- what the combining rule sends
      rule-so : (ended (changed_by site.breaker p t event).phase end.node.store site.f).command
          ≡ combined_of (nodes b.f b.k) b.f t (held_then steps a i t) (r_then b steps i t event) (b_then b steps i t event)
      rule-so =
          by-rule (nodes b.f b.k) site.f end.node.store t (held_then steps a i t) at late keeps.few-nodes held-so
          (λ A T s e. within_held end.node.store (nodes b.f b.k) A T s within e) (changed_by site.breaker p t event).phase
          ((left_by site.breaker p t event).of-phase.goes.once-known (keeps.fits i c).once-known)
          ∙ ap (λ (x : Knows). combined_of (nodes b.f b.k) site.f t (held_then steps a i t) x.r x.b)
          ((told-by site.breaker t event p).knows up (suits p (said_by event).kind takes) known)
          ∙ ap₂ (λ (x : Knows) (f : ℕ).
          combined_of (nodes b.f b.k) f t (held_then steps a i t) (relay_by (said_by event) t x.b x.r) (breaker_by (said_by event) t (change_at site.breaker) site.breaker.pair x)) knows keeps.same-f
          ∙ ap₂ (λ (change : ℕ → Option Pair) (now : Pair).
          combined_of (nodes b.f b.k) b.f t (held_then steps a i t) (relay_by (said_by event) t k.b k.r) (breaker_by (said_by event) t change now k))
          (fun_ext (λ back. ap (λ (x : Breaker). change_at x back) told.breaker ∙ change-numbered _ _ (change_pairs b steps) back)) (ap (λ (x : Breaker). x.pair) told.breaker)

      commands-so : listed end.commands ≡ commands_told b steps a (AtNode i t event)
      unfolding acted finished
      commands-so =
          event-commands site.breaker node i site.f t event up (suits p (said_by event).kind takes) known (told.nodes-told i c).armed
          ∙ ap₂ (λ (x y : Option Pair). listed_known x ++ listed_known y) (ap (λ (x : Knows). again_by (said_by event) t x.resend x.b) knows) rule-so

      pub event-sent : SentSo b a steps
      event-sent = record { shares = shares-so; commands = commands-so; ack = refl }

-- ---- one step

-- what is known of the moment after it
pub record After (b : Beginning) (steps : List Accepted) (site : Site) (records : List Node) : Type 0 where
  pub keeps_on : Keeps b steps site records
  pub still-told : Tells b steps site records
  pub within : (j : ℕ) → j < nodes b.f b.k → store_within (get_or records j went_down).store (nodes b.f b.k) ≡ true

module _
    (h : List Entry) (site : Site) (records : List Node)
    (keeps : (b : Beginning) → last_start h ≡ Some b → Keeps b (accepted h) site records)
    (told : (b : Beginning) → last_start h ≡ Some b → Tells b (accepted h) site records)
    (before : (b : Beginning) → last_start h ≡ Some b → EachStep (SentSo b) (accepted h))
  where
    abbrev SentBy : Step → Out → Type 0
    SentBy step out =
        (b : Beginning) → last_start (record { step = step; answer = out.answer } ∷ h) ≡ Some b
        → After b (accepted (record { step = step; answer = out.answer } ∷ h)) out.site (table_after_answer out.answer step records out.node)
        → EachStep (SentSo b) (accepted (record { step = step; answer = out.answer } ∷ h))

    abbrev node_of : Step → Node
    node_of step = record_of (named step).actor records

    abbrev Does : Step → Type 0
    Does step = Passes site (length records) (node_of step) step → SentBy step (effect_of site (node_of step) step)

    happens-at : (i : ℕ) (t : Dts) (event : Event) → Does (AtNode i t event)
    unfolding effect_of act
    happens-at i t event e = λ b q after.
        let node = get_or records i went_down in
        let x = happens site (length records) node i t event e in
        let is = remembered site.breaker (said_by event).back x.of-back (row-passed site (length records) node (AtNode i t event) 13 e) in
        let c = correct b (accepted h) site records (keeps b q) i x.place in
        let end = acted site.breaker node i site.f t event in
        let own = at_node i (done_with (next_number h) (AtNode i t event) (sent_by end) ∷ accepted h) in
        let here = get_or-set_same records i end.node went_down x.place.is-lent in
        let same : eqb i i ≡ true = eq-eqb i i refl in (
          event-sent b (accepted h) site records (next_number h) i t event (keeps b q) (told b q) c x.is_up
              (row-passed site (length records) node (AtNode i t event) 4 e) is x.not_back x.not_late
              (subst (λ (y : Bool). FitsNode site.f i end.node (cond y (done_with (next_number h) (AtNode i t event) (sent_by end) ∷ at_node i (accepted h)) (at_node i (accepted h)))) same
              (subst (λ (y : Node). FitsNode site.f i y own) here (after.keeps_on.fits i c)))
              (subst (λ (y : Node). store_within y.store (nodes b.f b.k) ≡ true) here (after.within i c.0)),
          before b q,
        )

    takes-turn : (i : ℕ) (turn : Turn) → Does (Life i turn)
    unfolding effect_of turned
    takes-turn i Down e = λ b q after. (record { shares = refl; commands = refl; ack = refl }, before b q)
    takes-turn i Up e = λ b q after. (record { shares = refl; commands = refl; ack = refl }, before b q)

    is-told : (t : Dts) (command : Act) → Does (AtBreaker t command)
    unfolding effect_of commanded
    is-told t command e = λ b q after. (record { shares = refl; commands = refl; ack = ap (λ (x : Breaker). Some x.pair) after.still-told.breaker }, before b q)

    done : (step : Step) → Does step
    unfolding effect_of
    done (Start b) e = λ b' q after. tt
    done Tick e = λ b q after. (record { shares = refl; commands = refl; ack = refl }, before b q)
    done (AtNode i t event) e = happens-at i t event e
    done (Life i turn) e = takes-turn i turn e
    done (AtBreaker t command) e = is-told t command e

    pub sent-by : (step : Step) → SentBy step (out_of site records step)
    unfolding out_of
    sent-by step = by_tests (SentBy step) site (length records) (node_of step) step (done step) (λ number b q after. before b q)

-- ---- every sequence

pub reached-sent : {first : Moment} {h : List Entry} {m : Moment} → Reached first h m → (b : Beginning) → last_start h ≡ Some b → EachStep (SentSo b) (accepted h)
unfolding table_after
reached-sent from = λ b q. absurd (no_start q)
reached-sent {first} (then {h} {m} r step) = λ b q.
    sent-by h m.site m.records (reached-keeps r) (reached-told r) (reached-sent r) step b q
    (record {
      keeps_on = reached-keeps (then r step) b q;
      still-told = reached-told (then r step) b q;
      within = λ j l. (parts (node_at (after_step m step) j) (nodes b.f b.k) (in-range first (entry m step ∷ h) (after_step m step) (then r step) b q j l)).of-store;
    })

pub sent-as-told : Always SentAsTold
sent-as-told first h m r b q = reached-sent r b q

pub sends-at-once : Always SendsAtOnce
sends-at-once first h m r b q = each-sends b (accepted h) (reached-sent r b q)
