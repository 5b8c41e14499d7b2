-- How the record of a correct node fits what the history says of it, and that every event keeps it so.
use Rattle.std.specs.Prelude.{ℕ, ◌+◌, ◌≤◌, ◌<◌, ◌≡◌, refl, Bool, true, false, not, ◌&&◌, ◌||◌, eqb, Option, None, Some}
use Rattle.std.proofs.Math.Path.{sym, ap, subst}
use Rattle.std.proofs.Common.{ap₂, ◌∙◌, arith, leb-true}
use Rattle.std.proofs.Math.Bool.{cond}
use Rattle.std.proofs.lemmas.Bool.{false≢true}
use mathlib.Core.List.{List, [], ◌∷◌, ◌++◌}
use Rattle.time.specs.declared.Dts.{Dts}
use Rattle.time.specs.Fresh.{fresh, window}
use Rattle.time.specs.laws.Fresh.{latest_clock, fresh-ahead}
use Rattle.senders.specs.Masks.{room}
use Rattle.store.specs.declared.Store.{Store}
use Rattle.store.specs.Store.{empty}
use Rattle.store.specs.Held.{held}
use Rattle.store.proofs.laws.Held.{held-empty}
use Rattle.pairs.specs.declared.Pair.{Pair}
use Rattle.pairs.specs.Pair.{listed, has}
use Rattle.pairs.specs.laws.KnownLaws.{is_known}
use Rattle.node.specs.declared.Record.{Record}
use Rattle.node.specs.declared.Phase.{Phase}
use Rattle.node.specs.declared.Phase.TheVariants.{Starting, Running, Down as NotUp}
use Rattle.node.specs.declared.Node.{Node}
use Rattle.node.specs.declared.Acted.{Acted}
use Rattle.node.specs.Asked.{phase_down, phase_running, known_r, known_b}
use Rattle.node.specs.laws.PhaseLaws.{RunsOnceKnown}
use Rattle.combining.specs.laws.CombiningLaws.{Quiet}
use Rattle.combining.specs.laws.OwnLaws.{has-append}
use Rattle.breaker.specs.declared.Breaker.{Breaker}
use Rattle.steps.specs.declared.Event.{Event}
use Rattle.steps.specs.declared.Step.{Step}
use Rattle.steps.specs.declared.Step.TheVariants.{AtNode}
use Rattle.steps.specs.Named.{report, ack, query, said_by, among, of_named}
use Rattle.acting.specs.Acting.{acted}
use Rattle.acting.proofs.laws.Relay.{reports, status_in, relay_after, relay-told, relay-known}
use Rattle.acting.proofs.laws.Running.{remembers, goes_on as event-goes, breaker-known, left-quiet}
use Rattle.acting.proofs.laws.Shares.{IsAction}
use Rattle.acting.proofs.laws.Stores.{Delivers, brought_by, clock-after, held_after, brought-fresh, began-empty}
use Rattle.site.specs.declared.Sent.{Sent}
use Rattle.history.specs.laws.Holding.{held-later}
use Rattle.refusing.specs.Tests.{is_status}
use Rattle.sequences.specs.History.{Accepted, last_report, clock, life, one_of, runs, brought, deliveries}
use Rattle.sequences.specs.laws.OfEvents.{delivered-as-told}

-- ---- what fits

abbrev pub done_with : ℕ → Step → Sent → Accepted
done_with number step sent = record { number = number; step = step; sent = sent }

-- an event as the history has it
abbrev pub sent_by : Acted → Sent
sent_by end = record { shares = end.shares; commands = end.commands; ack = None }

-- for node j of a site whose threshold is f + 1
module _ (f j : ℕ) where
  pub record RunningFits (store : Store) (own : List Accepted) : Type 0 where
    pub now : clock own ≡ Some store.clock
    pub not_late : store.clock.0 ≤ latest_clock
    pub holding : (i A : ℕ) (T : Dts) → held store A T i ≡ (has (deliveries i j own) A T && fresh T store.clock)
    pub soon : (i A : ℕ) (T : Dts) → has (deliveries i j own) A T ≡ true → T.0 ≤ store.clock.0 + window

  pub record Fits (p : Phase) (store : Store) (own : List Accepted) : Type 0 where
    pub once-known : RunsOnceKnown p
    pub r-known : is_known (known_r p) ≡ one_of (report ∷ []) (life own)
    pub b-known : is_known (known_b p) ≡ one_of (ack ∷ query ∷ []) (life own)
    pub relay : (A : ℕ) → status_in (known_r p) ≡ Some A → (last_report own ≡ Some A) × (A ≤ 1)
    pub while-running : phase_running p ≡ true → RunningFits store own
    pub nothing_left : (rec : Record) → p ≡ Running rec → Quiet rec store f

  -- it runs when its history says so
  pub runs-told : (p : Phase) (s : Store) (own : List Accepted) → Fits p s own → phase_running p ≡ runs own
  runs-told p s own fits = fits.once-known ∙ ap₂ (λ (x y : Bool). x && y) fits.r-known fits.b-known

  -- ---- an event that the node takes, its clock no earlier than the node's

  module _
      (breaker : Breaker) (s : Store) (own : List Accepted) (number : ℕ) (t : Dts) (event : Event)
      (room_for : j < room) (l : s.clock.0 ≤ t.0) (m : t.0 ≤ latest_clock) (d : Delivers event) (r : remembers breaker event ≡ true)
      (says : of_named (said_by event).status is_status ≡ true)
    where
      abbrev at : Phase → Node
      at p = record { phase = p; store = s }

      abbrev end : Phase → Acted
      end p = acted breaker (at p) j f t event

      abbrev step : Phase → Accepted
      step p = done_with number (AtNode j t event) (sent_by (end p))

      -- the status that the relay said last, before this step or in it
      told : (before : Option ℕ) → ((A : ℕ) → before ≡ Some A → (last_report own ≡ Some A) × (A ≤ 1)) → (A : ℕ) → relay_after event before ≡ Some A
          → (relay_after event (last_report own) ≡ Some A) × (A ≤ 1)
      told before so A = go (reports event)
        where
          in-range : (o : Option ℕ) → of_named o is_status ≡ true → o ≡ Some A → A ≤ 1
          in-range None h e = absurd (false≢true (ap there e))
            where
              there : Option ℕ → Bool
              there None = false
              there (Some x) = true
          in-range (Some B) h e = leb-true A 1 (subst (λ (o : Option ℕ). of_named o is_status ≡ true) e h)

          go : (x : Bool) → cond x (said_by event).status before ≡ Some A → (cond x (said_by event).status (last_report own) ≡ Some A) × (A ≤ 1)
          go true e = (e, in-range (said_by event).status says e)
          go false e = so A e

      -- the shares that the event makes are of that status
      pub said-last : (p : Phase) → Fits p s own → (A : ℕ) → relay_after event (status_in (known_r p)) ≡ Some A → relay_after event (last_report own) ≡ Some A
      said-last p fits A e = (told (status_in (known_r p)) fits.relay A e).0

      action : (rec : Record) → Fits (Running rec) s own → IsAction (relay_after event (status_in (known_r (Running rec))))
      action rec fits = go (relay_after event (Some rec.r.status)) refl
        where
          go : (o : Option ℕ) → relay_after event (Some rec.r.status) ≡ o → IsAction o
          go None e = tt
          go (Some A) e = (told (Some rec.r.status) fits.relay A e).1

      -- A running node: its store is what it was, at the later clock, with what the step brought.
      goes_on : (rec : Record) → Fits (Running rec) s own → RunningFits (end (Running rec)).node.store (step (Running rec) ∷ own)
      goes_on rec fits =
          record {
            now = ap Some (sym at-clock);
            not_late = rw at-clock m;
            holding = λ i A T.
                held-now i A T
                ∙ ap (λ (ps : List Pair). has ps A T && fresh T t) (sym (more i))
                ∙ ap (λ (c : Dts). has (deliveries i j (step (Running rec) ∷ own)) A T && fresh T c) (sym at-clock);
            soon = λ i A T e. rw at-clock (ahead i A T (ap (λ (ps : List Pair). has ps A T) (sym (more i)) ∙ e));
          }
        where
          before : RunningFits s own
          before = fits.while-running refl

          at-clock : (end (Running rec)).node.store.clock ≡ t
          at-clock = clock-after breaker rec s j f t event l m d (action rec fits)

          brought_now : ℕ → List Pair
          brought_now i = brought_by t event i j (end (Running rec)).shares

          more : (i : ℕ) → deliveries i j (step (Running rec) ∷ own) ≡ brought_now i ++ deliveries i j own
          more i =
              ap (λ (x : Bool). cond x (brought i j (step (Running rec)) ++ deliveries i j own) []) (sym (runs-told (Running rec) s own fits))
              ∙ ap (λ (ps : List Pair). (ps ++ cond (eqb i j) (listed (end (Running rec)).shares) []) ++ deliveries i j own) (delivered-as-told t event i)

          held-now : (i A : ℕ) (T : Dts) → held (end (Running rec)).node.store A T i ≡ (has (brought_now i ++ deliveries i j own) A T && fresh T t)
          held-now i A T =
              held_after breaker rec s j f t event l m d (action rec fits) room_for A T i
              ∙ ap (λ (x : Bool). has (brought_now i) A T || x) (held-later s t (deliveries i j own) A T i l (before.holding i A T) (before.soon i A T))
              ∙ joined (has (brought_now i) A T) (has (deliveries i j own) A T) (fresh T t) (brought-fresh breaker rec s j f t event l m d (action rec fits) A T i)
              ∙ sym (ap (λ (x : Bool). x && fresh T t) (has-append (brought_now i) (deliveries i j own) A T))
            where
              joined : (x y z : Bool) → (x ≡ true → z ≡ true) → (x || y && z) ≡ ((x || y) && z)
              joined true y z h = sym (h refl)
              joined false y z h = refl

          ahead : (i A : ℕ) (T : Dts) → has (brought_now i ++ deliveries i j own) A T ≡ true → T.0 ≤ t.0 + window
          ahead i A T e = go (has (brought_now i) A T) refl (sym (has-append (brought_now i) (deliveries i j own) A T) ∙ e)
            where
              go : (x : Bool) → has (brought_now i) A T ≡ x → (x || has (deliveries i j own) A T) ≡ true → T.0 ≤ t.0 + window
              go true ex h = fresh-ahead T t (brought-fresh breaker rec s j f t event l m d (action rec fits) A T i ex)
              go false ex h = let q = before.soon i A T h in omega (arith, l, q)

      -- One that begins to run has an empty store, and nothing was delivered to it yet.
      begins : (p : Phase) → Fits p s own → phase_running p ≡ false → (end p).node.store ≡ empty t → RunningFits (end p).node.store (step p ∷ own)
      unfolding empty
      begins p fits not_yet is =
          subst (λ (store : Store). RunningFits store (step p ∷ own)) (sym is)
          (record {
            now = refl;
            not_late = m;
            holding = λ i A T. held-empty t A T i ∙ sym (ap (λ (ps : List Pair). has ps A T && fresh T t) (none_yet i));
            soon = λ i A T e. absurd (false≢true (sym (ap (λ (ps : List Pair). has ps A T) (none_yet i)) ∙ e));
          })
        where
          none_yet : (i : ℕ) → deliveries i j (step p ∷ own) ≡ []
          none_yet i = ap (λ (x : Bool). cond x (brought i j (step p) ++ deliveries i j own) []) (sym (runs-told p s own fits) ∙ not_yet)

      runs_then : (p : Phase) → not (phase_down p) ≡ true → Fits p s own → phase_running (end p).node.phase ≡ true → RunningFits (end p).node.store (step p ∷ own)
      runs_then NotUp up fits e = absurd (false≢true up)
      runs_then (Starting learned) up fits e = begins (Starting learned) fits refl (began-empty breaker learned s j f t event e)
      runs_then (Running rec) up fits e = goes_on rec fits

      pub keeps-event : (p : Phase) → not (phase_down p) ≡ true → Fits p s own → Fits (end p).node.phase (end p).node.store (step p ∷ own)
      keeps-event p up fits =
          record {
            once-known = (event-goes breaker (at p) j f t event).once-known fits.once-known;
            r-known = relay-known breaker (at p) j f t event up ∙ ap (λ (x : Bool). among (said_by event).kind (report ∷ []) || x) fits.r-known;
            b-known = breaker-known breaker (at p) j f t event up r ∙ ap (λ (x : Bool). among (said_by event).kind (ack ∷ query ∷ []) || x) fits.b-known;
            relay = λ A e. told (status_in (known_r p)) fits.relay A (sym (relay-told breaker (at p) j f t event up) ∙ e);
            while-running = runs_then p up fits;
            nothing_left = left-quiet breaker (at p) j f t event;
          }
