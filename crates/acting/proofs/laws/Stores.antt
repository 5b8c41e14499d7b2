-- What a node's store holds after an event.
use Rattle.std.specs.Prelude.{ℕ, ◌≤◌, ◌<◌, ◌≡◌, Bool, true, false, not, ◌&&◌, ◌||◌, cond, ◌⊎◌, List, [], ◌∷◌, ◌++◌, Option, None, Some}
use Rattle.std.proofs.Math.Path.{refl, ap}
use Rattle.std.proofs.Common.{sym, subst, ◌∙◌, inl, inr}
use Rattle.std.proofs.lemmas.Bool.{false≢true}
use Rattle.std.proofs.Math.Bool.{and-eq-true_iff}
use Rattle.std.proofs.Math.Dec.{eqb}
use Rattle.time.specs.declared.Dts.{Dts}
use Rattle.time.specs.Fresh.{fresh, fresh_ones}
use Rattle.time.specs.laws.Fresh.{latest_clock, fresh-same}
use Rattle.senders.specs.Masks.{room}
use Rattle.store.specs.declared.Store.{Store}
use Rattle.store.specs.Store.{empty, moved_to}
use Rattle.store.specs.Held.{held}
use Rattle.store.proofs.laws.Held.{clock-put, held-put}
use Rattle.store.proofs.laws.HeldLaws.{room-if-fresh, clock-at}
use Rattle.pairs.specs.declared.Pair.{Pair}
use Rattle.pairs.specs.declared.Pairs.{Pairs}
use Rattle.pairs.specs.Pair.{listed, has}
use Rattle.pairs.specs.Shares.{shares_at, delivered_from}
use Rattle.node.specs.declared.Learned.{Learned}
use Rattle.node.specs.declared.Record.{Record}
use Rattle.node.specs.declared.Phase.{Phase}
use Rattle.node.specs.declared.Phase.TheVariants.{Down, Starting, Running}
use Rattle.node.specs.declared.Node.{Node}
use Rattle.node.specs.declared.Acted.{Acted}
use Rattle.node.specs.Asked.{phase_down, phase_running, known_r}
use Rattle.combining.specs.Combining.{put_all, finished}
use Rattle.events.specs.Events.{store_at}
use Rattle.combining.specs.laws.CombiningLaws.{ended-runs}
use Rattle.combining.specs.laws.OwnLaws.{has-append, has-cond, Near, near-fresh, held_all, clock-all}
use Rattle.breaker.specs.declared.Breaker.{Breaker}
use Rattle.steps.specs.declared.Event.{Event}
use Rattle.steps.specs.Named.{said_by}
use Rattle.steps.specs.laws.Naming.{IfNamed}
use Rattle.acting.specs.Acting.{changed_by, stored, acted}
use Rattle.acting.specs.laws.ByEvent.{put_each, put_from, left_by}
use Rattle.acting.proofs.laws.Relay.{status_in, relay_after}
use Rattle.acting.proofs.laws.Shares.{IsAction, shares-near, starting-shares}

-- ---- what an event brings

-- the shares of sender k that an event at clock t delivers: the fresh ones of those that it names
abbrev pub delivered_by : Dts → Event → ℕ → List Pair
delivered_by t event k = delivered_from k (said_by event).sender (said_by event).status (fresh_ones t (said_by event).stamps)

-- the shares of sender k that an event at node i brings it: those that it delivers and, where the sender is i itself, those that it makes
abbrev pub brought_by : Dts → Event → ℕ → ℕ → Pairs → List Pair
brought_by t event k i shares = delivered_by t event k ++ cond (eqb k i) (listed shares) []

-- what an event names is of a sender and an action that there are
abbrev pub Delivers : Event → Type 0
Delivers event = IfNamed (said_by event).sender (λ k. k < room) × IfNamed (said_by event).status (λ A. A ≤ 1)

has-brought : (t : Dts) (event : Event) (k i : ℕ) (shares : Pairs) (A : ℕ) (T : Dts)
    → has (brought_by t event k i shares) A T ≡ (has (delivered_by t event k) A T || (eqb k i && has (listed shares) A T))
has-brought t event k i shares A T =
    has-append (delivered_by t event k) (cond (eqb k i) (listed shares) []) A T
    ∙ ap (λ (x : Bool). has (delivered_by t event k) A T || x) (has-cond (eqb k i) (listed shares) A T)

-- ---- shares that are put as an event names them: the fresh ones are then held

module _ (s : Store) where
  clock-each : (sender B : ℕ) (stamps : List Dts) → (put_each s sender B stamps).clock ≡ s.clock
  clock-each sender B [] = refl
  clock-each sender B (U ∷ more) = clock-put (put_each s sender B more) sender B U ∙ clock-each sender B more

  pub clock-from : (sender status : Option ℕ) (stamps : List Dts) → (put_from s sender status stamps).clock ≡ s.clock
  clock-from (Some sender) (Some B) stamps = clock-each sender B stamps
  clock-from (Some sender) None stamps = refl
  clock-from None status stamps = refl

  module _ (A : ℕ) (T : Dts) (k : ℕ) where
    held-each : (sender B : ℕ) (stamps : List Dts) → sender < room → B ≤ 1
        → held (put_each s sender B stamps) A T k ≡ (eqb k sender && has (shares_at B (fresh_ones s.clock stamps)) A T || held s A T k)
    held-each sender B [] l a = none-put (eqb k sender)
      where
        none-put : (x : Bool) → held s A T k ≡ (x && false || held s A T k)
        none-put true = refl
        none-put false = refl
    held-each sender B (U ∷ more) l a =
        held-put (put_each s sender B more) sender B U A T k
        ∙ ap (λ (x : Bool). x && (eqb A B && eqb T.0 U.0) && eqb k sender || held (put_each s sender B more) A T k)
        (room-if-fresh (put_each s sender B more) sender B U l a ∙ ap (λ (c : Dts). fresh U c) (clock-each sender B more))
        ∙ ap (λ (x : Bool). fresh U s.clock && (eqb A B && eqb T.0 U.0) && eqb k sender || x) (held-each sender B more l a)
        ∙ one_more (fresh U s.clock) (fresh_ones s.clock more)
      where
        tidy : (x y z h : Bool) → (x && y || (y && z || h)) ≡ (y && (x || z) || h)
        tidy true true z h = refl
        tidy true false z h = refl
        tidy false true z h = refl
        tidy false false z h = refl

        one_more : (w : Bool) (others : List Dts)
            → (w && (eqb A B && eqb T.0 U.0) && eqb k sender || (eqb k sender && has (shares_at B others) A T || held s A T k))
            ≡ (eqb k sender && has (shares_at B (cond w (U ∷ others) others)) A T || held s A T k)
        one_more true others = tidy (eqb A B && eqb T.0 U.0) (eqb k sender) (has (shares_at B others) A T) (held s A T k)
        one_more false others = refl

    held-from : (sender status : Option ℕ) (stamps : List Dts) → IfNamed sender (λ i. i < room) → IfNamed status (λ B. B ≤ 1)
        → held (put_from s sender status stamps) A T k ≡ (has (delivered_from k sender status (fresh_ones s.clock stamps)) A T || held s A T k)
    held-from (Some sender) (Some B) stamps l a =
        held-each sender B stamps l a
        ∙ ap (λ (x : Bool). x || held s A T k) (sym (has-cond (eqb k sender) (shares_at B (fresh_ones s.clock stamps)) A T))
    held-from (Some sender) None stamps l a = refl
    held-from None status stamps l a = refl

-- the fresh ones are fresh
module _ (t : Dts) (A : ℕ) (T : Dts) where
  fresh-each : (B : ℕ) (stamps : List Dts) → has (shares_at B (fresh_ones t stamps)) A T ≡ true → fresh T t ≡ true
  fresh-each B [] e = absurd (false≢true e)
  fresh-each B (U ∷ more) e = go (fresh U t) refl (fresh-each B more) e
    where
      others : List Dts
      others = fresh_ones t more

      Rest : Type 0
      Rest = has (shares_at B others) A T ≡ true → fresh T t ≡ true

      first : fresh U t ≡ true → Rest → (x : Bool) → (eqb A B && eqb T.0 U.0) ≡ x → (x || has (shares_at B others) A T) ≡ true → fresh T t ≡ true
      first near rest true ex e = fresh-same T U t ((and-eq-true_iff (eqb A B) (eqb T.0 U.0)).0 ex).1 near
      first near rest false ex e = rest e

      go : (w : Bool) → fresh U t ≡ w → Rest → has (shares_at B (cond w (U ∷ others) others)) A T ≡ true → fresh T t ≡ true
      go true near rest e = first near rest (eqb A B && eqb T.0 U.0) refl e
      go false near rest e = rest e

  fresh-from : (k : ℕ) (sender status : Option ℕ) (stamps : List Dts) → has (delivered_from k sender status (fresh_ones t stamps)) A T ≡ true → fresh T t ≡ true
  fresh-from k (Some sender) (Some B) stamps e =
      fresh-each B stamps
      ((and-eq-true_iff (eqb k sender) (has (shares_at B (fresh_ones t stamps)) A T)).0 (sym (has-cond (eqb k sender) (shares_at B (fresh_ones t stamps)) A T) ∙ e)).1
  fresh-from k (Some sender) None stamps e = absurd (false≢true e)
  fresh-from k None status stamps e = absurd (false≢true e)

-- ---- a running node

module _ (breaker : Breaker) (rec : Record) (s : Store) (t : Dts) (event : Event) (l : s.clock.0 ≤ t.0) where
  as-named : stored (Running rec) s t event ≡ put_from (moved_to s t) (said_by event).sender (said_by event).status (said_by event).stamps
  as-named = (left_by breaker (Running rec) t event).of-store s

  pub stored-clock : (stored (Running rec) s t event).clock ≡ t
  stored-clock =
      ap (λ (x : Store). x.clock) as-named
      ∙ clock-from (moved_to s t) (said_by event).sender (said_by event).status (said_by event).stamps
      ∙ clock-at s t l

  -- a delivered share is held, beside what is still fresh of what was held
  pub held-stored : (A : ℕ) (T : Dts) (k : ℕ) → Delivers event
      → held (stored (Running rec) s t event) A T k ≡ (has (delivered_by t event k) A T || held (moved_to s t) A T k)
  held-stored A T k d =
      ap (λ (x : Store). held x A T k) as-named
      ∙ held-from (moved_to s t) A T k (said_by event).sender (said_by event).status (said_by event).stamps d.0 d.1
      ∙ ap (λ (c : Dts). has (delivered_by c event k) A T || held (moved_to s t) A T k) (clock-at s t l)

module _
    (breaker : Breaker) (rec : Record) (s : Store) (i f : ℕ) (t : Dts) (event : Event)
    (l : s.clock.0 ≤ t.0) (m : t.0 ≤ latest_clock) (d : Delivers event) (a : IsAction (relay_after event (status_in (known_r (Running rec)))))
  where
    abbrev after : Acted
    after = acted breaker (record { phase = Running rec; store = s }) i f t event

    near : Near t (changed_by breaker (Running rec) t event).shares
    near = shares-near breaker (Running rec) t event m a

    -- the store is at the clock of the event,
    pub clock-after : after.node.store.clock ≡ t
    unfolding acted finished
    clock-after = clock-all (stored (Running rec) s t event) i (changed_by breaker (Running rec) t event).shares ∙ stored-clock breaker rec s t event l

    -- and holds what the event brought, beside what is still fresh of what was held
    pub held_after : i < room → (A : ℕ) (T : Dts) (k : ℕ)
        → held after.node.store A T k ≡ (has (brought_by t event k i after.shares) A T || held (moved_to s t) A T k)
    unfolding acted finished
    held_after room_for A T k =
        held_all (stored (Running rec) s t event) i shares A T k room_for (subst (λ (c : Dts). Near c shares) (sym (stored-clock breaker rec s t event l)) near)
        ∙ ap (λ (x : Bool). eqb k i && has (listed shares) A T || x) (held-stored breaker rec s t event l A T k d)
        ∙ swap (eqb k i && has (listed shares) A T) (has (delivered_by t event k) A T) (held (moved_to s t) A T k)
        ∙ ap (λ (x : Bool). x || held (moved_to s t) A T k) (sym (has-brought t event k i shares A T))
      where
        shares : Pairs
        shares = (changed_by breaker (Running rec) t event).shares

        swap : (x y z : Bool) → (x || (y || z)) ≡ (y || x || z)
        swap true true z = refl
        swap true false z = refl
        swap false true z = refl
        swap false false z = refl

    -- all that is brought is fresh
    pub brought-fresh : (A : ℕ) (T : Dts) (k : ℕ) → has (brought_by t event k i after.shares) A T ≡ true → fresh T t ≡ true
    unfolding acted finished
    brought-fresh A T k e = go (has (delivered_by t event k) A T) refl (sym (has-brought t event k i shares A T) ∙ e)
      where
        shares : Pairs
        shares = (changed_by breaker (Running rec) t event).shares

        go : (x : Bool) → has (delivered_by t event k) A T ≡ x → (x || (eqb k i && has (listed shares) A T)) ≡ true → fresh T t ≡ true
        go true ex e = fresh-from t A T k (said_by event).sender (said_by event).status (said_by event).stamps ex
        go false ex e = near-fresh t shares A T near ((and-eq-true_iff (eqb k i) (has (listed shares) A T)).0 e).1

-- ---- a node that begins to run: "its store empty"

starting-stored : (breaker : Breaker) (learned : Learned) (s : Store) (t : Dts) (event : Event) → phase_running (changed_by breaker (Starting learned) t event).phase ≡ true
    → stored (Starting learned) s t event ≡ empty t
starting-stored breaker learned s t event runs = (left_by breaker (Starting learned) t event).of-store s ∙ go (left_by breaker (Starting learned) t event).unsent-or-kept
  where
    go : ((said_by event).sender ≡ None) ⊎ ((changed_by breaker (Starting learned) t event).phase ≡ Starting learned)
        → put_from (empty t) (said_by event).sender (said_by event).status (said_by event).stamps ≡ empty t
    go (inl unsent) = ap (λ (o : Option ℕ). put_from (empty t) o (said_by event).status (said_by event).stamps) unsent
    go (inr same) = absurd (false≢true (sym (ap phase_running same) ∙ runs))

pub began-empty : (breaker : Breaker) (learned : Learned) (s : Store) (i f : ℕ) (t : Dts) (event : Event)
    → phase_running (acted breaker (record { phase = Starting learned; store = s }) i f t event).node.phase ≡ true
    → (acted breaker (record { phase = Starting learned; store = s }) i f t event).node.store ≡ empty t
unfolding acted finished put_all
began-empty breaker learned s i f t event runs =
    ap (put_all (stored (Starting learned) s t event) i) (starting-shares breaker learned t event)
    ∙ starting-stored breaker learned s t event (ended-runs _ f (changed_by breaker (Starting learned) t event).phase runs)

-- ---- any node that is not down: its store is at the clock of the event, and that of one that starts up stays empty

module _ (breaker : Breaker) (node : Node) (i f : ℕ) (t : Dts) (event : Event) where
  at-clock : (p : Phase) → not (phase_down p) ≡ true → node.store.clock.0 ≤ t.0 → (store_at p node.store t).clock ≡ t
  unfolding empty
  at-clock Down up l = absurd (false≢true up)
  at-clock (Starting learned) up l = refl
  at-clock (Running rec) up l = clock-at node.store t l

  pub clock-of : not (phase_down node.phase) ≡ true → node.store.clock.0 ≤ t.0 → (acted breaker node i f t event).node.store.clock ≡ t
  unfolding acted finished
  clock-of up l =
      clock-all (stored node.phase node.store t event) i (changed_by breaker node.phase t event).shares
      ∙ ap (λ (x : Store). x.clock) ((left_by breaker node.phase t event).of-store node.store)
      ∙ clock-from (store_at node.phase node.store t) (said_by event).sender (said_by event).status (said_by event).stamps
      ∙ at-clock node.phase up l

pub still-empty : (breaker : Breaker) (learned : Learned) (s : Store) (i f : ℕ) (t : Dts) (event : Event) → (said_by event).sender ≡ None
    → (acted breaker (record { phase = Starting learned; store = s }) i f t event).node.store ≡ empty t
unfolding acted finished put_all
still-empty breaker learned s i f t event unsent =
    ap (put_all (stored (Starting learned) s t event) i) (starting-shares breaker learned t event)
    ∙ (left_by breaker (Starting learned) t event).of-store s
    ∙ ap (λ (o : Option ℕ). put_from (empty t) o (said_by event).status (said_by event).stamps) unsent
