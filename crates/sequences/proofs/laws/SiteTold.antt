-- A site and its table are what the history tells, step by step.
use Prim.Native.Nat.{ℕ, suc, ◌+◌, ◌^◌, ◌≤◌, ◌<◌}
use Rattle.std.specs.Prelude.{◌≡◌, refl, Bool, true, false, not, ◌&&◌, ◌||◌, cond, length, get_or, set}
use Rattle.std.proofs.Common.{sym, subst, ◌∙◌, true≢false, arith, get_or-set_same, get_or-set_other, eqb-true, eq-eqb, ne_eqb, lt-ltb}
use Rattle.std.proofs.Math.Path.{ap, ap₂}
use mathlib.Core.List.{List, [], ◌∷◌, ◌++◌, map}
use Rattle.std.proofs.Math.Dec.{eqb}
use Rattle.std.proofs.lemmas.Bool.{eqb-false}
use Rattle.refusals.specs.laws.Bools.{right}
use Rattle.time.specs.declared.Dts.{Dts}
use Rattle.time.specs.Fresh.{window, fresh, next}
use Rattle.time.specs.Larger.{larger}
use Rattle.time.specs.laws.Fresh.{fresh-ahead, fresh-then, next-is}
use Rattle.senders.specs.Masks.{is_in, room}
use Rattle.senders.proofs.laws.MaskLaws.{in-joined, in_without}
use Rattle.store.specs.Store.{moved_to}
use Rattle.store.specs.Held.{held}
use Rattle.store.proofs.laws.Held.{held_moved}
use Rattle.store.proofs.laws.HeldLaws.{clock-at}
use Rattle.pairs.specs.declared.Pair.{Pair}
use Rattle.pairs.specs.declared.Pairs.{Pairs}
use Rattle.pairs.specs.declared.Pairs.TheVariants.{Zero, One, Two}
use Rattle.pairs.specs.Pair.{pair, listed, has}
use Rattle.node.specs.declared.Node.{Node}
use Rattle.node.specs.declared.Acted.{Acted}
use Rattle.node.specs.Asked.{phase_down}
use Rattle.combining.specs.Combining.{put_all}
use Rattle.combining.specs.laws.OwnLaws.{has-append, has-cond, Near, near-fresh, held_all, clock-all}
use Rattle.events.specs.Events.{went_down, went_up}
use Rattle.breaker.specs.declared.Breaker.{Breaker}
use Rattle.breaker.specs.declared.Changes.{Changes}
use Rattle.breaker.specs.Breaker.{remembered, repeats, after_command, change_at}
use Rattle.breaker.specs.laws.CommandLaws.{repeat-keeps, change-moves}
use Rattle.steps.specs.declared.Beginning.{Beginning}
use Rattle.steps.specs.declared.Event.{Event}
use Rattle.steps.specs.declared.Turn.{Turn}
use Rattle.steps.specs.declared.Turn.TheVariants.{Down, Up}
use Rattle.steps.specs.declared.Act.{Act}
use Rattle.steps.specs.declared.Step.TheVariants.{Tick, AtNode, Life, AtBreaker}
use Rattle.steps.specs.Named.{said_by}
use Rattle.acting.specs.Acting.{acted}
use Rattle.acting.proofs.laws.Running.{remembers}
use Rattle.told.specs.Telling.{Knows, nothing, knows_after, last_of}
use Rattle.site.specs.declared.Site.{Site}
use Rattle.site.specs.declared.Sent.{Sent}
use Rattle.site.specs.Site.{nodes, g}
use Rattle.site.specs.Answers.{silence}
use Rattle.refusing.specs.Tests.{phase_takes}
use Rattle.effects.specs.Effects.{with_made, with_breaker, ticked, turned}
use Rattle.sequences.specs.History.{Accepted, Change, breaker_status, unless_had, changes_in, concerns, at_node}
use Rattle.sequences.specs.Told.{pair_of, first_or, changes_of, site_clock, change_pairs, breaker_pair, breaker_told, numbered_of, told_to, shares_of, is_down_told}
use Rattle.sequences.specs.Demand.{Correct}
use Rattle.sequences.proofs.laws.Fitting.{done_with, sent_by}
use Rattle.sequences.specs.laws.OfBreaker.{remembers-one, change-numbered}
use Rattle.sequences.proofs.laws.NodeTold.{NodeTells, event-tells, down-tells, up-tells}

-- ---- the site and its table

-- For what the last Start gave and the steps accepted since
pub record Tells (b : Beginning) (steps : List Accepted) (site : Site) (records : List Node) : Type 0 where
  pub is-started : site.started ≡ true
  pub now : (g site).0 ≡ site_clock b steps
  pub breaker : site.breaker ≡ breaker_told b steps
  pub made : (i A : ℕ) (T : Dts) → held site.made A T i ≡ (has (shares_of i steps) A T && fresh T (g site))
  pub soon : (i A : ℕ) (T : Dts) → has (shares_of i steps) A T ≡ true → T.0 ≤ (g site).0 + window
  pub down : (i : ℕ) → is_in site.down i ≡ is_down_told (at_node i steps)
  pub nodes-told : (j : ℕ) → Correct b steps j → NodeTells (told_to b j steps) (at_node j steps) (get_or records j went_down)
  pub others-down : (j : ℕ) → j < nodes b.f b.k → is_in b.compromised j ≡ true → get_or records j went_down ≡ went_down

-- ---- a step at node i leaves what is told of every other

-- which node a step is at, both ways round
same_way : (i j : ℕ) → eqb i j ≡ eqb j i
same_way i j = go (eqb j i) refl
  where
    go : (x : Bool) → eqb j i ≡ x → eqb i j ≡ x
    go true e = eq-eqb i j (sym (eqb-true j i e))
    go false e = ne_eqb i j (λ same. eqb-false j i e (sym same))

-- near a clock: of an action, and fresh there
pub near_of : (t : Dts) (sh : Pairs) → ((A : ℕ) (T : Dts) → has (listed sh) A T ≡ true → (A ≤ 1) × (fresh T t ≡ true)) → Near t sh
near_of t Zero so = tt
near_of t (One p) so = so p.status p.stamp (simp (eq-eqb p.status p.status refl, eq-eqb p.stamp.0 p.stamp.0 refl))
near_of t (Two p q) so = (
  so p.status p.stamp (simp (eq-eqb p.status p.status refl, eq-eqb p.stamp.0 p.stamp.0 refl)),
  so q.status q.stamp (last (eqb q.status p.status && eqb q.stamp.0 p.stamp.0)),
)
  where
    last : (x : Bool) → (x || (eqb q.status q.status && eqb q.stamp.0 q.stamp.0 || false)) ≡ true
    last true = refl
    last false = simp (eq-eqb q.status q.status refl, eq-eqb q.stamp.0 q.stamp.0 refl)

-- what was made before, and what a step makes
both-made : (x y z : Bool) → (x ≡ true → z ≡ true) → (x || y && z) ≡ ((x || y) && z)
both-made true y z h = sym (h refl)
both-made false y z h = refl

module _ (b : Beginning) (steps : List Accepted) (site : Site) (records : List Node) (before : Tells b steps site records) where
  -- what is told of the nodes, after a step at node i that leaves this record there
  at-node : (i : ℕ) (a : Accepted) (node : Node) (k : Knows) → ((j : ℕ) → concerns j a ≡ eqb i j) → i < length records
      → ((j : ℕ) → told_to b j (a ∷ steps) ≡ cond (concerns j a) k (told_to b j steps)) → NodeTells k (a ∷ at_node i steps) node
      → (j : ℕ) → Correct b steps j → NodeTells (told_to b j (a ∷ steps)) (at_node j (a ∷ steps)) (get_or (set records i node) j went_down)
  at-node i a node k there lent told new j c =
      subst (λ (x : Knows). NodeTells x (at_node j (a ∷ steps)) (get_or (set records i node) j went_down)) (sym (told j))
      (subst (λ (x : Bool). NodeTells (cond x k (told_to b j steps)) (cond x (a ∷ at_node j steps) (at_node j steps)) (get_or (set records i node) j went_down)) (sym (there j)) (go (eqb i j) refl))
    where
      go : (x : Bool) → eqb i j ≡ x → NodeTells (cond x k (told_to b j steps)) (cond x (a ∷ at_node j steps) (at_node j steps)) (get_or (set records i node) j went_down)
      go true e =
          let same : i ≡ j = eqb-true i j e in
          subst (λ (x : ℕ). NodeTells k (a ∷ at_node x steps) (get_or (set records i node) x went_down)) same
          (subst (NodeTells k (a ∷ at_node i steps)) (sym (get_or-set_same records i node went_down lent)) new)
      go false e =
          subst (NodeTells (told_to b j steps) (at_node j steps)) (sym (get_or-set_other records i j node went_down (λ (d : j ≡ i). eqb-false i j e (sym d)))) (before.nodes-told j c)

  -- the record of a compromised node
  still-down : (i : ℕ) (node : Node) → is_in b.compromised i ≡ false → (j : ℕ) → j < nodes b.f b.k → is_in b.compromised j ≡ true → get_or (set records i node) j went_down ≡ went_down
  still-down i node correct j l is =
      get_or-set_other records i j node went_down (λ (same : j ≡ i). true≢false (sym is ∙ ap (is_in b.compromised) same ∙ correct)) ∙ before.others-down j l is

  -- shares made at node i, near the site clock
  more-made : (i : ℕ) (shares : Pairs) → i < room → Near (g site) shares
      → (k A : ℕ) (T : Dts) → held (put_all site.made i shares) A T k ≡ (has (cond (eqb i k) (listed shares) [] ++ shares_of k steps) A T && fresh T (g site))
  more-made i shares room_for near k A T =
      held_all site.made i shares A T k room_for near
      ∙ ap₂ (λ (x y : Bool). x && has (listed shares) A T || y) (same_way k i) (before.made k A T)
      ∙ both-made (eqb i k && has (listed shares) A T) (has (shares_of k steps) A T) (fresh T (g site)) (λ e. near-fresh (g site) shares A T near (right (eqb i k) _ e))
      ∙ ap (λ (x : Bool). x && fresh T (g site))
      (ap (λ (x : Bool). x || has (shares_of k steps) A T) (sym (has-cond (eqb i k) (listed shares) A T)) ∙ sym (has-append (cond (eqb i k) (listed shares) []) (shares_of k steps) A T))

  more-soon : (i : ℕ) (shares : Pairs) → Near (g site) shares → (k A : ℕ) (T : Dts) → has (cond (eqb i k) (listed shares) [] ++ shares_of k steps) A T ≡ true → T.0 ≤ (g site).0 + window
  more-soon i shares near k A T e = go (eqb i k && has (listed shares) A T) refl
      (sym (ap (λ (x : Bool). x || has (shares_of k steps) A T) (has-cond (eqb i k) (listed shares) A T)) ∙ (sym (has-append (cond (eqb i k) (listed shares) []) (shares_of k steps) A T) ∙ e))
    where
      go : (x : Bool) → (eqb i k && has (listed shares) A T) ≡ x → (x || has (shares_of k steps) A T) ≡ true → T.0 ≤ (g site).0 + window
      go true ex h = fresh-ahead T (g site) (near-fresh (g site) shares A T near (right (eqb i k) _ ex))
      go false ex h = before.soon k A T h

-- ---- one step

module _ (b : Beginning) (steps : List Accepted) (site : Site) (records : List Node) (before : Tells b steps site records) (number : ℕ) where
  -- the site clock goes up by one
  pub ticks-on : (g site).0 + 1 < 2 ^ 32 → Tells b (done_with number Tick silence ∷ steps) (ticked site) records
  unfolding ticked
  ticks-on fits =
      record {
        is-started = before.is-started;
        now = let old = before.now in let later = at in omega (arith, old, later);
        breaker = before.breaker;
        made = λ i A T.
            held_moved site.made (next (g site)) A T i
            ∙ ap (λ (x : Bool). fresh T (moved_to site.made (next (g site))).clock && x) (before.made i A T)
            ∙ kept (has (shares_of i steps) A T) (fresh T (moved_to site.made (next (g site))).clock) (fresh T (g site)) (λ has fresh-now.
            fresh-then T (g site) (moved_to site.made (next (g site))).clock up (before.soon i A T has) fresh-now);
        soon = λ i A T h. let old = before.soon i A T h in let later = at in omega (arith, old, later);
        down = before.down;
        nodes-told = before.nodes-told;
        others-down = before.others-down;
      }
    where
      at : (moved_to site.made (next (g site))).clock.0 ≡ suc (g site).0
      at = let after : (next (g site)).0 ≡ (g site).0 + 1 = next-is (g site) fits in
          ap (λ (c : Dts). c.0) (clock-at site.made (next (g site)) (omega (arith, after))) ∙ (after ∙ omega arith)

      up : (g site).0 ≤ (moved_to site.made (next (g site))).clock.0
      up = let later = at in omega (arith, later)

      kept : (h x y : Bool) → (h ≡ true → x ≡ true → y ≡ true) → (x && (h && y)) ≡ (h && x)
      kept true true y so = so refl refl
      kept true false y so = refl
      kept false true y so = refl
      kept false false y so = refl

  -- an event at node i, whose shares are near the site clock
  module _ (i : ℕ) (t : Dts) (event : Event) where
    abbrev node : Node
    node = get_or records i went_down

    abbrev outcome : Acted
    outcome = acted site.breaker node i site.f t event

    abbrev a : Accepted
    a = done_with number (AtNode i t event) (sent_by outcome)

    pub happens-so : Correct b steps i → i < length records → i < room → not (phase_down node.phase) ≡ true → phase_takes node.phase (said_by event).kind ≡ true
        → remembers site.breaker event ≡ true → node.store.clock.0 ≤ t.0 → Near (g site) outcome.shares
        → Tells b (a ∷ steps) (with_made site (put_all site.made i outcome.shares)) (set records i outcome.node)
    happens-so c lent room_for up takes known l near =
        record {
          is-started = before.is-started;
          now = same-clock ∙ before.now;
          breaker = before.breaker;
          made = λ k A T. more-made b steps site records before i outcome.shares room_for near k A T ∙ ap (λ (x : Dts). has (shares_of k (a ∷ steps)) A T && fresh T x) (sym clock-same);
          soon = λ k A T e. subst (λ (x : ℕ). T.0 ≤ x + window) (sym same-clock) (more-soon b steps site records before i outcome.shares near k A T e);
          down = λ k. before.down k ∙ unturned k (eqb i k);
          nodes-told = at-node b steps site records before i a outcome.node _ (λ j. refl) lent (λ j. same-told j (eqb i j) refl) new;
          others-down = still-down b steps site records before i outcome.node c.1;
        }
      where
        clock-same : (put_all site.made i outcome.shares).clock ≡ g site
        clock-same = clock-all site.made i outcome.shares

        same-clock : (put_all site.made i outcome.shares).clock.0 ≡ (g site).0
        same-clock = ap (λ (x : Dts). x.0) clock-same

        unturned : (k : ℕ) (x : Bool) → is_down_told (at_node k steps) ≡ is_down_told (cond x (a ∷ at_node k steps) (at_node k steps))
        unturned k true = refl
        unturned k false = refl

        told : NodeTells (told_to b i steps) (at_node i steps) node
        told = before.nodes-told i c

        new : NodeTells (knows_after (said_by event) t (numbered_of (change_pairs b steps)) (breaker_pair b steps) (last_of (listed outcome.commands)) (told_to b i steps)) (a ∷ at_node i steps) outcome.node
        new =
            event-tells site.breaker node i site.f number t event (told_to b i steps) (at_node i steps) told up takes known l
            (numbered_of (change_pairs b steps)) (breaker_pair b steps)
            (λ back. ap (λ (x : Breaker). change_at x back) before.breaker ∙ change-numbered _ _ (change_pairs b steps) back) (ap (λ (x : Breaker). x.pair) before.breaker)

        same-told : (j : ℕ) (x : Bool) → eqb i j ≡ x
            → cond x (knows_after (said_by event) t (numbered_of (change_pairs b steps)) (breaker_pair b steps) (last_of (listed outcome.commands)) (told_to b j steps)) (told_to b j steps)
            ≡ cond x (knows_after (said_by event) t (numbered_of (change_pairs b steps)) (breaker_pair b steps) (last_of (listed outcome.commands)) (told_to b i steps)) (told_to b j steps)
        same-told j true e = ap (λ (x : ℕ). knows_after (said_by event) t (numbered_of (change_pairs b steps)) (breaker_pair b steps) (last_of (listed outcome.commands)) (told_to b x steps)) (sym (eqb-true i j e))
        same-told j false e = refl

  -- a node goes down, or comes up
  pub turns-so : (i : ℕ) (turn : Turn) → Correct b steps i → i < length records → i < room
      → Tells b (done_with number (Life i turn) silence ∷ steps) (turned site i turn).site (set records i (turned site i turn).node)
  unfolding turned
  turns-so i Down c lent room_for =
      record {
        is-started = before.is-started;
        now = before.now;
        breaker = before.breaker;
        made = λ k A T. before.made k A T ∙ ap (λ (ps : List Pair). has ps A T && fresh T (g site)) (none_more k (eqb i k));
        soon = λ k A T e. before.soon k A T (ap (λ (ps : List Pair). has ps A T) (none_more k (eqb i k)) ∙ e);
        down = λ k.
            in-joined site.down i k
            ∙ ap₂ (λ (x y : Bool). x && y || is_in site.down k) (lt-ltb i room room_for) (same_way k i)
            ∙ ap (λ (x : Bool). eqb i k || x) (before.down k)
            ∙ went (eqb i k) (is_down_told (at_node k steps)) (at_node k steps) refl;
        nodes-told = at-node b steps site records before i a went_down nothing (λ j. refl) lent (λ j. refl) (down-tells i number (at_node i steps));
        others-down = still-down b steps site records before i went_down c.1;
      }
    where
      a : Accepted
      a = done_with number (Life i Down) silence

      none_more : (k : ℕ) (x : Bool) → shares_of k steps ≡ cond x [] [] ++ shares_of k steps
      none_more k true = refl
      none_more k false = refl

      went : (x y : Bool) (own : List Accepted) → is_down_told own ≡ y → (x || y) ≡ is_down_told (cond x (a ∷ own) own)
      went true y own e = refl
      went false y own e = sym e
  turns-so i Up c lent room_for =
      record {
        is-started = before.is-started;
        now = before.now;
        breaker = before.breaker;
        made = λ k A T. before.made k A T ∙ ap (λ (ps : List Pair). has ps A T && fresh T (g site)) (none_more k (eqb i k));
        soon = λ k A T e. before.soon k A T (ap (λ (ps : List Pair). has ps A T) (none_more k (eqb i k)) ∙ e);
        down = λ k.
            in_without site.down i k
            ∙ ap₂ (λ (x y : Bool). x && not y) (before.down k) (same_way k i)
            ∙ came (eqb i k) (is_down_told (at_node k steps)) (at_node k steps) refl;
        nodes-told = at-node b steps site records before i a went_up nothing (λ j. refl) lent (λ j. refl) (up-tells i number (at_node i steps));
        others-down = still-down b steps site records before i went_up c.1;
      }
    where
      a : Accepted
      a = done_with number (Life i Up) silence

      none_more : (k : ℕ) (x : Bool) → shares_of k steps ≡ cond x [] [] ++ shares_of k steps
      none_more k true = refl
      none_more k false = refl

      came : (x y : Bool) (own : List Accepted) → is_down_told own ≡ y → (y && not x) ≡ is_down_told (cond x (a ∷ own) own)
      came true true own e = refl
      came true false own e = refl
      came false true own e = sym e
      came false false own e = sym e

  -- a command, for a breaker that has the status which the history tells
  pub commands-so : (t : Dts) (act : Act) (sent : Sent) → site.breaker.pair.status ≡ breaker_status b.status steps
      → Tells b (done_with number (AtBreaker t act) sent ∷ steps) (with_breaker site (after_command site.breaker t act.status act.stamp)) records
  commands-so t act sent same =
      record {
        is-started = before.is-started;
        now = before.now;
        breaker = go (repeats site.breaker act.status) refl;
        made = before.made;
        soon = before.soon;
        down = before.down;
        nodes-told = before.nodes-told;
        others-down = before.others-down;
      }
    where
      c : Change
      c = record { number = number; clock = t; action = act.status; stamp = act.stamp; acked = sent.ack; before = steps }

      -- the breaker, for whether the history takes the command for a repeat
      told : Bool → Breaker
      told had =
          record {
            pair = first_or (pair b.status b.g) (map pair_of (unless_had had c ++ changes_in b.status steps));
            clock = t;
            changes = changes_of (map pair_of (unless_had had c ++ changes_in b.status steps));
          }

      as-told : (x : Bool) → repeats site.breaker act.status ≡ x → told x ≡ breaker_told b (done_with number (AtBreaker t act) sent ∷ steps)
      as-told x e = ap told (sym e ∙ ap (λ (had : ℕ). eqb act.status had) same)

      p : Pair
      p = pair act.status (larger act.stamp t)

      go : (x : Bool) → repeats site.breaker act.status ≡ x → after_command site.breaker t act.status act.stamp ≡ breaker_told b (done_with number (AtBreaker t act) sent ∷ steps)
      go true e =
          repeat-keeps site.breaker t act.status act.stamp e
          ∙ ap (λ (x : Breaker). record { pair = x.pair; clock = t; changes = x.changes }) before.breaker
          ∙ as-told true e
      go false e =
          change-moves site.breaker t act.status act.stamp e
          ∙ ap (λ (x : Breaker). record { pair = p; clock = t; changes = remembered x.changes p }) before.breaker
          ∙ ap (λ (x : Changes). record { pair = p; clock = t; changes = x }) (remembers-one (change_pairs b steps) p)
          ∙ as-told false e
