-- What the breaker of a site keeps of the history: a step elsewhere leaves it, and a message moves it as it should.
use Rattle.std.specs.Prelude.{ℕ, ◌+◌, ◌^◌, ◌≤◌, ◌<◌, ◌≡◌, Bool, false, ◌&&◌, ◌||◌, cond, ◌⊎◌, List, [], ◌∷◌, ◌++◌, eqb, Option, None, Some}
use Rattle.std.proofs.Math.Path.{refl, ap, subst}
use Rattle.std.proofs.Common.{sym, ap₂, ◌∙◌, inl, inr, le_refl, arith}
use Rattle.std.proofs.Math.Bool.{true, and-eq-true_iff}
use Rattle.std.proofs.lemmas.Bool.{false≢true}
use borrow.Author.Tests.{eqb-true, leb-true, leb-false}
use Rattle.refusals.specs.laws.Bools.{right}
use Rattle.time.specs.declared.Dts.{Dts}
use Rattle.time.specs.Fresh.{fresh, window}
use Rattle.time.specs.laws.Fresh.{fresh-ahead, fresh-same}
use Rattle.senders.specs.Sets.{count_below, both}
use Rattle.senders.specs.laws.Sets.{count-within, count-more}
use Rattle.senders.specs.Masks.{room, is_in, size, enough}
use Rattle.senders.proofs.laws.MaskLaws.{some-outside}
use Rattle.store.specs.declared.Store.{Store}
use Rattle.store.specs.Held.{held}
use Rattle.store.proofs.laws.Held.{held_moved}
use Rattle.store.proofs.laws.HeldLaws.{clock-at}
use Rattle.pooling.specs.Pooling.{pooled}
use Rattle.pooling.proofs.laws.PoolLaws.{pooled-from}
use Rattle.pairs.specs.declared.Pair.{Pair}
use Rattle.pairs.specs.declared.Pairs.TheVariants.{Zero}
use Rattle.pairs.specs.Pair.{pair, has}
use Rattle.pairs.specs.laws.KnownLaws.{none-known}
use Rattle.combining.specs.laws.OwnLaws.{has-append, has-cond}
use Rattle.breaker.specs.declared.Breaker.{Breaker}
use Rattle.breaker.specs.Breaker.{answered, changed}
use Rattle.steps.specs.declared.Beginning.{Beginning}
use Rattle.site.specs.declared.Sent.{Sent}
use Rattle.site.specs.Site.{nodes}
use Rattle.effects.specs.Effects.{with_breaker}
use Rattle.history.specs.laws.Holding.{held-later}
use Rattle.arbiter_steps.specs.declared.Message.{Message}
use Rattle.arbiter_steps.specs.declared.Step.{Step}
use Rattle.arbiter_steps.specs.declared.Step.TheVariants.{AtBreaker}
use Rattle.arbiter_breaker.specs.declared.Arbitrated.{Arbitrated}
use Rattle.arbiter_breaker.specs.Arbitrating.{other, asking, received, changed_by, decided, arbitrated}
use Rattle.arbiter_breaker.specs.laws.ArbitratingLaws.{received-clock, received-held, moves, when-moved, when-unmoved, other-action, rises, not-below, not-before, one-of-them}
use Rattle.arbiter_site.specs.declared.Arbiter.{Arbiter}
use Rattle.arbiter_site.specs.laws.Accepted.{Heard}
use Rattle.arbiter_sequences.specs.History.{Accepted, Change, brought, deliveries, held_of, held_told, breaker_clock, changes_in, breaker_pair, wanted, is_counted}
use Rattle.arbiter_sequences.specs.Demand.{SentIt, CountedAt, Enough, IsLargest, ChangesAtOnceBy, SentByACorrectOne, AboveItsOwn, Rising, Earlier, further, Each, EachStep}
use Rattle.arbiter_sequences.specs.laws.Counting.{as_many}

abbrev pub done_with : ℕ → Step → Sent → Accepted
done_with number step sent = record { number = number; step = step; sent = sent }

-- For what the last Start gave and the steps accepted since
pub record Holds (b : Beginning) (steps : List Accepted) (a : Arbiter) : Type 0 where
  pub clock : a.site.breaker.clock ≡ breaker_clock b steps
  pub now : a.held.clock ≡ breaker_clock b steps
  pub has-pair : a.site.breaker.pair ≡ breaker_pair b steps
  pub holding : (i A : ℕ) (T : Dts) → held a.held A T i ≡ held_told steps (breaker_clock b steps) A T i
  pub soon : (i A : ℕ) (T : Dts) → has (deliveries i steps) A T ≡ true → T.0 ≤ (breaker_clock b steps).0 + window
  pub below : (i A : ℕ) (T : Dts) → has (deliveries i steps) A T ≡ true → i < nodes b.f b.k
  pub vouched : (i A : ℕ) (T : Dts) → has (deliveries i steps) A T ≡ true → is_in b.compromised i ≡ false → Earlier (SentIt i A T) steps
  pub correct-one : Each (SentByACorrectOne b) (changes_in steps)
  pub above : Each (AboveItsOwn b) (changes_in steps)
  pub rising : Rising (changes_in steps)
  pub not-above : Each (λ c. c.stamp.0 ≤ (breaker_pair b steps).stamp.0) (changes_in steps)
  pub at_once : EachStep (λ a before. ChangesAtOnceBy b a before a.step) steps
  pub no-command : EachStep (λ a before. a.sent.commands ≡ Zero) steps

-- ---- a step elsewhere

module _ (b : Beginning) (steps : List Accepted) (a : Arbiter) (before : Holds b steps a) (x : Accepted) (next : Arbiter)
    (brings : (i : ℕ) → brought i x.step ≡ []) (clocks : breaker_clock b (x ∷ steps) ≡ breaker_clock b steps) (same : changes_in (x ∷ steps) ≡ changes_in steps) where
  same-deliveries : (i : ℕ) → deliveries i (x ∷ steps) ≡ deliveries i steps
  same-deliveries i = ap (λ (ps : List Pair). ps ++ deliveries i steps) (brings i)

  has-before : (i A : ℕ) (T : Dts) → has (deliveries i (x ∷ steps)) A T ≡ true → has (deliveries i steps) A T ≡ true
  has-before i A T e = ap (λ (ps : List Pair). has ps A T) (sym (same-deliveries i)) ∙ e

  same-pair : breaker_pair b (x ∷ steps) ≡ breaker_pair b steps
  same-pair = ap (pair_of (pair b.status b.g)) same
    where
      pair_of : Pair → List Change → Pair
      pair_of first [] = first
      pair_of first (c ∷ cs) = pair c.action c.stamp

  pub elsewhere : next.site.breaker ≡ a.site.breaker → next.held ≡ a.held → ChangesAtOnceBy b x steps x.step → x.sent.commands ≡ Zero → Holds b (x ∷ steps) next
  elsewhere same-breaker same-held quiet silent =
      record {
        clock = ap (λ (y : Breaker). y.clock) same-breaker ∙ before.clock ∙ sym clocks;
        now = ap (λ (s : Store). s.clock) same-held ∙ before.now ∙ sym clocks;
        has-pair = ap (λ (y : Breaker). y.pair) same-breaker ∙ before.has-pair ∙ sym same-pair;
        holding = λ i A T.
            ap (λ (s : Store). held s A T i) same-held
            ∙ before.holding i A T
            ∙ sym (ap₂ (λ (ps : List Pair) (t : Dts). held_of ps t A T) (same-deliveries i) clocks);
        soon = λ i A T e. subst (λ (t : Dts). T.0 ≤ t.0 + window) (sym clocks) (before.soon i A T (has-before i A T e));
        below = λ i A T e. before.below i A T (has-before i A T e);
        vouched = λ i A T e c. further (before.vouched i A T (has-before i A T e) c);
        correct-one = subst (Each (SentByACorrectOne b)) (sym same) before.correct-one;
        above = subst (Each (AboveItsOwn b)) (sym same) before.above;
        rising = subst Rising (sym same) before.rising;
        not-above =
            subst (λ (cs : List Change). Each (λ c. c.stamp.0 ≤ (breaker_pair b (x ∷ steps)).stamp.0) cs) (sym same)
            (subst (λ (p : Pair). Each (λ (c : Change). c.stamp.0 ≤ p.stamp.0) (changes_in steps)) (sym same-pair) before.not-above);
        at_once = (quiet, before.at_once);
        no-command = (silent, before.no-command);
      }

-- ---- a message

module _ (b : Beginning) (steps : List Accepted) (a : Arbiter) (before : Holds b steps a)
    (few-nodes : nodes b.f b.k ≤ room) (few : size b.compromised ≤ b.f) (same-f : a.site.f ≡ b.f) (same-k : a.site.k ≡ b.k) (same_set : a.site.compromised ≡ b.compromised)
    (made : (i A : ℕ) (T : Dts) → held a.site.made A T i ≡ true → Earlier (SentIt i A T) steps)
    (number : ℕ) (t : Dts) (m : Message) (h : Heard a t m) where
  -- the step, with the ack that was sent
  abbrev said : Option Pair → Accepted
  said ack = done_with number (AtBreaker t m) (record { shares = Zero; commands = Zero; ack = ack })

  abbrev messages : Store
  messages = received a.held t m

  -- what was delivered, with this message: it, or something before it
  more : (i A : ℕ) (T : Dts) (ack : Option Pair) → has (deliveries i (said ack ∷ steps)) A T
      ≡ (eqb i m.sender && ((eqb A m.status && eqb T.0 m.stamp.0) || false) || has (deliveries i steps) A T)
  more i A T ack =
      has-append (cond (eqb i m.sender) (pair m.status m.stamp ∷ []) []) (deliveries i steps) A T
      ∙ ap (λ (x : Bool). x || has (deliveries i steps) A T) (has-cond (eqb i m.sender) (pair m.status m.stamp ∷ []) A T)

  abbrev IsIt : ℕ → ℕ → Dts → Type 0
  IsIt i A T = (i ≡ m.sender) × (A ≡ m.status) × (T ≡ m.stamp)

  it-or-before : (i A : ℕ) (T : Dts) (ack : Option Pair) → has (deliveries i (said ack ∷ steps)) A T ≡ true → IsIt i A T ⊎ (has (deliveries i steps) A T ≡ true)
  it-or-before i A T ack e =
      go (eqb i m.sender) (eqb A m.status) (eqb T.0 m.stamp.0) (has (deliveries i steps) A T) refl refl refl (sym (more i A T ack) ∙ e)
    where
      go : (x y z w : Bool) → eqb i m.sender ≡ x → eqb A m.status ≡ y → eqb T.0 m.stamp.0 ≡ z → (x && ((y && z) || false) || w) ≡ true → IsIt i A T ⊎ (w ≡ true)
      go true true true w ex ey ez e = inl (eqb-true _ _ ex, eqb-true _ _ ey, ap (λ (n : ℕ). record { 0 = n }) (eqb-true _ _ ez))
      go true true false w ex ey ez e = inr e
      go true false z w ex ey ez e = inr e
      go false y z w ex ey ez e = inr e

  -- the clock does not go back
  onward : a.held.clock.0 ≤ t.0
  onward = subst (λ (d : Dts). d.0 ≤ t.0) (before.clock ∙ sym before.now) h.not_back

  messages-clock : messages.clock ≡ t
  messages-clock = received-clock a.held t m onward

  -- what is held then is what was delivered, as far as it is fresh
  pub holding-now : (ack : Option Pair) (i A : ℕ) (T : Dts) → held messages A T i ≡ held_told (said ack ∷ steps) t A T i
  holding-now ack i A T =
      received-held a.held t m onward h.has_room h.is-status h.is-fresh A T i
      ∙ ap (λ (x : Bool). eqb A m.status && eqb T.0 m.stamp.0 && eqb i m.sender || x)
      (sym (held_moved a.held t A T i ∙ ap (λ (d : Dts). fresh T d && held a.held A T i) (clock-at a.held t onward))
      ∙ held-later a.held t (deliveries i steps) A T i onward (before.holding i A T ∙ ap (λ (d : Dts). has (deliveries i steps) A T && fresh T d) (sym before.now))
      (λ e. subst (λ (d : Dts). T.0 ≤ d.0 + window) (sym before.now) (before.soon i A T e)))
      ∙ tidy (eqb A m.status) (eqb T.0 m.stamp.0) (eqb i m.sender) (has (deliveries i steps) A T) (fresh T t) (λ e. fresh-same T m.stamp t e h.is-fresh)
      ∙ sym (ap (λ (x : Bool). x && fresh T t) (more i A T ack))
    where
      tidy : (y z x w f : Bool) → (z ≡ true → f ≡ true) → (y && z && x || (w && f)) ≡ ((x && ((y && z) || false) || w) && f)
      tidy true true true w f so = sym (so refl)
      tidy true true false w f so = refl
      tidy true false true w f so = refl
      tidy true false false w f so = refl
      tidy false z true w f so = refl
      tidy false z false w f so = refl

  soon-now : (ack : Option Pair) (i A : ℕ) (T : Dts) → has (deliveries i (said ack ∷ steps)) A T ≡ true → T.0 ≤ t.0 + window
  soon-now ack i A T e = go (it-or-before i A T ack e)
    where
      go : IsIt i A T ⊎ (has (deliveries i steps) A T ≡ true) → T.0 ≤ t.0 + window
      go (inl is) = subst (λ (d : Dts). d.0 ≤ t.0 + window) (sym is.2) (fresh-ahead m.stamp t h.is-fresh)
      go (inr e) =
          let old = before.soon i A T e in
          let up : (breaker_clock b steps).0 ≤ t.0 = subst (λ (d : Dts). d.0 ≤ t.0) before.clock h.not_back in
          omega (arith, old, up)

  below-now : (ack : Option Pair) (i A : ℕ) (T : Dts) → has (deliveries i (said ack ∷ steps)) A T ≡ true → i < nodes b.f b.k
  below-now ack i A T e = go (it-or-before i A T ack e)
    where
      go : IsIt i A T ⊎ (has (deliveries i steps) A T ≡ true) → i < nodes b.f b.k
      go (inl is) = subst (λ (j : ℕ). j < nodes b.f b.k) (sym is.0) (subst (λ (k : ℕ). m.sender < k) (ap₂ nodes same-f same-k) h.is-node)
      go (inr e) = before.below i A T e

  -- a correct sender's was sent, earlier than this message came
  vouched-now : (ack : Option Pair) (i A : ℕ) (T : Dts) → has (deliveries i (said ack ∷ steps)) A T ≡ true → is_in b.compromised i ≡ false → Earlier (SentIt i A T) steps
  vouched-now ack i A T e c = go (it-or-before i A T ack e)
    where
      is_made : (x : Bool) → is_in a.site.compromised m.sender ≡ x → (x || held a.site.made m.status m.stamp m.sender) ≡ true → x ≡ false
          → held a.site.made m.status m.stamp m.sender ≡ true
      is_made true ex v clean = absurd (false≢true (sym clean))
      is_made false ex v clean = v

      go : IsIt i A T ⊎ (has (deliveries i steps) A T ≡ true) → Earlier (SentIt i A T) steps
      go (inl is) =
          let honest : is_in a.site.compromised m.sender ≡ false = ap₂ is_in same_set (sym is.0) ∙ c in
          subst (λ (j : ℕ). Earlier (SentIt j A T) steps) (sym is.0)
          (subst (λ (B : ℕ). Earlier (SentIt m.sender B T) steps) (sym is.1)
          (subst (λ (U : Dts). Earlier (SentIt m.sender m.status U) steps) (sym is.2)
          (made m.sender m.status m.stamp (is_made _ refl h.vouched honest))))
      go (inr e) = before.vouched i A T e c

  -- ---- who is counted

  abbrev now-breaker : Breaker
  now-breaker = a.site.breaker

  abbrev had : Pair
  had = breaker_pair b steps

  action-is : other now-breaker.pair.status ≡ wanted b steps
  action-is = ap (λ (p : Pair). other p.status) before.has-pair

  bound-is : now-breaker.pair.stamp ≡ had.stamp
  bound-is = ap (λ (p : Pair). p.stamp) before.has-pair

  held-fresh-told : (ack : Option Pair) (A : ℕ) (T : Dts) (i : ℕ) → held_told (said ack ∷ steps) t A T i ≡ true → (has (deliveries i (said ack ∷ steps)) A T ≡ true) × (fresh T t ≡ true)
  held-fresh-told ack A T i e = (and-eq-true_iff (has (deliveries i (said ack ∷ steps)) A T) (fresh T t)).0 e

  -- the pool has as many as the history counts
  pool-size : (ack : Option Pair) → size (asking now-breaker messages).senders ≡ count_below (nodes b.f b.k) (is_counted b steps (said ack) t)
  pool-size ack =
      ap₂ (λ (A : ℕ) (S : Dts). size (pooled messages A S).senders) action-is bound-is
      ∙ as_many messages (wanted b steps) had.stamp t (λ T i. held_told (said ack ∷ steps) t (wanted b steps) T i) h.not_late
      (λ T i. holding-now ack i (wanted b steps) T) (λ T i e. (held-fresh-told ack (wanted b steps) T i e).1) (nodes b.f b.k) few-nodes
      (λ T i e. below-now ack i (wanted b steps) T (held-fresh-told ack (wanted b steps) T i e).0)

  counted-held : (ack : Option Pair) (i : ℕ) (T : Dts) → CountedAt b steps (said ack) t i T
      → (i < room) × (now-breaker.pair.stamp.0 < T.0) × (T.0 < 2 ^ 32) × (held messages (other now-breaker.pair.status) T i ≡ true)
  counted-held ack i T c =
      let parts = held-fresh-told ack (wanted b steps) T i c.1 in
      let less = below-now ack i (wanted b steps) T parts.0 in
      let near = fresh-ahead T t parts.1 in
      let late = h.not_late in (
        omega (arith, less, few-nodes),
        subst (λ (S : Dts). S.0 < T.0) (sym bound-is) c.0,
        omega (arith, near, late),
        ap (λ (A : ℕ). held messages A T i) action-is ∙ holding-now ack i (wanted b steps) T ∙ c.1,
      )

  held-counted : (ack : Option Pair) (i : ℕ) (T : Dts) → now-breaker.pair.stamp.0 < T.0 → held messages (other now-breaker.pair.status) T i ≡ true
      → CountedAt b steps (said ack) t i T
  held-counted ack i T up e = (
    subst (λ (S : Dts). S.0 < T.0) bound-is up,
    sym (holding-now ack i (wanted b steps) T) ∙ sym (ap (λ (A : ℕ). held messages A T i) action-is) ∙ e,
  )

  -- ---- it changes

  abbrev afterwards : Breaker
  afterwards = changed_by now-breaker messages t

  abbrev pair_then : Pair
  pair_then = afterwards.pair

  abbrev stamp_then : Dts
  stamp_then = pair_then.stamp

  abbrev moving : Bool
  moving = moves now-breaker messages a.site.f t

  enough-told : (ack : Option Pair) → moving ≡ true → Enough b steps (said ack) t
  enough-told ack e =
      let many = leb-true (a.site.f + 1) (size (asking now-breaker messages).senders) e in
      let same = pool-size ack in
      let f-is = same-f in
      omega (arith, many, same, f-is)

  largest : IsLargest b steps (said (Some pair_then)) t stamp_then
  largest =
      record {
        not-before = not-before now-breaker messages a.site.f t;
        not-below = λ i T c.
            let q = counted-held (Some pair_then) i T c in
            not-below now-breaker messages a.site.f t T i q.0 q.1 q.2 q.3;
        one-of-them = one (one-of-them now-breaker messages a.site.f t);
      }
    where
      one : (stamp_then ≡ t) ⊎ ((i : ℕ) × (i < room) × (now-breaker.pair.stamp.0 < stamp_then.0) × (held messages (other now-breaker.pair.status) stamp_then i ≡ true))
          → (stamp_then ≡ t) ⊎ ((i : ℕ) × CountedAt b steps (said (Some pair_then)) t i stamp_then)
      one (inl e) = inl e
      one (inr r) = inr (r.0, held-counted (Some pair_then) r.0 stamp_then r.2 r.3)

  abbrev change_then : Change
  change_then = record { at = said (Some pair_then); clock = t; action = pair_then.status; stamp = stamp_then; before = steps }

  -- the pigeonhole: of more than f senders counted one is correct
  one-correct : moving ≡ true → SentByACorrectOne b change_then
  unfolding size
  one-correct e =
      let many = leb-true (a.site.f + 1) (size (asking now-breaker messages).senders) e in
      let f-is = same-f in
      let least = count-within (nodes b.f b.k) (both (is_in (asking now-breaker messages).senders) (is_in b.compromised)) (is_in b.compromised) (λ i l x. right (is_in (asking now-breaker messages).senders i) (is_in b.compromised i) x) in
      let most = count-more (nodes b.f b.k) room (is_in b.compromised) few-nodes in
      let found = some-outside (nodes b.f b.k) (asking now-breaker messages).senders b.compromised b.f few-nodes in-pool-below (omega (arith, many, f-is)) (omega (arith, least, most, few)) in
      let from = pooled-from messages (other now-breaker.pair.status) now-breaker.pair.stamp found.0 found.2 in
      let counted = held-counted (Some pair_then) found.0 from.0 from.1 from.2 in
      let parts = held-fresh-told (Some pair_then) (wanted b steps) from.0 found.0 counted.1 in (
        found.0,
        (found.1, found.3),
        (
          from.0,
          counted,
          subst (λ (A : ℕ). Earlier (SentIt found.0 A from.0) steps) (sym (other-action now-breaker messages a.site.f t ∙ action-is)) (vouched-now (Some pair_then) found.0 (wanted b steps) from.0 parts.0 found.3),
        ),
      )
    where
      in-pool-below : (i : ℕ) → is_in (asking now-breaker messages).senders i ≡ true → i < nodes b.f b.k
      in-pool-below i e =
          let from = pooled-from messages (other now-breaker.pair.status) now-breaker.pair.stamp i e in
          let counted = held-counted (Some pair_then) i from.0 from.1 from.2 in
          below-now (Some pair_then) i (wanted b steps) from.0 (held-fresh-told (Some pair_then) (wanted b steps) from.0 i counted.1).0

  -- ---- the two ends of a message

  abbrev site_with : Breaker → Arbiter
  site_with y = record { site = with_breaker a.site y; held = messages }

  abbrev NotAbove : Dts → Change → Type 0
  NotAbove U c = c.stamp.0 ≤ U.0

  each-so : (P Q : Change → Type 0) → ((c : Change) → P c → Q c) → (l : List Change) → Each P l → Each Q l
  each-so P Q so [] h = tt
  each-so P Q so (c ∷ rest) h = (so c h.0, each-so P Q so rest h.1)

  moved_holds : moving ≡ true → Holds b (said (Some pair_then) ∷ steps) (site_with afterwards)
  unfolding changed
  moved_holds e =
      let up : had.stamp.0 < stamp_then.0 = subst (λ (S : Dts). S.0 < stamp_then.0) bound-is (rises now-breaker messages a.site.f t e) in
      record {
        clock = refl;
        now = messages-clock;
        has-pair = refl;
        holding = λ i A T. holding-now (Some pair_then) i A T;
        soon = soon-now (Some pair_then);
        below = below-now (Some pair_then);
        vouched = λ i A T x c. further (vouched-now (Some pair_then) i A T x c);
        correct-one = (one-correct e, before.correct-one);
        above = (up, before.above);
        rising = (each-so (NotAbove had.stamp) (λ d. d.stamp.0 < stamp_then.0) (λ c l. omega (arith, l, up)) (changes_in steps) before.not-above, before.rising);
        not-above = (le_refl stamp_then.0, each-so (NotAbove had.stamp) (NotAbove stamp_then) (λ c l. omega (arith, l, up)) (changes_in steps) before.not-above);
        at_once = (
          record {
            at_once = λ enough. (stamp_then, ap (λ (A : ℕ). Some (pair A stamp_then)) (other-action now-breaker messages a.site.f t ∙ action-is), largest);
            no_other = λ p is. enough-told (Some pair_then) e;
          },
          before.at_once,
        );
        no-command = (refl, before.no-command);
      }

  unmoved-holds : moving ≡ false → Holds b (said None ∷ steps) (site_with (answered now-breaker t))
  unfolding answered
  unmoved-holds e =
      record {
        clock = refl;
        now = messages-clock;
        has-pair = before.has-pair;
        holding = λ i A T. holding-now None i A T;
        soon = soon-now None;
        below = below-now None;
        vouched = λ i A T x c. further (vouched-now None i A T x c);
        correct-one = before.correct-one;
        above = before.above;
        rising = before.rising;
        not-above = before.not-above;
        at_once = (record { at_once = λ enough. absurd (too_few enough); no_other = λ p is. absurd (none-known is) }, before.at_once);
        no-command = (refl, before.no-command);
      }
    where
      too_few : Enough b steps (said None) t → ⊥
      too_few enough =
          let less = leb-false (a.site.f + 1) (size (asking now-breaker messages).senders) e in
          let same = pool-size None in
          let f-is = same-f in
          omega (arith, less, same, f-is, enough)

  abbrev end : Arbitrated
  end = arbitrated now-breaker a.held a.site.f t m

  pub arbitrates : Holds b (said end.ack ∷ steps) (record { site = with_breaker a.site end.breaker; held = end.held })
  unfolding arbitrated
  arbitrates = go moving refl
    where
      Goal : Arbitrated → Type 0
      Goal y = Holds b (said y.ack ∷ steps) (record { site = with_breaker a.site y.breaker; held = y.held })

      go : (x : Bool) → moving ≡ x → Goal (decided now-breaker messages a.site.f t)
      go true e = subst Goal (sym (when-moved now-breaker messages a.site.f t e)) (moved_holds e)
      go false e = subst Goal (sym (when-unmoved now-breaker messages a.site.f t e)) (unmoved-holds e)
