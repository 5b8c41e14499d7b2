-- A site that came from a Start passes refusal 16, and so does the record of each of its nodes: every step keeps what 16 asks of a site, and of a record that
-- its numbers are in range. More is not asked of a node without a second pair.
use Prim.Native.Nat.{ℕ, ◌+◌, ◌-◌, ◌≤◌, ◌<◌}
use Rattle.std.specs.Prelude.{◌≡◌, Bool, ◌&&◌, ◌||◌, cond, ◌⊎◌, List, ◌∷◌, eqb, leb, ltb, length, set, drop, Option, None, Some}
use Rattle.std.proofs.Math.Path.{refl, sym, subst}
use Rattle.std.proofs.Common.{◌∙◌, inl, inr, arith, lit<, length-set, get_or-set_same, get_or-set_other}
use Rattle.std.proofs.Math.Bool.{true, false, and-eq-true_iff}
use Rattle.std.proofs.Math.ListN.{get_or}
use borrow.Author.Tests.{eqb-true, eqb-false, eq-eqb, leb-true, leb-false, le-leb}
use Rattle.refusals.specs.laws.Bools.{left}
use Rattle.time.specs.declared.Dts.{Dts}
use Rattle.time.specs.Fresh.{fresh, window}
use Rattle.time.specs.Limits.{clock_sound, last_held_clock}
use Rattle.time.specs.laws.Fresh.{latest_clock}
use Rattle.senders.specs.Masks.{room, size, enough}
use Rattle.senders.proofs.laws.MaskLaws.{enough-one}
use Rattle.store.specs.declared.Store.{Store}
use Rattle.store.specs.Store.{empty, moved_to, has_place, actions, store_within}
use Rattle.store.specs.Held.{held}
use Rattle.store.proofs.laws.Held.{held-fresh}
use Rattle.store.proofs.laws.WithinLaws.{empty-within, put-within, moved-within}
use Rattle.pooling.proofs.laws.PoolLaws.{pooled-from, latest-held}
use Rattle.node.specs.declared.Node.{Node}
use Rattle.node.specs.declared.Phase.{Phase as PeerPhase}
use Rattle.node.specs.declared.Phase.TheVariants as Peer
use Rattle.node.specs.Asked.{node_in_range, node_sound}
use Rattle.node.specs.laws.Soundness.{SoundPhase, parts, whole}
use Rattle.breaker.specs.declared.Breaker.{Breaker}
use Rattle.breaker.specs.Breaker.{answered, changed, after_command, breaker_sound}
use Rattle.breaker.proofs.laws.Soundness.{parts as breaker-parts}
use Rattle.steps.specs.declared.Beginning.{Beginning}
use Rattle.steps.specs.declared.Turn.{Turn}
use Rattle.steps.specs.Named.{of_named}
use Rattle.acting.proofs.laws.Soundness.{sound-by}
use Rattle.site.specs.declared.Site.{Site}
use Rattle.site.specs.declared.Out.{Out as PeerOut}
use Rattle.site.specs.Site.{nodes, n, site_sound, actor_sound}
use Rattle.site.specs.laws.Sound.{tested}
use Rattle.refusing.specs.Tests.{unless_start}
use Rattle.refusing.specs.laws.Accepted.{begins, begins-within, ticks, happens, turns}
use Rattle.effects.specs.Effects.{with_breaker, started_site, first_record, ticked}
use Rattle.effects.specs.laws.Soundness.{first-intact, begun-sound, ticked-sound, noted-sound, turned-sound, commanded-sound}
use Rattle.loans.specs.laws.LoanLaws.{front, fronted-length}
use Rattle.arbiter_steps.specs.declared.Event.{Event}
use Rattle.arbiter_steps.specs.declared.Message.{Message}
use Rattle.arbiter_steps.specs.declared.Step.{Step}
use Rattle.arbiter_steps.specs.declared.Step.TheVariants.{Start, Tick, AtNode, Life, AtBreaker}
use Rattle.arbiter_steps.specs.Steps.{named}
use Rattle.arbiter_steps.specs.Steps as Steps
use Rattle.arbiter_node.specs.declared.Voter.{Voter}
use Rattle.arbiter_node.specs.Voter.{phase_in_peer, in_peer, of_peer_phase, of_peer, voted}
use Rattle.arbiter_node.specs.laws.VoterLaws.{sound-in-range}
use Rattle.arbiter_breaker.specs.declared.Arbitrated.{Arbitrated}
use Rattle.arbiter_breaker.specs.Arbitrating.{other, received, asking, decided, arbitrated}
use Rattle.arbiter_breaker.specs.laws.ArbitratingLaws.{other_differs, received-clock, moves, when-moved, when-unmoved}
use Rattle.arbiter_site.specs.declared.Arbiter.{Arbiter}
use Rattle.arbiter_site.specs.declared.Out.{Out}
use Rattle.arbiter_site.specs.Site.{arbiter_sound}
use Rattle.arbiter_site.specs.Tests.{are_sound}
use Rattle.arbiter_site.specs.Effects.{shares_of, effect_of}
use Rattle.arbiter_site.specs.laws.StepLaws.{by_tests}
use Rattle.arbiter_site.specs.laws.Accepted.{Passes, Heard, start-passes, tick-passes, event-passes, turn-passes, hears}
use Rattle.arbiter_rows.proofs.laws.Cases.{not-given}
use Rattle.arbiter_lent.specs.Lent.{down_voter, record_of, out_of, table_after, table_after_answer}
use Rattle.arbiter_sequences.specs.History.{Entry, last_start, accepted}
use Rattle.arbiter_sequences.specs.Moments.{Moment, Reached, from, then}
use Rattle.arbiter_sequences.specs.Demand.{Always, NeverDamaged}
use Rattle.arbiter_sequences.proofs.laws.Keeping.{Keeps, no_start, reached-keeps}

-- ---- a record, as 01's

-- without a stamp that is resent, and with b for the second pair
stripped : (p : PeerPhase) → SoundPhase p → SoundPhase (phase_in_peer (of_peer_phase p))
stripped Peer.Down s = s
stripped (Peer.Starting l) s = record { of-r = s.of-r; of-b = s.of-b; of-second = s.of-b; of-resend = refl }
stripped (Peer.Running rec) s = record { of-r = s.of-r; of-b = s.of-b; of-second = s.of-b; of-resend = refl }

-- and without shares
voter-in-range : (node : Node) (count : ℕ) → node_in_range node count ≡ true → node_in_range (in_peer (of_peer node)) count ≡ true
unfolding empty
voter-in-range node count e =
    let s = parts node count e in
    whole (in_peer (of_peer node)) count
    (record { of-clock = s.of-clock; of-store = empty-within node.store.clock count; of-phase = stripped node.phase s.of-phase })

-- after an event at clock t
voted-in-range : (breaker : Breaker) (voter : Voter) (count : ℕ) (t : Dts) (event : Event) → breaker_sound breaker ≡ true → t.0 ≤ latest_clock
    → node_in_range (in_peer voter) count ≡ true → node_in_range (in_peer (voted breaker voter t event).voter) count ≡ true
unfolding voted empty
voted-in-range breaker voter count t event of-breaker late e =
    whole _ count
    (record {
      of-clock = le-leb t.0 last_held_clock (omega (arith, late));
      of-store = empty-within t count;
      of-phase =
          stripped _
          (sound-by breaker (phase_in_peer voter.phase) t (Steps.in_peer event) of-breaker (omega (arith, late)) (parts (in_peer voter) count e).of-phase);
    })

-- ---- the breaker after a message: what it becomes is what some command would make of it

fresh-now : (t : Dts) → fresh t t ≡ true
fresh-now t = simp (le-leb (t.0 - window) t.0 (omega arith), le-leb t.0 (t.0 + window) (omega arith))

other-most : (status : ℕ) → other status ≤ 1
unfolding other
other-most status = go (eqb status 0)
  where
    go : (x : Bool) → cond x 1 0 ≤ 1
    go true = omega arith
    go false = omega arith

not-repeated : (status : ℕ) → eqb (other status) status ≡ false
not-repeated status = go (eqb (other status) status) refl
  where
    go : (x : Bool) → eqb (other status) status ≡ x → x ≡ false
    go true e = absurd (other_differs status (eqb-true (other status) status e))
    go false e = refl

module _ (site : Site) (lent : ℕ) (sound : site_sound site lent ≡ true) (t : Dts) (late : t.0 ≤ latest_clock) where
  abbrev breaker : Breaker
  breaker = site.breaker

  abbrev status : ℕ
  status = breaker.pair.status

  abbrev Becomes : Breaker → Type 0
  Becomes after = site_sound (with_breaker site after) lent ≡ true

  -- nothing but its clock moves: as by a command for the status that it has
  unmoved-sound : Becomes (answered breaker t)
  unfolding after_command
  unmoved-sound =
      subst (λ (x : Bool). Becomes (cond x (answered breaker t) (changed breaker t status t))) (eq-eqb status status refl)
      (commanded-sound site lent sound t (record { status = status; stamp = t })
      (leb-true _ _ (left (leb status 1) _ (breaker-parts breaker (tested site lent sound).of-breaker).of_pair)) late (fresh-now t))

  -- it changes: as by a command for the other status, at the latest stamp counted, which is fresh
  moved-sound : (T : Dts) → fresh T t ≡ true → Becomes (changed breaker t (other status) T)
  unfolding after_command
  moved-sound T is-fresh =
      subst (λ (x : Bool). Becomes (cond x (answered breaker t) (changed breaker t (other status) T))) (not-repeated status)
      (commanded-sound site lent sound t (record { status = other status; stamp = T }) (other-most status) late is-fresh)

-- where enough are held, the latest stamp is one at which somebody is
latest-fresh : (breaker : Breaker) (messages : Store) (f : ℕ) (t : Dts) → messages.clock ≡ t → moves breaker messages f t ≡ true
    → fresh (asking breaker messages).latest t ≡ true
unfolding has_place
latest-fresh breaker messages f t now e = go (latest-held messages A above)
  where
    A : ℕ
    A = other breaker.pair.status

    above : Dts
    above = breaker.pair.stamp

    latest : Dts
    latest = (asking breaker messages).latest

    some-held : enough (asking breaker messages).senders 0 ≡ true
    some-held =
        let many = leb-true (f + 1) (size (asking breaker messages).senders) e in
        le-leb 1 (size (asking breaker messages).senders) (omega (arith, many))

    go : (latest.0 ≡ 0) ⊎ ((i : ℕ) × (i < room) × (above.0 < latest.0) × (held messages A latest i ≡ true)) → fresh latest t ≡ true
    go (inl z) =
        let one = enough-one (asking breaker messages).senders some-held in
        let source = pooled-from messages A above one.0 one.2 in
        let up = source.1 in
        let most = source.3 in
        absurd (omega (arith, z, up, most))
    go (inr h) =
        subst (λ (c : Dts). fresh latest c ≡ true) now
        ((and-eq-true_iff (ltb A actions) (fresh latest messages.clock)).0 (held-fresh messages A latest h.0 h.3)).1

-- ---- site and table

pub record Sound (a : Arbiter) (records : List Voter) : Type 0 where
  pub of-site : site_sound a.site (length records) ≡ true
  pub of-clock : clock_sound a.held.clock ≡ true
  pub of-held : store_within a.held (n a.site) ≡ true
  pub of-nodes : (j : ℕ) → j < n a.site → node_in_range (in_peer (get_or records j down_voter)) (n a.site) ≡ true

-- a step at node i
at-node : (a : Arbiter) (next : Site) (records : List Voter) (i : ℕ) (voter : Voter) → Sound a records → n next ≡ n a.site → i < length records
    → site_sound next (length records) ≡ true → node_in_range (in_peer voter) (n a.site) ≡ true
    → Sound (record { site = next; held = a.held }) (set records i voter)
at-node a next records i voter before same lent whole new =
    record {
      of-site = subst (λ (count : ℕ). site_sound next count ≡ true) (sym (length-set records i voter)) whole;
      of-clock = before.of-clock;
      of-held = subst (λ (count : ℕ). store_within a.held count ≡ true) (sym same) before.of-held;
      of-nodes = λ j l.
          subst (λ (count : ℕ). node_in_range (in_peer (get_or (set records i voter) j down_voter)) count ≡ true) (sym same)
          (one j (subst (λ (count : ℕ). j < count) same l) (eqb j i) refl);
    }
  where
    IsSound : Voter → Type 0
    IsSound x = node_in_range (in_peer x) (n a.site) ≡ true

    one : (j : ℕ) → j < n a.site → (x : Bool) → eqb j i ≡ x → IsSound (get_or (set records i voter) j down_voter)
    one j l true e =
        subst (λ (k : ℕ). IsSound (get_or (set records i voter) k down_voter)) (sym (eqb-true j i e))
        (subst IsSound (sym (get_or-set_same records i voter down_voter lent)) new)
    one j l false e = subst IsSound (sym (get_or-set_other records i j voter down_voter (eqb-false j i e))) (before.of-nodes j l)

-- a message
module _ (a : Arbiter) (records : List Voter) (s : Sound a records) (t : Dts) (m : Message) (onward : a.held.clock.0 ≤ t.0) (h : Heard a t m) where
  abbrev messages : Store
  messages = received a.held t m

  now-sound : clock_sound messages.clock ≡ true
  now-sound =
      let late = h.not_late in
      subst (λ (c : Dts). clock_sound c ≡ true) (sym (received-clock a.held t m onward)) (le-leb t.0 last_held_clock (omega (arith, late)))

  held-sound : store_within messages (n a.site) ≡ true
  unfolding received
  held-sound =
      put-within (moved_to a.held t) (n a.site) (moved-within a.held (n a.site) s.of-held t) m.sender m.status m.stamp h.is-node

  abbrev Leaves : Arbitrated → Type 0
  Leaves end = Sound (record { site = with_breaker a.site end.breaker; held = end.held }) records

  heard-sound : Leaves (arbitrated a.site.breaker a.held a.site.f t m)
  unfolding arbitrated
  heard-sound = go (moves a.site.breaker messages a.site.f t) refl
    where
      go : (x : Bool) → moves a.site.breaker messages a.site.f t ≡ x → Leaves (decided a.site.breaker messages a.site.f t)
      go true e =
          subst Leaves (sym (when-moved a.site.breaker messages a.site.f t e))
          (record {
            of-site =
                moved-sound a.site (length records) s.of-site t h.not_late (asking a.site.breaker messages).latest
                (latest-fresh a.site.breaker messages a.site.f t (received-clock a.held t m onward) e);
            of-clock = now-sound;
            of-held = held-sound;
            of-nodes = s.of-nodes;
          })
      go false e =
          subst Leaves (sym (when-unmoved a.site.breaker messages a.site.f t e))
          (record {
            of-site = unmoved-sound a.site (length records) s.of-site t h.not_late;
            of-clock = now-sound;
            of-held = held-sound;
            of-nodes = s.of-nodes;
          })

-- ---- one step

module _
    (h : List Entry) (a : Arbiter) (records : List Voter) (keeps : (b : Beginning) → last_start h ≡ Some b → Keeps b (accepted h) a records)
    (before : (b : Beginning) → last_start h ≡ Some b → Sound a records)
  where
    abbrev SoundBy : Step → Out → Type 0
    SoundBy step out =
        (b : Beginning) → last_start (record { step = step; answer = out.answer } ∷ h) ≡ Some b
        → Sound out.site (table_after_answer out.answer step records out.node)

    abbrev voter_of : Step → Voter
    voter_of step = record_of (named step).actor records

    abbrev Does : Step → Type 0
    Does step = Passes a (length records) (voter_of step) step → SoundBy step (effect_of a (voter_of step) step)

    begins-anew : (first : Beginning) → Does (Start first)
    unfolding effect_of started_site empty
    begins-anew first e = λ b q.
        let passes = start-passes a (length records) (voter_of (Start first)) first e in
        let begun = begins a.site (length records) (in_peer (voter_of (Start first))) first passes in
        let given = begins-within a.site (length records) (in_peer (voter_of (Start first))) first passes in
        let last = given.last-g in
        record {
          of-site =
              subst (λ (all : ℕ). site_sound (started_site first) all ≡ true) (sym (fronted-length count rule records begun.lends))
              (begun-sound first (length records) begun.most-f begun.most-k given.is-status given.first-g given.last-g given.inside begun.few begun.lends);
          of-clock = le-leb first.g.0 last_held_clock (omega (arith, last));
          of-held = empty-within first.g count;
          of-nodes = λ j l.
              subst (λ (x : Voter). node_in_range (in_peer x) count ≡ true) (sym (front count rule (drop count records) j down_voter l))
              (voter-in-range (first_record first.compromised j) count (first-intact first.compromised j count).in-range);
        }
      where
        count : ℕ
        count = nodes first.f first.k

        rule : ℕ → Voter
        rule i = of_peer (first_record first.compromised i)

    one-tick : Does Tick
    unfolding effect_of ticked
    one-tick e = λ b q.
        let s = before b q in
        record {
          of-site = ticked-sound a.site (length records) s.of-site (ticks a.site (length records) (in_peer (voter_of Tick)) (tick-passes a (length records) (voter_of Tick) e));
          of-clock = s.of-clock;
          of-held = s.of-held;
          of-nodes = s.of-nodes;
        }

    happens-at : (i : ℕ) (t : Dts) (event : Event) → Does (AtNode i t event)
    unfolding effect_of
    happens-at i t event e = λ b q.
        let voter = get_or records i down_voter in
        let x = happens a.site (length records) (in_peer voter) i t (Steps.in_peer event) (event-passes a (length records) voter i t event e) in
        let s = before b q in
        at-node a _ records i _ s refl x.place.is-lent
        (noted-sound a.site (length records) s.of-site i (shares_of (voted a.site.breaker voter t event).message) x.place.is-node)
        (voted-in-range a.site.breaker voter (n a.site) t event (tested a.site (length records) s.of-site).of-breaker x.not_late
        (s.of-nodes i x.place.is-node))

    takes-turn : (i : ℕ) (turn : Turn) → Does (Life i turn)
    unfolding effect_of
    takes-turn i turn e = λ b q.
        let place = turns a.site (length records) (in_peer (voter_of (Life i turn))) i turn (turn-passes a (length records) (voter_of (Life i turn)) i turn e) in
        let s = before b q in
        let after = turned-sound a.site (length records) s.of-site i turn place.is-node in
        subst (λ (o : PeerOut). Sound (record { site = o.site; held = a.held }) (set records i (of_peer o.node))) (sym after.is)
        (at-node a _ records i (of_peer after.node) s refl place.is-lent after.of-site
        (voter-in-range after.node (n a.site) after.of_node.in-range))

    is-heard : (t : Dts) (m : Message) → Does (AtBreaker t m)
    unfolding effect_of
    is-heard t m e = λ b q.
        let holds = (keeps b q).holds in
        let heard = hears a (length records) (voter_of (AtBreaker t m)) t m e in
        heard-sound a records (before b q) t m (subst (λ (d : Dts). d.0 ≤ t.0) (holds.clock ∙ sym holds.now) heard.not_back) heard

    done : (step : Step) → Does step
    done (Start b) = begins-anew b
    done Tick = one-tick
    done (AtNode i t event) = happens-at i t event
    done (Life i turn) = takes-turn i turn
    done (AtBreaker t m) = is-heard t m

    still-sound : (step : Step) → SoundBy step (out_of a records step)
    unfolding out_of
    still-sound step = by_tests (SoundBy step) a (length records) (voter_of step) step (done step) (λ number. before)

-- ---- every sequence

pub reached-sound : {first : Moment} {h : List Entry} {m : Moment} → Reached first h m → (b : Beginning) → last_start h ≡ Some b → Sound m.site m.records
unfolding table_after
reached-sound from = λ b q. absurd (no_start q)
reached-sound (then {h} {m} r step) = still-sound h m.site m.records (reached-keeps r) (reached-sound r) step

-- the first test of the table, for every step: a step that names a node from n on, or none, asks for no record
passes-16 : (a : Arbiter) (records : List Voter) (step : Step) → Sound a records
    → are_sound a (length records) (record_of (named step).actor records) (named step) ≡ true
unfolding arbiter_sound actor_sound
passes-16 a records step s = go (named step).beginning (named step).actor
  where
    below : (i : ℕ) (x : Bool) → leb (n a.site) i ≡ x → (x || node_sound (in_peer (get_or records i down_voter)) (n a.site)) ≡ true
    below i true e = refl
    below i false e = sound-in-range (get_or records i down_voter) (n a.site) ∙ s.of-nodes i (leb-false _ _ e)

    of-actor : (actor : Option ℕ) → of_named actor (actor_sound a.site (in_peer (record_of actor records))) ≡ true
    of-actor None = refl
    of-actor (Some i) = below i (leb (n a.site) i) refl

    of-all : arbiter_sound a (length records) ≡ true
    of-all = simp (s.of-site, s.of-clock, s.of-held)

    go : (b : Option Beginning) (actor : Option ℕ) → unless_start b (arbiter_sound a (length records) && of_named actor (actor_sound a.site (in_peer (record_of actor records)))) ≡ true
    go (Some b) actor = refl
    go None actor = (and-eq-true_iff _ _).1 (of-all, of-actor actor)

pub never-damaged : Always NeverDamaged
unfolding out_of
never-damaged first h m r b q step =
    not-given m.site (length m.records) (record_of (named step).actor m.records) step 16 (lit< tt) (passes-16 m.site m.records step (reached-sound r b q))
