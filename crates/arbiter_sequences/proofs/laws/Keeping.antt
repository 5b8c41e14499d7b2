-- What a site and its table keep of the history, step by step, and so over every sequence.
use Rattle.std.specs.Prelude.{ℕ, ◌≤◌, ◌<◌, ◌≡◌, Bool, true, false, cond, ◌⊎◌, eqb, length, set, drop, Option, None, Some, unwrap_or}
use Rattle.std.proofs.Math.Path.{refl, sym, subst}
use Rattle.std.proofs.Common.{ap, ap₂, ◌∙◌, inl, inr, arith, get_or-set_same, get_or-set_other, eqb-true, eq-eqb}
use Rattle.std.proofs.lemmas.Bool.{false≢true, eqb-false}
use mathlib.Core.List.{List, [], ◌∷◌}
use Rattle.std.proofs.Math.ListN.{get_or}
use Rattle.refusals.specs.laws.Bools.{right}
use Rattle.time.specs.declared.Dts.{Dts}
use Rattle.time.specs.Fresh.{fresh, next}
use Rattle.senders.specs.Masks.{room, is_in, size}
use Rattle.store.specs.Store.{empty, moved_to}
use Rattle.store.specs.Held.{held}
use Rattle.store.proofs.laws.Held.{held-empty, held_moved}
use Rattle.pairs.specs.declared.Pair.{Pair}
use Rattle.pairs.specs.declared.Pairs.TheVariants.{Zero}
use Rattle.pairs.specs.Pair.{listed, listed_known, has}
use Rattle.node.specs.Asked.{known_r}
use Rattle.combining.specs.Combining.{put_all}
use Rattle.combining.specs.laws.OwnLaws.{from_all}
use Rattle.events.specs.Events.{went_down, went_up}
use Rattle.breaker.specs.Breaker.{started}
use Rattle.steps.specs.declared.Beginning.{Beginning}
use Rattle.steps.specs.declared.Turn.{Turn}
use Rattle.steps.specs.declared.Turn.TheVariants.{Down, Up}
use Rattle.steps.specs.Named.{said_by}
use Rattle.acting.proofs.laws.Relay.{reports, status_in, relay_after}
use Rattle.site.specs.Site.{nodes, g, most_f, most_k}
use Rattle.site.specs.Answers.{silence}
use Rattle.refusing.specs.laws.Accepted.{Placed, begins, happens, turns}
use Rattle.effects.specs.Effects.{with_made, with_down, started_site, first_record, ticked, turned}
use Rattle.loans.specs.laws.LoanLaws.{front}
use Rattle.arbiter_steps.specs.declared.Event.{Event}
use Rattle.arbiter_steps.specs.declared.Message.{Message}
use Rattle.arbiter_steps.specs.declared.Step.{Step}
use Rattle.arbiter_steps.specs.declared.Step.TheVariants.{Start, Tick, AtNode, Life, AtBreaker}
use Rattle.arbiter_steps.specs.Steps.{named}
use Rattle.arbiter_steps.specs.Steps as Steps
use Rattle.arbiter_node.specs.declared.Voter.{Voter}
use Rattle.arbiter_node.specs.declared.Voted.{Voted}
use Rattle.arbiter_node.specs.Voter.{phase_in_peer, in_peer, of_peer, voted}
use Rattle.arbiter_node.specs.laws.VoterLaws.{relay-told, sends-own}
use Rattle.arbiter_site.specs.declared.Arbiter.{Arbiter}
use Rattle.arbiter_site.specs.declared.Out.{Out}
use Rattle.arbiter_site.specs.Effects.{shares_of, effect_of}
use Rattle.arbiter_site.specs.laws.StepLaws.{by_tests}
use Rattle.arbiter_site.specs.laws.Accepted.{Passes, start-passes, event-passes, turn-passes, hears}
use Rattle.arbiter_lent.specs.Lent.{down_voter, first_records, record_of, out_of, table_after_answer, table_after}
use Rattle.arbiter_sequences.specs.History.{Entry, Accepted, next_number, last_start, accepted, is_at, at_node, last_report}
use Rattle.arbiter_sequences.specs.Moments.{Moment, Reached, from, then}
use Rattle.arbiter_sequences.specs.Demand.{Correct, SentIt, Earlier, here, further}
use Rattle.arbiter_sequences.proofs.laws.Holding.{done_with, Holds, elsewhere, arbitrates}

-- ---- what the relay said last, of a node

abbrev said_in : Voter → Option ℕ
said_in voter = status_in (known_r (phase_in_peer voter.phase))

there : {A : Type 0} → Option A → Bool
there None = false
there (Some a) = true

none_said : {A : ℕ} → None ≡ Some A → ⊥
unfolding there
none_said e = false≢true (ap there e)

down-silent : (A : ℕ) → said_in down_voter ≡ Some A → ⊥
unfolding went_down
down-silent A e = none_said e

up-silent : (A : ℕ) → said_in (of_peer went_up) ≡ Some A → ⊥
unfolding went_up
up-silent A e = none_said e

-- ---- what is kept

-- For what the last Start gave and the steps accepted since: the site has the Start's numbers, what it knows to be sent was sent, what the relay of a correct node
-- said last is its last accepted report, and the breaker keeps what it should.
pub record Keeps (b : Beginning) (steps : List Accepted) (a : Arbiter) (records : List Voter) : Type 0 where
  pub few-nodes : nodes b.f b.k ≤ room
  pub few-compromised : size b.compromised ≤ b.f
  pub same-f : a.site.f ≡ b.f
  pub same-k : a.site.k ≡ b.k
  pub same_set : a.site.compromised ≡ b.compromised
  pub made : (i A : ℕ) (T : Dts) → held a.site.made A T i ≡ true → Earlier (SentIt i A T) steps
  pub relay : (j : ℕ) → Correct b j → (A : ℕ) → said_in (get_or records j down_voter) ≡ Some A → last_report (at_node j steps) ≡ Some A
  pub holds : Holds b steps a

-- ---- Start

starts : (records : List Voter) (b : Beginning) → b.f ≤ most_f → b.k ≤ most_k → size b.compromised ≤ b.f
    → Keeps b [] (record { site = started_site b; held = empty b.g }) (first_records (nodes b.f b.k) b.compromised records)
unfolding started_site first_record started empty
starts records b most-f most-k few =
    record {
      few-nodes = omega arith;
      few-compromised = few;
      same-f = refl;
      same-k = refl;
      same_set = refl;
      made = λ i A T h. absurd (false≢true (sym (held-empty b.g A T i) ∙ h));
      relay = λ j c A e.
          absurd
          (up-silent A
          (sym
          (ap said_in
          (front (nodes b.f b.k) (λ i. of_peer (first_record b.compromised i)) (drop (nodes b.f b.k) records) j down_voter c.0
          ∙ ap (λ (x : Bool). of_peer (cond x went_down went_up)) c.1))
          ∙ e));
      holds = record {
        clock = refl;
        now = refl;
        has-pair = refl;
        holding = λ i A T. held-empty b.g A T i;
        soon = λ i A T e. absurd (false≢true e);
        below = λ i A T e. absurd (false≢true e);
        vouched = λ i A T e c. absurd (false≢true e);
        correct-one = tt;
        above = tt;
        rising = tt;
        not-above = tt;
        at_once = tt;
        no-command = tt;
      };
    }

-- ---- one step

module _ (b : Beginning) (steps : List Accepted) (a : Arbiter) (records : List Voter) (keeps : Keeps b steps a records) where
  correct : (i : ℕ) → Placed a.site (length records) i → Correct b i
  correct i p = (
    subst (λ (m : ℕ). i < m) (ap₂ nodes keeps.same-f keeps.same-k) p.is-node,
    subst (λ (c : ℕ). is_in c i ≡ false) keeps.same_set p.is-correct,
  )

  ticks : (number : ℕ) → Keeps b (done_with number Tick silence ∷ steps) (record { site = ticked a.site; held = a.held }) records
  unfolding ticked
  ticks number =
      record {
        few-nodes = keeps.few-nodes;
        few-compromised = keeps.few-compromised;
        same-f = keeps.same-f;
        same-k = keeps.same-k;
        same_set = keeps.same_set;
        made = λ i A T h.
            further (keeps.made i A T (right (fresh T (moved_to a.site.made (next (g a.site))).clock) _ (sym (held_moved a.site.made (next (g a.site)) A T i) ∙ h)));
        relay = keeps.relay;
        holds = elsewhere b steps a keeps.holds (done_with number Tick silence) (record { site = ticked a.site; held = a.held }) (λ i. refl) refl refl refl refl refl refl;
      }

  -- a step at node i that leaves it so: what it said last is its last report
  at-node : (i : ℕ) (x : Accepted) (voter : Voter) → ((j : ℕ) → is_at j x ≡ eqb i j) → i < length records → Correct b i
      → ((A : ℕ) → said_in voter ≡ Some A → last_report (x ∷ at_node i steps) ≡ Some A)
      → (j : ℕ) → Correct b j → (A : ℕ) → said_in (get_or (set records i voter) j down_voter) ≡ Some A → last_report (at_node j (x ∷ steps)) ≡ Some A
  at-node i x voter here-is lent c new j d A e = one (eqb i j) refl
    where
      told : (y : Bool) → is_at j x ≡ y → last_report (cond y (x ∷ at_node j steps) (at_node j steps)) ≡ Some A → last_report (at_node j (x ∷ steps)) ≡ Some A
      told y is q = subst (λ (z : Bool). last_report (cond z (x ∷ at_node j steps) (at_node j steps)) ≡ Some A) (sym is) q

      one : (y : Bool) → eqb i j ≡ y → last_report (at_node j (x ∷ steps)) ≡ Some A
      one true q =
          let same : i ≡ j = eqb-true i j q in
          told true (here-is j ∙ q)
          (subst (λ (k : ℕ). last_report (x ∷ at_node k steps) ≡ Some A) same
          (new A (sym (ap said_in (get_or-set_same records i voter down_voter lent)) ∙ ap (λ (k : ℕ). said_in (get_or (set records i voter) k down_voter)) same ∙ e)))
      one false q =
          told false (here-is j ∙ q)
          (keeps.relay j d A (sym (ap said_in (get_or-set_other records i j voter down_voter (λ (s : j ≡ i). eqb-false i j q (sym s)))) ∙ e))

  -- a turn in the life of a node: its record has lost what the relay said
  turns-over : (number i : ℕ) (turn : Turn) → Placed a.site (length records) i → (voter : Voter) → ((A : ℕ) → said_in voter ≡ Some A → ⊥) → (down : ℕ)
      → Keeps b (done_with number (Life i turn) silence ∷ steps) (record { site = with_down a.site down; held = a.held }) (set records i voter)
  turns-over number i turn p voter silent down =
      record {
        few-nodes = keeps.few-nodes;
        few-compromised = keeps.few-compromised;
        same-f = keeps.same-f;
        same-k = keeps.same-k;
        same_set = keeps.same_set;
        made = λ k A T h. further (keeps.made k A T h);
        relay = at-node i (done_with number (Life i turn) silence) voter (λ j. refl) p.is-lent (correct i p) (λ A e. absurd (silent A e));
        holds = elsewhere b steps a keeps.holds (done_with number (Life i turn) silence) (record { site = with_down a.site down; held = a.held }) (λ i. refl) refl refl refl refl refl refl;
      }

  -- an event at a node, with the message that it sends
  module _ (number i : ℕ) (t : Dts) (event : Event) (p : Placed a.site (length records) i) where
    abbrev voter : Voter
    voter = get_or records i down_voter

    abbrev end : Voted
    end = voted a.site.breaker voter t event

    abbrev x : Accepted
    x = done_with number (AtNode i t event) (record { shares = shares_of end.message; commands = Zero; ack = None })

    -- what is said in this step, or was said before it, is the last report
    last-report : (A : ℕ) → relay_after (Steps.in_peer event) (said_in voter) ≡ Some A → last_report (x ∷ at_node i steps) ≡ Some A
    last-report A e = go (reports (Steps.in_peer event)) e
      where
        go : (y : Bool) → cond y (said_by (Steps.in_peer event)).status (said_in voter) ≡ Some A → cond y (said_by (Steps.in_peer event)).status (last_report (at_node i steps)) ≡ Some A
        go true e = e
        go false e = keeps.relay i (correct i p) A e

    listed_same : (k : Option Pair) → listed (shares_of k) ≡ listed_known k
    listed_same (Some q) = refl
    listed_same None = refl

    sends : (A : ℕ) (T : Dts) → has (listed (shares_of end.message)) A T ≡ true → SentIt i A T x steps
    sends A T h =
        let own : eqb i i ≡ true = eq-eqb i i refl in
        let q = sends-own a.site.breaker voter t event A T (sym (ap (λ (ps : List Pair). has ps A T) (listed_same end.message)) ∙ h) in
        record {
          by-node = own;
          sent = h;
          at-clock = q.1;
          reported = ap (λ (y : Bool). last_report (cond y (x ∷ at_node i steps) (at_node i steps))) own ∙ last-report A q.0;
        }

    votes : ((A : ℕ) → said_in end.voter ≡ Some A → relay_after (Steps.in_peer event) (said_in voter) ≡ Some A)
        → Keeps b (x ∷ steps) (record { site = with_made a.site (put_all a.site.made i (shares_of end.message)); held = a.held }) (set records i end.voter)
    votes told =
        record {
          few-nodes = keeps.few-nodes;
          few-compromised = keeps.few-compromised;
          same-f = keeps.same-f;
          same-k = keeps.same-k;
          same_set = keeps.same_set;
          made = λ k A T h. source k A T (from_all a.site.made i (shares_of end.message) A T k h);
          relay = at-node i x end.voter (λ j. refl) p.is-lent (correct i p) (λ A e. last-report A (told A e));
          holds = elsewhere b steps a keeps.holds x (record { site = with_made a.site (put_all a.site.made i (shares_of end.message)); held = a.held }) (λ i. refl) refl refl refl refl refl refl;
        }
      where
        source : (k A : ℕ) (T : Dts) → ((has (listed (shares_of end.message)) A T ≡ true) × (eqb k i ≡ true)) ⊎ (held a.site.made A T k ≡ true) → Earlier (SentIt k A T) (x ∷ steps)
        source k A T (inr h) = further (keeps.made k A T h)
        source k A T (inl h) = subst (λ (j : ℕ). Earlier (SentIt j A T) (x ∷ steps)) (sym (eqb-true k i h.1)) (here (sends A T h.0))

-- ---- any step

module _ (h : List Entry) (a : Arbiter) (records : List Voter) (before : (b : Beginning) → last_start h ≡ Some b → Keeps b (accepted h) a records) where
  abbrev KeptBy : Step → Out → Type 0
  KeptBy step out =
      (b : Beginning) → last_start (record { step = step; answer = out.answer } ∷ h) ≡ Some b
      → Keeps b (accepted (record { step = step; answer = out.answer } ∷ h)) out.site (table_after_answer out.answer step records out.node)

  abbrev voter_of : Step → Voter
  voter_of step = record_of (named step).actor records

  abbrev Does : Step → Type 0
  Does step = Passes a (length records) (voter_of step) step → KeptBy step (effect_of a (voter_of step) step)

  begins-anew : (first : Beginning) → Does (Start first)
  unfolding effect_of
  begins-anew first e = λ b q.
      let begun = begins a.site (length records) (in_peer (voter_of (Start first))) first (start-passes a (length records) (voter_of (Start first)) first e) in
      subst (λ (x : Beginning). Keeps x [] (record { site = started_site first; held = empty first.g }) (first_records (nodes first.f first.k) first.compromised records))
      (ap (λ (o : Option Beginning). unwrap_or o b) q) (starts records first begun.most-f begun.most-k begun.few)

  goes_on : Does Tick
  unfolding effect_of
  goes_on e = λ b q. ticks b (accepted h) a records (before b q) (next_number h)

  happens-at : (i : ℕ) (t : Dts) (event : Event) → Does (AtNode i t event)
  unfolding effect_of
  happens-at i t event e = λ b q.
      let voter = get_or records i down_voter in
      let x = happens a.site (length records) (in_peer voter) i t (Steps.in_peer event) (event-passes a (length records) voter i t event e) in
      votes b (accepted h) a records (before b q) (next_number h) i t event x.place
      (λ A said. sym (relay-told a.site.breaker voter t event x.is_up) ∙ said)

  takes-turn : (i : ℕ) (turn : Turn) → Does (Life i turn)
  unfolding effect_of turned
  takes-turn i Down e = λ b q.
      turns-over b (accepted h) a records (before b q) (next_number h) i Down
      (turns a.site (length records) (in_peer (voter_of (Life i Down))) i Down (turn-passes a (length records) (voter_of (Life i Down)) i Down e)) (of_peer went_down) down-silent _
  takes-turn i Up e = λ b q.
      turns-over b (accepted h) a records (before b q) (next_number h) i Up
      (turns a.site (length records) (in_peer (voter_of (Life i Up))) i Up (turn-passes a (length records) (voter_of (Life i Up)) i Up e)) (of_peer went_up) up-silent _

  is-heard : (t : Dts) (m : Message) → Does (AtBreaker t m)
  unfolding effect_of
  is-heard t m e = λ b q.
      let kept = before b q in
      let heard = hears a (length records) (voter_of (AtBreaker t m)) t m e in
      record {
        few-nodes = kept.few-nodes;
        few-compromised = kept.few-compromised;
        same-f = kept.same-f;
        same-k = kept.same-k;
        same_set = kept.same_set;
        made = λ k A T x. further (kept.made k A T x);
        relay = kept.relay;
        holds = arbitrates b (accepted h) a kept.holds kept.few-nodes kept.few-compromised kept.same-f kept.same-k kept.same_set kept.made (next_number h) t m heard;
      }

  done : (step : Step) → Does step
  done (Start b) = begins-anew b
  done Tick = goes_on
  done (AtNode i t event) = happens-at i t event
  done (Life i turn) = takes-turn i turn
  done (AtBreaker t m) = is-heard t m

  kept : (step : Step) → KeptBy step (out_of a records step)
  unfolding out_of
  kept step = by_tests (KeptBy step) a (length records) (voter_of step) step (done step) (λ number. before)

-- ---- every sequence

-- where nothing has happened there was no Start
pub no_start : {b : Beginning} → None ≡ Some b → ⊥
unfolding there
no_start q = false≢true (ap there q)

pub reached-keeps : {first : Moment} {h : List Entry} {m : Moment} → Reached first h m → (b : Beginning) → last_start h ≡ Some b → Keeps b (accepted h) m.site m.records
unfolding table_after
reached-keeps from = λ b q. absurd (no_start q)
reached-keeps (then {h} {m} r step) = kept h m.site m.records (reached-keeps r) step
