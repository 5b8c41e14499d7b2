-- Every sequence of steps keeps what Keeps.antt says.
use Rattle.std.specs.Prelude.{ℕ, ◌+◌, ◌≤◌, ◌≡◌, Bool, true, false, cond, leb, length, drop, Option, None, Some, unwrap_or}
use Rattle.std.proofs.Math.Path.{refl, subst}
use Rattle.std.proofs.Common.{sym, ap, ◌∙◌, arith, lt-ltb, leb-true}
use Rattle.std.proofs.lemmas.Bool.{false≢true}
use Rattle.std.proofs.Math.Logic.{inr}
use mathlib.Core.List.{List, [], ◌∷◌}
use Rattle.std.proofs.Math.ListN.{get_or}
use Rattle.refusals.specs.laws.Bools.{right}
use Rattle.time.specs.declared.Dts.{Dts}
use Rattle.time.specs.Fresh.{fresh, next}
use Rattle.senders.specs.Masks.{size}
use Rattle.store.specs.Store.{moved_to}
use Rattle.store.proofs.laws.Held.{held-empty, held_moved}
use Rattle.pairs.specs.laws.KnownLaws.{is_known}
use Rattle.node.specs.declared.Node.{Node}
use Rattle.node.specs.Asked.{phase_running}
use Rattle.events.specs.Events.{went_down, went_up}
use Rattle.breaker.specs.declared.Breaker.{Breaker}
use Rattle.breaker.specs.Breaker.{most_changes, change_at}
use Rattle.steps.specs.declared.Beginning.{Beginning}
use Rattle.steps.specs.declared.Event.{Event}
use Rattle.steps.specs.declared.Turn.{Turn}
use Rattle.steps.specs.declared.Turn.TheVariants.{Down, Up}
use Rattle.steps.specs.declared.Step.{Step}
use Rattle.steps.specs.declared.Step.TheVariants.{Start, Tick, AtNode, Life, AtBreaker}
use Rattle.steps.specs.declared.Act.{Act}
use Rattle.steps.specs.Named.{report, ack, query, said_by, named, of_named}
use Rattle.acting.proofs.laws.Shares.{shared}
use Rattle.site.specs.declared.Site.{Site}
use Rattle.site.specs.declared.Out.{Out}
use Rattle.site.specs.Site.{nodes, g, most_f, most_k}
use Rattle.site.specs.Answers.{silence}
use Rattle.refusing.specs.laws.Accepted.{Passes, row-passed, begins, happens, turns}
use Rattle.effects.specs.Effects.{started_site, first_record, ticked, act, commanded, turned, effect_of}
use Rattle.stepping.specs.laws.StepLaws.{by_tests}
use Rattle.loans.specs.Loans.{first_records}
use Rattle.loans.specs.laws.LoanLaws.{front}
use Rattle.lent.specs.Lent.{record_of, out_of, table_after, table_after_answer}
use Rattle.sequences.specs.History.{Entry, Accepted, next_number, last_start, accepted, at_node, life, one_of}
use Rattle.sequences.specs.Moments.{Moment, Reached, from, then}
use Rattle.sequences.specs.laws.OfEvents.{delivers}
use Rattle.sequences.proofs.laws.Fitting.{done_with, Fits, said-last, keeps-event}
use Rattle.sequences.proofs.laws.Keeps.{FitsNode, Keeps, correct, elsewhere, at-node, acts}

-- ---- a node that went down, one that came up, and one at the start

there : {A : Type 0} → Option A → Bool
there None = false
there (Some a) = true

none_said : {A : ℕ} → None ≡ Some A → ⊥
unfolding there
none_said e = false≢true (ap there e)

fits-down : (f j : ℕ) (own : List Accepted) → life own ≡ [] → Fits f j went_down.phase went_down.store own
unfolding went_down
fits-down f j own e =
    record {
      once-known = refl;
      r-known = sym (ap (one_of (report ∷ [])) e);
      b-known = sym (ap (one_of (ack ∷ query ∷ [])) e);
      relay = λ A q. absurd (none_said q);
      while-running = λ q. absurd (false≢true q);
      nothing_left = λ rec q. absurd (false≢true (ap phase_running q));
    }

fits-up : (f j : ℕ) (own : List Accepted) → life own ≡ [] → Fits f j went_up.phase went_up.store own
unfolding went_up
fits-up f j own e =
    record {
      once-known = refl;
      r-known = sym (ap (one_of (report ∷ [])) e);
      b-known = sym (ap (one_of (ack ∷ query ∷ [])) e);
      relay = λ A q. absurd (none_said q);
      while-running = λ q. absurd (false≢true q);
      nothing_left = λ rec q. absurd (false≢true (ap phase_running q));
    }

-- ---- Start

starts : (records : List Node) (b : Beginning) → b.f ≤ most_f → b.k ≤ most_k → size b.compromised ≤ b.f
    → Keeps b [] (started_site b) (first_records (nodes b.f b.k) b.compromised records)
unfolding started_site first_record
starts records b most-f most-k few =
    record {
      few-nodes = omega arith;
      few-compromised = few;
      same-f = refl;
      same-k = refl;
      same_set = refl;
      made = λ i A T h. absurd (false≢true (sym (held-empty b.g A T i) ∙ h));
      fits = λ j c.
          subst (λ (node : Node). FitsNode b.f j node [])
          (sym
          (front (nodes b.f b.k) (first_record b.compromised) (drop (nodes b.f b.k) records) j went_down c.0
          ∙ ap (λ (x : Bool). cond x went_down went_up) c.1))
          (fits-up b.f j [] refl);
    }

-- ---- one step

-- a change that an ack delivers is remembered: rows 2 and 13
pub remembered : (breaker : Breaker) (o : Option ℕ) → of_named o (λ back. leb back 7) ≡ true → of_named o (λ back. leb (back + 1) breaker.changes.count) ≡ true
    → of_named o (λ back. is_known (change_at breaker back)) ≡ true
unfolding change_at
remembered breaker None a b = refl
remembered breaker (Some back) a b =
    let most = leb-true back 7 a in
    let few = leb-true (back + 1) breaker.changes.count b in
    simp (lt-ltb back breaker.changes.count (omega (arith, few)), lt-ltb back most_changes (omega (arith, most)))

module _ (h : List Entry) (site : Site) (records : List Node) (before : (b : Beginning) → last_start h ≡ Some b → Keeps b (accepted h) site records) where
  abbrev KeptBy : Step → Out → Type 0
  KeptBy step out =
      (b : Beginning) → last_start (record { step = step; answer = out.answer } ∷ h) ≡ Some b
      → Keeps b (accepted (record { step = step; answer = out.answer } ∷ h)) out.site (table_after_answer out.answer step records out.node)

  abbrev node_of : Step → Node
  node_of step = record_of (named step).actor records

  abbrev Does : Step → Type 0
  Does step = Passes site (length records) (node_of step) step → KeptBy step (effect_of site (node_of step) step)

  begins-anew : (first : Beginning) → Does (Start first)
  unfolding effect_of
  begins-anew first e = λ b q.
      let begun = begins site (length records) (node_of (Start first)) first e in
      subst (λ (x : Beginning). Keeps x [] (started_site first) (first_records (nodes first.f first.k) first.compromised records))
      (ap (λ (o : Option Beginning). unwrap_or o b) q) (starts records first begun.most-f begun.most-k begun.few)

  ticks : Does Tick
  unfolding effect_of ticked
  ticks e = λ b q.
      elsewhere b (accepted h) site records (before b q) _ _ (λ j. refl) refl refl refl
      (λ i A T held-now. right (fresh T (moved_to site.made (next (g site))).clock) _ (sym (held_moved site.made (next (g site)) A T i) ∙ held-now))

  happens-at : (i : ℕ) (t : Dts) (event : Event) → Does (AtNode i t event)
  unfolding effect_of act
  happens-at i t event e = λ b q.
      let node = get_or records i went_down in
      let x = happens site (length records) node i t event e in
      let says = x.of-status in
      let is = remembered site.breaker (said_by event).back x.of-back (row-passed site (length records) node (AtNode i t event) 13 e) in
      let d = delivers site event x.place.room-for-node x.of-sender x.of-status in
      let fits = (before b q).fits i (correct b (accepted h) site records (before b q) i x.place) in
      let up = x.is_up in
      acts b (accepted h) site records (before b q) i (next_number h) t event x.place
      (λ A T told.
      let s = shared site.breaker node i site.f t event A T x.not_late told in
      (s.1, said-last site.f i site.breaker node.store (at_node i (accepted h)) (next_number h) t event x.place.has_room x.not_back x.not_late d is says node.phase fits A s.0))
      (keeps-event site.f i site.breaker node.store (at_node i (accepted h)) (next_number h) t event x.place.has_room x.not_back x.not_late d is says node.phase up fits)

  takes-turn : (i : ℕ) (turn : Turn) → Does (Life i turn)
  unfolding effect_of turned
  takes-turn i Down e = λ b q.
      at-node b (accepted h) site records (before b q) i (done_with (next_number h) (Life i Down) silence) _ went_down (λ j. refl)
      (turns site (length records) (node_of (Life i Down)) i Down e) refl refl refl (λ k A T known. inr known) (fits-down site.f i _ refl)
  takes-turn i Up e = λ b q.
      at-node b (accepted h) site records (before b q) i (done_with (next_number h) (Life i Up) silence) _ went_up (λ j. refl)
      (turns site (length records) (node_of (Life i Up)) i Up e) refl refl refl (λ k A T known. inr known) (fits-up site.f i _ refl)

  is-told : (t : Dts) (command : Act) → Does (AtBreaker t command)
  unfolding effect_of commanded
  is-told t command e = λ b q. elsewhere b (accepted h) site records (before b q) _ _ (λ j. refl) refl refl refl (λ i A U held-now. held-now)

  done : (step : Step) → Does step
  done (Start b) = begins-anew b
  done Tick = ticks
  done (AtNode i t event) = happens-at i t event
  done (Life i turn) = takes-turn i turn
  done (AtBreaker t command) = is-told t command

  pub kept : (step : Step) → KeptBy step (out_of site records step)
  unfolding out_of
  kept step = by_tests (KeptBy step) site (length records) (node_of step) step (done step) (λ number. before)

-- ---- every sequence

-- where nothing has happened there was no Start
pub no_start : {b : Beginning} → None ≡ Some b → ⊥
unfolding there
no_start q = false≢true (ap there q)

pub reached-keeps : {first : Moment} {h : List Entry} {m : Moment} → Reached first h m → (b : Beginning) → last_start h ≡ Some b → Keeps b (accepted h) m.site m.records
unfolding table_after
reached-keeps from = λ b q. absurd (no_start q)
reached-keeps (then {h} {m} r step) = kept h m.site m.records (reached-keeps r) step
