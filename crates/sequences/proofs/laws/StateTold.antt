-- In every sequence the site and its table are what the history tells.
use Rattle.std.specs.Prelude.{ℕ, ◌+◌, ◌-◌, ◌<◌, ◌≡◌, refl, Bool, false, ◌||◌, cond, ◌⊎◌, eqb, length, drop, Option, Some, unwrap_or}
use Rattle.std.proofs.Common.{sym, ap, ◌∙◌, inl, inr, arith, get_or-set_same, eqb-true, le-leb}
use Rattle.std.proofs.Math.Path.{subst}
use Rattle.std.proofs.Math.Bool.{true}
use Rattle.std.proofs.lemmas.Bool.{false≢true}
use mathlib.Core.List.{List, [], ◌∷◌}
use Rattle.std.proofs.Math.ListN.{get_or}
use Rattle.refusals.specs.laws.Bools.{left}
use Rattle.time.specs.declared.Dts.{Dts}
use Rattle.time.specs.Fresh.{window, fresh}
use Rattle.senders.specs.Masks.{is_in}
use Rattle.senders.proofs.laws.MaskLaws.{in-none}
use Rattle.store.specs.Store.{empty}
use Rattle.store.proofs.laws.Held.{held-empty}
use Rattle.node.specs.declared.Node.{Node}
use Rattle.events.specs.Events.{went_down, went_up}
use Rattle.breaker.specs.Breaker.{started}
use Rattle.steps.specs.declared.Beginning.{Beginning}
use Rattle.steps.specs.declared.Event.{Event}
use Rattle.steps.specs.declared.Turn.{Turn}
use Rattle.steps.specs.declared.Turn.TheVariants.{Down, Up}
use Rattle.steps.specs.declared.Act.{Act}
use Rattle.steps.specs.declared.Step.{Step}
use Rattle.steps.specs.declared.Step.TheVariants.{Start, Tick, AtNode, Life, AtBreaker}
use Rattle.steps.specs.Named.{said_by, named}
use Rattle.acting.specs.Acting.{acted}
use Rattle.acting.proofs.laws.Relay.{relay-told}
use Rattle.acting.proofs.laws.Shares.{AtOwnClock, shared}
use Rattle.site.specs.declared.Site.{Site}
use Rattle.site.specs.declared.Out.{Out}
use Rattle.site.specs.Site.{nodes, g}
use Rattle.site.specs.laws.Sound.{sound}
use Rattle.refusing.specs.Tests.{is_now}
use Rattle.refusing.specs.laws.Accepted.{Passes, row-passed, happens, turns}
use Rattle.effects.specs.Effects.{started_site, first_record, act, commanded, turned, effect_of}
use Rattle.stepping.specs.laws.StepLaws.{by_tests}
use Rattle.lent.specs.Lent.{record_of, out_of, table_after, table_after_answer}
use Rattle.loans.specs.Loans.{first_records}
use Rattle.loans.specs.laws.LoanLaws.{front}
use Rattle.sequences.specs.History.{Entry, next_number, last_start, accepted, at_node}
use Rattle.sequences.specs.Moments.{Moment, Reached, from, then}
use Rattle.sequences.proofs.laws.Fitting.{done_with, sent_by}
use Rattle.sequences.proofs.laws.Keeps.{FitsNode, Keeps, correct}
use Rattle.sequences.proofs.laws.Reaching.{remembered, no_start, reached-keeps}
use Rattle.sequences.proofs.laws.Changing.{Changing, reached-changing}
use Rattle.sequences.proofs.laws.NodeTold.{NodeTells, first-tells}
use Rattle.sequences.proofs.laws.SiteTold.{Tells, near_of, ticks-on, happens-so, turns-so, commands-so}

-- ---- Start

starts : (records : List Node) (b : Beginning) → Tells b [] (started_site b) (first_records (nodes b.f b.k) b.compromised records)
unfolding started_site first_record started empty
starts records b =
    record {
      is-started = refl;
      now = omega arith;
      breaker = refl;
      made = λ i A T. held-empty b.g A T i;
      soon = λ i A T e. absurd (false≢true e);
      down = in-none;
      nodes-told = λ j c. subst (NodeTells _ []) (sym (record-of j c.0 c.1)) first-tells;
      others-down = λ j l is. record-of j l is;
    }
  where
    record-of : (j : ℕ) {x : Bool} → j < nodes b.f b.k → is_in b.compromised j ≡ x
        → get_or (first_records (nodes b.f b.k) b.compromised records) j went_down ≡ cond x went_down went_up
    record-of j l is =
        front (nodes b.f b.k) (first_record b.compromised) (drop (nodes b.f b.k) records) j went_down l ∙ ap (λ (y : Bool). cond y went_down went_up) is

-- ---- a share made at a clock that is now or next is fresh at the site clock

fresh-made : (site : Site) (t T : Dts) → is_now site t ≡ true → AtOwnClock t T → fresh T (g site) ≡ true
fresh-made site t T now at = go (eqb t.0 (g site).0) refl now at
  where
    near : (T.0 ≡ (g site).0) ⊎ (T.0 ≡ (g site).0 + 1) ⊎ (T.0 ≡ (g site).0 + 2) → fresh T (g site) ≡ true
    near (inl e) = simp (le-leb ((g site).0 - window) T.0 (omega (arith, e)), le-leb T.0 ((g site).0 + window) (omega (arith, e)))
    near (inr (inl e)) = simp (le-leb ((g site).0 - window) T.0 (omega (arith, e)), le-leb T.0 ((g site).0 + window) (omega (arith, e)))
    near (inr (inr e)) = simp (le-leb ((g site).0 - window) T.0 (omega (arith, e)), le-leb T.0 ((g site).0 + window) (omega (arith, e)))

    go : (x : Bool) → eqb t.0 (g site).0 ≡ x → (x || eqb t.0 ((g site).0 + 1)) ≡ true → AtOwnClock t T → fresh T (g site) ≡ true
    go true e h (inl same) = let now = eqb-true t.0 (g site).0 e in near (inl (omega (arith, now, same)))
    go true e h (inr same) = let now = eqb-true t.0 (g site).0 e in near (inr (inl (omega (arith, now, same))))
    go false e h (inl same) = let now = eqb-true t.0 ((g site).0 + 1) h in near (inr (inl (omega (arith, now, same))))
    go false e h (inr same) = let now = eqb-true t.0 ((g site).0 + 1) h in near (inr (inr (omega (arith, now, same))))

-- ---- one step

module _
    (h : List Entry) (site : Site) (records : List Node)
    (keeps : (b : Beginning) → last_start h ≡ Some b → Keeps b (accepted h) site records)
    (changes : (b : Beginning) → last_start h ≡ Some b → Changing b (accepted h) site)
    (before : (b : Beginning) → last_start h ≡ Some b → Tells b (accepted h) site records)
  where
    abbrev ToldBy : Step → Out → Type 0
    ToldBy step out =
        (b : Beginning) → last_start (record { step = step; answer = out.answer } ∷ h) ≡ Some b
        → Keeps b (accepted (record { step = step; answer = out.answer } ∷ h)) out.site (table_after_answer out.answer step records out.node)
        → Tells b (accepted (record { step = step; answer = out.answer } ∷ h)) out.site (table_after_answer out.answer step records out.node)

    abbrev node_of : Step → Node
    node_of step = record_of (named step).actor records

    abbrev Does : Step → Type 0
    Does step = Passes site (length records) (node_of step) step → ToldBy step (effect_of site (node_of step) step)

    begins-anew : (first : Beginning) → Does (Start first)
    unfolding effect_of
    begins-anew first e = λ b q kept.
        subst (λ (x : Beginning). Tells x [] (started_site first) (first_records (nodes first.f first.k) first.compromised records))
        (ap (λ (o : Option Beginning). unwrap_or o b) q) (starts records first)

    ticks : Does Tick
    unfolding effect_of
    ticks e = λ b q kept.
        let whole = sound site (length records) (left _ true (row-passed site (length records) (node_of Tick) Tick 16 e)) in
        let last = whole.last-g in
        ticks-on b (accepted h) site records (before b q) (next_number h) (omega (arith, last))

    happens-at : (i : ℕ) (t : Dts) (event : Event) → Does (AtNode i t event)
    unfolding effect_of act
    happens-at i t event e = λ b q kept.
        let node = get_or records i went_down in
        let x = happens site (length records) node i t event e in
        let is = remembered site.breaker (said_by event).back x.of-back (row-passed site (length records) node (AtNode i t event) 13 e) in
        let c = correct b (accepted h) site records (keeps b q) i x.place in
        let end = acted site.breaker node i site.f t event in
        let own = at_node i (done_with (next_number h) (AtNode i t event) (sent_by end) ∷ accepted h) in
        let fits : FitsNode site.f i end.node own =
        subst (λ (y : Node). FitsNode site.f i y own) (get_or-set_same records i end.node went_down x.place.is-lent) (kept.fits i c) in
        happens-so b (accepted h) site records (before b q) (next_number h) i t event c x.place.is-lent x.place.has_room x.is_up
        (row-passed site (length records) node (AtNode i t event) 4 e) is x.not_back
        (near_of (g site) end.shares (λ A T said.
        let s = shared site.breaker node i site.f t event A T x.not_late said in (
          (fits.relay A (relay-told site.breaker node i site.f t event x.is_up ∙ s.0)).1,
          fresh-made site t T (row-passed site (length records) node (AtNode i t event) 5 e) s.1,
        )))

    takes-turn : (i : ℕ) (turn : Turn) → Does (Life i turn)
    unfolding effect_of turned
    takes-turn i Down e = λ b q kept.
        let p = turns site (length records) (node_of (Life i Down)) i Down e in
        turns-so b (accepted h) site records (before b q) (next_number h) i Down (correct b (accepted h) site records (keeps b q) i p) p.is-lent p.has_room
    takes-turn i Up e = λ b q kept.
        let p = turns site (length records) (node_of (Life i Up)) i Up e in
        turns-so b (accepted h) site records (before b q) (next_number h) i Up (correct b (accepted h) site records (keeps b q) i p) p.is-lent p.has_room

    is-told : (t : Dts) (command : Act) → Does (AtBreaker t command)
    unfolding effect_of commanded
    is-told t command e = λ b q kept. commands-so b (accepted h) site records (before b q) (next_number h) t command _ (changes b q).status

    done : (step : Step) → Does step
    done (Start b) = begins-anew b
    done Tick = ticks
    done (AtNode i t event) = happens-at i t event
    done (Life i turn) = takes-turn i turn
    done (AtBreaker t command) = is-told t command

    pub told-by : (step : Step) → ToldBy step (out_of site records step)
    unfolding out_of
    told-by step = by_tests (ToldBy step) site (length records) (node_of step) step (done step) (λ number b q kept. before b q)

-- ---- every sequence

pub reached-told : {first : Moment} {h : List Entry} {m : Moment} → Reached first h m → (b : Beginning) → last_start h ≡ Some b → Tells b (accepted h) m.site m.records
unfolding table_after
reached-told from = λ b q. absurd (no_start q)
reached-told (then {h} {m} r step) = λ b q. told-by h m.site m.records (reached-keeps r) (reached-changing r) (reached-told r) step b q (reached-keeps (then r step) b q)
