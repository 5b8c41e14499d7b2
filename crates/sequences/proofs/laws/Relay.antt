-- r moves by reports alone: 01 sets it in Report and nowhere else, and §1 of 02 moves no more than the stamp that a report gives it.
-- Of every accepted step at any moment whatever, reached or not, and of what the lent table has afterwards.
use Rattle.std.specs.Prelude.{ℕ, ◌<◌, ◌≡◌, refl, Bool, true, false, ◌||◌, List, [], ◌∷◌, get_or, set, Option, None, Some, unwrap_or}
use Rattle.std.proofs.Common.{ap, ◌∙◌, true≢false, get_or-set_same}
use Rattle.std.proofs.Math.Path.{subst}
use Rattle.std.proofs.lemmas.Bool.{false≢true}
use Rattle.std.proofs.Math.ListN.{length}
use Rattle.time.specs.declared.Dts.{Dts}
use Rattle.node.specs.declared.Node.{Node}
use Rattle.node.specs.Asked.{known_r}
use Rattle.events.specs.Events.{went_down}
use Rattle.steps.specs.declared.Event.{Event}
use Rattle.steps.specs.declared.Turn.TheVariants.{Down, Up}
use Rattle.steps.specs.declared.Step.{Step}
use Rattle.steps.specs.declared.Step.TheVariants.{Start, Tick, AtNode, Life, AtBreaker}
use Rattle.steps.specs.Named.{report, down, up, said_by, named, among}
use Rattle.acting.specs.Acting.{acted}
use Rattle.acting.proofs.laws.Relay.{reports, relay-kept}
use Rattle.site.specs.declared.Site.{Site}
use Rattle.site.specs.declared.Out.{Out}
use Rattle.site.specs.Answers.{is_done}
use Rattle.refusing.specs.laws.Accepted.{Passes}
use Rattle.effects.specs.Effects.{act, effect_of}
use Rattle.lent.specs.Lent.{record_of, out_of, table_after, table_after_answer}
use Rattle.lent.specs.laws.LentLaws.{named-within}
use Rattle.stepping.specs.laws.StepLaws.{by_tests}
use Rattle.sequences.specs.Moments.{Moment, Accepts, node_at}
use Rattle.sequences.proofs.laws.OneEvent.{phase_after}

-- A step at node j that is no Report, and neither takes the node down nor brings it up, leaves r as it was.
abbrev pub RelayByReports : Type 0
RelayByReports =
    (m : Moment) (j : ℕ) (step : Step) → Accepts m step → (named step).actor ≡ Some j → among (named step).said.kind (report ∷ down ∷ up ∷ []) ≡ false
    → known_r (phase_after m step j) ≡ known_r (node_at m j).phase

module _ (site : Site) (records : List Node) (j : ℕ) where
  abbrev node : ℕ → Node
  node i = get_or records i went_down

  abbrev LeftBy : Step → Out → Type 0
  LeftBy step out =
      is_done out.answer ≡ true → (named step).actor ≡ Some j → among (named step).said.kind (report ∷ down ∷ up ∷ []) ≡ false
      → known_r (get_or (table_after_answer out.answer step records out.node) j went_down).phase ≡ known_r (node j).phase

  nobody : {A : Type 0} → None ≡ Some j → A
  nobody e = absurd (false≢true (ap there e))
    where
      there : Option ℕ → Bool
      there None = false
      there (Some i) = true

  no-report : (event : Event) → among (said_by event).kind (report ∷ down ∷ up ∷ []) ≡ false → reports event ≡ false
  no-report event e = first (reports event) _ e
    where
      first : (x y : Bool) → (x || y) ≡ false → x ≡ false
      first true y h = absurd (true≢false h)
      first false y h = refl

  happens-at : (i : ℕ) (t : Dts) (event : Event) → Passes site (length records) (node i) (AtNode i t event) → LeftBy (AtNode i t event) (effect_of site (node i) (AtNode i t event))
  unfolding effect_of act
  happens-at i t event e = λ d is other.
      let end = acted site.breaker (node i) i site.f t event in
      let lent : i < length records = named-within site (length records) (node i) (AtNode i t event) e in
      subst (λ (k : ℕ). known_r (get_or (set records i end.node) k went_down).phase ≡ known_r (node k).phase) (ap (λ (o : Option ℕ). unwrap_or o j) is)
      (ap (λ (x : Node). known_r x.phase) (get_or-set_same records i end.node went_down lent)
      ∙ relay-kept site.breaker (node i) i site.f t event (no-report event other))

  done : (step : Step) → Passes site (length records) (record_of (named step).actor records) step → LeftBy step (effect_of site (record_of (named step).actor records) step)
  done (Start b) e = λ d is other. nobody is
  done Tick e = λ d is other. nobody is
  done (AtNode i t event) e = happens-at i t event e
  done (Life i Down) e = λ d is other. absurd (true≢false other)
  done (Life i Up) e = λ d is other. absurd (true≢false other)
  done (AtBreaker t command) e = λ d is other. nobody is

  kept : (step : Step) → LeftBy step (out_of site records step)
  unfolding out_of
  kept step = by_tests (LeftBy step) site (length records) (record_of (named step).actor records) step (done step) (λ number d. absurd (false≢true d))

pub relay-by-reports : RelayByReports
unfolding table_after
relay-by-reports m j step is-done is other = kept m.site m.records j step is-done is other
