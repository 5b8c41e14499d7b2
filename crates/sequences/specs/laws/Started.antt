-- An accepted step has passed its tests; and from a site that is not started, every accepted change comes after an accepted Start.
use Rattle.std.specs.Prelude.{◌≡◌, refl, true, false, List, ◌∷◌, length, Some, None}
use Rattle.std.proofs.Common.{sym, ◌∙◌}
use Rattle.std.proofs.lemmas.Bool.{false≢true}
use Rattle.refusals.specs.laws.Bools.{left}
use Rattle.time.specs.declared.Dts.{Dts}
use Rattle.node.specs.declared.Node.{Node}
use Rattle.steps.specs.declared.Beginning.{Beginning}
use Rattle.steps.specs.declared.Turn.TheVariants.{Down, Up}
use Rattle.steps.specs.declared.Act.{Act}
use Rattle.steps.specs.declared.Step.{Step}
use Rattle.steps.specs.declared.Step.TheVariants.{Start, Tick, AtNode, Life, AtBreaker}
use Rattle.steps.specs.Named.{named}
use Rattle.site.specs.declared.Site.{Site}
use Rattle.site.specs.declared.Out.{Out}
use Rattle.site.specs.laws.Sound.{sound}
use Rattle.refusing.specs.laws.Accepted.{Passes, row-passed}
use Rattle.effects.specs.Effects.{ticked, act, commanded, turned, effect_of}
use Rattle.lent.specs.Lent.{record_of, out_of}
use Rattle.site.specs.Answers.{is_done}
use Rattle.stepping.specs.laws.StepLaws.{by_tests}
use Rattle.sequences.specs.History.{Entry, last_start}
use Rattle.sequences.specs.Moments.{Moment, Reached, from, then, Accepts}

-- an accepted step has passed its tests
pub accepted-passed : (m : Moment) (step : Step) → Accepts m step → Passes m.site (length m.records) (record_of (named step).actor m.records) step
unfolding out_of
accepted-passed m step =
    by_tests
    (λ out. is_done out.answer ≡ true → Passes m.site (length m.records) (record_of (named step).actor m.records) step)
    m.site (length m.records) (record_of (named step).actor m.records) step (λ e done. e) (λ number done. absurd (false≢true done))

module _ (h : List Entry) (site : Site) (records : List Node) (before : site.started ≡ true → (b : Beginning) × (last_start h ≡ Some b)) where
  abbrev StartedBy : Step → Out → Type 0
  StartedBy step out = out.site.started ≡ true → (b : Beginning) × (last_start (record { step = step; answer = out.answer } ∷ h) ≡ Some b)

  done : (step : Step) (node : Node) → StartedBy step (effect_of site node step)
  unfolding effect_of act commanded turned ticked
  done (Start b) node = λ e. (b, refl)
  done Tick node = before
  done (AtNode i t event) node = before
  done (Life i Down) node = before
  done (Life i Up) node = before
  done (AtBreaker t command) node = before

  started-by : (step : Step) → StartedBy step (out_of site records step)
  unfolding out_of
  started-by step = by_tests (StartedBy step) site (length records) (record_of (named step).actor records) step (λ e. done step (record_of (named step).actor records)) (λ number. before)

started : {first : Moment} {h : List Entry} {m : Moment} → first.site.started ≡ false → Reached first h m → m.site.started ≡ true
    → (b : Beginning) × (last_start h ≡ Some b)
started not_yet from = λ e. absurd (false≢true (sym not_yet ∙ e))
started not_yet (then {h} {m} r step) = started-by h m.site m.records (started not_yet r) step

pub started-before : {first : Moment} {h : List Entry} {m : Moment} → first.site.started ≡ false → Reached first h m
    → (t : Dts) (command : Act) → Accepts m (AtBreaker t command) → (b : Beginning) × (last_start h ≡ Some b)
started-before {m = m} not_yet r t command taken =
    let e = accepted-passed m (AtBreaker t command) taken in
    started not_yet r
    (sound m.site (length m.records) (left _ true (row-passed m.site (length m.records) (record_of None m.records) (AtBreaker t command) 16 e))).is-started
