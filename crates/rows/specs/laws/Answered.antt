-- The number that a step is answered with is its refusal's.
use Rattle.std.specs.Prelude.{ℕ, ◌≡◌, refl, true, ◌↔◌, Result, Ok, Err}
use Rattle.std.proofs.Common.{ap}
use Rattle.refusals.specs.declared.Refusal.{Refusal}
use Rattle.refusals.specs.Tests.{number_in, refusal, passed}
use Rattle.refusals.specs.laws.Tests.{done-ok, passed-done, done-passed}
use Rattle.steps.specs.declared.Step.{Step}
use Rattle.node.specs.declared.Node.{Node}
use Rattle.site.specs.declared.Site.{Site}
use Rattle.site.specs.Answers.{number_of}
use Rattle.site.specs.laws.Answers.{done-number}
use Rattle.refusing.specs.Tests.{tests_of}
use Rattle.effects.specs.Effects.{effect_of}
use Rattle.stepping.specs.Steps.{decided, stepped}
use Rattle.stepping.specs.laws.StepLaws.{effect-done}

module _ (site : Site) (lent : ℕ) (node : Node) (step : Step) where
  -- the number that a step is answered with
  abbrev pub answered_with : ℕ
  answered_with = number_of (stepped site lent node step).answer

  -- It is that of the refusal of the step's tests.
  pub answered-is : answered_with ≡ number_in (refusal (tests_of site lent node step))
  unfolding stepped
  answered-is = go (refusal (tests_of site lent node step))
    where
      go : (answer : Result (Unit {0}) Refusal) → number_of (decided answer (effect_of site node step) site node).answer ≡ number_in answer
      go (Ok done) = done-number (effect_of site node step).answer (effect-done site node step)
      go (Err fault) = refl

  -- It is 0 exactly when every test is passed.
  pub answered-done : (answered_with ≡ 0) ↔ (passed (tests_of site lent node step) ≡ true)
  answered-done =
      rw answered-is (
        λ e. done-passed (tests_of site lent node step) (done-ok (refusal (tests_of site lent node step)) e),
        λ e. ap number_in (passed-done (tests_of site lent node step) e),
      )
