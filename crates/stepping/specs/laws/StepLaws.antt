-- What a step's refusal decides.
use Rattle.std.specs.Prelude.{ℕ, ◌≡◌, refl, true, Result, Ok, Err}
use Rattle.std.proofs.Common.{ap}
use Rattle.refusals.specs.declared.Refusal.{Refusal}
use Rattle.refusals.specs.Tests.{refusal}
use Rattle.steps.specs.declared.Step.{Step}
use Rattle.steps.specs.declared.Step.TheVariants.{Start, Tick, AtNode, Life, AtBreaker}
use Rattle.steps.specs.declared.Turn.TheVariants.{Down, Up}
use Rattle.node.specs.declared.Node.{Node}
use Rattle.site.specs.declared.Site.{Site}
use Rattle.site.specs.declared.Out.{Out}
use Rattle.site.specs.Answers.{refused, is_done}
use Rattle.effects.specs.Effects.{act, commanded, turned, effect_of}
use Rattle.refusing.specs.Tests.{tests_of}
use Rattle.stepping.specs.Steps.{decided, stepped}

module _ (answer : Result (Unit {0}) Refusal) (out : Out) (site : Site) (node : Node) where
  pub when-refused : {fault : Refusal} → Err fault ≡ answer → refused fault site node ≡ decided answer out site node
  when-refused is = ap (λ (x : Result (Unit {0}) Refusal). decided x out site node) is

  pub when-done : {u : Unit {0}} → Ok u ≡ answer → out ≡ decided answer out site node
  when-done is = ap (λ (x : Result (Unit {0}) Refusal). decided x out site node) is

-- ---- every step

-- what holds of the effect, if all tests are passed, and of each refusal, holds of the step
pub by_tests : (P : Out → Type 0) (site : Site) (lent : ℕ) (node : Node) (step : Step) → (refusal (tests_of site lent node step) ≡ Ok tt → P (effect_of site node step))
    → ((fault : Refusal) → P (refused fault site node)) → P (stepped site lent node step)
unfolding stepped
by_tests P site lent node step done fails = go (refusal (tests_of site lent node step)) refl
  where
    go : (answer : Result (Unit {0}) Refusal) → refusal (tests_of site lent node step) ≡ answer → P (decided answer (effect_of site node step) site node)
    go (Ok tt) e = done e
    go (Err fault) e = fails fault

pub effect-done : (site : Site) (node : Node) (step : Step) → is_done (effect_of site node step).answer ≡ true
unfolding effect_of act turned commanded
effect-done site node (Start b) = refl
effect-done site node Tick = refl
effect-done site node (AtNode i t event) = refl
effect-done site node (Life i Down) = refl
effect-done site node (Life i Up) = refl
effect-done site node (AtBreaker t command) = refl
