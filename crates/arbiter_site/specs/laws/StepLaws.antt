-- What a step's refusal decides.
use Rattle.std.specs.Prelude.{ℕ, ◌≡◌, refl, true, Result, Ok, Err}
use Rattle.std.proofs.Math.Path.{ap}
use Rattle.std.proofs.Common.{◌∙◌}
use Rattle.refusals.specs.declared.Refusal.{Refusal}
use Rattle.refusals.specs.Tests.{refusal}
use Rattle.steps.specs.declared.Turn.{Turn}
use Rattle.steps.specs.declared.Turn.TheVariants.{Down, Up}
use Rattle.site.specs.Answers.{silence, is_done}
use Rattle.effects.specs.Effects.{with_down, turned}
use Rattle.effects.specs.laws.Parts.{turned_of}
use Rattle.arbiter_node.specs.Voter.{of_peer}
use Rattle.arbiter_steps.specs.declared.Step.{Step}
use Rattle.arbiter_steps.specs.declared.Step.TheVariants.{Start, Tick, AtNode, Life, AtBreaker}
use Rattle.arbiter_node.specs.declared.Voter.{Voter}
use Rattle.arbiter_site.specs.declared.Arbiter.{Arbiter}
use Rattle.arbiter_site.specs.declared.Out.{Out}
use Rattle.arbiter_site.specs.Tests.{tests_of}
use Rattle.arbiter_site.specs.Effects.{refused, done, effect_of}
use Rattle.arbiter_site.specs.Steps.{decided, stepped}

module _ (a : Arbiter) (lent : ℕ) (voter : Voter) (step : Step) where
  pub when-refused : (fault : Refusal) → Err fault ≡ refusal (tests_of a lent voter step) → (out : Out) → out ≡ refused fault a voter → out ≡ stepped a lent voter step
  unfolding stepped
  when-refused fault is out e = e ∙ ap (λ (answer : Result (Unit {0}) Refusal). decided answer (effect_of a voter step) a voter) is

  pub when-done : {u : Unit {0}} → Ok u ≡ refusal (tests_of a lent voter step) → (out : Out) → out ≡ effect_of a voter step → out ≡ stepped a lent voter step
  unfolding stepped
  when-done is out e = e ∙ ap (λ (answer : Result (Unit {0}) Refusal). decided answer (effect_of a voter step) a voter) is

-- ---- every step

-- what holds of the effect, if all tests are passed, and of each refusal, holds of the step
pub by_tests : (P : Out → Type 0) (a : Arbiter) (lent : ℕ) (voter : Voter) (step : Step) → (refusal (tests_of a lent voter step) ≡ Ok tt → P (effect_of a voter step))
    → ((fault : Refusal) → P (refused fault a voter)) → P (stepped a lent voter step)
unfolding stepped
by_tests P a lent voter step done fails = go (refusal (tests_of a lent voter step)) refl
  where
    go : (answer : Result (Unit {0}) Refusal) → refusal (tests_of a lent voter step) ≡ answer → P (decided answer (effect_of a voter step) a voter)
    go (Ok tt) e = done e
    go (Err fault) e = fails fault

pub effect-done : (a : Arbiter) (voter : Voter) (step : Step) → is_done (effect_of a voter step).answer ≡ true
unfolding effect_of
effect-done a voter (Start b) = refl
effect-done a voter Tick = refl
effect-done a voter (AtNode i t event) = refl
effect-done a voter (Life i turn) = refl
effect-done a voter (AtBreaker t m) = refl

-- a turn, by what it leaves of the nodes that are down and of the record
pub turned_as : (a : Arbiter) (voter : Voter) (i : ℕ) (turn : Turn)
    → done silence (with_down a.site (turned_of a.site.down i turn).down) a.held (of_peer (turned_of a.site.down i turn).node) ≡ effect_of a voter (Life i turn)
unfolding effect_of turned
turned_as a voter i Down = refl
turned_as a voter i Up = refl
