-- Every step: its tests, and what it does where all are passed.
use Rattle.std.specs.Prelude.{ℕ, Result, Ok, Err}
use Rattle.refusals.specs.declared.Refusal.{Refusal}
use Rattle.refusals.specs.Tests.{refusal}
use Rattle.steps.specs.declared.Step.{Step}
use Rattle.node.specs.declared.Node.{Node}
use Rattle.site.specs.declared.Site.{Site}
use Rattle.site.specs.declared.Out.{Out}
use Rattle.refusing.specs.Tests.{tests_of}
use Rattle.site.specs.Answers.{refused}
use Rattle.effects.specs.Effects.{effect_of}

-- done, or refused with the refusal of the first test that fails
abbrev pub decided : Result (Unit {0}) Refusal → Out → Site → Node → Out
decided (Ok done) out site node = out
decided (Err refusal) out site node = refused refusal site node

unfoldable pub stepped : Site → ℕ → Node → Step → Out
stepped site lent node step = decided (refusal (tests_of site lent node step)) (effect_of site node step) site node
