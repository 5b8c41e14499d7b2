-- Every step: its tests, and what it does where all are passed.
use Rattle.std.specs.Prelude.{ℕ, Result, Ok, Err}
use Rattle.refusals.specs.declared.Refusal.{Refusal}
use Rattle.refusals.specs.Tests.{refusal}
use Rattle.arbiter_steps.specs.declared.Step.{Step}
use Rattle.arbiter_node.specs.declared.Voter.{Voter}
use Rattle.arbiter_site.specs.declared.Arbiter.{Arbiter}
use Rattle.arbiter_site.specs.declared.Out.{Out}
use Rattle.arbiter_site.specs.Tests.{tests_of}
use Rattle.arbiter_site.specs.Effects.{refused, effect_of}

-- done, or refused with the refusal of the first test that fails
abbrev pub decided : Result (Unit {0}) Refusal → Out → Arbiter → Voter → Out
decided (Ok done) out a voter = out
decided (Err refusal) out a voter = refused refusal a voter

unfoldable pub stepped : Arbiter → ℕ → Voter → Step → Out
stepped a lent voter step = decided (refusal (tests_of a lent voter step)) (effect_of a voter step) a voter
