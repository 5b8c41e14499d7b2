use Rattle.refusals.specs.Tests.{refusal}
use Rattle.refusals.proofs.test.Goals as goal

pub returns-then-passed : goal.returns-then-passed
unfolding refusal
returns-then-passed g c = simp c.if-passed.true

pub returns-else-passed : goal.returns-else-passed
unfolding refusal
returns-else-passed g c = simp c.if-passed.false
