use Rattle.arbiter_lent.proofs.laws.TurnLaws.{all_said}
use Rattle.arbiter_lent.proofs.step.Goals as goal

pub returns : goal.returns
returns c = all_said _ _ _ _ _ _ c.step.ensures
