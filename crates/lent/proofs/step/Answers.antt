use Rattle.lent.proofs.laws.TurnLaws.{all_said}
use Rattle.lent.proofs.step.Goals as goal

pub returns : goal.returns
returns c = all_said _ _ _ _ _ _ c.step.ensures
