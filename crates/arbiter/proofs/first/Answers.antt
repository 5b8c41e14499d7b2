use Rattle.arbiter.proofs.first.Goals as goal

pub returns : goal.returns
returns c = simp c.begin.ensures
