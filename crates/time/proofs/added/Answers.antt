use Rattle.time.proofs.added.Goals as goal

pub returns-in-Nearest : goal.returns-in-Nearest
returns-in-Nearest c = simp c.in-Nearest.is
