use Rattle.arbiter_site.proofs.shares_of.Goals as goal

pub returns-in-Some : goal.returns-in-Some
returns-in-Some c = simp c.in-Some.is
