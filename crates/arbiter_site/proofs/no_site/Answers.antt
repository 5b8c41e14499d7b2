use Rattle.arbiter_site.proofs.no_site.Goals as goal

pub returns : goal.returns
returns c = simp (c.empty.ensures, c.no_site.ensures)
