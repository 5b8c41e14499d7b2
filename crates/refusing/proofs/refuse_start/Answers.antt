use Rattle.refusing.proofs.refuse_start.Goals as goal

pub returns : goal.returns
returns c = simp (c.test.ensures, c.how_many.ensures, c.is_within-below.ensures, c.nodes-n.ensures)
