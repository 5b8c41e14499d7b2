use Rattle.refusing.proofs.is_verdict_yes.Goals as goal

pub returns : goal.returns
returns c = simp (c.is_enough.ensures, c.join_all-counted.ensures, c.senders-shared.ensures)
