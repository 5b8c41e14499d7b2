use Rattle.refusing.proofs.is_node.Goals as goal

pub returns : goal.returns
returns c = simp c.nodes.ensures
