use Rattle.store.specs.Held.{held}
use Rattle.refusing.proofs.can_deliver.Goals as goal

pub returns : goal.returns
unfolding held
returns c = simp (c.is_in-is_made.ensures, c.is_in-compromised.ensures, c.senders-shared.ensures)
