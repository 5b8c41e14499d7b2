use mathlib.Core.Path.{refl}
use Rattle.senders.specs.Masks.{together}
use Rattle.senders.proofs.join_all.Goals as goal

pub returns : goal.returns
unfolding together
returns c = refl
