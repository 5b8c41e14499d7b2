use mathlib.Core.Path.{refl, sym}
use Rattle.senders.specs.Masks.{is_in}
use Rattle.senders.proofs.laws.MaskLaws.{in-above}
use Rattle.senders.proofs.is_in.Goals as goal

pub returns-then-sender-ge16 : goal.returns-then-sender-ge16
returns-then-sender-ge16 c = sym (in-above c.args.mask c.args.sender c.ranges.mask.fits c.if-sender-ge16.true)

pub returns : goal.returns
unfolding is_in
returns c = refl
