use Rattle.senders.proofs.laws.MaskLaws.{ones-size}
use Rattle.senders.proofs.how_many.Goals as goal

pub returns : goal.returns
returns c = ones-size c.args.mask c.ranges.mask.fits
