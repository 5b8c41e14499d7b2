use Prim.Native.Nat.{◌+◌}
use mathlib.Core.Path.{ap, sym}
use lib.Dec.{leb}
use Rattle.senders.proofs.laws.MaskLaws.{ones-size, none-enough}
use Rattle.senders.proofs.is_enough.Goals as goal

pub returns-then-mask-eq0 : goal.returns-then-mask-eq0
returns-then-mask-eq0 c = rw c.if-mask-eq0.true (sym (none-enough c.args.f))

pub returns : goal.returns
returns c = let b = c.before in ap (leb (b.args.f + 1)) (ones-size b.args.mask b.ranges.mask.fits)
