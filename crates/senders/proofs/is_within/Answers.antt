use mathlib.Core.Path.{sym}
use Rattle.senders.proofs.laws.Within.{shifted-out, room_within}
use Rattle.senders.proofs.is_within.Goals as goal

pub returns-then-n-ge16 : goal.returns-then-n-ge16
returns-then-n-ge16 c = sym (room_within c.args.mask c.args.n c.ranges.mask.fits c.if-n-ge16.true)

pub returns : goal.returns
returns c = shifted-out c.args.mask c.args.n
