use Rattle.std.proofs.Common.{arith, ◌+◌, ◌-◌, ◌%◌}
use Rattle.time.specs.Newer.{newer}
use Rattle.time.specs.laws.Newer.{ahead-is}
use Rattle.time.proofs.is_newer.Goals as goal

pub returns : goal.returns
unfolding newer
returns c = rw (ahead-is ((c.args.number + (4294967296 - c.args.last)) % 4294967296) c.args.number c.args.last (omega (arith, c.ranges.number.fits, c.ranges.last.fits)) (omega arith) (omega (arith, c.ranges.last.fits)))
