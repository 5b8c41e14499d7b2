use Rattle.std.proofs.Common.{sym}
use Rattle.time.specs.laws.Fresh.{fresh-sums}
use Rattle.time.proofs.is_fresh.Goals as goal

pub returns : goal.returns
returns c = sym (fresh-sums c.args.stamp.0 c.args.clock.0)
