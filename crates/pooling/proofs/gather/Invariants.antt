use mathlib.Core.Path.{◌≡◌}
use lib.ListN.{drop}
use Rattle.store.specs.Earliest.{fresh_stamps}
use Rattle.pooling.specs.Pooling.{added_all, pooled}
use Rattle.pooling.proofs.gather.Given as goal

-- the stamps that are left make the whole of the pool so far
abbrev pub invariant-loop-i : goal.invariant-loop-i
invariant-loop-i l = added_all l.store l.action l.above l.pool (drop l.i (fresh_stamps l.store.clock)) ≡ pooled l.store l.action l.above
