use mathlib.Core.Path.{◌≡◌}
use lib.ListN.{drop}
use Rattle.store.specs.Earliest.{fresh_stamps, qualifies, first_of, earliest}
use Rattle.store.proofs.Store.earliest.Given as goal

abbrev pub invariant-loop-i : goal.invariant-loop-i
invariant-loop-i l =
    first_of (qualifies l.self l.action l.above l.f) (drop l.i (fresh_stamps l.self.clock)) ≡ earliest l.self l.action l.above l.f
