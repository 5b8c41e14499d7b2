use Rattle.store.specs.laws.Clearing.{Cleared}
use Rattle.store.proofs.Store.move_to.Given as goal

abbrev pub invariant-loop-at : goal.invariant-loop-at
invariant-loop-at l = Cleared (record { clock = l.now; masks = l.initial.self.masks }) l.initial.self.clock l.at l.self
