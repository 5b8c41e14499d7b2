-- "over all its fresh stamps above its own stamp taken together" (§3 of 02): the distinct senders held for an action, and the latest of the stamps counted.
use Rattle.std.specs.Prelude.{ℕ, cond, List, [], ◌∷◌}
use Rattle.time.specs.declared.Dts.{Dts}
use Rattle.senders.specs.Masks.{together}
use Rattle.store.specs.declared.Store.{Store}
use Rattle.store.specs.Store.{senders_of}
use Rattle.store.specs.Earliest.{dts, fresh_stamps, qualifies}
use Rattle.pooling.specs.declared.Pool.{Pool}

-- nobody, at no stamp
abbrev pub nobody : Pool
nobody = record { senders = 0; latest = dts 0 }

-- one stamp more: it is counted where it is above the bound and somebody, at least one sender, is held there
unfoldable pub added : Store → ℕ → Dts → Pool → ℕ → Pool
added s A above pool T =
    cond (qualifies s A above 0 T)
    (record { senders = together pool.senders (senders_of s A (dts T)); latest = dts T })
    pool

abbrev pub added_all : Store → ℕ → Dts → Pool → List ℕ → Pool
added_all s A above pool [] = pool
added_all s A above pool (T ∷ Ts) = added_all s A above (added s A above pool T) Ts

-- all stamps that are fresh at the store's clock, the oldest first
unfoldable pub pooled : Store → ℕ → Dts → Pool
pooled s A above = added_all s A above nobody (fresh_stamps s.clock)
