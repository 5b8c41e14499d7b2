-- The last arm of a `match` knows of an event that it is no Deliver, and none of a pair.
use Prim.Native.Nat.{ℕ}
use mathlib.Core.Path.{◌≡◌, refl}
use Rattle.time.specs.declared.Dts.{Dts}
use Rattle.store.specs.declared.Store.{Store}
use Rattle.node.specs.declared.Phase.{Phase}
use Rattle.events.specs.Events.{store_at}
use Rattle.steps.specs.declared.Event.{Event}
use Rattle.steps.specs.declared.Event.TheVariants.{Report, Deliver, DeliverPair, ShareTimeout, ResendTimeout, Ack, Query}
use Rattle.acting.specs.Acting.{stored}

pub nothing-delivered : (phase : Phase) (store : Store) (t : Dts) (event : Event)
    → ((sender status : ℕ) (T : Dts) → event ≡ Deliver sender status T → ⊥)
    → ((sender status : ℕ) (T : Dts) → event ≡ DeliverPair sender status T → ⊥)
    → store_at phase store t ≡ stored phase store t event
unfolding stored
nothing-delivered phase store t (Report status number) one pair = refl
nothing-delivered phase store t (Deliver sender status T) one pair = absurd (one sender status T refl)
nothing-delivered phase store t (DeliverPair sender status T) one pair = absurd (pair sender status T refl)
nothing-delivered phase store t ShareTimeout one pair = refl
nothing-delivered phase store t ResendTimeout one pair = refl
nothing-delivered phase store t (Ack back) one pair = refl
nothing-delivered phase store t Query one pair = refl
