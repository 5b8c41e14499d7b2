-- One stamp more, as the code has it: it is counted, or it is not.
use Rattle.std.specs.Prelude.{ℕ, ◌^◌, ◌≤◌, ◌<◌, ◌≡◌, ◌⊎◌}
use Rattle.std.proofs.Math.Bool.{true, false, and-false}
use Rattle.std.proofs.Math.Logic.{inl, inr}
use borrow.Author.Tests.{lt-ltb, le-ltb}
use Rattle.time.specs.declared.Dts.{Dts}
use Rattle.senders.specs.Masks.{enough, together}
use Rattle.store.specs.declared.Store.{Store}
use Rattle.store.specs.Store.{senders_of}
use Rattle.store.specs.Earliest.{dts, qualifies}
use Rattle.pooling.specs.declared.Pool.{Pool}
use Rattle.pooling.specs.Pooling.{added}

-- ---- one stamp more, as the code has it

module _ (s : Store) (A : ℕ) (above : Dts) (pool : Pool) (T : ℕ) where
  pub not-counted : (T ≤ above.0) ⊎ ((2 ^ 32 ≤ T) ⊎ (enough (senders_of s A (dts T)) 0 ≡ false)) → pool ≡ added s A above pool T
  unfolding added qualifies
  not-counted (inl l) = simp (le-ltb above.0 T l)
  not-counted (inr (inl k)) = simp (le-ltb T (2 ^ 32) k, and-false)
  not-counted (inr (inr e)) = simp (e, and-false)

  pub is-counted : above.0 < T → T < 2 ^ 32 → enough (senders_of s A (dts T)) 0 ≡ true
      → record { senders = together pool.senders (senders_of s A (dts T)); latest = dts T } ≡ added s A above pool T
  unfolding added qualifies
  is-counted l k e = simp (lt-ltb above.0 T l, lt-ltb T (2 ^ 32) k, e)
