-- What was held of some deliveries, at a later clock.
use Rattle.std.specs.Prelude.{ℕ, ◌+◌, ◌≤◌, ◌≡◌, refl, Bool, true, false, ◌&&◌, List}
use Rattle.std.proofs.Common.{ap, ◌∙◌}
use Rattle.time.specs.declared.Dts.{Dts}
use Rattle.time.specs.Fresh.{fresh, window}
use Rattle.time.specs.laws.Fresh.{fresh-then}
use Rattle.store.specs.declared.Store.{Store}
use Rattle.store.specs.Store.{moved_to}
use Rattle.store.specs.Held.{held}
use Rattle.store.proofs.laws.Held.{held_moved}
use Rattle.store.proofs.laws.HeldLaws.{clock-at}
use Rattle.pairs.specs.declared.Pair.{Pair}
use Rattle.pairs.specs.Pair.{has}

pub held-later : (s : Store) (t : Dts) (ps : List Pair) (A : ℕ) (T : Dts) (i : ℕ) → s.clock.0 ≤ t.0
    → held s A T i ≡ (has ps A T && fresh T s.clock) → (has ps A T ≡ true → T.0 ≤ s.clock.0 + window)
    → held (moved_to s t) A T i ≡ (has ps A T && fresh T t)
held-later s t ps A T i l e soon =
    held_moved s t A T i
    ∙ ap (λ (c : Dts). fresh T c && held s A T i) (clock-at s t l)
    ∙ ap (λ (x : Bool). fresh T t && x) e
    ∙ go (has ps A T) (fresh T t) (fresh T s.clock) soon (λ h. λ k. fresh-then T s.clock t l h k)
  where
    go : (h x y : Bool) → (h ≡ true → T.0 ≤ s.clock.0 + window) → (T.0 ≤ s.clock.0 + window → x ≡ true → y ≡ true) → (x && (h && y)) ≡ (h && x)
    go true true y soon keeps = keeps (soon refl) refl
    go true false y soon keeps = refl
    go false true y soon keeps = refl
    go false false y soon keeps = refl
