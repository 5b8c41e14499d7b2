-- Laws of what Larger.antt defines.
use Rattle.std.specs.Prelude.{◌≡◌, ℕ, ◌≤◌, Bool, true, false, cond, nat_le, refl}
use Rattle.std.proofs.Common.{arith, leb-true, leb-false}
use Rattle.time.specs.declared.Dts.{Dts}
use Rattle.time.specs.Larger.{larger}

pub larger-least : (T t : Dts) → T.0 ≤ (larger T t).0
larger-least T t = go (nat_le T.0 t.0) refl
  where
    go : (x : Bool) → nat_le T.0 t.0 ≡ x → T.0 ≤ (cond x t T).0
    go true e = leb-true _ _ e
    go false e = omega arith

pub larger-second : (T t : Dts) → t.0 ≤ (larger T t).0
larger-second T t = go (nat_le T.0 t.0) refl
  where
    go : (x : Bool) → nat_le T.0 t.0 ≡ x → t.0 ≤ (cond x t T).0
    go true e = omega arith
    go false e = omega (arith, leb-false)

pub larger-most : (T t : Dts) (most : ℕ) → T.0 ≤ most → t.0 ≤ most → (larger T t).0 ≤ most
larger-most T t most a b = go (nat_le T.0 t.0)
  where
    go : (x : Bool) → (cond x t T).0 ≤ most
    go true = b
    go false = a
