use Prim.Native.Nat.{◌+◌, ◌/◌}
use mathlib.Core.Path.{refl}
use native.Mathlib.Numerals.{add-one}
use native.Mathlib.Omega.{arith}
use lib.ListN.{length-set}
use Rattle.text.specs.laws.LineLaws.{puts-as}
use Rattle.text.specs.laws.Decimal.{two_digits}
use Rattle.text.proofs.put_two.Goals as goal

pub bounds-out-at-2 : goal.bounds-out-at-2
bounds-out-at-2 c =
    let a = c.args in
    omega (arith, c.requires.1, length-set a.out.now a.at (a.n / 10 + 48))

pub returns : goal.returns
returns c = puts-as (two_digits c.args.n c.requires.0) (record { bytes = rw (add-one c.args.at); place = refl })
