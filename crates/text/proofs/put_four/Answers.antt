use Prim.Native.Nat.{◌/◌}
use native.Mathlib.Omega.{arith}
use Rattle.text.specs.Puts.{then}
use Rattle.text.specs.laws.LineLaws.{puts-as}
use Rattle.text.specs.laws.Decimal.{length-spelled, spelled-parts}
use Rattle.text.proofs.put_four.Goals as goal

pub put_two-requires : goal.put_two-requires
put_two-requires c =
    let a = c.args in
    (omega arith, omega (arith, c.requires.1, c.put_two-next.ensures.place, c.put_two-next.auto.out, length-spelled 2 (a.n / 100)))

pub returns : goal.returns
returns c =
    let a = c.args in
    puts-as (spelled-parts 2 2 a.n) (then c.put_two-next.ensures c.put_two.ensures)
