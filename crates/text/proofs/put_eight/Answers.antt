use Prim.Native.Nat.{◌/◌}
use native.Mathlib.Omega.{arith}
use Rattle.text.specs.Puts.{then}
use Rattle.text.specs.laws.LineLaws.{puts-as}
use Rattle.text.specs.laws.Decimal.{length-spelled, spelled-parts}
use Rattle.text.proofs.put_eight.Goals as goal

pub put_four-requires : goal.put_four-requires
put_four-requires c =
    let a = c.args in
    (omega arith, omega (arith, c.requires.1, c.put_four-next.ensures.place, c.put_four-next.auto.out, length-spelled 4 (a.n / 10000)))

pub returns : goal.returns
returns c =
    let a = c.args in
    puts-as (spelled-parts 4 4 a.n) (then c.put_four-next.ensures c.put_four.ensures)
