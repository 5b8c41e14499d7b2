use Prim.Native.Nat.{◌/◌}
use mathlib.Core.Path.{refl}
use native.Mathlib.Omega.{arith}
use lib.Dec.{lit<}
use Rattle.text.specs.Puts.{then}
use Rattle.text.specs.laws.LineLaws.{puts-as}
use Rattle.text.specs.laws.Decimal.{length-below, decimal-parts}
use Rattle.text.proofs.put_small.Goals as goal

pub put_four-requires : goal.put_four-requires
put_four-requires c =
    let a = c.args in
    (omega arith, omega (arith, c.requires.1, c.put_few-next.ensures.place, c.put_few-next.auto.out, length-below 16 4 (a.n / 10000) refl (lit< tt) (omega (arith, c.requires.0))))

pub returns : goal.returns
returns c =
    let a = c.args in
    puts-as (decimal-parts 4 16 a.n refl (lit< tt) c.if-n-lt10000.false (omega (arith, c.requires.0))) (then c.put_few-next.ensures c.put_four.ensures)
