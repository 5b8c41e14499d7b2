use Prim.Native.Nat.{◌/◌, ◌%◌}
use mathlib.Core.Path.{refl}
use native.Mathlib.Omega.{arith}
use lib.Dec.{lit<}
use Rattle.text.specs.Puts.{then}
use Rattle.text.specs.laws.LineLaws.{puts-as}
use Rattle.text.specs.laws.Decimal.{length-spelled, length-below, decimal-parts}
use Rattle.text.proofs.put_large.Goals as goal

pub put_eight-requires : goal.put_eight-requires
put_eight-requires c =
    let a = c.args in
    (omega arith, omega (arith, c.requires.1, c.put_small-next.ensures.place, c.put_small-next.auto.out, length-below 12 8 (a.n / 100000000) refl (lit< tt) c.if-high-lt100000000.true))

pub returns-then-high-lt100000000 : goal.returns-then-high-lt100000000
returns-then-high-lt100000000 c =
    let a = c.args in
    puts-as (decimal-parts 8 12 a.n refl (lit< tt) c.requires.0 (omega arith)) (then c.put_small-next.ensures c.put_eight.ensures)

pub put_eight-then-requires : goal.put_eight-then-requires
put_eight-then-requires c =
    let a = c.args in
    (omega arith, omega (arith, c.requires.1, c.put_few-next.ensures.place, c.put_few-next.auto.out, length-below 16 4 (a.n / 100000000 / 100000000) refl (lit< tt) (omega arith)))

pub put_eight-requires-2 : goal.put_eight-requires-2
put_eight-requires-2 c =
    let a = c.args in
    let high = a.n / 100000000 in
    (omega arith, omega (arith, c.requires.1, c.put_eight-then.ensures.place, c.put_eight-then.auto.out, c.put_few-next.ensures.place, c.put_few-next.auto.out, length-below 16 4 (high / 100000000) refl (lit< tt) (omega arith), length-spelled 8 (high % 100000000)))

pub returns : goal.returns
returns c =
    let a = c.args in
    let high = decimal-parts 8 12 (a.n / 100000000) refl (lit< tt) c.if-high-lt100000000.false (omega arith) in
    puts-as (decimal-parts 8 12 a.n refl (lit< tt) c.requires.0 (omega arith))
    (then (puts-as high (then c.put_few-next.ensures c.put_eight-then.ensures)) c.put_eight-2.ensures)
