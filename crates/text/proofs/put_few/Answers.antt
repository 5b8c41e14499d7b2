use Prim.Native.Nat.{◌/◌}
use mathlib.Core.Path.{refl}
use native.Mathlib.Omega.{arith}
use lib.Dec.{lit<}
use Rattle.text.specs.Puts.{then}
use Rattle.text.specs.laws.LineLaws.{puts-as}
use Rattle.text.specs.laws.Decimal.{length-below, decimal-parts, decimal-is}
use Rattle.text.proofs.put_few.Goals as goal

pub returns-then-n-lt100 : goal.returns-then-n-lt100
returns-then-n-lt100 c = puts-as (decimal-is 1 c.args.n (lit< tt) c.if-n-lt100.true (λ p. c.if-n-lt10.false)) c.put_two.ensures

pub put_two-requires-then-n-lt1000 : goal.put_two-requires-then-n-lt1000
put_two-requires-then-n-lt1000 c =
    let a = c.args in
    (omega arith, omega (arith, c.requires.1, c.put_digit-next.ensures.place, c.put_digit-next.auto.out, length-below 19 1 (a.n / 100) refl (lit< tt) (omega (arith, c.if-n-lt1000.true))))

pub returns-then-n-lt1000 : goal.returns-then-n-lt1000
returns-then-n-lt1000 c =
    let a = c.args in
    puts-as (decimal-parts 2 18 a.n refl (lit< tt) c.if-n-lt100.false (omega (arith, c.if-n-lt1000.true))) (then c.put_digit-next.ensures c.put_two-then-n-lt1000.ensures)

pub returns : goal.returns
returns c = puts-as (decimal-is 3 c.args.n (lit< tt) c.requires.0 (λ p. c.if-n-lt1000.false)) c.put_four.ensures
