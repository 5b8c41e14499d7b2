use mathlib.Core.Path.{ap}
use borrow.Author.Tests.{le-ltb, lt-ltb}
use lib.Bits.{bit_or}
use Rattle.senders.specs.Masks.{joined}
use Rattle.senders.specs.laws.Bits.{one_shl}
use Rattle.senders.proofs.join.Goals as goal

pub returns-then-sender-ge16 : goal.returns-then-sender-ge16
unfolding joined
returns-then-sender-ge16 c = simp (le-ltb _ _ c.if-sender-ge16.true)

pub returns : goal.returns
unfolding joined
returns c =
    let a = c.args in
    simp (lt-ltb _ _ c.if-sender-ge16.false) (ap (bit_or a.mask) (one_shl a.sender 16 c.if-sender-ge16.false))
