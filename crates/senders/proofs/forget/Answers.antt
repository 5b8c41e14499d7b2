use mathlib.Core.Path.{ap, sym, ◌∙◌}
use lib.Bits.{bit_xor}
use Rattle.senders.specs.Masks.{without}
use Rattle.senders.specs.laws.Bits.{one_shl}
use Rattle.senders.proofs.laws.MaskLaws.{in-above}
use Rattle.senders.proofs.forget.Goals as goal

pub returns-then-sender-ge16 : goal.returns-then-sender-ge16
unfolding without
returns-then-sender-ge16 c =
    let a = c.args in
    simp (in-above a.mask a.sender c.ranges.mask.fits c.if-sender-ge16.true)

pub returns-then-is_in : goal.returns-then-is_in
unfolding without
returns-then-is_in c =
    let a = c.args in
    simp (sym c.is_in.ensures ∙ c.if-is_in.true)
    (ap (bit_xor a.mask) (one_shl a.sender 16 c.if-sender-ge16.false))

pub returns-else-is_in : goal.returns-else-is_in
unfolding without
returns-else-is_in c = simp (sym c.is_in.ensures ∙ c.if-is_in.false)
