use Rattle.std.proofs.Common.{arith}
use Rattle.text.specs.Puts.{then, room-after, room-byte}
use Rattle.text.specs.laws.Decimal.{length-decimal}
use Rattle.text.specs.laws.LineLaws.{length-pair}
use Rattle.text.proofs.line.Output.put_vote.Goals as goal

pub put_stamped-requires : goal.put_stamped-requires
put_stamped-requires c =
    let a = room-byte 45 c.put_byte.ensures.text c.requires in
    let b = room-byte 44 c.put_byte-2.ensures.text a in
    omega (arith, room-after 20 24 c.put_number.ensures.text (length-decimal _) b)

pub put_byte-requires-3 : goal.put_byte-requires-3
put_byte-requires-3 c =
    let a = room-byte 45 c.put_byte.ensures.text c.requires in
    let b = room-byte 44 c.put_byte-2.ensures.text a in
    let d = room-after 20 24 c.put_number.ensures.text (length-decimal _) b in
    omega (arith, room-after 22 2 c.put_stamped.ensures.text (length-pair c.args.pair) d)

pub returns-clause-text : goal.returns-clause-text
returns-clause-text c = then c.put_byte.ensures.text (then c.put_byte-2.ensures.text (then c.put_number.ensures.text (then c.put_stamped.ensures.text c.put_byte-3.ensures.text)))
