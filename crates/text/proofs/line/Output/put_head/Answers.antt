use Rattle.std.proofs.Common.{arith}
use Rattle.text.specs.Puts.{then, room-after, room-byte}
use Rattle.text.specs.laws.Decimal.{length-decimal}
use Rattle.text.proofs.line.Output.put_head.Goals as goal

pub put_byte-requires : goal.put_byte-requires
put_byte-requires c = omega (arith, room-after 20 44 c.put_number.ensures.text (length-decimal _) c.requires)

pub put_few-requires-clause-room : goal.put_few-requires-clause-room
put_few-requires-clause-room c =
    let a = room-after 20 44 c.put_number.ensures.text (length-decimal _) c.requires in
    omega (arith, room-byte 43 c.put_byte.ensures.text a)

pub put_byte-requires-2 : goal.put_byte-requires-2
put_byte-requires-2 c =
    let a = room-after 20 44 c.put_number.ensures.text (length-decimal _) c.requires in
    let b = room-byte 43 c.put_byte.ensures.text a in
    omega (arith, room-after 20 23 c.put_few.ensures.text (length-decimal _) b)

pub put_byte-requires-3 : goal.put_byte-requires-3
put_byte-requires-3 c =
    let a = room-after 20 44 c.put_number.ensures.text (length-decimal _) c.requires in
    let b = room-byte 43 c.put_byte.ensures.text a in
    let d = room-after 20 23 c.put_few.ensures.text (length-decimal _) b in
    omega (arith, room-byte 22 c.put_byte-2.ensures.text d)

pub put_byte-requires-4 : goal.put_byte-requires-4
put_byte-requires-4 c =
    let a = room-after 20 44 c.put_number.ensures.text (length-decimal _) c.requires in
    let b = room-byte 43 c.put_byte.ensures.text a in
    let d = room-after 20 23 c.put_few.ensures.text (length-decimal _) b in
    let e = room-byte 22 c.put_byte-2.ensures.text d in
    omega (arith, room-byte 21 c.put_byte-3.ensures.text e)

pub put_number-requires-2 : goal.put_number-requires-2
put_number-requires-2 c =
    let a = room-after 20 44 c.put_number.ensures.text (length-decimal _) c.requires in
    let b = room-byte 43 c.put_byte.ensures.text a in
    let d = room-after 20 23 c.put_few.ensures.text (length-decimal _) b in
    let e = room-byte 22 c.put_byte-2.ensures.text d in
    let f = room-byte 21 c.put_byte-3.ensures.text e in
    room-byte 20 c.put_byte-4.ensures.text f

pub returns-clause-text : goal.returns-clause-text
returns-clause-text c =
    then c.put_number.ensures.text (then c.put_byte.ensures.text (then c.put_few.ensures.text (then c.put_byte-2.ensures.text (then c.put_byte-3.ensures.text (then c.put_byte-4.ensures.text c.put_number-2.ensures.text)))))
