use Rattle.std.proofs.Common.{◌+◌, arith}
use Rattle.text.specs.Puts.{then, room-after, room-byte}
use Rattle.text.specs.Outputs.{node_room}
use Rattle.text.specs.laws.LineLaws.{node-short}
use Rattle.text.proofs.line.Output.put_pair.Goals as goal

pub put_stamped-requires : goal.put_stamped-requires
put_stamped-requires c =
    let n = node_room c.args.node in
    let a = room-byte (23 + n) c.put_byte.ensures.text (omega (arith, c.requires)) in
    let b = room-byte (22 + n) c.put_byte-2.ensures.text (omega (arith, a)) in
    room-after n 22 c.put_node.ensures.text (node-short c.args.node) (omega (arith, b))

pub returns-clause-text : goal.returns-clause-text
returns-clause-text c = then c.put_byte.ensures.text (then c.put_byte-2.ensures.text (then c.put_node.ensures.text c.put_stamped.ensures.text))
