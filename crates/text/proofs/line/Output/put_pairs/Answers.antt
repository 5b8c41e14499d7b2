use Rattle.std.proofs.Common.{◌+◌, ap, arith}
use Rattle.text.specs.Puts.{then, room-after}
use Rattle.text.specs.Outputs.{node_room}
use Rattle.text.specs.laws.LineLaws.{puts-as, length-lettered}
use Rattle.text.specs.Line.{all_lettered}
use Rattle.text.proofs.line.Output.put_pairs.Goals as goal

pub put_pair-requires-in-Two-2 : goal.put_pair-requires-in-Two-2
put_pair-requires-in-Two-2 c =
    let n = node_room c.args.node in
    room-after (24 + n) (24 + n) c.put_pair-in-Two.ensures.text (length-lettered c.args.first c.args.node _) (omega (arith, c.requires))

pub returns-in-Two-clause-text : goal.returns-in-Two-clause-text
returns-in-Two-clause-text c =
    puts-as (ap (all_lettered c.args.first c.args.node) c.in-Two.is) (then c.put_pair-in-Two.ensures.text c.put_pair-in-Two-2.ensures.text)
