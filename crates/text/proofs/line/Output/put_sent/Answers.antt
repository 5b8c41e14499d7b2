use Rattle.std.proofs.Common.{[], Some, None, arith}
use Rattle.text.specs.Puts.{then, room-after}
use Rattle.text.specs.laws.LineLaws.{puts-as, puts-nothing, length-all, sent-lettered, ack-yes, ack-no}
use Rattle.text.proofs.line.Output.put_sent.Goals as goal

pub put_pairs-requires-2 : goal.put_pairs-requires-2
put_pairs-requires-2 c = omega (arith, room-after 88 72 c.put_pairs.ensures.text (length-all 83 (Some c.args.i) c.args.sent.shares) c.requires)

pub put_pair-requires : goal.put_pair-requires
put_pair-requires c =
    let a = room-after 88 72 c.put_pairs.ensures.text (length-all 83 (Some c.args.i) c.args.sent.shares) c.requires in
    room-after 48 24 c.put_pairs-2.ensures.text (length-all 67 None c.args.sent.commands) a

pub returns-in-Some-clause-text : goal.returns-in-Some-clause-text
returns-in-Some-clause-text c =
    let s = c.args.sent in
    puts-as (sent-lettered c.args.i s.shares s.commands s.ack _ (ack-yes c.args.i s.ack _ c.in-Some.is))
    (then c.put_pairs.ensures.text (then c.put_pairs-2.ensures.text c.put_pair.ensures.text))

pub returns-in-None-clause-text : goal.returns-in-None-clause-text
returns-in-None-clause-text c =
    let s = c.args.sent in
    puts-as (sent-lettered c.args.i s.shares s.commands s.ack [] (ack-no c.args.i s.ack c.in-None.is))
    (then c.put_pairs.ensures.text (then c.put_pairs-2.ensures.text (puts-nothing _ _)))
