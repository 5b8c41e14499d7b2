use Rattle.std.proofs.Common.{sym, ◌∙◌, arith}
use Rattle.text.specs.Line.{message_line}
use Rattle.text.specs.laws.LineLaws.{head-room, message-put, line_kept}
use Rattle.text.proofs.line.put_message.Goals as goal

pub put_vote-requires : goal.put_vote-requires
put_vote-requires c =
    let a = c.args in
    omega (arith, head-room a.number 0 a.status a.stamp (sym c.has_room.ensures ∙ c.if-has_room.true) c.put_head.ensures.text)

pub returns-then-has_room : goal.returns-then-has_room
returns-then-has_room c =
    let a = c.args in
    let h = message-put a.number a.status a.stamp a.i a.pair (sym c.has_room.ensures ∙ c.if-has_room.true) c.put_head.ensures.text c.put_vote.ensures.text in
    grind (arith, h)

pub returns : goal.returns
returns c =
    let a = c.args in
    line_kept a.out.now a.at (message_line a.number a.status a.stamp a.i a.pair) (sym c.has_room.ensures ∙ c.if-has_room.false)
