use Rattle.std.proofs.Common.{sym, ◌∙◌, arith}
use Rattle.text.specs.Lines.{sent_messages}
use Rattle.text.specs.Line.{line_with}
use Rattle.text.specs.laws.LineLaws.{head-room, line-put, line_kept}
use Rattle.text.proofs.line.put_loud.Goals as goal

pub put_tail-requires : goal.put_tail-requires
put_tail-requires c =
    let a = c.args in
    omega (arith, head-room a.number 0 a.status a.stamp (sym c.has_room.ensures ∙ c.if-has_room.true) c.put_head.ensures.text)

pub returns-then-has_room : goal.returns-then-has_room
returns-then-has_room c =
    let a = c.args in
    let h = line-put a.number 0 a.status a.stamp a.i (sent_messages a.sent) (sym c.has_room.ensures ∙ c.if-has_room.true) c.put_head.ensures.text c.put_tail.ensures.text in
    grind (arith, h)

pub returns : goal.returns
returns c =
    let a = c.args in
    line_kept a.out.now a.at (line_with a.number 0 a.status a.stamp a.i (sent_messages a.sent)) (sym c.has_room.ensures ∙ c.if-has_room.false)
