use Rattle.std.proofs.Common.{[], sym, ◌∙◌, arith}
use Rattle.text.specs.Line.{line_with}
use Rattle.text.specs.laws.LineLaws.{head-room, puts-as, no-tail, line-put, line_kept}
use Rattle.text.proofs.line.put_quiet.Goals as goal

pub put_nothing-requires : goal.put_nothing-requires
put_nothing-requires c =
    let a = c.args in
    omega (arith, head-room a.number a.refusal a.status a.stamp (sym c.has_room.ensures ∙ c.if-has_room.true) c.put_head.ensures.text)

pub returns-then-has_room : goal.returns-then-has_room
returns-then-has_room c =
    let a = c.args in
    let h = line-put a.number a.refusal a.status a.stamp 0 [] (sym c.has_room.ensures ∙ c.if-has_room.true) c.put_head.ensures.text (puts-as (no-tail 0) c.put_nothing.ensures.text) in
    grind (arith, h)

pub returns : goal.returns
returns c =
    let a = c.args in
    line_kept a.out.now a.at (line_with a.number a.refusal a.status a.stamp 0 []) (sym c.has_room.ensures ∙ c.if-has_room.false)
