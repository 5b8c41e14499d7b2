use Rattle.std.proofs.lemmas.Result.{err_from_is_err_and}
use Rattle.stepping.specs.laws.Given.{node-refused, node_done}
use Rattle.stepping.proofs.parts.at_node.Goals as goal

pub returns-in_err-refuse_event : goal.returns-in_err-refuse_event
returns-in_err-refuse_event c =
    let p = err_from_is_err_and c.from_residual.result c.from_residual.ensures.1 in
    let a = c.args in
    rw (p.1, p.2) (node-refused a.sound a.site a.node a.i a.t a.event _ c.in_err-refuse_event.ensures)

pub returns : goal.returns
returns c = let a = c.args in rw c.note.ensures (node_done a.sound a.site a.node a.i a.t a.event c.in_ok-refuse_event.ensures)
