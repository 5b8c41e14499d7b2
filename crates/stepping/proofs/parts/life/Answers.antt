use Rattle.std.proofs.lemmas.Result.{err_from_is_err_and}
use Rattle.stepping.specs.laws.Given.{life-refused, life-done}
use Rattle.stepping.proofs.parts.life.Goals as goal

pub returns-in_err-refuse_turn : goal.returns-in_err-refuse_turn
returns-in_err-refuse_turn c =
    let p = err_from_is_err_and c.from_residual.result c.from_residual.ensures.1 in
    let a = c.args in
    rw (p.1, p.2) (life-refused a.sound a.site a.node a.i a.turn _ c.in_err-refuse_turn.ensures)

pub returns : goal.returns
returns c = let a = c.args in rw c.turn.ensures (life-done a.sound a.site a.node a.i a.turn c.in_ok-refuse_turn.ensures)
