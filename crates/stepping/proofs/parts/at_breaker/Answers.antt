use Rattle.std.proofs.lemmas.Result.{err_from_is_err_and}
use Rattle.stepping.specs.laws.Given.{breaker-refused, breaker-done}
use Rattle.stepping.proofs.parts.at_breaker.Goals as goal

pub returns-in_err-refuse_act : goal.returns-in_err-refuse_act
returns-in_err-refuse_act c =
    let p = err_from_is_err_and c.from_residual.result c.from_residual.ensures.1 in
    let a = c.args in
    λ node. rw (p.1, p.2) (breaker-refused a.sound a.site node a.t a.act _ c.in_err-refuse_act.ensures)

pub returns : goal.returns
returns c = let a = c.args in λ node. rw c.command.ensures (breaker-done a.sound a.site node a.t a.act c.in_ok-refuse_act.ensures)
