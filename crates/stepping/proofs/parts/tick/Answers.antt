use Rattle.std.proofs.lemmas.Result.{err_from_is_err_and}
use Rattle.stepping.specs.laws.Given.{tick-refused, tick-done}
use Rattle.stepping.proofs.parts.tick.Goals as goal

pub returns-in_err-refuse_tick : goal.returns-in_err-refuse_tick
returns-in_err-refuse_tick c =
    let p = err_from_is_err_and c.from_residual.result c.from_residual.ensures.1 in
    λ node. rw (p.1, p.2) (tick-refused c.args.sound c.args.site node _ c.in_err-refuse_tick.ensures)

pub returns : goal.returns
returns c = λ node. rw c.tick.ensures (tick-done c.args.sound c.args.site node c.in_ok-refuse_tick.ensures)
