use Rattle.std.proofs.Common.{sym, ◌∙◌}
use Rattle.stepping.specs.laws.Given.{life-stepped}
use Rattle.stepping.proofs.life.Goals as goal

pub returns-in-Ok : goal.returns-in-Ok
returns-in-Ok c =
    let a = c.args in
    rw c.silence.ensures (life-stepped a.site a.lent a.node _ a.i a.turn c.is_sound_at-sound.ensures _ (sym c.in-Ok.is ∙ c.life.ensures))

pub returns-in-Err : goal.returns-in-Err
returns-in-Err c =
    let a = c.args in life-stepped a.site a.lent a.node _ a.i a.turn c.is_sound_at-sound.ensures _ (sym c.in-Err.is ∙ c.life.ensures)
