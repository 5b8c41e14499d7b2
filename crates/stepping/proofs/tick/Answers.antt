use Rattle.std.proofs.Common.{sym, ◌∙◌}
use Rattle.stepping.specs.laws.Given.{tick-stepped}
use Rattle.stepping.proofs.tick.Goals as goal

pub returns-in-Ok : goal.returns-in-Ok
returns-in-Ok c =
    let a = c.args in
    rw c.silence.ensures (tick-stepped a.site a.lent a.node _ c.is_site_sound-sound.ensures _ (sym c.in-Ok.is ∙ c.tick.ensures a.node))

pub returns-in-Err : goal.returns-in-Err
returns-in-Err c =
    let a = c.args in tick-stepped a.site a.lent a.node _ c.is_site_sound-sound.ensures _ (sym c.in-Err.is ∙ c.tick.ensures a.node)
