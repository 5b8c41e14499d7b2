use Rattle.std.proofs.Common.{sym, ◌∙◌}
use Rattle.stepping.specs.laws.Given.{breaker-stepped}
use Rattle.stepping.proofs.at_breaker.Goals as goal

pub returns-in-Ok : goal.returns-in-Ok
returns-in-Ok c =
    let a = c.args in breaker-stepped a.site a.lent a.node _ a.t a.act c.is_site_sound-sound.ensures _ (sym c.in-Ok.is ∙ c.at_breaker.ensures a.node)

pub returns-in-Err : goal.returns-in-Err
returns-in-Err c =
    let a = c.args in breaker-stepped a.site a.lent a.node _ a.t a.act c.is_site_sound-sound.ensures _ (sym c.in-Err.is ∙ c.at_breaker.ensures a.node)
