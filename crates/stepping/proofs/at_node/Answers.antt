use Rattle.std.proofs.Common.{sym, ◌∙◌}
use Rattle.stepping.specs.laws.Given.{node-stepped}
use Rattle.stepping.proofs.at_node.Goals as goal

pub returns-in-Ok : goal.returns-in-Ok
returns-in-Ok c =
    let a = c.args in node-stepped a.site a.lent a.node _ a.i a.t a.event c.is_sound_at-sound.ensures _ (sym c.in-Ok.is ∙ c.at_node.ensures)

pub returns-in-Err : goal.returns-in-Err
returns-in-Err c =
    let a = c.args in node-stepped a.site a.lent a.node _ a.i a.t a.event c.is_sound_at-sound.ensures _ (sym c.in-Err.is ∙ c.at_node.ensures)
