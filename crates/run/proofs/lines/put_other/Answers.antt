use Rattle.std.proofs.Common.{ap, ◌∙◌}
use Rattle.run.specs.laws.Arms.{line_as, other-shown, other_text}
use Rattle.run.proofs.lines.put_other.Goals as goal

pub returns : goal.returns
returns c =
    let a = c.args in
    line_as _ _ (other-shown a.line a.site _ _ _ c.shown_status-status.ensures c.shown_stamp-stamp.ensures ∙ ap (other_text a.line a.site) c.shown_number.ensures)
    c.put_quiet.ensures
