use Rattle.run.specs.laws.Arms.{line_as, told-shown}
use Rattle.run.proofs.lines.put_told.Goals as goal

pub returns : goal.returns
returns c =
    let a = c.args in
    line_as _ _ (told-shown a.line a.site _ _ c.shown_status-status.ensures c.shown_stamp-stamp.ensures) c.put_loud.ensures
