use Rattle.arbiter_calls.proofs.lines.put_malformed.Goals as goal

pub returns : goal.returns
returns c =
    simp (← c.shown_status-status.ensures, ← c.shown_stamp-stamp.ensures) (simp c.number.ensures at c.put_quiet.ensures)
