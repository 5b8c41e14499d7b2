use Rattle.arbiter_calls.proofs.lines.put_answer.Goals as goal

pub returns-in-Ok : goal.returns-in-Ok
returns-in-Ok c = simp (c.in-Ok.is, ← c.shown_status-status.ensures, ← c.shown_stamp-stamp.ensures) c.put_done.ensures

pub returns-in-Err : goal.returns-in-Err
returns-in-Err c =
    simp (c.in-Err.is, ← c.number.ensures, ← c.shown_status-status.ensures, ← c.shown_stamp-stamp.ensures) c.put_quiet.ensures
