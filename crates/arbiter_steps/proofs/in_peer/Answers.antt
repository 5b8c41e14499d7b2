use Rattle.arbiter_steps.proofs.in_peer.Goals as goal

pub returns-in-Report : goal.returns-in-Report
returns-in-Report c = simp c.in-Report.is

pub returns-in-Ack : goal.returns-in-Ack
returns-in-Ack c = simp c.in-Ack.is
