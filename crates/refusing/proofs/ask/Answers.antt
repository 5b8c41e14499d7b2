use Rattle.refusals.specs.Tests.{refusal}
use Rattle.refusing.specs.laws.Parts.{taken, report-range, deliver-range, pair-range, ack-range}
use Rattle.refusing.proofs.ask.Goals as goal

pub returns-in-Report : goal.returns-in-Report
returns-in-Report c = rw c.in-Report.is (simp (c.test-own.ensures, c.is_new-new.ensures, c.is_down-down.ensures, (taken c.args.node).0, ← report-range c.args.site c.in-Report.status 0))

pub returns-in-Deliver : goal.returns-in-Deliver
returns-in-Deliver c = rw c.in-Deliver.is (simp (c.share-own.ensures, c.is_running-phase.ensures, c.is_node-known.ensures, (taken c.args.node).1, ← deliver-range c.args.site c.in-Deliver.sender c.in-Deliver.status (record { 0 = 0 })))

pub returns-in-DeliverPair : goal.returns-in-DeliverPair
returns-in-DeliverPair c = rw c.in-DeliverPair.is (simp (c.pair-own.ensures, c.is_running-phase-in-DeliverPair.ensures, c.is_node-known-in-DeliverPair.ensures, (taken c.args.node).2, ← pair-range c.args.site c.in-DeliverPair.sender c.in-DeliverPair.status c.in-DeliverPair.stamp))

pub returns-in-ShareTimeout : goal.returns-in-ShareTimeout
returns-in-ShareTimeout c = rw c.in-ShareTimeout.is (simp (c.test-own-in-ShareTimeout.ensures, c.is_in_attempt-attempts.ensures, c.is_running-phase-in-ShareTimeout.ensures, (taken c.args.node).3))

pub returns-in-ResendTimeout : goal.returns-in-ResendTimeout
returns-in-ResendTimeout c = rw c.in-ResendTimeout.is (simp (c.test-own-in-ResendTimeout.ensures, c.is_armed-armed.ensures, c.is_running-phase-in-ResendTimeout.ensures, (taken c.args.node).4))

pub returns-in-Ack : goal.returns-in-Ack
returns-in-Ack c = rw c.in-Ack.is (simp (c.test-own-in-Ack.ensures, c.is_down-down-in-Ack.ensures, (taken c.args.node).5, ← ack-range c.args.site c.in-Ack.back))

pub returns-in-Query : goal.returns-in-Query
unfolding refusal
returns-in-Query c = rw c.in-Query.is (simp (c.is_starting-phase.ensures, (taken c.args.node).6))
