use Rattle.std.proofs.Common.{refl}
use Rattle.arbiter_calls.specs.laws.CallLaws.{took-malformed, took-call}
use Rattle.arbiter_calls.proofs.take.Goals as goal

pub returns-in_default : goal.returns-in_default
returns-in_default c = took-malformed _ _ _ _ refl _ c.read.ensures _ _ c.in_default.is c.put_malformed-put.ensures

pub returns : goal.returns
returns c = took-call _ _ _ _ refl _ c.read.ensures _ _ _ c.in-Some.is _ c.node_of.ensures _ _ _ c.step_in-whole.ensures c.put_answer-put.ensures
