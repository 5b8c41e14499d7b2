use Rattle.std.proofs.Common.{length, ◌-◌, ◌≤◌}
use Rattle.arbiter.proofs.read_call.Given as goal

abbrev pub invariant-loop-count : goal.invariant-loop-count
invariant-loop-count l = l.count ≤ length l.call

abbrev pub decreases-loop-count : goal.decreases-loop-count
decreases-loop-count l = length l.initial.call - l.count
