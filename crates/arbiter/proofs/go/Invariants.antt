use Rattle.std.proofs.Common.{◌≡◌, ◌-◌, length}
use Rattle.arbiter.specs.Moving.{most_turns}
use Rattle.arbiter.specs.laws.MovingLaws.{Went}
use Rattle.arbiter.proofs.go.Given as goal

abbrev pub invariant-loop : goal.invariant-loop
invariant-loop l =
    (length l.call ≡ length l.initial.call)
    × (length l.line ≡ length l.initial.line)
    × Went l.initial.current (most_turns - l.counter) l.current
