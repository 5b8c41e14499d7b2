-- The first i records are made, the others are those that were lent.
use Rattle.std.proofs.Common.{◌≡◌, ◌≤◌, length}
use Rattle.loans.specs.Loans.{first_by}
use Rattle.loans.proofs.fill.Given as goal

abbrev pub invariant-loop-i : goal.invariant-loop-i
invariant-loop-i g l = record {
  enough : l.n ≤ length l.initial.nodes;
  made : l.nodes ≡ first_by g.K.Records.rule l.i l.compromised l.initial.nodes;
}
