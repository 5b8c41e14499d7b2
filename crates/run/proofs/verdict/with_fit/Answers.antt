use Rattle.std.proofs.Common.{sym}
use Rattle.run.proofs.verdict.with_fit.Goals as goal

pub returns-then-n-i : goal.returns-then-n-i
returns-then-n-i c =
    simp
    (sym c.nodes-n.ensures, sym c.is_in_range-in_range.ensures, c.if-n-i.true, c.join.ensures)

pub returns-else-n-i : goal.returns-else-n-i
returns-else-n-i c = simp (sym c.nodes-n.ensures, sym c.is_in_range-in_range.ensures, c.if-n-i.false)
