use Rattle.starting.specs.laws.Judging.{Judging}
use Rattle.run.proofs.verdict.judge.Given as goal

abbrev pub invariant-loop-i : goal.invariant-loop-i
invariant-loop-i l = Judging l.site l.nodes l.i l.fits
