use native.Mathlib.Omega.{arith}
use Rattle.lent.proofs.laws.Turns.{all-go}
use Rattle.arbiter_steps.specs.Steps.{named}
use Rattle.arbiter_lent.specs.Lent.{down_voter, rule, turned}
use Rattle.arbiter_lent.proofs.laws.TurnLaws.{all_said}
use Rattle.arbiter_lent.proofs.whole.step_in.Goals as goal

pub returns : goal.returns
returns c =
    let a = c.args in
    let r = c.step_first.result in
    all_said a.arbiter a.nodes a.step r.answer r.site r.nodes (all-go named turned down_voter rule a.arbiter a.nodes a.step r.answer r.site r.nodes 12 (omega arith) c.step_first.ensures)
