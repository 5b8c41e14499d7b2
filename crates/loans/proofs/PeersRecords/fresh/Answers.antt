use mathlib.Core.Path.{sym, ◌∙◌}
use native.Mathlib.Omega.{arith}
use Rattle.loans.specs.laws.LoanLaws.{first_above}
use Rattle.loans.proofs.PeersRecords.fresh.Goals as goal

pub returns : goal.returns
returns c = c.up.ensures ∙ sym (first_above c.args.compromised c.args.i (omega arith) (omega arith))
