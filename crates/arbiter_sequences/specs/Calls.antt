-- From a call to the theorems: what `arbiter_lent::step` promises is one more step of a sequence, so that whatever is said of every sequence (`Always`) holds of a
-- caller's own, told by the steps that it gave and the answers that it got.
use Rattle.std.specs.Prelude.{List, ◌∷◌}
use Rattle.std.proofs.Common.{sym, subst}
use Rattle.site.specs.Answers.{Answer}
use Rattle.arbiter_steps.specs.declared.Step.{Step}
use Rattle.arbiter_node.specs.declared.Voter.{Voter}
use Rattle.arbiter_site.specs.declared.Arbiter.{Arbiter}
use Rattle.arbiter_lent.specs.Lent.{out_of, Said}
use Rattle.arbiter_sequences.specs.History.{Entry}
use Rattle.arbiter_sequences.specs.Moments.{Moment, Reached, then, entry}

-- a caller's site and table
abbrev pub at : Arbiter → List Voter → Moment
at site records = record { site = site; records = records }

abbrev pub answered : Step → Answer → Entry
answered step answer = record { step = step; answer = answer }

-- given a site and a table that a history led to, it leaves those that one step more leads to
pub one-call : {first : Moment} {h : List Entry} (site : Arbiter) (records : List Voter) (step : Step) (answer : Answer) (next : Arbiter) (left : List Voter)
    → Reached first h (at site records) → Said site records step answer next left → Reached first (answered step answer ∷ h) (at next left)
one-call {first} {h} site records step answer next left r (answer-is, (site-is, left_is)) =
    subst (λ (a : Answer). Reached first (answered step a ∷ h) (at next left)) (sym answer-is)
    (subst (λ (s : Arbiter). Reached first (entry (at site records) step ∷ h) (at s left)) (sym site-is)
    (subst (λ (l : List Voter). Reached first (entry (at site records) step ∷ h) (at (out_of site records step).site l)) (sym left_is) (then r step)))
