-- From a call to the theorems: what `lent::step` and `lent::step_within` promise is one more step of a sequence, so that whatever is said of every sequence
-- (`Always`) holds of a caller's own, told by the steps that it gave and the answers that it got.
use Rattle.std.specs.Prelude.{ℕ, List, ◌∷◌, take}
use Rattle.std.proofs.Common.{sym, ap, subst, ◌∙◌}
use Rattle.node.specs.declared.Node.{Node}
use Rattle.steps.specs.declared.Step.{Step}
use Rattle.site.specs.declared.Site.{Site}
use Rattle.site.specs.Answers.{Answer}
use Rattle.lent.specs.Lent.{out_of, Said, SaidWithin}
use Rattle.sequences.specs.History.{Entry}
use Rattle.sequences.specs.Moments.{Moment, Reached, then, entry}
use Rattle.sequences.specs.laws.Lengths.{take_same}

-- a caller's site and table
abbrev pub at : Site → List Node → Moment
at site records = record { site = site; records = records }

abbrev pub answered : Step → Answer → Entry
answered step answer = record { step = step; answer = answer }

-- `lent::step`, and `step_in` with twelve records: given a site and a table that a history led to, it leaves those that one step more leads to.
pub one-call : {first : Moment} {h : List Entry} (site : Site) (records : List Node) (step : Step) (answer : Answer) (next : Site) (left : List Node)
    → Reached first h (at site records) → Said site records step answer next left → Reached first (answered step answer ∷ h) (at next left)
one-call {first} {h} site records step answer next left r (answer-is, (site-is, left_is)) =
    subst (λ (a : Answer). Reached first (answered step a ∷ h) (at next left)) (sym answer-is)
    (subst (λ (s : Site). Reached first (entry (at site records) step ∷ h) (at s left)) (sym site-is)
    (subst (λ (l : List Node). Reached first (entry (at site records) step ∷ h) (at (out_of site records step).site l)) (sym left_is) (then r step)))

-- `lent::step_within`: the same of the first records alone, as many as are lent.
pub one-call-within : {first : Moment} {h : List Entry} (site : Site) (records : List Node) (count : ℕ) (step : Step) (answer : Answer) (next : Site) (left : List Node)
    → Reached first h (at site (take count records)) → SaidWithin site records count step answer next left → Reached first (answered step answer ∷ h) (at next (take count left))
one-call-within site records count step answer next left r (answer-is, (site-is, left_is)) =
    one-call site (take count records) step answer next (take count left) r
    (answer-is, (site-is, ap (take count) left_is ∙ take_same site records count step))
