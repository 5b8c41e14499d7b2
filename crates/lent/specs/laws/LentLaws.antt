-- Laws of the lent table: what a step that is done has found in it, and the first records of it.
use Rattle.std.specs.Prelude.{ℕ, ◌≤◌, ◌<◌, ◌≡◌, refl, false, List, ◌++◌, length, Option, None, Some, Ok, Err}
use Rattle.std.proofs.Common.{sym, ap, ap₂, subst, ◌∙◌, append-nil, arith, drop_of_length-le, take_all}
use Rattle.node.specs.declared.Node.{Node}
use Rattle.refusals.specs.declared.Refusal.{Refusal}
use Rattle.steps.specs.declared.Beginning.{Beginning}
use Rattle.steps.specs.declared.Step.{Step}
use Rattle.steps.specs.declared.Step.TheVariants.{Start, Tick, AtNode, Life, AtBreaker}
use Rattle.site.specs.declared.Site.{Site}
use Rattle.effects.specs.Effects.{effect_of}
use Rattle.refusing.specs.laws.Accepted.{Passes, begins, happens, turns}
use Rattle.stepping.specs.laws.StepLaws.{by_tests}
use Rattle.site.specs.Answers.{is_done, Answer}
use Rattle.site.specs.Site.{nodes}
use Rattle.lent.specs.Lent.{record_of, out_of, table_after, Said, SaidWithin}
use Rattle.lent.specs.laws.InTurn.{begins_by}
use Rattle.steps.specs.Named.{named}

-- ---- a step that is done names a node of the table, or none

abbrev pub Within : Option ℕ → ℕ → Type 0
Within None lent = Unit {0}
Within (Some i) lent = i < lent

pub named-within : (site : Site) (lent : ℕ) (node : Node) (step : Step) → Passes site lent node step → Within (named step).actor lent
named-within site lent node (Start b) e = tt
named-within site lent node Tick e = tt
named-within site lent node (AtNode i t event) e = (happens site lent node i t event e).place.is-lent
named-within site lent node (Life i turn) e = (turns site lent node i turn e).is-lent
named-within site lent node (AtBreaker t act) e = tt

-- "a step that names a node" with no record is refused
pub named-refused : (site : Site) (records : List Node) (step : Step) (i : ℕ) → (named step).actor ≡ Some i → length records ≤ i → is_done (out_of site records step).answer ≡ false
unfolding out_of
named-refused site records step i is past =
    by_tests (λ out. is_done out.answer ≡ false) site (length records) (record_of (named step).actor records) step
    (λ e. let l : i < length records = subst (λ (o : Option ℕ). Within o (length records)) is (named-within site (length records) (record_of (named step).actor records) step e) in absurd (omega (arith, l, past)))
    (λ number. refl)

-- ---- a Start that is done has its records in the table

-- as many records as a Start makes
abbrev pub Room : Option Beginning → ℕ → Type 0
Room None lent = Unit {0}
Room (Some b) lent = nodes b.f b.k ≤ lent

pub starts-within : (site : Site) (lent : ℕ) (node : Node) (step : Step) → Passes site lent node step → Room (named step).beginning lent
starts-within site lent node (Start b) e = (begins site lent node b e).lends
starts-within site lent node Tick e = tt
starts-within site lent node (AtNode i t event) e = tt
starts-within site lent node (Life i turn) e = tt
starts-within site lent node (AtBreaker t act) e = tt

pub begins-le : (answer : Answer) (beginning : Option Beginning) (lent : ℕ) → Room beginning lent → begins_by answer beginning ≤ lent
begins-le answer None lent room = omega arith
begins-le (Ok sent) (Some b) lent room = room
begins-le (Err refusal) (Some b) lent room = omega arith

pub refused-begins : (refusal : Refusal) (beginning : Option Beginning) (lent : ℕ) → begins_by (Err refusal) beginning ≤ lent
refused-begins refusal None lent = omega arith
refused-begins refusal (Some b) lent = omega arith

pub begins-within : (site : Site) (records : List Node) (step : Step) → begins_by (out_of site records step).answer (named step).beginning ≤ length records
unfolding out_of
begins-within site records step =
    let node = record_of (named step).actor records in
    by_tests (λ out. begins_by out.answer (named step).beginning ≤ length records) site (length records) node step
    (λ e. begins-le (effect_of site node step).answer (named step).beginning (length records) (starts-within site (length records) node step e))
    (λ refusal. refused-begins refusal (named step).beginning (length records))

-- ---- the first records of a table

module _ (site : Site) (records : List Node) (step : Step) (answer : Answer) (next : Site) (left : List Node) where
  -- as many as there are, or more, are all of them
  pub all-lent : (count : ℕ) → length records ≤ count → SaidWithin site records count step answer next left → Said site records step answer next left
  all-lent count l said =
      let all = take_all count records l in (
        said.0 ∙ ap (λ (rs : List Node). (out_of site rs step).answer) all,
        (
          said.1.0 ∙ ap (λ (rs : List Node). (out_of site rs step).site) all,
          said.1.1 ∙ ap₂ (λ (rs rest : List Node). table_after site rs step ++ rest) all (drop_of_length-le records l) ∙ append-nil _,
        ),
      )

  pub more-lent : (count : ℕ) → length records ≤ count → Said site records step answer next left → SaidWithin site records count step answer next left
  more-lent count l said =
      let all = sym (take_all count records l) in (
        said.0 ∙ ap (λ (rs : List Node). (out_of site rs step).answer) all,
        (
          said.1.0 ∙ ap (λ (rs : List Node). (out_of site rs step).site) all,
          said.1.1 ∙ sym (append-nil _) ∙ ap₂ (λ (rs rest : List Node). table_after site rs step ++ rest) all (sym (drop_of_length-le records l)),
        ),
      )
