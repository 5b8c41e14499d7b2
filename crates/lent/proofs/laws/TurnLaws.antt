-- The step as the code goes is the step: laws over plain variables, which the walks cite.
use Rattle.std.specs.Prelude.{ℕ, ◌≡◌, refl, true, List, ◌++◌, length, get_or, set, take, drop, Ok, Err}
use Rattle.std.proofs.Common.{ap, ◌∙◌, arith}
use Rattle.std.proofs.lemmas.Bool.{false≢true}
use Rattle.std.proofs.Math.Seq.{set_out}
use Rattle.node.specs.declared.Node.{Node}
use Rattle.events.specs.Events.{went_down}
use Rattle.steps.specs.declared.Step.{Step}
use Rattle.steps.specs.declared.Step.TheVariants.{Start, Tick, AtNode, Life, AtBreaker}
use Rattle.steps.specs.Named.{named}
use Rattle.site.specs.declared.Site.{Site}
use Rattle.site.specs.declared.Out.{Out}
use Rattle.site.specs.Answers.{is_done, Answer}
use Rattle.site.specs.Site.{nodes}
use Rattle.effects.specs.Effects.{first_record, effect_of}
use Rattle.stepping.specs.Steps.{stepped}
use Rattle.stepping.specs.laws.StepLaws.{by_tests, effect-done}
use Rattle.loans.specs.Loans.{made_by}
use Rattle.loans.specs.laws.LoanLaws.{made-enough}
use Rattle.lent.specs.Lent.{record_of, out_of, turned, table_after_answer, table_after, Said, SaidWithin}
use Rattle.lent.specs.laws.InTurn.{index_of, begun_in, left_in, Goes, GoesFirst}
use Rattle.lent.specs.laws.LentLaws.{Room, starts-within}
use Rattle.lent.proofs.laws.Turns.{taken, put_back, refused-leaves}

-- with the record written back and the records made, the table is as it should be
after-done : (answer : Answer) → is_done answer ≡ true → (step : Step) (records : List Node) (node : Node) → Room (named step).beginning (length records)
    → begun_in first_record answer (named step).beginning (set records (index_of (named step).actor (length records)) node) ≡ table_after_answer answer step records node
after-done (Ok sent) h (Start b) records node room =
    ap (made_by first_record (nodes b.f b.k) b.compromised) (set_out records (length records) node (omega arith)) ∙ made-enough b.compromised records (nodes b.f b.k) room
after-done (Ok sent) h Tick records node room = set_out records (length records) node (omega arith)
after-done (Ok sent) h (AtNode i t event) records node room = refl
after-done (Ok sent) h (Life i turn) records node room = refl
after-done (Ok sent) h (AtBreaker t act) records node room = set_out records (length records) node (omega arith)
after-done (Err refusal) h step records node room = absurd (false≢true h)

module _ (site : Site) (records : List Node) (step : Step) where
  pub out-at-place : stepped site (length records) (get_or records (index_of (named step).actor (length records)) went_down) step ≡ out_of site records step
  unfolding out_of
  out-at-place = ap (λ (node : Node). stepped site (length records) node step) (taken went_down records (λ i. record_of i records) refl (λ i. refl) (named step).actor)

  pub made-and-written :
      begun_in first_record (out_of site records step).answer (named step).beginning (set records (index_of (named step).actor (length records)) (out_of site records step).node)
      ≡ table_after site records step
  unfolding out_of table_after
  made-and-written =
      let node = record_of (named step).actor records in
      by_tests (λ out. begun_in first_record out.answer (named step).beginning (set records (index_of (named step).actor (length records)) out.node) ≡ table_after_answer out.answer step records out.node) site
      (length records) node step
      (λ e. after-done (effect_of site node step).answer (effect-done site node step) step records (effect_of site node step).node (starts-within site (length records) node step e))
      (λ number. refused-leaves first_record number (named step).beginning (set records (index_of (named step).actor (length records)) node)
      ∙ put_back went_down records (λ i. record_of i records) refl (λ i. refl) (named step).actor)

  pub all_said : (answer : Answer) (next : Site) (left : List Node) → Goes named turned went_down first_record site records step answer next left → Said site records step answer next left
  all_said answer next left went =
      let same = out-at-place in (
        went.0 ∙ ap (λ (o : Out). o.answer) same,
        (
          went.1.0 ∙ ap (λ (o : Out). o.site) same,
          went.1.1 ∙ ap (λ (o : Out). begun_in first_record o.answer (named step).beginning (set records (index_of (named step).actor (length records)) o.node)) same ∙ made-and-written,
        ),
      )

-- the same with the first records alone
pub first_said : (site : Site) (records : List Node) (count : ℕ) (step : Step) (answer : Answer) (next : Site) (left : List Node)
    → GoesFirst named turned went_down first_record site records count step answer next left → SaidWithin site records count step answer next left
first_said site records count step answer next left went =
    let said = all_said site (take count records) step answer next (left_in named turned went_down first_record site (take count records) step) (went.0, (went.1.0, refl)) in
    (said.0, (said.1.0, went.1.1 ∙ ap (λ (l : List Node). l ++ drop count records) said.1.1))
