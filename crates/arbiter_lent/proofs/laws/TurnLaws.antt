-- The step as the code goes is the step: laws over plain variables, which the walks cite.
use Rattle.std.specs.Prelude.{◌≡◌, refl, true, List, length, get_or, set, Ok, Err}
use Rattle.std.proofs.Common.{ap, ◌∙◌, arith}
use Rattle.std.proofs.lemmas.Bool.{false≢true}
use Rattle.std.proofs.Math.Seq.{set_out}
use Rattle.site.specs.Answers.{is_done, Answer}
use Rattle.site.specs.Site.{nodes}
use Rattle.loans.specs.Loans.{made_by}
use Rattle.lent.specs.laws.InTurn.{index_of, begun_in, Goes}
use Rattle.lent.specs.laws.LentLaws.{Room}
use Rattle.lent.proofs.laws.Turns.{taken, put_back, refused-leaves}
use Rattle.arbiter_steps.specs.declared.Step.{Step}
use Rattle.arbiter_steps.specs.declared.Step.TheVariants.{Start, Tick, AtNode, Life, AtBreaker}
use Rattle.arbiter_steps.specs.Steps.{named}
use Rattle.arbiter_node.specs.declared.Voter.{Voter}
use Rattle.arbiter_site.specs.declared.Arbiter.{Arbiter}
use Rattle.arbiter_site.specs.declared.Out.{Out}
use Rattle.arbiter_site.specs.Effects.{effect_of}
use Rattle.arbiter_site.specs.Steps.{stepped}
use Rattle.arbiter_site.specs.laws.StepLaws.{by_tests, effect-done}
use Rattle.arbiter_lent.specs.Lent.{down_voter, rule, record_of, out_of, turned, table_after_answer, table_after, Said}
use Rattle.arbiter_lent.specs.laws.LentLaws.{made-enough, starts-within}

-- with the record written back and the records made, the table is as it should be
after-done : (answer : Answer) → is_done answer ≡ true → (step : Step) (records : List Voter) (voter : Voter) → Room (named step).beginning (length records)
    → begun_in rule answer (named step).beginning (set records (index_of (named step).actor (length records)) voter) ≡ table_after_answer answer step records voter
after-done (Ok sent) h (Start b) records voter room =
    ap (made_by rule (nodes b.f b.k) b.compromised) (set_out records (length records) voter (omega arith)) ∙ made-enough b.compromised records (nodes b.f b.k) room
after-done (Ok sent) h Tick records voter room = set_out records (length records) voter (omega arith)
after-done (Ok sent) h (AtNode i t event) records voter room = refl
after-done (Ok sent) h (Life i turn) records voter room = refl
after-done (Ok sent) h (AtBreaker t m) records voter room = set_out records (length records) voter (omega arith)
after-done (Err refusal) h step records voter room = absurd (false≢true h)

module _ (a : Arbiter) (records : List Voter) (step : Step) where
  pub out-at-place : stepped a (length records) (get_or records (index_of (named step).actor (length records)) down_voter) step ≡ out_of a records step
  unfolding out_of
  out-at-place = ap (λ (voter : Voter). stepped a (length records) voter step) (taken down_voter records (λ i. record_of i records) refl (λ i. refl) (named step).actor)

  pub made-and-written :
      begun_in rule (out_of a records step).answer (named step).beginning (set records (index_of (named step).actor (length records)) (out_of a records step).node)
      ≡ table_after a records step
  unfolding out_of table_after
  made-and-written =
      let node = record_of (named step).actor records in
      by_tests (λ out. begun_in rule out.answer (named step).beginning (set records (index_of (named step).actor (length records)) out.node) ≡ table_after_answer out.answer step records out.node) a
      (length records) node step
      (λ e. after-done (effect_of a node step).answer (effect-done a node step) step records (effect_of a node step).node (starts-within a (length records) node step e))
      (λ number. refused-leaves rule number (named step).beginning (set records (index_of (named step).actor (length records)) node)
      ∙ put_back down_voter records (λ i. record_of i records) refl (λ i. refl) (named step).actor)

  pub all_said : (answer : Answer) (next : Arbiter) (left : List Voter) → Goes named turned down_voter rule a records step answer next left → Said a records step answer next left
  all_said answer next left went =
      let same = out-at-place in (
        went.0 ∙ ap (λ (o : Out). o.answer) same,
        (
          went.1.0 ∙ ap (λ (o : Out). o.site) same,
          went.1.1 ∙ ap (λ (o : Out). begun_in rule o.answer (named step).beginning (set records (index_of (named step).actor (length records)) o.node)) same ∙ made-and-written,
        ),
      )
