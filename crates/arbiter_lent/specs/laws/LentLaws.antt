-- Laws of the lent table: what a step that is done has found in it, and the records that are made in one that has room for them, and in one that has not.
use Rattle.std.specs.Prelude.{ℕ, ◌≤◌, ◌<◌, ◌≡◌, refl, false, List, length, Option, Some}
use Rattle.std.proofs.Common.{subst, arith}
use Rattle.site.specs.Answers.{is_done}
use Rattle.refusing.specs.laws.Accepted.{begins, happens, turns}
use Rattle.loans.specs.laws.LoanLaws.{made-front}
use Rattle.loans.specs.laws.LoanLaws.{made_none as none-made}
use Rattle.lent.specs.laws.InTurn.{begins_by}
use Rattle.lent.specs.laws.LentLaws.{Within, Room, begins-le, refused-begins}
use Rattle.arbiter_steps.specs.declared.Step.{Step}
use Rattle.arbiter_steps.specs.declared.Step.TheVariants.{Start, Tick, AtNode, Life, AtBreaker}
use Rattle.arbiter_steps.specs.Steps.{named}
use Rattle.arbiter_steps.specs.Steps as Steps
use Rattle.arbiter_node.specs.declared.Voter.{Voter}
use Rattle.arbiter_node.specs.Voter.{in_peer}
use Rattle.arbiter_site.specs.declared.Arbiter.{Arbiter}
use Rattle.arbiter_site.specs.Effects.{effect_of}
use Rattle.arbiter_site.specs.laws.Accepted.{Passes, start-passes, event-passes, turn-passes}
use Rattle.arbiter_site.specs.laws.StepLaws.{by_tests}
use Rattle.arbiter_lent.specs.Lent.{rule, first_records, made_first, record_of, out_of}

-- ---- a step that is done names a node of the table, or none

pub named-within : (a : Arbiter) (lent : ℕ) (voter : Voter) (step : Step) → Passes a lent voter step → Within (named step).actor lent
named-within a lent voter (Start b) e = tt
named-within a lent voter Tick e = tt
named-within a lent voter (AtNode i t event) e = (happens a.site lent (in_peer voter) i t (Steps.in_peer event) (event-passes a lent voter i t event e)).place.is-lent
named-within a lent voter (Life i turn) e = (turns a.site lent (in_peer voter) i turn (turn-passes a lent voter i turn e)).is-lent
named-within a lent voter (AtBreaker t m) e = tt

-- "a step that names a node" with no record is refused
pub named-refused : (a : Arbiter) (records : List Voter) (step : Step) (i : ℕ) → (named step).actor ≡ Some i → length records ≤ i → is_done (out_of a records step).answer ≡ false
unfolding out_of
named-refused a records step i is past =
    by_tests (λ out. is_done out.answer ≡ false) a (length records) (record_of (named step).actor records) step
    (λ e. let l : i < length records = subst (λ (o : Option ℕ). Within o (length records)) is (named-within a (length records) (record_of (named step).actor records) step e) in absurd (omega (arith, l, past)))
    (λ number. refl)

-- ---- a Start that is done has its records in the table

pub starts-within : (a : Arbiter) (lent : ℕ) (voter : Voter) (step : Step) → Passes a lent voter step → Room (named step).beginning lent
starts-within a lent voter (Start b) e = (begins a.site lent (in_peer voter) b (start-passes a lent voter b e)).lends
starts-within a lent voter Tick e = tt
starts-within a lent voter (AtNode i t event) e = tt
starts-within a lent voter (Life i turn) e = tt
starts-within a lent voter (AtBreaker t m) e = tt

pub begins-within : (a : Arbiter) (records : List Voter) (step : Step) → begins_by (out_of a records step).answer (named step).beginning ≤ length records
unfolding out_of
begins-within a records step =
    let voter = record_of (named step).actor records in
    by_tests (λ out. begins_by out.answer (named step).beginning ≤ length records) a (length records) voter step
    (λ e. begins-le (effect_of a voter step).answer (named step).beginning (length records) (starts-within a (length records) voter step e))
    (λ refusal. refused-begins refusal (named step).beginning (length records))

-- ---- the records that are made

module _ (compromised : ℕ) (records : List Voter) where
  pub made-enough : (n : ℕ) → n ≤ length records → made_first n compromised records ≡ first_records n compromised records
  made-enough = made-front rule compromised records

  pub made_none : (n : ℕ) → length records < n → made_first n compromised records ≡ records
  made_none = none-made rule compromised records
