-- What each row's test tells, and so which number a step is answered with.
use Rattle.std.specs.Prelude.{ℕ, ◌≤◌, ◌<◌, ◌≡◌, Bool, not, ◌&&◌, ◌↔◌, ◌⊎◌, Result, Ok, Err}
use Rattle.std.proofs.Math.Path.{refl}
use Rattle.std.proofs.Common.{sym, ap, ◌∙◌, true≢false}
use Rattle.std.proofs.Math.Bool.{true, false}
use Rattle.std.proofs.Math.Logic.{inl, inr}
use Rattle.refusals.specs.declared.Refusal.{Refusal}
use Rattle.refusals.specs.declared.Refusal.TheVariants.{Unsound}
use Rattle.refusals.specs.Tests.{number_in, refusal, test_at}
use Rattle.refusals.specs.laws.Bools.{and_assoc, and-true}
use Rattle.time.specs.declared.Dts.{Dts}
use Rattle.time.specs.Limits.{last_held_stamp, last_held_clock, clock_sound}
use Rattle.store.specs.Store.{empty, store_within}
use Rattle.store.proofs.laws.WithinLaws.{empty-within}
use Rattle.steps.specs.declared.Turn.TheVariants as Turn
use Rattle.steps.specs.Named.{StepKind, command, is_kind}
use Rattle.node.specs.Asked.{known_sound, node_in_range, node_sound}
use Rattle.site.specs.Site.{n, site_sound}
use Rattle.site.specs.Answers.{number_of}
use Rattle.site.specs.laws.Answers.{done-number}
use Rattle.rows.specs.Exactly.{Condition, NoneBefore, None, Tells, Tell, also}
use Rattle.rows.specs.laws.Exactly.{exactly, exactly-done, at_most, met}
use Rattle.rows.specs.Conditions.{ClockTooLate}
use Rattle.rows.specs.laws.Telling.{above, ◌or◌, spelled, worded, of-named, kind-is, no_start}
use Rattle.rows.proofs.laws.Ranges.{store-tells, known_tells}
use Rattle.rows.proofs.laws.Cases.{site-tells, actor-tells, later-rows-tell}
use Rattle.arbiter_steps.specs.declared.Event.TheVariants.{Report, ShareTimeout, Ack, Query}
use Rattle.arbiter_steps.specs.declared.Step.{Step}
use Rattle.arbiter_steps.specs.declared.Step.TheVariants.{Start, Tick, AtNode, Life, AtBreaker}
use Rattle.arbiter_steps.specs.Steps.{named}
use Rattle.arbiter_node.specs.declared.Phase.{Phase}
use Rattle.arbiter_node.specs.declared.Phase.TheVariants.{Down, Starting, Running}
use Rattle.arbiter_node.specs.declared.Voter.{Voter}
use Rattle.arbiter_node.specs.Voter.{in_peer}
use Rattle.arbiter_node.specs.laws.VoterLaws.{sound-in-range}
use Rattle.arbiter_site.specs.declared.Arbiter.{Arbiter}
use Rattle.arbiter_site.specs.Site.{arbiter_sound}
use Rattle.arbiter_site.specs.Tests.{table_for, tests_of}
use Rattle.arbiter_site.specs.Effects.{effect_of}
use Rattle.arbiter_site.specs.Steps.{decided, stepped}
use Rattle.arbiter_site.specs.laws.StepLaws.{effect-done}
use Rattle.arbiter_rows.specs.Conditions.{PhaseTooLate, refusal_table}
use Rattle.arbiter_rows.specs.Rows as R

-- ---- a record, in its own words

-- a test that is made twice says what it says once
twice : (a b : Bool) → (a && b && b) ≡ (a && b)
twice true true = refl
twice true false = refl
twice false b = refl

-- 01's node that it is has no sender in its store, and its second pair is judged with b
module _ (clock : Dts) (m : ℕ) where
  no-sender : (x : Bool) → (clock_sound clock && store_within (empty clock) m && x) ≡ (clock_sound clock && x)
  no-sender x = simp (empty-within clock m, and-true)

  in-range-tells : (p : Phase) → Tells (node_in_range (in_peer (record { phase = p; clock = clock })) m) (ClockTooLate clock ⊎ PhaseTooLate p)
  unfolding node_in_range empty
  in-range-tells Down = spelled (no-sender true) (above clock.0 last_held_clock or (λ e. absurd (true≢false e), absurd))
  in-range-tells (Starting l) =
      spelled (no-sender _)
      (above clock.0 last_held_clock or spelled (twice (known_sound l.r) (known_sound l.b)) (known_tells l.r or known_tells l.b))
  in-range-tells (Running heard) =
      spelled (no-sender _)
      (above clock.0 last_held_clock
      or spelled (simp (and-true, twice)) (above heard.r.stamp.0 last_held_stamp or above heard.b.stamp.0 last_held_stamp))

voter-tells : (voter : Voter) (m : ℕ) → Tells (node_sound (in_peer voter) m) (ClockTooLate voter.clock ⊎ PhaseTooLate voter.phase)
voter-tells voter m = spelled (sound-in-range voter m) (in-range-tells voter.clock m voter.phase)

-- no step is a command
pub no-command : (step : Step) → (named step).said.kind ≡ command → ⊥
no-command step e = go step (λ kind differs. λ is. true≢false (sym (ap not differs) ∙ (kind-is kind command).1 is)) e
  where
    go : (step : Step) → ((kind : StepKind) → is_kind kind command ≡ false → kind ≡ command → ⊥) → (named step).said.kind ≡ command → ⊥
    go (Start b) other = other _ refl
    go Tick other = other _ refl
    go (AtNode i t (Report status number)) other = other _ refl
    go (AtNode i t ShareTimeout) other = other _ refl
    go (AtNode i t (Ack back)) other = other _ refl
    go (AtNode i t Query) other = other _ refl
    go (Life i Turn.Down) other = other _ refl
    go (Life i Turn.Up) other = other _ refl
    go (AtBreaker t m) other = other _ refl

module _ (a : Arbiter) (lent : ℕ) (voter : Voter) (step : Step) where
  -- the number that a step is answered with
  abbrev pub answered_with : ℕ
  answered_with = R.answered_with a lent voter step

  -- it is that of the refusal of the step's tests
  answered-is : answered_with ≡ number_in (refusal (table_for a lent voter (named step)))
  unfolding stepped tests_of
  answered-is = go (refusal (table_for a lent voter (named step)))
    where
      go : (answer : Result (Unit {0}) Refusal) → number_of (decided answer (effect_of a voter step) a voter).answer ≡ number_in answer
      go (Ok done) = done-number (effect_of a voter step).answer (effect-done a voter step)
      go (Err fault) = refl

  -- every row's test tells the row's condition
  rows_tell : Tell (table_for a lent voter (named step)) (refusal_table a lent voter (named step))
  unfolding arbiter_sound
  rows_tell =
      let the = named step in
      let site = a.site in
      also Unsound
      (no_start the.beginning
      (spelled (and_assoc (site_sound site lent && clock_sound a.held.clock) (store_within a.held (n site)) _ ∙ and_assoc (site_sound site lent) (clock_sound a.held.clock) _)
      (site-tells site lent (in_peer voter) the
      or worded (assoc, back) (above a.held.clock.0 last_held_clock or store-tells a.held (n site) or of-named the.actor (λ i. actor-tells site (in_peer voter) i (voter-tells voter (n site)))))))
      (later-rows-tell site lent (in_peer voter) the)
    where
      assoc : {A B C : Type 0} → A ⊎ (B ⊎ C) → (A ⊎ B) ⊎ C
      assoc (inl x) = inl (inl x)
      assoc (inr (inl y)) = inl (inr y)
      assoc (inr (inr z)) = inr z

      back : {A B C : Type 0} → (A ⊎ B) ⊎ C → A ⊎ (B ⊎ C)
      back (inl (inl x)) = inl x
      back (inl (inr y)) = inr (inl y)
      back (inr z) = inr (inr z)

  -- A step is answered with k exactly when the condition of row k is met and that of no row in front of it.
  pub told : (k : ℕ) → 0 < k
      → (answered_with ≡ k) ↔ (NoneBefore k (refusal_table a lent voter (named step)) × Condition k (refusal_table a lent voter (named step)))
  told k pos = rw answered-is (exactly rows_tell refl k pos)

  -- A step that passes the test of row k is not answered with k.
  pub not-given : (k : ℕ) → 0 < k → test_at k (table_for a lent voter (named step)) ≡ true → answered_with ≡ k → ⊥
  not-given k pos passes is = true≢false (sym passes ∙ met rows_tell k ((told k pos).0 is).1)

  -- It is answered with 0 exactly when no row has its condition met,
  pub told-done : (answered_with ≡ 0) ↔ None (refusal_table a lent voter (named step))
  told-done = rw answered-is (exactly-done rows_tell refl)

  -- and with no number above 16.
  pub told-at-most : answered_with ≤ 16
  told-at-most = rw answered-is (at_most rows_tell 16 refl)
