-- Rows 1 and 15 of a discretising: when each is given, and which stamp comes with it. Of either rounding.
use Rattle.std.specs.Prelude.{ℕ, ◌/◌, ◌<◌, ◌≡◌, Bool, ◌↔◌, ◌⊎◌, List, [], ◌∷◌, eqb, leb, Result, Ok, Err}
use Rattle.std.proofs.Math.Path.{refl, ap}
use Rattle.std.proofs.Common.{sym, subst, ◌∙◌, inl, inr, arith, add-zero, lit<, eqb-true}
use Rattle.std.proofs.Math.Bool.{true, false, cond}
use Rattle.std.proofs.lemmas.Bool.{eqb-false}
use Rattle.refusals.specs.declared.Refusal.{Refusal}
use Rattle.refusals.specs.declared.Refusal.TheVariants.{BadStart, LastClock}
use Rattle.refusals.specs.Tests.{number_in, refusal, giving}
use Rattle.time.specs.declared.Dts.{Dts}
use Rattle.time.specs.laws.Neighbours.{accepted-stamp}
use Rattle.time.specs.declared.Micros.{Micros}
use Rattle.time.specs.declared.Rounding.{Rounding}
use Rattle.time.specs.declared.Rounding.TheVariants.{Down, Nearest}
use Rattle.time.specs.Discretising.{shortest_interval, longest_interval, last_stamp, whole_part, discretising_tests, discretised_by, in_numbers}
use Rattle.rows.specs.Exactly.{Row, Condition, NoneBefore, Tell, no_rows, also}
use Rattle.rows.specs.laws.Exactly.{exactly, exactly-done}
use Rattle.rows.specs.laws.Telling.{above, ◌or◌, spelled}
use Rattle.rows.specs.Discretising.{stamp_by}
use Rattle.rows.specs.Discretising as D

same-stamp : (rounding : Rounding) (reading interval : Micros) → whole_part rounding reading interval ≡ stamp_by rounding reading interval
same-stamp Down reading interval = ap (λ (x : ℕ). x / interval.0) (add-zero reading.0)
same-stamp Nearest reading interval = refl

-- for every rounding, reading and interval
module _ (rounding : Rounding) (reading interval : Micros) where
  abbrev IntervalOutOfRange : Type 0
  IntervalOutOfRange = D.IntervalOutOfRange rounding reading interval

  abbrev StampOutOfRange : Type 0
  StampOutOfRange = D.StampOutOfRange rounding reading interval

  abbrev AnsweredWith : ℕ → Type 0
  AnsweredWith = D.AnsweredWith rounding reading interval

  abbrev table : List Row
  table = (1, IntervalOutOfRange) ∷ (15, StampOutOfRange) ∷ []

  rows_tell : Tell (discretising_tests rounding reading interval) table
  rows_tell =
      also BadStart (above shortest_interval interval.0 or above interval.0 longest_interval)
      (also LastClock (spelled (ap (λ (s : ℕ). leb s last_stamp) (same-stamp rounding reading interval)) (above (stamp_by rounding reading interval) last_stamp)) no_rows)

  -- its number is that of its tests' refusal
  numbered-so : (in_numbers (discretised_by rounding reading interval)).refusal ≡ number_in (refusal (discretising_tests rounding reading interval))
  unfolding discretised_by
  numbered-so = go (refusal (discretising_tests rounding reading interval))
    where
      go : (answer : Result (Unit {0}) Refusal) → (in_numbers (giving answer (record { 0 = whole_part rounding reading interval }))).refusal ≡ number_in answer
      go (Ok done) = refl
      go (Err fault) = refl

  told : (k : ℕ) → 0 < k → AnsweredWith k ↔ (NoneBefore k table × Condition k table)
  told k pos = rw numbered-so (exactly rows_tell refl k pos)

  told-done : AnsweredWith 0 ↔ ((IntervalOutOfRange → ⊥) × ((StampOutOfRange → ⊥) × Unit {0}))
  told-done = rw numbered-so (exactly-done rows_tell refl)

  -- Refusal 1 is given exactly for a bad interval,
  pub interval-refused : AnsweredWith 1 ↔ IntervalOutOfRange
  interval-refused = (λ e. ((told 1 (lit< tt)).0 e).1, λ c. (told 1 (lit< tt)).1 (tt, c))

  -- 15 exactly where the interval is good and the stamp too late,
  pub reading-refused : AnsweredWith 15 ↔ ((IntervalOutOfRange → ⊥) × StampOutOfRange)
  reading-refused = (λ e. let x = (told 15 (lit< tt)).0 e in (x.0.0, x.1), λ c. (told 15 (lit< tt)).1 ((c.0, tt), c.1))

  -- and a reading is accepted exactly where neither holds.
  pub reading-accepted : AnsweredWith 0 ↔ ((IntervalOutOfRange → ⊥) × (StampOutOfRange → ⊥))
  reading-accepted = (λ e. let x = told-done.0 e in (x.0, x.1.0), λ c. told-done.1 (c.0, (c.1, tt)))

  -- No other number is ever given.
  pub no_other : (number : ℕ) → AnsweredWith number → (number ≡ 0) ⊎ (number ≡ 1) ⊎ (number ≡ 15)
  no_other number e = go (eqb number 0) refl (eqb 1 number) refl (eqb 15 number) refl
    where
      go : (x : Bool) → eqb number 0 ≡ x → (y : Bool) → eqb 1 number ≡ y → (z : Bool) → eqb 15 number ≡ z → (number ≡ 0) ⊎ (number ≡ 1) ⊎ (number ≡ 15)
      go true ex y ey z ez = inl (eqb-true number 0 ex)
      go false ex true ey z ez = inr (inl (sym (eqb-true 1 number ey)))
      go false ex false ey true ez = inr (inr (sym (eqb-true 15 number ez)))
      go false ex false ey false ez =
          let not-zero = eqb-false number 0 ex in
          absurd
          (subst (λ (z : Bool). cond z StampOutOfRange ⊥) ez
          (subst (λ (y : Bool). cond y IntervalOutOfRange (cond (eqb 15 number) StampOutOfRange ⊥)) ey ((told number (omega (arith, not-zero))).0 e).1))

  -- The stamp of an accepted reading is that of its rounding, and that of a refused one is 0.
  pub stamp-given : AnsweredWith 0 → (in_numbers (discretised_by rounding reading interval)).stamp.0 ≡ stamp_by rounding reading interval
  stamp-given e = accepted-stamp rounding reading interval e ∙ same-stamp rounding reading interval

  pub no-stamp : (AnsweredWith 0 → ⊥) → (in_numbers (discretised_by rounding reading interval)).stamp.0 ≡ 0
  no-stamp = go (discretised_by rounding reading interval)
    where
      go : (answer : Result Dts Refusal) → ((in_numbers answer).refusal ≡ 0 → ⊥) → (in_numbers answer).stamp.0 ≡ 0
      go (Ok stamp) refused = absurd (refused refl)
      go (Err fault) refused = refl
