-- What refusal 16 asks of a breaker, taken apart and put together; a breaker at the start passes it, and so does one after a command.
use Rattle.std.specs.Prelude.{ℕ, ◌+◌, ◌-◌, ◌≤◌, ◌<◌, ◌≡◌, refl, Bool, true, false, ◌&&◌, cond, eqb, leb, ltb, Some, None}
use Rattle.std.proofs.Common.{ap, subst, ◌∙◌, arith, ltb-true, leb-true, le-leb}
use Rattle.std.proofs.Math.Bool.{and-eq-true_iff}
use Rattle.refusals.specs.laws.Bools.{right}
use Rattle.time.specs.declared.Dts.{Dts}
use Rattle.time.specs.Larger.{larger}
use Rattle.time.specs.Limits.{clock_sound}
use Rattle.tables.specs.Tables.{table, get_d-table}
use Rattle.tables.specs.laws.Every.{each-passes, every-passes}
use Rattle.pairs.specs.declared.Pair.{Pair}
use Rattle.pairs.specs.Pair.{pair}
use Rattle.pairs.specs.laws.KnownLaws.{none-known, same_known}
use Rattle.breaker.specs.declared.Changes.{Changes}
use Rattle.breaker.specs.declared.Breaker.{Breaker}
use Rattle.breaker.specs.Breaker.{most_changes, no_change, pair_at, started, remembered, repeats, after_command, change_at, pair_sound, all_sound, changes_sound, breaker_sound}
use Rattle.breaker.specs.laws.CommandLaws.{repeat-keeps, change-moves}

-- ---- the changes

record SoundChanges (changes : Changes) : Type 0 where
  few : changes.count ≤ most_changes
  each : (k : ℕ) → k < most_changes → pair_sound (pair_at changes k) ≡ true

changes-parts : (changes : Changes) → changes_sound changes ≡ true → SoundChanges changes
unfolding changes_sound
changes-parts changes e =
    let p = (and-eq-true_iff (leb changes.count most_changes) (all_sound (table most_changes (pair_at changes)))).0 e in
    record { few = leb-true _ _ p.0; each = each-passes pair_sound all_sound refl (λ p ps. refl) most_changes (pair_at changes) p.1 }

changes-whole : (changes : Changes) → SoundChanges changes → changes_sound changes ≡ true
unfolding changes_sound
changes-whole changes s =
    (and-eq-true_iff (leb changes.count most_changes) (all_sound (table most_changes (pair_at changes)))).1
    (le-leb _ _ s.few, every-passes pair_sound all_sound refl (λ p ps. refl) most_changes (pair_at changes) s.each)

remembered-sound : (changes : Changes) (p : Pair) → changes_sound changes ≡ true → pair_sound p ≡ true → changes_sound (remembered changes p) ≡ true
unfolding remembered
remembered-sound changes p e new =
    changes-whole (remembered changes p)
    (record {
      few = at_most (ltb changes.count most_changes) refl;
      each = λ k l. ap pair_sound (get_d-table most_changes rule k no_change l) ∙ one k l (eqb k 0);
    })
  where
    before : SoundChanges changes
    before = changes-parts changes e

    rule : ℕ → Pair
    rule i = cond (eqb i 0) p (pair_at changes (i - 1))

    at_most : (x : Bool) → ltb changes.count most_changes ≡ x → cond x (changes.count + 1) most_changes ≤ most_changes
    at_most true q = let l : changes.count < most_changes = ltb-true _ _ q in omega arith
    at_most false q = omega arith

    one : (k : ℕ) → k < most_changes → (x : Bool) → pair_sound (cond x p (pair_at changes (k - 1))) ≡ true
    one k l true = new
    one k l false = before.each (k - 1) (omega arith)

-- ---- the breaker

pub record SoundBreaker (breaker : Breaker) : Type 0 where
  pub of_pair : pair_sound breaker.pair ≡ true
  pub of-clock : clock_sound breaker.clock ≡ true
  pub of-changes : changes_sound breaker.changes ≡ true

pub parts : (breaker : Breaker) → breaker_sound breaker ≡ true → SoundBreaker breaker
unfolding breaker_sound
parts breaker e =
    let p = (and-eq-true_iff (pair_sound breaker.pair && clock_sound breaker.clock) (changes_sound breaker.changes)).0 e in
    let q = (and-eq-true_iff (pair_sound breaker.pair) (clock_sound breaker.clock)).0 p.0 in
    record { of_pair = q.0; of-clock = q.1; of-changes = p.1 }

whole : (breaker : Breaker) → SoundBreaker breaker → breaker_sound breaker ≡ true
unfolding breaker_sound
whole breaker s = simp (s.of_pair, s.of-clock, s.of-changes)

-- each change that an ack delivers is sound
pub change-sound : (breaker : Breaker) (back : ℕ) (p : Pair) → breaker_sound breaker ≡ true → change_at breaker back ≡ Some p → pair_sound p ≡ true
unfolding change_at
change-sound breaker back p e = go (ltb back breaker.changes.count && ltb back most_changes) refl
  where
    go : (x : Bool) → (ltb back breaker.changes.count && ltb back most_changes) ≡ x → cond x (Some (pair_at breaker.changes back)) None ≡ Some p → pair_sound p ≡ true
    go true q is =
        subst (λ (y : Pair). pair_sound y ≡ true) (same_known _ p is)
        ((changes-parts breaker.changes (parts breaker e).of-changes).each back (ltb-true _ _ (right (ltb back breaker.changes.count) _ q)))
    go false q is = absurd (none-known is)

-- "The breaker's stamp is g, with no change remembered."
pub started-sound : (status : ℕ) (g : Dts) → pair_sound (pair status g) ≡ true → clock_sound g ≡ true → breaker_sound (started status g) ≡ true
unfolding started
started-sound status g of_pair of-clock =
    whole (started status g)
    (record {
      of_pair = of_pair;
      of-clock = of-clock;
      of-changes = changes-whole _ (record { few = omega arith; each = λ k l. ap pair_sound (get_d-table most_changes (λ i. no_change) k no_change l) });
    })

-- an accepted command
pub command-sound : (breaker : Breaker) (t : Dts) (status : ℕ) (T : Dts) → breaker_sound breaker ≡ true → clock_sound t ≡ true → pair_sound (pair status (larger T t)) ≡ true
    → breaker_sound (after_command breaker t status T) ≡ true
command-sound breaker t status T e now new = go (repeats breaker status) refl
  where
    before : SoundBreaker breaker
    before = parts breaker e

    go : (x : Bool) → repeats breaker status ≡ x → breaker_sound (after_command breaker t status T) ≡ true
    go true r =
        ap breaker_sound (repeat-keeps breaker t status T r)
        ∙ whole _ (record { of_pair = before.of_pair; of-clock = now; of-changes = before.of-changes })
    go false r =
        ap breaker_sound (change-moves breaker t status T r)
        ∙ whole _ (record { of_pair = new; of-clock = now; of-changes = remembered-sound breaker.changes (pair status (larger T t)) before.of-changes new })
