-- Laws of the records that are made: one by one, in a table that has room for them, and in one that has not.
use Prim.Native.Nat.{ℕ, zero, suc, ◌≤◌, ◌<◌, ◌^◌}
use Rattle.std.specs.Prelude.{◌≡◌, Bool, cond, leb, length, get_or, set, drop}
use Rattle.std.proofs.Math.Path.{refl, ap}
use mathlib.Core.List.{List, [], ◌∷◌, ◌++◌}
use Rattle.std.proofs.Common.{sym, ◌∙◌, subst, arith, not-suc-le-zero, le_of_suc-le-suc, le-leb}
use Rattle.std.proofs.lemmas.Bool.{lt-leb}
use Rattle.tables.specs.Tables.{table}
use Rattle.senders.proofs.laws.MaskLaws.{in-above}
use Rattle.node.specs.declared.Node.{Node}
use Rattle.events.specs.Events.{went_down, went_up}
use Rattle.effects.specs.Effects.{first_record}
use Rattle.loans.specs.Loans.{first_by, made_by, first_records, made_first}

-- a mask has no room for a node from 16 on, so none is compromised
pub first_above : (compromised i : ℕ) → compromised < 2 ^ 16 → 16 ≤ i → first_record compromised i ≡ went_up
unfolding first_record
first_above compromised i h l = ap (λ (b : Bool). cond b went_down went_up) (in-above compromised i h l)

-- ---- a list whose first n places are a rule's, whatever it holds

module _ {A : Type 0} where
  -- such a place
  pub front : (n : ℕ) (rule : ℕ → A) (l : List A) (j : ℕ) (d : A) → j < n → get_or (table n rule ++ l) j d ≡ rule j
  unfolding table
  front zero rule l j d h = absurd (not-suc-le-zero h)
  front (suc n) rule l zero d h = refl
  front (suc n) rule l (suc j) d h = front n (λ i. rule (suc i)) l j d (le_of_suc-le-suc h)

  -- there is none
  pub fronted-none : (rule : ℕ → A) (l : List A) → l ≡ table 0 rule ++ drop 0 l
  unfolding table
  fronted-none rule l = refl

  -- one more is set
  pub fronted-more : (n : ℕ) (rule : ℕ → A) (l : List A) → n < length l → set (table n rule ++ drop n l) n (rule n) ≡ table (suc n) rule ++ drop (suc n) l
  unfolding table
  fronted-more n rule [] h = absurd (not-suc-le-zero h)
  fronted-more zero rule (x ∷ xs) h = refl
  fronted-more (suc n) rule (x ∷ xs) h = ap (λ (l : List A). rule zero ∷ l) (fronted-more n (λ i. rule (suc i)) xs (le_of_suc-le-suc h))

  pub fronted-length : (n : ℕ) (rule : ℕ → A) (l : List A) → n ≤ length l → length (table n rule ++ drop n l) ≡ length l
  unfolding table
  fronted-length zero rule l h = refl
  fronted-length (suc n) rule [] h = absurd (not-suc-le-zero h)
  fronted-length (suc n) rule (x ∷ xs) h = ap suc (fronted-length n (λ i. rule (suc i)) xs (le_of_suc-le-suc h))

  -- a list that is changed only where it is long enough: it is, and it is not
  pub long-enough : (n : ℕ) (l changed : List A) → n ≤ length l → cond (leb n (length l)) changed l ≡ changed
  long-enough n l changed h = ap (λ (b : Bool). cond b changed l) (le-leb _ _ h)

  pub too_short : (n : ℕ) (l changed : List A) → length l < n → cond (leb n (length l)) changed l ≡ l
  too_short n l changed h = ap (λ (b : Bool). cond b changed l) (lt-leb _ _ h)

-- ---- records of any kind that are made by a rule

module _ {R : Type 0} (rule : ℕ → ℕ → R) (compromised : ℕ) (records : List R) where
  -- one more is
  pub first_more : (n : ℕ) → n < length records → set (first_by rule n compromised records) n (rule compromised n) ≡ first_by rule (suc n) compromised records
  first_more n h = fronted-more n (rule compromised) records h

  -- there are enough records
  pub made-front : (n : ℕ) → n ≤ length records → made_by rule n compromised records ≡ first_by rule n compromised records
  unfolding made_by
  made-front n h = long-enough n records (first_by rule n compromised records) h

  -- none is asked for
  pub made-no-more : (n : ℕ) → n ≡ 0 → records ≡ made_by rule n compromised records
  made-no-more n e = subst (λ (m : ℕ). records ≡ made_by rule m compromised records) (sym e) (fronted-none (rule compromised) records ∙ sym (made-front 0 (omega arith)))

  -- there are too few
  pub made_none : (n : ℕ) → length records < n → made_by rule n compromised records ≡ records
  unfolding made_by
  made_none n h = too_short n records (first_by rule n compromised records) h

-- ---- the records of a Start

module _ (compromised : ℕ) (records : List Node) where
  pub begun-none : records ≡ first_records 0 compromised records
  begun-none = fronted-none (first_record compromised) records

  pub begun_more : (n : ℕ) → n < length records → set (first_records n compromised records) n (first_record compromised n) ≡ first_records (suc n) compromised records
  begun_more n h = fronted-more n (first_record compromised) records h

  pub begun-length : (n : ℕ) → n ≤ length records → length (first_records n compromised records) ≡ length records
  begun-length n h = fronted-length n (first_record compromised) records h

  pub made-enough : (n : ℕ) → n ≤ length records → made_first n compromised records ≡ first_records n compromised records
  made-enough = made-front first_record compromised records
