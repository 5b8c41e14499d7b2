-- The first of the stamps that are fresh at a clock that passes a test: it is fresh, passes the test, and is the earliest that does.
use Rattle.std.specs.Prelude.{ℕ, ◌+◌, ◌-◌, ◌≤◌, ◌<◌, ◌≡◌, refl, Bool, true, false, leb, ltb, Option, None, Some}
use Rattle.std.proofs.Common.{sym, ap, subst, ◌∙◌, arith, le-leb, leb-true, ltb-true, ltb-false}
use Rattle.std.proofs.lemmas.Bool.{false≢true}
use Rattle.refusals.specs.laws.Bools.{left, right}
use Rattle.time.specs.declared.Dts.{Dts}
use Rattle.time.specs.Fresh.{window, fresh_at}
use Rattle.store.specs.Store.{stamps}
use Rattle.store.specs.Earliest.{fresh_stamp, fresh_stamps, first_of}
use Rattle.store.proofs.laws.EarliestLaws.{search-found, search-nothing}

module _ (t : Dts) where
  -- the fresh stamps are those of the list
  placed : (T : ℕ) → fresh_at T t.0 ≡ true → (i : ℕ) × (i < stamps) × (fresh_stamp t i ≡ T)
  placed T e =
      let low : t.0 - window ≤ T = leb-true _ _ (left (leb (t.0 - window) T) (leb T (t.0 + window)) e) in
      let high : T ≤ t.0 + window = leb-true _ _ (right (leb (t.0 - window) T) (leb T (t.0 + window)) e) in
      (T + window - t.0, omega (arith, low, high), omega (arith, low, high))

  listed-fresh : (i : ℕ) → i < stamps → fresh_at (fresh_stamp t i) t.0 ≡ true
  listed-fresh i l = simp (le-leb (t.0 - window) (fresh_stamp t i) (omega (arith, l)), le-leb (fresh_stamp t i) (t.0 + window) (omega (arith, l)))

  module _ (test : ℕ → Bool) where
    -- where one passes, there is a first
    pub some_first : (T : ℕ) → fresh_at T t.0 ≡ true → test T ≡ true → (U : Dts) × (first_of test (fresh_stamps t) ≡ Some U)
    some_first T is passes = go (first_of test (fresh_stamps t)) refl
      where
        go : (e : Option Dts) → first_of test (fresh_stamps t) ≡ e → (U : Dts) × (first_of test (fresh_stamps t) ≡ Some U)
        go (Some U) found = (U, found)
        go None none =
            let at = placed T is in
            absurd (false≢true (sym (search-nothing test stamps (fresh_stamp t) none at.0 at.1) ∙ (ap test at.2 ∙ passes)))

    pub record IsFirst (U : Dts) : Type 0 where
      pub is-fresh : fresh_at U.0 t.0 ≡ true
      pub passes : test U.0 ≡ true
      pub earliest : (W : ℕ) → fresh_at W t.0 ≡ true → test W ≡ true → U.0 ≤ W

    pub first-is : (U : Dts) → first_of test (fresh_stamps t) ≡ Some U → IsFirst U
    first-is U found =
        let at = search-found test stamps (fresh_stamp t) U found in
        record {
          is-fresh = subst (λ (T : ℕ). fresh_at T t.0 ≡ true) at.2 (listed-fresh at.0 at.1);
          passes = subst (λ (T : ℕ). test T ≡ true) at.2 at.3;
          earliest = λ W is passes. later at.0 at.2 at.4 W (placed W is) passes;
        }
      where
        later : (i : ℕ) → fresh_stamp t i ≡ U.0 → ((k : ℕ) → k < i → test (fresh_stamp t k) ≡ false) → (W : ℕ) → (k : ℕ) × (k < stamps) × (fresh_stamp t k ≡ W) → test W ≡ true → U.0 ≤ W
        later i here before W (k, l, there) passes = go (ltb k i) refl
          where
            go : (x : Bool) → ltb k i ≡ x → U.0 ≤ W
            go true e = absurd (false≢true (sym (before k (ltb-true k i e)) ∙ (ap test there ∙ passes)))
            go false e = let above : i ≤ k = ltb-false k i e in omega (arith, above, here, there)
