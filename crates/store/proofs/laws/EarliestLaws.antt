-- What `earliest` answers: a stamp is the earliest of those that qualify, and nothing means that none does.
use Rattle.std.specs.Prelude.{ℕ, zero, suc, ◌+◌, ◌-◌, ◌^◌, ◌≤◌, ◌<◌, ◌≡◌, refl, Bool, ◌&&◌, cond, List, [], ◌∷◌, ◌⊎◌, leb, ltb, drop, Some, None}
use Rattle.std.proofs.Common.{sym, ap, ap₂, ◌∙◌, inl, inr, not-suc-le-zero, add-one, arith, drop_of_length-le, drop-cons}
use Rattle.std.proofs.Math.Bool.{true, false, and-eq-true_iff, and-false}
use borrow.Author.Tests.{ltb-true, leb-true, lt-ltb, le-ltb, le-leb, leb-false}
use Rattle.time.specs.declared.Dts.{Dts}
use Rattle.time.specs.Fresh.{window}
use Rattle.senders.specs.Masks.{size, enough}
use Rattle.senders.proofs.laws.MaskLaws.{size_none, none-enough}
use Rattle.tables.specs.Tables.{table, length-table, get_d-table}
use Rattle.store.specs.declared.Store.{Store}
use Rattle.store.specs.Store.{actions, stamps, has_place, place, set_at, senders_of}
use Rattle.store.specs.laws.Places.{bounds}
use Rattle.store.specs.Earliest.{dts, fresh_stamp, fresh_stamps, qualifies, first_of, earliest}

-- ---- a search of a list that a rule makes, from place i on

module _ (test : ℕ → Bool) (n : ℕ) (rule : ℕ → ℕ) (i : ℕ) where
  from-here : i < n → first_of test (drop i (table n rule)) ≡ cond (test (rule i)) (Some (dts (rule i))) (first_of test (drop (i + 1) (table n rule)))
  from-here h =
      ap (first_of test) (drop-cons (table n rule) i 0 (rw (length-table n rule) h))
      ∙ ap₂ (λ (T j : ℕ). cond (test T) (Some (dts T)) (first_of test (drop j (table n rule)))) (get_d-table n rule i 0 h) (sym (add-one i))

  found_here : i < n → test (rule i) ≡ true → first_of test (drop i (table n rule)) ≡ Some (dts (rule i))
  found_here h e = from-here h ∙ ap (λ (b : Bool). cond b (Some (dts (rule i))) (first_of test (drop (i + 1) (table n rule)))) e

  found-later : i < n → test (rule i) ≡ false → first_of test (drop i (table n rule)) ≡ first_of test (drop (i + 1) (table n rule))
  found-later h e = from-here h ∙ ap (λ (b : Bool). cond b (Some (dts (rule i))) (first_of test (drop (i + 1) (table n rule)))) e

  pub found-never : n ≤ i → first_of test (drop i (table n rule)) ≡ None
  found-never h = ap (first_of test) (drop_of_length-le (table n rule) {i = i} (rw (length-table n rule) h))

-- a stamp that qualifies is one that 32 bits hold
qualifies-fits : (s : Store) (a : ℕ) (above : Dts) (f T : ℕ) → qualifies s a above f T ≡ true → T < 2 ^ 32
unfolding qualifies
qualifies-fits s a above f T e = ltb-true T (2 ^ 32) ((and-eq-true_iff (ltb above.0 T) (ltb T (2 ^ 32))).0 ((and-eq-true_iff _ _).0 e).0).1

-- ---- a search of the whole list

abbrev pub Found : (ℕ → Bool) → ℕ → (ℕ → ℕ) → Dts → Type 0
Found test n rule d = (i : ℕ) × (i < n) × (rule i ≡ d.0) × (test (rule i) ≡ true) × ((j : ℕ) → j < i → test (rule j) ≡ false)

pub search-found : (test : ℕ → Bool) (n : ℕ) (rule : ℕ → ℕ) (d : Dts) → first_of test (table n rule) ≡ Some d → Found test n rule d
unfolding table
search-found test zero rule d e = let z : ◌≡◌ {A = ℕ} 0 1 = cc in absurd (omega arith)
search-found test (suc n) rule d e = go (test (rule zero)) refl e (search-found test n (λ i. rule (suc i)) d)
  where
    first : test (rule zero) ≡ true → rule zero ≡ d.0 → Found test (suc n) rule d
    first et er = (zero, omega arith, er, et, λ j h. absurd (not-suc-le-zero h))

    earlier : test (rule zero) ≡ false → (i : ℕ) → ((j : ℕ) → j < i → test (rule (suc j)) ≡ false) → (j : ℕ) → j < suc i → test (rule j) ≡ false
    earlier et i h zero l = et
    earlier et i h (suc j) l = h j (omega arith)

    later : test (rule zero) ≡ false → Found test n (λ i. rule (suc i)) d → Found test (suc n) rule d
    later et r = (suc r.0, omega arith, r.2, r.3, earlier et r.0 r.4)

    go : (b : Bool) → test (rule zero) ≡ b → cond b (Some (dts (rule zero))) (first_of test (table n (λ i. rule (suc i)))) ≡ Some d
        → (first_of test (table n (λ i. rule (suc i))) ≡ Some d → Found test n (λ i. rule (suc i)) d) → Found test (suc n) rule d
    go true et e ih = let q : dts (rule zero) ≡ d = cc in first et (ap (λ (x : Dts). x.0) q)
    go false et e ih = later et (ih e)

pub search-nothing : (test : ℕ → Bool) (n : ℕ) (rule : ℕ → ℕ) → first_of test (table n rule) ≡ None → (j : ℕ) → j < n → test (rule j) ≡ false
unfolding table
search-nothing test zero rule e j l = absurd (not-suc-le-zero l)
search-nothing test (suc n) rule e j l = go (test (rule zero)) refl e (search-nothing test n (λ i. rule (suc i))) j l
  where
    go : (b : Bool) → test (rule zero) ≡ b → cond b (Some (dts (rule zero))) (first_of test (table n (λ i. rule (suc i)))) ≡ None
        → (first_of test (table n (λ i. rule (suc i))) ≡ None → (j : ℕ) → j < n → test (rule (suc j)) ≡ false) → (j : ℕ) → j < suc n → test (rule j) ≡ false
    go true et e ih j l = let z : ◌≡◌ {A = ℕ} 0 1 = cc in absurd (omega arith)
    go false et e ih zero l = et
    go false et e ih (suc j) l = ih e j (omega arith)

-- ---- what the answer says

-- whoever is held from anybody is fresh
held-has-place : (s : Store) (a f : ℕ) (T : Dts) → f < size (senders_of s a T) → has_place s.clock a T ≡ true
unfolding senders_of
held-has-place s a f T h = go (has_place s.clock a T) _ h
  where
    go : (b : Bool) (m : ℕ) → f < size (cond b m 0) → b ≡ true
    go true m h = refl
    go false m h = absurd (none (rw size_none at h))
      where
        none : f < 0 → ⊥
        none l = omega arith

-- a stamp above the bound that does not qualify is held from f senders at most
too_few : (s : Store) (a : ℕ) (above : Dts) (f T : ℕ) → above.0 < T → T < 2 ^ 32 → qualifies s a above f T ≡ false → size (senders_of s a (dts T)) ≤ f
unfolding qualifies
too_few s a above f T h k e = omega (arith, leb-false (f + 1) (size (senders_of s a (dts T))) (simp (lt-ltb _ _ h, lt-ltb _ _ k) at e))

-- "the earliest such T": above the bound, held from at least f + 1 senders, and every earlier one above the bound is held from fewer.
pub record IsEarliest (s : Store) (a : ℕ) (above : Dts) (f : ℕ) (T : Dts) : Type 0 where
  pub above-bound : above.0 < T.0
  pub enough : f < size (senders_of s a T)
  pub earliest-one : (U : Dts) → above.0 < U.0 → U.0 < T.0 → size (senders_of s a U) ≤ f

at-stamp : (s : Store) (a : ℕ) (U : Dts) → has_place s.clock a U ≡ true → (U.0 + window - s.clock.0 < stamps) × (fresh_stamp s.clock (U.0 + window - s.clock.0) ≡ U.0)
at-stamp s a U e = let b = bounds s.clock a U e in (omega arith, omega arith)

-- No stamp above the bound is held from at least f + 1 senders.
pub earliest-nothing : (s : Store) (a : ℕ) (above : Dts) (f : ℕ) → earliest s a above f ≡ None
    → (U : Dts) → above.0 < U.0 → U.0 < 2 ^ 32 → size (senders_of s a U) ≤ f
unfolding earliest
earliest-nothing s a above f e U h k = go (leb (size (senders_of s a U)) f) refl
  where
    go : (b : Bool) → leb (size (senders_of s a U)) f ≡ b → size (senders_of s a U) ≤ f
    go true q = leb-true _ _ q
    go false q =
        let has = held-has-place s a f U (leb-false _ _ q) in
        let p = at-stamp s a U has in
        too_few s a above f U.0 h k (rw p.1 at (search-nothing (qualifies s a above f) stamps (fresh_stamp s.clock) e (U.0 + window - s.clock.0) p.0))

pub earliest-stamp : (s : Store) (a : ℕ) (above : Dts) (f : ℕ) (T : Dts) → earliest s a above f ≡ Some T → IsEarliest s a above f T
unfolding earliest qualifies
earliest-stamp s a above f T e =
    let r = search-found (qualifies s a above f) stamps (fresh_stamp s.clock) T e in
    let q : qualifies s a above f T.0 ≡ true = rw r.2 at r.3 in
    let p = (and-eq-true_iff (ltb above.0 T.0 && ltb T.0 (2 ^ 32)) (leb (f + 1) (size (senders_of s a T)))).0 q in
    let fits = qualifies-fits s a above f T.0 q in
    record {
      above-bound = ltb-true above.0 T.0 ((and-eq-true_iff _ _).0 p.0).0;
      enough = omega (arith, leb-true (f + 1) (size (senders_of s a T)) p.1);
      earliest-one = λ U h l. before r fits U h l (leb (size (senders_of s a U)) f) refl;
    }
  where
    before : (r : Found (qualifies s a above f) stamps (fresh_stamp s.clock) T) → T.0 < 2 ^ 32 → (U : Dts) → above.0 < U.0 → U.0 < T.0
        → (b : Bool) → leb (size (senders_of s a U)) f ≡ b → size (senders_of s a U) ≤ f
    before r fits U h l true q = leb-true _ _ q
    before r fits U h l false q =
        let has = held-has-place s a f U (leb-false _ _ q) in
        let p = at-stamp s a U has in
        let at : fresh_stamp s.clock r.0 ≡ T.0 = r.2 in
        let j : U.0 + window - s.clock.0 < r.0 = omega (arith, bounds s.clock a U has) in
        too_few s a above f U.0 h (omega arith) (rw p.1 at (r.4 (U.0 + window - s.clock.0) j))

-- A stamp that is found is no further ahead of the clock than a fresh one may be.
pub earliest-ahead : (s : Store) (a : ℕ) (above : Dts) (f : ℕ) (T : Dts) → earliest s a above f ≡ Some T → T.0 ≤ s.clock.0 + window
unfolding earliest
earliest-ahead s a above f T e =
    let r = search-found (qualifies s a above f) stamps (fresh_stamp s.clock) T e in
    let l : r.0 < stamps = r.1 in
    let at : fresh_stamp s.clock r.0 ≡ T.0 = r.2 in
    omega arith

-- ---- the search as the code makes it: by the places of the array

-- what is no action is held from nobody
pub no-action : (s : Store) (a : ℕ) (above : Dts) (f : ℕ) → actions ≤ a → earliest s a above f ≡ None
unfolding earliest qualifies senders_of has_place
no-action s a above f h = none (fresh_stamps s.clock)
  where
    none : (l : List ℕ) → first_of (qualifies s a above f) l ≡ None
    none [] = refl
    none (T ∷ Ts) = simp (le-ltb a actions h, none-enough f, and-false) (none Ts)

-- of an action, who is held for a fresh stamp stands at its place
module _ (s : Store) (a : ℕ) (above : Dts) (f i T : ℕ) (h : a < actions) (l : i < stamps) (e : T ≡ fresh_stamp s.clock i) where
  senders-there : senders_of s a (dts T) ≡ set_at s (place a (dts T))
  unfolding senders_of has_place
  senders-there = simp (lt-ltb _ _ h, le-leb (s.clock.0 - window) T (omega arith), le-leb T (s.clock.0 + window) (omega arith))

  pub taken : above.0 < T → enough (set_at s (place a (dts T))) f ≡ true → T < 2 ^ 32
      → first_of (qualifies s a above f) (drop i (fresh_stamps s.clock)) ≡ Some (dts T)
  unfolding qualifies
  taken b q k = rw e (found_here (qualifies s a above f) stamps (fresh_stamp s.clock) i l (rw e at passes))
    where
      passes : qualifies s a above f T ≡ true
      passes = simp (lt-ltb _ _ b, lt-ltb _ _ k, senders-there, q)

  pub passed_over : (2 ^ 32 ≤ T) ⊎ ((enough (set_at s (place a (dts T))) f ≡ false) ⊎ (T ≤ above.0))
      → first_of (qualifies s a above f) (drop i (fresh_stamps s.clock)) ≡ first_of (qualifies s a above f) (drop (i + 1) (fresh_stamps s.clock))
  unfolding qualifies
  passed_over w = found-later (qualifies s a above f) stamps (fresh_stamp s.clock) i l (rw e at (fails w))
    where
      fails : (2 ^ 32 ≤ T) ⊎ ((enough (set_at s (place a (dts T))) f ≡ false) ⊎ (T ≤ above.0)) → qualifies s a above f T ≡ false
      fails (inl k) = simp (le-ltb T (2 ^ 32) k, and-false)
      fails (inr (inl q)) = simp (senders-there, q, and-false)
      fails (inr (inr b)) = simp (le-ltb above.0 T b)
