-- Facts on places. They are for the store's own proofs, and nothing above cites them.
use Rattle.std.specs.Prelude.{ℕ, ◌+◌, ◌*◌, ◌-◌, ◌%◌, ◌≤◌, ◌<◌, ◌≡◌, refl, Bool, true, false, ◌&&◌, cond, List, [], ◌∷◌, eqb, leb, ltb, length, set, fold, Some, None}
use Rattle.std.proofs.Common.{sym, ap, ap₂, ◌∙◌, arith, eq-eqb, ne_eqb, eqb-true, ltb-true, leb-true}
use Rattle.std.proofs.Math.Bool.{and-eq-true_iff}
use Rattle.std.proofs.lemmas.Bool.{eqb-false}
use Rattle.refusals.specs.laws.Bools.{and_assoc, and-true}
use Rattle.time.specs.declared.Dts.{Dts}
use Rattle.time.specs.Fresh.{fresh, window}
use Rattle.senders.specs.Masks.{joined, together, within}
use Rattle.senders.proofs.laws.Within.{together-within, none_within}
use Rattle.tables.specs.Tables.{set-table, is-table}
use Rattle.store.specs.declared.Store.{Store}
use Rattle.store.specs.Store.{actions, stamps, places, has_place, place, place_of, set_at, put, all_within, store_within}

pub record Bounds (clock : Dts) (action : ℕ) (T : Dts) : Type 0 where
  pub action-fits : action < actions
  pub not-old : clock.0 ≤ T.0 + window
  pub not-ahead : T.0 ≤ clock.0 + window

pub bounds : (clock : Dts) (a : ℕ) (T : Dts) → has_place clock a T ≡ true → Bounds clock a T
unfolding has_place
bounds clock a T e =
    let p = (and-eq-true_iff (ltb a actions) (fresh T clock)).0 e in
    let q = (and-eq-true_iff (leb (clock.0 - window) T.0) (leb T.0 (clock.0 + window))).0 p.1 in
    let low : clock.0 - window ≤ T.0 = leb-true _ _ q.0 in
    record { action-fits = ltb-true a actions p.0; not-old = omega arith; not-ahead = leb-true _ _ q.1 }

pub place-lt : (clock : Dts) (a : ℕ) (T : Dts) → has_place clock a T ≡ true → place a T < places
place-lt clock a T e = let b = bounds clock a T e in omega arith

-- what `place_of` says of whether there is a place, and which
pub found : (clock : Dts) (a : ℕ) (T : Dts) (k : ℕ) → place_of clock a T ≡ Some k → (has_place clock a T ≡ true) × (place a T ≡ k)
unfolding place_of
found clock a T k e = go (has_place clock a T) e
  where
    go : (b : Bool) → cond b (Some (place a T)) None ≡ Some k → (b ≡ true) × (place a T ≡ k)
    go true q = (refl, cc)
    go false q = (let z : ◌≡◌ {A = ℕ} 0 1 = cc in absurd (omega arith), cc)

pub found_lt : (clock : Dts) (a : ℕ) (T : Dts) (k : ℕ) → place_of clock a T ≡ Some k → k < places
found_lt clock a T k e = let f = found clock a T k e in rw (sym f.1) (place-lt clock a T f.0)

pub not_found : (clock : Dts) (a : ℕ) (T : Dts) → place_of clock a T ≡ None → has_place clock a T ≡ false
unfolding place_of
not_found clock a T e = go (has_place clock a T) e
  where
    go : (b : Bool) → cond b (Some (place a T)) None ≡ None → b ≡ false
    go true q = let z : ◌≡◌ {A = ℕ} 0 1 = cc in absurd (omega arith)
    go false q = refl

-- two of an action and a stamp have one place only where they are the same
pub places-apart : (clock : Dts) (a b : ℕ) (T U : Dts) → has_place clock a T ≡ true → has_place clock b U ≡ true
    → eqb (place b U) (place a T) ≡ (eqb b a && eqb U.0 T.0)
places-apart clock a b T U ha hb = go (eqb b a) (eqb U.0 T.0) refl refl
  where
    go : (x y : Bool) → eqb b a ≡ x → eqb U.0 T.0 ≡ y → eqb (place b U) (place a T) ≡ (x && y)
    go true true ex ey =
        let p : b ≡ a = eqb-true b a ex in
        let q : U.0 ≡ T.0 = eqb-true U.0 T.0 ey in
        eq-eqb _ _ (ap₂ (λ (i j : ℕ). i * stamps + j % stamps) p q)
    go true false ex ey =
        let p : b ≡ a = eqb-true b a ex in
        let q = eqb-false U.0 T.0 ey in
        let m = bounds clock a T ha in
        let n = bounds clock b U hb in
        ne_eqb _ _ (λ (e : place b U ≡ place a T). q (omega arith))
    go false y ex ey =
        let p = eqb-false b a ex in
        let m = bounds clock a T ha in
        let n = bounds clock b U hb in
        ne_eqb _ _ (λ (e : place b U ≡ place a T). p (omega arith))

-- the array that a store to one place leaves is the one that `put` names
pub put_is : (s : Store) (sender a : ℕ) (T : Dts) (k : ℕ) → length s.masks ≡ places → place_of s.clock a T ≡ Some k
    → ◌≡◌ {A = Store} (record { clock = s.clock; masks = set s.masks k (joined (set_at s k) sender) }) (put s sender a T)
unfolding put
put_is s sender a T k e p =
    let f = found s.clock a T k p in
    simp (f.0, f.1)
    (ap (λ (l : List ℕ). record { clock = s.clock; masks = l })
    (set-table places s.masks k (joined (set_at s k) sender) 0 e (found_lt s.clock a T k p)))

-- ---- senders below n

-- sets, together, are within n where each is
pub all-together : (n : ℕ) (masks : List ℕ) (held : ℕ) → within (fold together held masks) n ≡ (within held n && all_within masks n)
all-together n [] held = simp and-true
all-together n (mask ∷ masks) held = all-together n masks (together held mask) ∙ simp (together-within, and_assoc)

-- and so it is of ten sets in two halves
pub ten-together : (n a b c d e a' b' c' d' e' : ℕ)
    → within (together (together (together (together (together a b) c) d) e) (together (together (together (together a' b') c') d') e')) n
    ≡ all_within (a ∷ b ∷ c ∷ d ∷ e ∷ a' ∷ b' ∷ c' ∷ d' ∷ e' ∷ []) n
ten-together n a b c d e a' b' c' d' e' = simp (together-within, and_assoc, and-true)

-- the sets at the ten places too
pub places-within : (s : Store) (n : ℕ) → length s.masks ≡ places → within (fold together 0 s.masks) n ≡ store_within s n
unfolding store_within
places-within s n e =
    all-together n s.masks 0
    ∙ simp (none_within n) (ap (λ (masks : List ℕ). all_within masks n) (is-table places s.masks (set_at s) 0 e (λ i l. refl)))
