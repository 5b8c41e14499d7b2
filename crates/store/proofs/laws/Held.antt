-- Laws of what Held.antt defines.
use Rattle.std.specs.Prelude.{ℕ, ◌+◌, ◌-◌, max, ◌≤◌, ◌<◌, ◌≡◌, refl, Bool, true, false, ◌&&◌, ◌||◌, not, cond, eqb, leb, ltb}
use Rattle.std.proofs.Common.{sym, ap, ap₂, ◌∙◌, arith, eqb-true, lt-ltb, le-ltb, leb-true, leb-false, le-leb}
use Rattle.std.proofs.Math.Bool.{and-eq-true_iff}
use Rattle.time.specs.declared.Dts.{Dts}
use Rattle.time.specs.Fresh.{fresh, window}
use Rattle.senders.specs.Masks.{room, is_in, joined}
use Rattle.senders.proofs.laws.MaskLaws.{in-joined, in-none}
use Rattle.tables.specs.Tables.{table, get_d-table}
use Rattle.store.specs.declared.Store.{Store}
use Rattle.store.specs.Store.{actions, places, has_place, place, set_at, senders_of, empty, put_at, put, turn, left_at, moved_to}
use Rattle.store.specs.laws.Places.{Bounds, bounds, place-lt, places-apart}
use Rattle.store.specs.Held.{has_room_for, held}

pub held-empty : (clock : Dts) (a : ℕ) (T : Dts) (i : ℕ) → held (empty clock) a T i ≡ false
unfolding held senders_of empty
held-empty clock a T i = go (has_place clock a T) refl
  where
    go : (b : Bool) → has_place clock a T ≡ b → is_in (cond b (set_at (empty clock) (place a T)) 0) i ≡ false
    go true e = ap (λ (m : ℕ). is_in m i) (get_d-table places (λ k. 0) (place a T) 0 (place-lt clock a T e)) ∙ in-none i
    go false e = in-none i

-- only what is fresh is held, and only for an action
pub held-fresh : (s : Store) (a : ℕ) (T : Dts) (i : ℕ) → held s a T i ≡ true → has_place s.clock a T ≡ true
unfolding held senders_of
held-fresh s a T i e = go (has_place s.clock a T) e
  where
    go : (b : Bool) → is_in (cond b (set_at s (place a T)) 0) i ≡ true → b ≡ true
    go true e = refl
    go false e = sym (in-none i) ∙ e

none-held : (s : Store) (a : ℕ) (T : Dts) (i : ℕ) → has_place s.clock a T ≡ false → held s a T i ≡ false
unfolding held senders_of
none-held s a T i e = simp e (in-none i)

-- of two of an action and a stamp one has a place and the other none: they are not the same
told-apart : (clock : Dts) (a b : ℕ) (T U : Dts) → has_place clock a T ≡ true → has_place clock b U ≡ false → (eqb b a && eqb U.0 T.0) ≡ false
told-apart clock a b T U ha hb = go (eqb b a) (eqb U.0 T.0) refl refl
  where
    go : (x y : Bool) → eqb b a ≡ x → eqb U.0 T.0 ≡ y → (x && y) ≡ false
    go true true ex ey =
        let p : b ≡ a = eqb-true b a ex in
        let q : U ≡ T = ap (λ (n : ℕ). record { 0 = n }) (eqb-true U.0 T.0 ey) in
        sym ha ∙ sym (ap₂ (has_place clock) p q) ∙ hb
    go true false ex ey = refl
    go false y ex ey = refl

-- what is held for b and U where a share was put at the place of a and T
held-put-at : (s : Store) (i a : ℕ) (T : Dts) (b : ℕ) (U : Dts) (j : ℕ) (e : Bool) → has_place s.clock a T ≡ true → has_place s.clock b U ≡ e
    → held (put_at s i (place a T)) b U j ≡ (ltb i room && (eqb b a && eqb U.0 T.0) && eqb j i || held s b U j)
unfolding held senders_of
held-put-at s i a T b U j true ha hb =
    let p = place a T in
    let q = place b U in
    simp hb
    (ap (λ (m : ℕ). is_in m j) (get_d-table places (λ k. cond (eqb k p) (joined (set_at s p) i) (set_at s k)) q 0 (place-lt s.clock b U hb))
    ∙ here (eqb q p) (set_at s p) (set_at s q) (λ e. ap (set_at s) (eqb-true q p e))
    ∙ ap (λ (x : Bool). ltb i room && x && eqb j i || is_in (set_at s q) j) (places-apart s.clock a b T U ha hb))
  where
    tidy : (x d h : Bool) → (x && d || h) ≡ (x && true && d || h)
    tidy true d h = refl
    tidy false d h = refl

    skip : (x d h : Bool) → h ≡ (x && false && d || h)
    skip true d h = refl
    skip false d h = refl

    here : (x : Bool) (m n : ℕ) → (x ≡ true → n ≡ m) → is_in (cond x (joined m i) n) j ≡ (ltb i room && x && eqb j i || is_in n j)
    here true m n f = rw (f refl) (in-joined m i j ∙ tidy (ltb i room) (eqb j i) (is_in m j))
    here false m n f = skip (ltb i room) (eqb j i) (is_in n j)
held-put-at s i a T b U j false ha hb = simp (hb, told-apart s.clock a b T U ha hb) (skip (ltb i room))
  where
    skip : (x : Bool) → is_in 0 j ≡ (x && false && eqb j i || is_in 0 j)
    skip true = refl
    skip false = refl

-- After a share is put, held is that share, where the store takes it, and all that was held before.
pub held-put : (s : Store) (i a : ℕ) (T : Dts) (b : ℕ) (U : Dts) (j : ℕ)
    → held (put s i a T) b U j ≡ (has_room_for s i a T && (eqb b a && eqb U.0 T.0) && eqb j i || held s b U j)
unfolding has_room_for put
held-put s i a T b U j = go (has_place s.clock a T) refl
  where
    go : (e : Bool) → has_place s.clock a T ≡ e
        → held (cond e (put_at s i (place a T)) s) b U j ≡ (e && ltb i room && (eqb b a && eqb U.0 T.0) && eqb j i || held s b U j)
    go true e = held-put-at s i a T b U j (has_place s.clock b U) e refl
    go false e = refl

pub clock-put : (s : Store) (i a : ℕ) (T : Dts) → (put s i a T).clock ≡ s.clock
unfolding put
clock-put s i a T = go (has_place s.clock a T)
  where
    go : (e : Bool) → (cond e (put_at s i (place a T)) s).clock ≡ s.clock
    go true = refl
    go false = refl

pub clock-moved : (s : Store) (t : Dts) → (moved_to s t).clock.0 ≡ max s.clock.0 t.0
unfolding moved_to
clock-moved s t = go (leb t.0 s.clock.0) refl
  where
    go : (e : Bool) → leb t.0 s.clock.0 ≡ e
        → (cond e s (record { clock = t; masks = table places (left_at s (t.0 - s.clock.0)) })).clock.0 ≡ max s.clock.0 t.0
    go true e = omega (arith, leb-true)
    go false e = omega (arith, leb-false)

still-fresh : (s : Store) (a : ℕ) (T : Dts) (i : ℕ) → held s a T i ≡ (fresh T s.clock && held s a T i)
unfolding has_place
still-fresh s a T i = go (held s a T i) refl
  where
    keep : (x : Bool) → false ≡ (x && false)
    keep true = refl
    keep false = refl

    go : (h : Bool) → held s a T i ≡ h → h ≡ (fresh T s.clock && h)
    go true e = sym (ap (λ (x : Bool). x && true) ((and-eq-true_iff (ltb a actions) (fresh T s.clock)).0 (held-fresh s a T i e)).1)
    go false e = keep (fresh T s.clock)

-- of the places that a later clock has for what is fresh there, those fall out whose stamps were not fresh before
falls_out : (c t : Dts) (a : ℕ) (T : Dts) → c.0 < t.0 → Bounds t a T → ltb (turn c (place a T)) (t.0 - c.0) ≡ not (fresh T c)
unfolding turn
falls_out c t a T l b = go (leb T.0 (c.0 + window)) refl
  where
    old : leb (c.0 - window) T.0 ≡ true
    old = let x = b.not-old in le-leb (c.0 - window) T.0 (omega arith)

    go : (e : Bool) → leb T.0 (c.0 + window) ≡ e → ltb (turn c (place a T)) (t.0 - c.0) ≡ not (fresh T c)
    go true e =
        let near : T.0 ≤ c.0 + window = leb-true T.0 (c.0 + window) e in
        let x = b.not-old in
        le-ltb (turn c (place a T)) (t.0 - c.0) (omega arith) ∙ sym (simp (old, e))
    go false e =
        let far : c.0 + window < T.0 = leb-false T.0 (c.0 + window) e in
        let x = b.not-old in
        let y = b.not-ahead in
        lt-ltb (turn c (place a T)) (t.0 - c.0) (omega arith) ∙ sym (simp (old, e))

moved_on : (s : Store) (t : Dts) (a : ℕ) (T : Dts) (i : ℕ) (x f : Bool) → s.clock.0 < t.0 → ltb a actions ≡ x → fresh T t ≡ f
    → held (record { clock = t; masks = table places (left_at s (t.0 - s.clock.0)) }) a T i ≡ (f && held s a T i)
unfolding held senders_of has_place left_at
moved_on s t a T i true true l ex ef =
    let has : has_place t a T ≡ true = simp (ex, ef) in
    let b = bounds t a T has in
    let c = s.clock in
    simp (ex, ef)
    (ap (λ (m : ℕ). is_in m i)
    (get_d-table places (left_at s (t.0 - c.0)) (place a T) 0 (place-lt t a T has)
    ∙ ap (λ (z : Bool). cond z 0 (set_at s (place a T))) (falls_out c t a T l b)
    ∙ other (fresh T c)))
  where
    other : (z : Bool) → cond (not z) 0 (set_at s (place a T)) ≡ cond z (set_at s (place a T)) 0
    other true = refl
    other false = refl
moved_on s t a T i false true l ex ef = simp ex
moved_on s t a T i true false l ex ef = simp (ex, ef) (in-none i)
moved_on s t a T i false false l ex ef = simp ex (in-none i)

-- At a later clock, held is what was held before and is still fresh.
pub held_moved : (s : Store) (t : Dts) (a : ℕ) (T : Dts) (i : ℕ) → held (moved_to s t) a T i ≡ (fresh T (moved_to s t).clock && held s a T i)
unfolding moved_to
held_moved s t a T i = go (leb t.0 s.clock.0) refl
  where
    go : (e : Bool) → leb t.0 s.clock.0 ≡ e
        → held (cond e s (record { clock = t; masks = table places (left_at s (t.0 - s.clock.0)) })) a T i
        ≡ (fresh T (cond e s (record { clock = t; masks = table places (left_at s (t.0 - s.clock.0)) })).clock && held s a T i)
    go true e = still-fresh s a T i
    go false e = moved_on s t a T i (ltb a actions) (fresh T t) (leb-false t.0 s.clock.0 e) refl refl
