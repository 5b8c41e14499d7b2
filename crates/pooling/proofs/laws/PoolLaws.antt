-- Who is in a pool: whoever is held at a stamp above the bound, and nobody else; and its latest stamp is the largest at which somebody is.
use Rattle.std.specs.Prelude.{ℕ, zero, suc, ◌+◌, ◌-◌, ◌^◌, ◌≤◌, ◌<◌, ◌≡◌, Bool, ◌&&◌, ◌||◌, cond, ◌⊎◌, List, [], ◌∷◌, leb}
use Rattle.std.proofs.Math.Path.{refl, ap}
use Rattle.std.proofs.Common.{sym, subst, ◌∙◌, not-suc-le-zero, le_refl, arith}
use Rattle.std.proofs.Math.Bool.{true, false, and-eq-true_iff}
use Rattle.std.proofs.lemmas.Bool.{false≢true}
use Rattle.std.proofs.Math.Logic.{inl, inr}
use Rattle.std.proofs.Math.Dec.{ltb}
use borrow.Author.Tests.{leb-true, ltb-true, lt-ltb}
use Rattle.time.specs.declared.Dts.{Dts}
use Rattle.time.specs.Fresh.{fresh, window}
use Rattle.senders.specs.Masks.{room, is_in, enough, together}
use Rattle.senders.proofs.laws.MaskLaws.{in-together, in-none, one-enough, enough-one}
use Rattle.tables.specs.Tables.{table}
use Rattle.store.specs.declared.Store.{Store}
use Rattle.store.specs.Store.{actions, stamps, has_place, senders_of}
use Rattle.store.specs.Held.{held}
use Rattle.store.proofs.laws.Held.{held-fresh}
use Rattle.store.specs.Earliest.{dts, fresh_stamp, fresh_stamps, qualifies}
use Rattle.pooling.specs.declared.Pool.{Pool}
use Rattle.pooling.specs.Pooling.{nobody, added, added_all, pooled}

-- ---- members of a list

pub data In (T : ℕ) : List ℕ → Type 0 where
  first : {Ts : List ℕ} → In T (T ∷ Ts)
  after : {U : ℕ} {Ts : List ℕ} → In T Ts → In T (U ∷ Ts)

pub in_table : (n : ℕ) (rule : ℕ → ℕ) (j : ℕ) → j < n → In (rule j) (table n rule)
unfolding table
in_table zero rule j l = absurd (not-suc-le-zero l)
in_table (suc n) rule zero l = first
in_table (suc n) rule (suc j) l = after (in_table n (λ k. rule (suc k)) j (omega arith))

pub from-table : (n : ℕ) (rule : ℕ → ℕ) (T : ℕ) → In T (table n rule) → (j : ℕ) × (j < n) × (rule j ≡ T)
unfolding table
from-table zero rule T x' = elim x' [ ]
from-table (suc n) rule T first = (zero, omega arith, refl)
from-table (suc n) rule T (after w) = let r = from-table n (λ k. rule (suc k)) T w in (suc r.0, omega (arith, r.1), r.2)

-- the fresh stamps of a clock are those that are fresh there
pub in_window : (t T : Dts) → fresh T t ≡ true → In T.0 (fresh_stamps t)
in_window t T e =
    let q = (and-eq-true_iff (leb (t.0 - window) T.0) (leb T.0 (t.0 + window))).0 e in
    let low = leb-true (t.0 - window) T.0 q.0 in
    let high = leb-true T.0 (t.0 + window) q.1 in
    let j : T.0 + window - t.0 < stamps = omega (arith, low, high) in
    let at : fresh_stamp t (T.0 + window - t.0) ≡ T.0 = omega (arith, low, high) in
    subst (λ (U : ℕ). In U (fresh_stamps t)) at (in_table stamps (fresh_stamp t) (T.0 + window - t.0) j)

-- none is below the one in front of it, the first not below lo
abbrev Rises : ℕ → List ℕ → Type 0
Rises lo [] = Unit {0}
Rises lo (T ∷ Ts) = (lo ≤ T) × Rises T Ts

rises-from : (lo hi : ℕ) → lo ≤ hi → (Ts : List ℕ) → Rises hi Ts → Rises lo Ts
rises-from lo hi l [] r = tt
rises-from lo hi l (T ∷ Ts) r = let m = r.0 in (omega (arith, l, m), r.1)

rises-table : (n : ℕ) (rule : ℕ → ℕ) (lo : ℕ) → ((j : ℕ) → rule j ≤ rule (suc j)) → (lo ≤ rule 0) → Rises lo (table n rule)
unfolding table
rises-table zero rule lo up l = tt
rises-table (suc n) rule lo up l = (l, rises-table n (λ k. rule (suc k)) (rule 0) (λ j. up (suc j)) (up 0))

-- ---- one stamp after another, for a store, an action and a bound

module _ (s : Store) (A : ℕ) (above : Dts) where
  abbrev Counts : ℕ → Type 0
  Counts T = qualifies s A above 0 T ≡ true

  abbrev held_at : ℕ → ℕ → Bool
  held_at T i = is_in (senders_of s A (dts T)) i

  -- a member of the pool so far, or of the stamp that is added, where it counts
  stays : (pool : Pool) (T i : ℕ) → is_in pool.senders i ≡ true → is_in (added s A above pool T).senders i ≡ true
  unfolding added
  stays pool T i e = go (qualifies s A above 0 T)
    where
      or_left : (x y : Bool) → x ≡ true → (x || y) ≡ true
      or_left true y h = refl
      or_left false y h = absurd (false≢true h)

      go : (x : Bool) → is_in (cond x (record { senders = together pool.senders (senders_of s A (dts T)); latest = dts T }) pool).senders i ≡ true
      go true = in-together pool.senders (senders_of s A (dts T)) i ∙ or_left _ _ e
      go false = e

  joins : (pool : Pool) (T i : ℕ) → Counts T → held_at T i ≡ true → is_in (added s A above pool T).senders i ≡ true
  unfolding added
  joins pool T i c h =
      ap (λ (x : Bool). is_in (cond x (record { senders = together pool.senders (senders_of s A (dts T)); latest = dts T }) pool).senders i) c
      ∙ in-together pool.senders (senders_of s A (dts T)) i
      ∙ or_right (is_in pool.senders i) _ h
    where
      or_right : (x y : Bool) → y ≡ true → (x || y) ≡ true
      or_right true y h = refl
      or_right false y h = h

  comes-from : (pool : Pool) (T i : ℕ) → is_in (added s A above pool T).senders i ≡ true → (is_in pool.senders i ≡ true) ⊎ (Counts T × (held_at T i ≡ true))
  unfolding added
  comes-from pool T i e = go (qualifies s A above 0 T) refl e
    where
      either : (x y : Bool) → (x || y) ≡ true → (x ≡ true) ⊎ (y ≡ true)
      either true y h = inl refl
      either false y h = inr h

      of-both : (is_in pool.senders i ≡ true) ⊎ (held_at T i ≡ true) → Counts T → (is_in pool.senders i ≡ true) ⊎ (Counts T × (held_at T i ≡ true))
      of-both (inl h) c = inl h
      of-both (inr h) c = inr (c, h)

      go : (x : Bool) → qualifies s A above 0 T ≡ x
          → is_in (cond x (record { senders = together pool.senders (senders_of s A (dts T)); latest = dts T }) pool).senders i ≡ true
          → (is_in pool.senders i ≡ true) ⊎ (Counts T × (held_at T i ≡ true))
      go true c h = of-both (either _ _ (sym (in-together pool.senders (senders_of s A (dts T)) i) ∙ h)) c
      go false c h = inl h

  latest-counted : (pool : Pool) (T : ℕ) → Counts T → (added s A above pool T).latest ≡ dts T
  unfolding added
  latest-counted pool T c = ap (λ (x : Bool). (cond x (record { senders = together pool.senders (senders_of s A (dts T)); latest = dts T }) pool).latest) c

  latest-else : (pool : Pool) (T : ℕ) → ((added s A above pool T).latest ≡ pool.latest) ⊎ (Counts T × ((added s A above pool T).latest ≡ dts T))
  unfolding added
  latest-else pool T = go (qualifies s A above 0 T) refl
    where
      go : (x : Bool) → qualifies s A above 0 T ≡ x
          → ((cond x (record { senders = together pool.senders (senders_of s A (dts T)); latest = dts T }) pool).latest ≡ pool.latest)
          ⊎ (Counts T × ((cond x (record { senders = together pool.senders (senders_of s A (dts T)); latest = dts T }) pool).latest ≡ dts T))
      go true c = inr (c, refl)
      go false c = inl refl

  -- ---- all of a list

  all_stay : (Ts : List ℕ) (pool : Pool) (i : ℕ) → is_in pool.senders i ≡ true → is_in (added_all s A above pool Ts).senders i ≡ true
  all_stay [] pool i e = e
  all_stay (T ∷ Ts) pool i e = all_stay Ts (added s A above pool T) i (stays pool T i e)

  all_join : (Ts : List ℕ) (pool : Pool) (i : ℕ) {T : ℕ} → In T Ts → Counts T → held_at T i ≡ true → is_in (added_all s A above pool Ts).senders i ≡ true
  all_join [] pool i {T = T} x3 c h = elim x3 [ ]
  all_join (U ∷ Ts) pool i first c h = all_stay Ts (added s A above pool U) i (joins pool U i c h)
  all_join (U ∷ Ts) pool i (after w) c h = all_join Ts (added s A above pool U) i w c h

  abbrev Source : List ℕ → ℕ → Type 0
  Source Ts i = (T : ℕ) × In T Ts × Counts T × (held_at T i ≡ true)

  all_from : (Ts : List ℕ) (pool : Pool) (i : ℕ) → is_in (added_all s A above pool Ts).senders i ≡ true → (is_in pool.senders i ≡ true) ⊎ Source Ts i
  all_from [] pool i e = inl e
  all_from (T ∷ Ts) pool i e = go (all_from Ts (added s A above pool T) i e)
    where
      one : (is_in pool.senders i ≡ true) ⊎ (Counts T × (held_at T i ≡ true)) → (is_in pool.senders i ≡ true) ⊎ Source (T ∷ Ts) i
      one (inl h) = inl h
      one (inr h) = inr (T, first, h.0, h.1)

      go : (is_in (added s A above pool T).senders i ≡ true) ⊎ Source Ts i → (is_in pool.senders i ≡ true) ⊎ Source (T ∷ Ts) i
      go (inl h) = one (comes-from pool T i h)
      go (inr r) = inr (r.0, after r.1, r.2, r.3)

  -- the latest stamp of a rising list: none that counts is above it, and it counts, if there was none before it
  next-rises : (T : ℕ) (Ts : List ℕ) (pool : Pool) → pool.latest.0 ≤ T → Rises T Ts → Rises (added s A above pool T).latest.0 Ts
  next-rises T Ts pool l r = go (latest-else pool T)
    where
      go : ((added s A above pool T).latest ≡ pool.latest) ⊎ (Counts T × ((added s A above pool T).latest ≡ dts T)) → Rises (added s A above pool T).latest.0 Ts
      go (inl e) = subst (λ (d : Dts). Rises d.0 Ts) (sym e) (rises-from pool.latest.0 T l Ts r)
      go (inr h) = subst (λ (d : Dts). Rises d.0 Ts) (sym h.1) r

  not-less : (T : ℕ) (pool : Pool) → pool.latest.0 ≤ T → pool.latest.0 ≤ (added s A above pool T).latest.0
  not-less T pool l = go (latest-else pool T)
    where
      go : ((added s A above pool T).latest ≡ pool.latest) ⊎ (Counts T × ((added s A above pool T).latest ≡ dts T)) → pool.latest.0 ≤ (added s A above pool T).latest.0
      go (inl e) = subst (λ (d : Dts). pool.latest.0 ≤ d.0) (sym e) (le_refl pool.latest.0)
      go (inr h) = subst (λ (d : Dts). pool.latest.0 ≤ d.0) (sym h.1) l

  all-not-less : (Ts : List ℕ) (pool : Pool) → Rises pool.latest.0 Ts → pool.latest.0 ≤ (added_all s A above pool Ts).latest.0
  all-not-less [] pool r = le_refl pool.latest.0
  all-not-less (T ∷ Ts) pool r =
      let now = not-less T pool r.0 in
      let later = all-not-less Ts (added s A above pool T) (next-rises T Ts pool r.0 r.1) in
      omega (arith, now, later)

  all-latest : (Ts : List ℕ) (pool : Pool) → Rises pool.latest.0 Ts → {T : ℕ} → In T Ts → Counts T → T ≤ (added_all s A above pool Ts).latest.0
  all-latest [] pool r {T = T} x3 c = elim x3 [ ]
  all-latest (U ∷ Ts) pool r first c =
      let now : (added s A above pool U).latest.0 ≡ U = ap (λ (d : Dts). d.0) (latest-counted pool U c) in
      let later = all-not-less Ts (added s A above pool U) (next-rises U Ts pool r.0 r.1) in
      omega (arith, now, later)
  all-latest (U ∷ Ts) pool r (after w) c = all-latest Ts (added s A above pool U) (next-rises U Ts pool r.0 r.1) w c

  all_one : (Ts : List ℕ) (pool : Pool) → ((added_all s A above pool Ts).latest ≡ pool.latest) ⊎ ((T : ℕ) × In T Ts × Counts T × ((added_all s A above pool Ts).latest ≡ dts T))
  all_one [] pool = inl refl
  all_one (T ∷ Ts) pool = go (all_one Ts (added s A above pool T)) (latest-else pool T)
    where
      go : ((added_all s A above (added s A above pool T) Ts).latest ≡ (added s A above pool T).latest) ⊎ ((U : ℕ) × In U Ts × Counts U × ((added_all s A above (added s A above pool T) Ts).latest ≡ dts U))
          → ((added s A above pool T).latest ≡ pool.latest) ⊎ (Counts T × ((added s A above pool T).latest ≡ dts T))
          → ((added_all s A above pool (T ∷ Ts)).latest ≡ pool.latest) ⊎ ((U : ℕ) × In U (T ∷ Ts) × Counts U × ((added_all s A above pool (T ∷ Ts)).latest ≡ dts U))
      go (inr r) w = inr (r.0, after r.1, r.2, r.3)
      go (inl e) (inl d) = inl (e ∙ d)
      go (inl e) (inr h) = inr (T, first, h.0, e ∙ h.1)

  -- ---- the pool

  rising : Rises 0 (fresh_stamps s.clock)
  rising = rises-table stamps (fresh_stamp s.clock) 0 (λ j. omega arith) (omega arith)

  -- a stamp that counts is above the bound, and somebody is held there
  counts-above : (T : ℕ) → Counts T → (above.0 < T) × (enough (senders_of s A (dts T)) 0 ≡ true)
  unfolding qualifies
  counts-above T c =
      let p = (and-eq-true_iff (ltb above.0 T && ltb T (2 ^ 32)) (enough (senders_of s A (dts T)) 0)).0 c in
      (ltb-true above.0 T ((and-eq-true_iff (ltb above.0 T) (ltb T (2 ^ 32))).0 p.0).0, p.1)

  -- whoever is held above the bound is held at a stamp that counts
  module _ (T : Dts) (i : ℕ) (has_room : i < room) (is-above : above.0 < T.0) (fits : T.0 < 2 ^ 32) (h : held s A T i ≡ true) where
    counts-held : Counts T.0
    unfolding qualifies held
    counts-held = simp (lt-ltb above.0 T.0 is-above, lt-ltb T.0 (2 ^ 32) fits) (one-enough (senders_of s A T) i has_room h)

    is-fresh : In T.0 (fresh_stamps s.clock)
    unfolding has_place
    is-fresh = in_window s.clock T ((and-eq-true_iff (ltb A actions) (fresh T s.clock)).0 (held-fresh s A T i h)).1

    -- Whoever is held at a stamp above the bound is in the pool, and that stamp is not above its latest.
    pub pooled-has : is_in (pooled s A above).senders i ≡ true
    unfolding pooled held
    pooled-has = all_join (fresh_stamps s.clock) nobody i is-fresh counts-held h

    pub not-later : T.0 ≤ (pooled s A above).latest.0
    unfolding pooled
    not-later = all-latest (fresh_stamps s.clock) nobody rising is-fresh counts-held

  -- Nobody else is.
  pub pooled-from : (i : ℕ) → is_in (pooled s A above).senders i ≡ true
      → (T : Dts) × (above.0 < T.0) × (held s A T i ≡ true) × (T.0 ≤ (pooled s A above).latest.0)
  unfolding pooled held
  pooled-from i e = go (all_from (fresh_stamps s.clock) nobody i e)
    where
      go : (is_in 0 i ≡ true) ⊎ Source (fresh_stamps s.clock) i
          → (T : Dts) × (above.0 < T.0) × (is_in (senders_of s A T) i ≡ true) × (T.0 ≤ (added_all s A above nobody (fresh_stamps s.clock)).latest.0)
      go (inl h) = absurd (false≢true (sym (in-none i) ∙ h))
      go (inr r) =
          (dts r.0, (counts-above r.0 r.2).0, r.3, all-latest (fresh_stamps s.clock) nobody rising r.1 r.2)

  -- The latest stamp is one at which somebody is held, above the bound, or 0.
  pub latest-held : ((pooled s A above).latest.0 ≡ 0)
      ⊎ ((i : ℕ) × (i < room) × (above.0 < (pooled s A above).latest.0) × (held s A (pooled s A above).latest i ≡ true))
  unfolding pooled held
  latest-held = go (all_one (fresh_stamps s.clock) nobody)
    where
      latest : Dts
      latest = (added_all s A above nobody (fresh_stamps s.clock)).latest

      go : (latest ≡ dts 0) ⊎ ((T : ℕ) × In T (fresh_stamps s.clock) × Counts T × (latest ≡ dts T))
          → (latest.0 ≡ 0) ⊎ ((i : ℕ) × (i < room) × (above.0 < latest.0) × (is_in (senders_of s A latest) i ≡ true))
      go (inl e) = inl (ap (λ (d : Dts). d.0) e)
      go (inr r) =
          let c = counts-above r.0 r.2 in
          let one = enough-one (senders_of s A (dts r.0)) c.1 in
          inr (
            one.0,
            one.1,
            subst (λ (d : Dts). above.0 < d.0) (sym r.3) c.0,
            subst (λ (d : Dts). is_in (senders_of s A d) one.0 ≡ true) (sym r.3) one.2,
          )
