-- What a store holds once a node's own shares are put, by the store's view alone.
use Rattle.std.specs.Prelude.{ℕ, ◌≤◌, ◌<◌, ◌≡◌, refl, Bool, true, false, ◌&&◌, ◌||◌, cond, ◌⊎◌, List, [], ◌∷◌, ◌++◌, eqb}
use Rattle.std.proofs.Common.{ap, ◌∙◌, inl, inr}
use Rattle.std.proofs.lemmas.Bool.{false≢true}
use Rattle.std.proofs.Math.Bool.{and-eq-true_iff}
use Rattle.time.specs.declared.Dts.{Dts}
use Rattle.time.specs.Fresh.{fresh}
use Rattle.time.specs.laws.Fresh.{fresh-same}
use Rattle.senders.specs.Masks.{room}
use Rattle.store.specs.declared.Store.{Store}
use Rattle.store.specs.Store.{put}
use Rattle.store.specs.Held.{held, has_room_for}
use Rattle.store.proofs.laws.Held.{clock-put}
use Rattle.store.proofs.laws.HeldLaws.{takes-near, held-taken, from_one}
use Rattle.pairs.specs.declared.Pair.{Pair}
use Rattle.pairs.specs.declared.Pairs.{Pairs}
use Rattle.pairs.specs.declared.Pairs.TheVariants.{Zero, One, Two}
use Rattle.pairs.specs.Pair.{listed, has}
use Rattle.combining.specs.Combining.{put_all}

-- ---- lists of shares

pub has-append : (ps qs : List Pair) (A : ℕ) (T : Dts) → has (ps ++ qs) A T ≡ (has ps A T || has qs A T)
has-append [] qs A T = refl
has-append (p ∷ ps) qs A T =
    ap (λ (x : Bool). (eqb A p.status && eqb T.0 p.stamp.0) || x) (has-append ps qs A T)
    ∙ regroup (eqb A p.status && eqb T.0 p.stamp.0) (has ps A T) (has qs A T)
  where
    regroup : (x y z : Bool) → (x || (y || z)) ≡ (x || y || z)
    regroup true y z = refl
    regroup false y z = refl

pub has-cond : (x : Bool) (ps : List Pair) (A : ℕ) (T : Dts) → has (cond x ps []) A T ≡ (x && has ps A T)
has-cond true ps A T = refl
has-cond false ps A T = refl

-- each is of an action, and fresh at the clock
abbrev NearOne : Dts → Pair → Type 0
NearOne t p = (p.status ≤ 1) × (fresh p.stamp t ≡ true)

abbrev pub Near : Dts → Pairs → Type 0
Near t Zero = Unit {0}
Near t (One p) = NearOne t p
Near t (Two p q) = NearOne t p × NearOne t q

one-fresh : (t : Dts) (p : Pair) (A : ℕ) (T : Dts) → NearOne t p → (eqb A p.status && eqb T.0 p.stamp.0) ≡ true → fresh T t ≡ true
one-fresh t p A T n e = fresh-same T p.stamp t ((and-eq-true_iff (eqb A p.status) (eqb T.0 p.stamp.0)).0 e).1 n.1

-- what such shares hold is fresh
pub near-fresh : (t : Dts) (sh : Pairs) (A : ℕ) (T : Dts) → Near t sh → has (listed sh) A T ≡ true → fresh T t ≡ true
near-fresh t Zero A T n e = absurd (false≢true e)
near-fresh t (One p) A T n e = go (eqb A p.status && eqb T.0 p.stamp.0) refl e
  where
    go : (x : Bool) → (eqb A p.status && eqb T.0 p.stamp.0) ≡ x → (x || false) ≡ true → fresh T t ≡ true
    go true ex e = one-fresh t p A T n ex
    go false ex e = absurd (false≢true e)
near-fresh t (Two p q) A T n e = go (eqb A p.status && eqb T.0 p.stamp.0) (eqb A q.status && eqb T.0 q.stamp.0) refl refl e
  where
    go : (x y : Bool) → (eqb A p.status && eqb T.0 p.stamp.0) ≡ x → (eqb A q.status && eqb T.0 q.stamp.0) ≡ y → (x || (y || false)) ≡ true
        → fresh T t ≡ true
    go true y ex ey e = one-fresh t p A T n.0 ex
    go false true ex ey e = one-fresh t q A T n.1 ey
    go false false ex ey e = absurd (false≢true e)

-- ---- shares that are put

pub held_all : (s : Store) (i : ℕ) (sh : Pairs) (A : ℕ) (T : Dts) (j : ℕ) → i < room → Near s.clock sh
    → held (put_all s i sh) A T j ≡ (eqb j i && has (listed sh) A T || held s A T j)
unfolding put_all
held_all s i Zero A T j l n = none (eqb j i)
  where
    none : (x : Bool) → held s A T j ≡ (x && false || held s A T j)
    none true = refl
    none false = refl
held_all s i (One p) A T j l n =
    held-taken s i p.status p.stamp A T j (takes-near s i p.status p.stamp l n.0 n.1)
    ∙ tidy (eqb A p.status && eqb T.0 p.stamp.0) (eqb j i)
  where
    tidy : (m z : Bool) → (m && z || held s A T j) ≡ (z && (m || false) || held s A T j)
    tidy true true = refl
    tidy true false = refl
    tidy false true = refl
    tidy false false = refl
held_all s i (Two p q) A T j l n =
    held-taken first i q.status q.stamp A T j second
    ∙ ap (λ (x : Bool). eqb A q.status && eqb T.0 q.stamp.0 && eqb j i || x)
    (held-taken s i p.status p.stamp A T j (takes-near s i p.status p.stamp l n.0.0 n.0.1))
    ∙ tidy (eqb A p.status && eqb T.0 p.stamp.0) (eqb A q.status && eqb T.0 q.stamp.0) (eqb j i)
  where
    first : Store
    first = put s i p.status p.stamp

    second : has_room_for first i q.status q.stamp ≡ true
    second = takes-near first i q.status q.stamp l n.1.0 (rw (clock-put s i p.status p.stamp) n.1.1)

    tidy : (m k z : Bool) → (k && z || (m && z || held s A T j)) ≡ (z && (m || (k || false)) || held s A T j)
    tidy true true true = refl
    tidy true false true = refl
    tidy false true true = refl
    tidy false false true = refl
    tidy true true false = refl
    tidy true false false = refl
    tidy false true false = refl
    tidy false false false = refl

pub clock-all : (s : Store) (i : ℕ) (sh : Pairs) → (put_all s i sh).clock ≡ s.clock
unfolding put_all
clock-all s i Zero = refl
clock-all s i (One p) = clock-put s i p.status p.stamp
clock-all s i (Two p q) = clock-put (put s i p.status p.stamp) i q.status q.stamp ∙ clock-put s i p.status p.stamp

-- whatever is held then was put now or held before
pub from_all : (s : Store) (i : ℕ) (sh : Pairs) (A : ℕ) (T : Dts) (j : ℕ) → held (put_all s i sh) A T j ≡ true
    → ((has (listed sh) A T ≡ true) × (eqb j i ≡ true)) ⊎ (held s A T j ≡ true)
unfolding put_all
from_all s i Zero A T j e = inr e
from_all s i (One p) A T j e = go (from_one s i p.status p.stamp A T j e)
  where
    go : (((eqb A p.status && eqb T.0 p.stamp.0) ≡ true) × (eqb j i ≡ true)) ⊎ (held s A T j ≡ true)
        → ((has (p ∷ []) A T ≡ true) × (eqb j i ≡ true)) ⊎ (held s A T j ≡ true)
    go (inl h) = inl (ap (λ (x : Bool). x || false) h.0, h.1)
    go (inr h) = inr h
from_all s i (Two p q) A T j e = go (from_one (put s i p.status p.stamp) i q.status q.stamp A T j e)
  where
    late : (x y : Bool) → y ≡ true → (x || (y || false)) ≡ true
    late true y e = refl
    late false true e = refl
    late false false e = absurd (false≢true e)

    again : (((eqb A p.status && eqb T.0 p.stamp.0) ≡ true) × (eqb j i ≡ true)) ⊎ (held s A T j ≡ true)
        → ((has (p ∷ q ∷ []) A T ≡ true) × (eqb j i ≡ true)) ⊎ (held s A T j ≡ true)
    again (inl h) = inl (ap (λ (x : Bool). x || has (q ∷ []) A T) h.0, h.1)
    again (inr h) = inr h

    go : (((eqb A q.status && eqb T.0 q.stamp.0) ≡ true) × (eqb j i ≡ true)) ⊎ (held (put s i p.status p.stamp) A T j ≡ true)
        → ((has (p ∷ q ∷ []) A T ≡ true) × (eqb j i ≡ true)) ⊎ (held s A T j ≡ true)
    go (inl h) = inl (late (eqb A p.status && eqb T.0 p.stamp.0) (eqb A q.status && eqb T.0 q.stamp.0) h.0, h.1)
    go (inr h) = again (from_one s i p.status p.stamp A T j h)
