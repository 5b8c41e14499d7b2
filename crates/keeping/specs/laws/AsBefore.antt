-- The store as it stood before §2 of 02 and the store of today: whatever is done with the two and asked of them comes to the same, for every store
-- and clock.
use Rattle.std.specs.Prelude.{ℕ, ◌+◌, ◌-◌, ◌%◌, ◌<◌, ◌≡◌, refl, Bool, true, false, cond, List, [], ◌∷◌, eqb, leb, ltb, length, get_or}
use Rattle.std.proofs.Common.{sym, ap, ap₂, ◌∙◌, arith, eq-eqb, eqb-true, lt-ltb, le-ltb, ltb-true, ltb-false, leb-false}
use Rattle.refusals.specs.laws.Bools.{both_ways}
use Rattle.time.specs.declared.Dts.{Dts}
use Rattle.senders.specs.Masks.{joined, within}
use Rattle.tables.specs.Tables.{table, get_d-table, is-table, length-table}
use Rattle.store.specs.declared.Store.{Store}
use Rattle.store.specs.Store.{stamps, places, has_place, place, set_at, senders_of, empty, put_at, put, turn, left_at, moved_to, store_within}
use Rattle.store.specs.laws.Places.{place-lt}
use Rattle.store.proofs.laws.WithinLaws.{each_within, within-each}
use Rattle.keeping.specs.laws.Keeping.{the_store, Change, Put, Move, after, earliest-is}
use Rattle.keeping.specs.laws.Alike.{earliest-by-senders}
use Rattle.keeping.specs.laws.Before.{place_before, senders_before, put_before, moved_from, moved_before, before, stood, stands, as_now, as_then, AsBefore}
use Rattle.keeping.specs.laws.Turning.{back, forth, turn-lt, last, passes, stays, stood-lt, stood-at}

set-now : (s : Store) (k : ℕ) → k < places → set_at (as_now s) k ≡ set_at s (stood s.clock k)
set-now s k l = get_d-table places (λ i. set_at s (stood s.clock i)) k 0 l

same-table : (p q : ℕ → ℕ) → ((k : ℕ) → k < places → p k ≡ q k) → table places p ≡ table places q
same-table p q h = is-table places (table places p) q 0 (length-table places p) (λ k l. get_d-table places p k 0 l ∙ h k l)

-- ---- what is asked

-- Who is held, for every action and stamp.
pub senders-as : (s : Store) (a : ℕ) (T : Dts) → senders_before s a T ≡ senders_of (as_now s) a T
unfolding senders_of
senders-as s a T = go (has_place s.clock a T) refl
  where
    go : (b : Bool) → has_place s.clock a T ≡ b → cond b (set_at s (place_before s.clock a T)) 0 ≡ cond b (set_at (as_now s) (place a T)) 0
    go true e = sym (set-now s (place a T) (place-lt s.clock a T e) ∙ ap (set_at s) (stood-at s.clock a T e))
    go false e = refl

-- What refusal 16 asks: each of the ten sets stood at some place, and at each place stood one of them.
pub within-as : (s : Store) (n : ℕ) → store_within s n ≡ store_within (as_now s) n
unfolding store_within turn
within-as s n = both_ways (store_within s n) (store_within (as_now s) n) (λ w. within-each n places (set_at (as_now s)) (now w)) (λ w. within-each n places (set_at s) (then w))
  where
    now : store_within s n ≡ true → (k : ℕ) → k < places → within (set_at (as_now s) k) n ≡ true
    now w k l = ap (λ (m : ℕ). within m n) (set-now s k l) ∙ each_within n places (set_at s) w (stood s.clock k) (stood-lt s.clock k l)

    then : store_within (as_now s) n ≡ true → (k : ℕ) → k < places → within (set_at s k) n ≡ true
    then w k l =
        ap (λ (m : ℕ). within m n) (sym (set-now s (stands s.clock k) (omega arith) ∙ ap (set_at s) (back s.clock k)))
        ∙ each_within n places (set_at (as_now s)) w (stands s.clock k) (omega arith)

-- ---- what is done

pub empty-as : (clock : Dts) → as_now (empty clock) ≡ empty clock
unfolding empty
empty-as clock =
    ap (λ (m : List ℕ). record { clock = clock; masks = m })
    (same-table (λ k. get_or (table places (λ i. 0)) (stood clock k) 0) (λ k. 0) (λ k l. get_d-table places (λ i. 0) (stood clock k) 0 (stood-lt clock k l)))

pub put_as : (s : Store) (i a : ℕ) (T : Dts) → as_now (put_before s i a T) ≡ put (as_now s) i a T
unfolding put turn
put_as s i a T = go (has_place s.clock a T) refl
  where
    p : ℕ
    p = place_before s.clock a T

    same_place : has_place s.clock a T ≡ true → (k : ℕ) → k < places → eqb (stood s.clock k) p ≡ eqb k (place a T)
    same_place e k l = both_ways (eqb (stood s.clock k) p) (eqb k (place a T)) to from
      where
        to : eqb (stood s.clock k) p ≡ true → eqb k (place a T) ≡ true
        to q =
            eq-eqb k (place a T)
            (sym (forth s.clock k) ∙ ap (stands s.clock) (eqb-true (stood s.clock k) p q ∙ sym (stood-at s.clock a T e)) ∙ forth s.clock (place a T))

        from : eqb k (place a T) ≡ true → eqb (stood s.clock k) p ≡ true
        from q = let h : k ≡ place a T = eqb-true k (place a T) q in eq-eqb (stood s.clock k) p (rw h (stood-at s.clock a T e))

    go : (b : Bool) → has_place s.clock a T ≡ b → as_now (cond b (put_at s i p) s) ≡ cond b (put_at (as_now s) i (place a T)) (as_now s)
    go true e =
        ap (λ (m : List ℕ). record { clock = s.clock; masks = m })
        (same-table (λ k. set_at (put_at s i p) (stood s.clock k)) (λ k. cond (eqb k (place a T)) (joined (set_at (as_now s) (place a T)) i) (set_at (as_now s) k))
        (λ k l.
        get_d-table places (λ j. cond (eqb j p) (joined (set_at s p) i) (set_at s j)) (stood s.clock k) 0 (stood-lt s.clock k l)
        ∙ three (same_place e k l) (sym (set-now s (place a T) (place-lt s.clock a T e) ∙ ap (set_at s) (stood-at s.clock a T e))) (sym (set-now s k l))))
      where
        three : {x y : Bool} {m m' n n' : ℕ} → x ≡ y → m ≡ m' → n ≡ n' → cond x (joined m i) n ≡ cond y (joined m' i) n'
        three {x} {y} {m} {m'} {n} {n'} e f g =
            ap (λ (b : Bool). cond b (joined m i) n) e ∙ ap₂ (λ (u v : ℕ). cond y (joined u i) v) f g
    go false e = refl

pub moved_as : (s : Store) (t : Dts) → as_now (moved_before s t) ≡ moved_to (as_now s) t
unfolding moved_to left_at
moved_as s t = go (leb t.0 s.clock.0) refl
  where
    by : ℕ
    by = t.0 - s.clock.0

    at : s.clock.0 < t.0 → (k : ℕ) → k < places → (b : Bool) → ltb (turn s.clock k) by ≡ b → moved_from s by (stood t k) ≡ cond b 0 (set_at (as_now s) k)
    at h k l true e =
        let q = passes s.clock t k h (ltb-true (turn s.clock k) by e) in
        ap (λ (b : Bool). cond b (set_at s (stood t k + by)) 0) (le-ltb (stood t k % stamps + by) stamps (omega (arith, last t k)))
    at h k l false e =
        let q = stays s.clock t k h (ltb-false (turn s.clock k) by e) in
        ap (λ (b : Bool). cond b (set_at s (stood t k + by)) 0) (lt-ltb (stood t k % stamps + by) stamps (omega (arith, last t k, turn-lt s.clock k)))
        ∙ ap (set_at s) (came k q)
        ∙ sym (set-now s k l)
      where
        came : (k : ℕ) → turn t k + by ≡ turn s.clock k → stood t k + by ≡ stood s.clock k
        came k q = omega arith

    go : (b : Bool) → leb t.0 s.clock.0 ≡ b
        → as_now (cond b s (record { clock = t; masks = table places (moved_from s by) }))
        ≡ cond b (as_now s) (record { clock = t; masks = table places (left_at (as_now s) by) })
    go true e = refl
    go false e =
        ap (λ (m : List ℕ). record { clock = t; masks = m })
        (same-table (λ k. get_or (table places (moved_from s by)) (stood t k) 0) (left_at (as_now s) by)
        (λ k l. get_d-table places (moved_from s by) (stood t k) 0 (stood-lt t k l) ∙ at (leb-false t.0 s.clock.0 e) k l (ltb (turn s.clock k) by) refl))

-- Whatever is done, one after the other.
pub as_before : (s : Store) (changes : List Change) → as_now (after before s changes) ≡ after the_store (as_now s) changes
as_before s [] = refl
as_before s (Put i a T ∷ rest) = as_before (put_before s i a T) rest ∙ ap (λ (x : Store). after the_store x rest) (put_as s i a T)
as_before s (Move t ∷ rest) = as_before (moved_before s t) rest ∙ ap (λ (x : Store). after the_store x rest) (moved_as s t)

answers-as : (s : Store) → AsBefore s (as_now s)
answers-as s = record {
  same-senders = senders-as s;
  same-earliest = λ a above f. earliest-by-senders before the_store s (as_now s) refl (senders-as s) a above f ∙ sym (earliest-is (as_now s) a above f);
  same-within = within-as s;
}

-- "Every answer stays the same": from every store, after whatever is done.
pub every-answer-stays : (s : Store) (changes : List Change) → AsBefore (after before s changes) (after the_store (as_now s) changes)
every-answer-stays s changes = rw (sym (as_before s changes)) (answers-as (after before s changes))

-- And every store that can be lent today is such a one.
pub now-and-then : (z : Store) → length z.masks ≡ places → as_now (as_then z) ≡ z
unfolding turn
now-and-then z e =
    ap (λ (m : List ℕ). record { clock = z.clock; masks = m })
    (sym
    (is-table places z.masks (λ k. set_at (as_then z) (stood z.clock k)) 0 e
    (λ k l. sym (get_d-table places (λ i. set_at z (stands z.clock i)) (stood z.clock k) 0 (stood-lt z.clock k l) ∙ ap (set_at z) (forth z.clock k)))))
