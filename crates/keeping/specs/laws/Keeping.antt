-- Ways of keeping shares: what is done with a store and what is asked of it, and the laws. The store of this crate is one way (`the_store`), and where it
-- has its sets is told by none of this.
use Rattle.std.specs.Prelude.{ℕ, ◌^◌, max, ◌≤◌, ◌<◌, ◌≡◌, refl, Bool, true, false, ◌&&◌, ◌||◌, List, [], ◌∷◌, eqb, ltb, Option}
use Rattle.time.specs.declared.Dts.{Dts}
use Rattle.time.specs.Fresh.{window, fresh}
use Rattle.senders.specs.Masks.{room, is_in, enough}
use Rattle.store.specs.declared.Store.{Store}
use Rattle.store.specs.Store.{has_place, senders_of, empty, put, moved_to, store_within}
use Rattle.store.specs.Held.{held, has_room_for}
use Rattle.store.proofs.laws.Held.{held-empty, held-put, clock-put, held_moved, clock-moved}
use Rattle.store.proofs.laws.WithinLaws.{within_held, held-within}
use Rattle.store.specs.Earliest.{dts, fresh_stamps, qualifies, first_of, earliest}

pub record Keeping : Type 1 where
  pub Kept : Type 0
  pub clock_of : Kept → Dts
  pub senders_in : Kept → ℕ → Dts → ℕ
  pub within_in : Kept → ℕ → Bool
  pub empty_at : Dts → Kept
  pub put_in : Kept → ℕ → ℕ → Dts → Kept
  pub moved_on : Kept → Dts → Kept

-- in the ten places, by who is held, what a share put leaves and what a later clock leaves
abbrev pub in_places : (Store → ℕ → Dts → ℕ) → (Store → ℕ → ℕ → Dts → Store) → (Store → Dts → Store) → Keeping
in_places senders puts moves = record {
  Kept = Store;
  clock_of = λ (s : Store). s.clock;
  senders_in = senders;
  within_in = store_within;
  empty_at = empty;
  put_in = puts;
  moved_on = moves;
}

abbrev pub the_store : Keeping
the_store = in_places senders_of put moved_to

-- what is done with a store, one after the other
pub data Change : Type 0 where
  Put : ℕ → ℕ → Dts → Change
  Move : Dts → Change

module _ (K : Keeping) where
  abbrev pub holds : K.Kept → ℕ → Dts → ℕ → Bool
  holds s a T i = is_in (K.senders_in s a T) i

  abbrev pub qualifies_in : K.Kept → ℕ → Dts → ℕ → ℕ → Bool
  qualifies_in s action above f T = ltb above.0 T && ltb T (2 ^ 32) && enough (K.senders_in s action (dts T)) f

  abbrev pub earliest_in : K.Kept → ℕ → Dts → ℕ → Option Dts
  earliest_in s action above f = first_of (qualifies_in s action above f) (fresh_stamps (K.clock_of s))

  abbrev pub after : K.Kept → List Change → K.Kept
  after s [] = s
  after s (Put i a T ∷ rest) = after (K.put_in s i a T) rest
  after s (Move t ∷ rest) = after (K.moved_on s t) rest

  -- the laws of Held and of WithinLaws
  pub record Laws : Type 0 where
    pub clock-empty : (clock : Dts) → K.clock_of (K.empty_at clock) ≡ clock
    pub empty_holds : (clock : Dts) (a : ℕ) (T : Dts) (i : ℕ) → holds (K.empty_at clock) a T i ≡ false
    pub put-clock : (s : K.Kept) (i a : ℕ) (T : Dts) → K.clock_of (K.put_in s i a T) ≡ K.clock_of s
    pub put_holds : (s : K.Kept) (i a : ℕ) (T : Dts) (b : ℕ) (U : Dts) (j : ℕ)
        → holds (K.put_in s i a T) b U j
        ≡ (has_place (K.clock_of s) a T && ltb i room && (eqb b a && eqb U.0 T.0) && eqb j i || holds s b U j)
    pub moved-clock : (s : K.Kept) (t : Dts) → (K.clock_of (K.moved_on s t)).0 ≡ max (K.clock_of s).0 t.0
    pub moved_holds : (s : K.Kept) (t : Dts) (a : ℕ) (T : Dts) (i : ℕ)
        → holds (K.moved_on s t) a T i ≡ (fresh T (K.clock_of (K.moved_on s t)) && holds s a T i)
    pub within-holds : (s : K.Kept) (n a : ℕ) (T : Dts) (i : ℕ) → K.within_in s n ≡ true → holds s a T i ≡ true → i < n
    pub holds-within : (s : K.Kept) (n : ℕ) → window ≤ (K.clock_of s).0 → ((a : ℕ) (T : Dts) (i : ℕ) → holds s a T i ≡ true → i < n) → K.within_in s n ≡ true

pub earliest-is : (s : Store) (a : ℕ) (above : Dts) (f : ℕ) → earliest s a above f ≡ earliest_in the_store s a above f
unfolding earliest qualifies
earliest-is s a above f = refl

-- The store of this crate has the laws.
pub store-laws : Laws the_store
unfolding held has_room_for empty
store-laws = record {
  clock-empty = λ clock. refl;
  empty_holds = held-empty;
  put-clock = clock-put;
  put_holds = held-put;
  moved-clock = clock-moved;
  moved_holds = held_moved;
  within-holds = within_held;
  holds-within = held-within;
}
