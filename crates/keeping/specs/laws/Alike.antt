-- "Every answer stays the same" (02, §2). The laws fix what a store answers: stores that agree on clock and on what is held answer alike, and go on so,
-- wherever the one and the other have their sets.
use Rattle.std.specs.Prelude.{ℕ, ◌^◌, max, ◌≤◌, ◌≡◌, refl, Bool, ◌&&◌, ◌||◌, cond, List, [], ◌∷◌, eqb, ltb, Option, Some}
use Rattle.std.proofs.Common.{sym, ap, ap₂, ◌∙◌}
use Rattle.refusals.specs.laws.Bools.{both_ways}
use Rattle.time.specs.declared.Dts.{Dts}
use Rattle.time.specs.Fresh.{window, fresh}
use Rattle.senders.specs.Masks.{room, enough}
use Rattle.senders.proofs.laws.MaskLaws.{same_bits}
use Rattle.store.specs.declared.Store.{Store}
use Rattle.store.specs.Store.{has_place}
use Rattle.store.specs.Held.{held}
use Rattle.store.specs.Earliest.{dts, fresh_stamps, first_of}
use Rattle.keeping.specs.laws.Keeping.{Keeping, Laws, the_store, store-laws, Change, Put, Move, holds, qualifies_in, earliest_in, after}

module _ (K L : Keeping) where
  -- two stores agree on clock and on what is held
  pub record Alike (s : K.Kept) (z : L.Kept) : Type 0 where
    pub same-clock : K.clock_of s ≡ L.clock_of z
    pub same-held : (a : ℕ) (T : Dts) (i : ℕ) → holds K s a T i ≡ holds L z a T i

  -- they answer alike, whatever is asked; below clock 2 some places are no stamp's, and what stands there is seen by refusal 16 alone
  pub record AnswerAlike (s : K.Kept) (z : L.Kept) : Type 0 where
    pub same-senders : (a : ℕ) (T : Dts) → K.senders_in s a T ≡ L.senders_in z a T
    pub same-earliest : (a : ℕ) (above : Dts) (f : ℕ) → earliest_in K s a above f ≡ earliest_in L z a above f
    pub same-within : (n : ℕ) → window ≤ (K.clock_of s).0 → K.within_in s n ≡ L.within_in z n

-- the earliest stamp follows from the clock and the senders
pub earliest-by-senders : (K L : Keeping) (s : K.Kept) (z : L.Kept) → K.clock_of s ≡ L.clock_of z
    → ((a : ℕ) (T : Dts) → K.senders_in s a T ≡ L.senders_in z a T)
    → (a : ℕ) (above : Dts) (f : ℕ) → earliest_in K s a above f ≡ earliest_in L z a above f
earliest-by-senders K L s z c h a above f =
    each (fresh_stamps (K.clock_of s)) ∙ ap (λ (d : Dts). first_of (λ T. qualifies_in L z a above f T) (fresh_stamps d)) c
  where
    each : (stamps : List ℕ) → first_of (λ T. qualifies_in K s a above f T) stamps ≡ first_of (λ T. qualifies_in L z a above f T) stamps
    each [] = refl
    each (T ∷ rest) =
        ap₂ (λ (m : ℕ) (r : Option Dts). cond (ltb above.0 T && ltb T (2 ^ 32) && enough m f) (Some (dts T)) r) (h a (dts T)) (each rest)

module _ (K L : Keeping) (k : Laws K) (l : Laws L) where
  pub alike-empty : (clock : Dts) → Alike K L (K.empty_at clock) (L.empty_at clock)
  alike-empty clock = record {
    same-clock = k.clock-empty clock ∙ sym (l.clock-empty clock);
    same-held = λ a T i. k.empty_holds clock a T i ∙ sym (l.empty_holds clock a T i);
  }

  module _ (s : K.Kept) (z : L.Kept) (h : Alike K L s z) where
    pub alike-put : (i a : ℕ) (T : Dts) → Alike K L (K.put_in s i a T) (L.put_in z i a T)
    alike-put i a T = record {
      same-clock = k.put-clock s i a T ∙ h.same-clock ∙ sym (l.put-clock z i a T);
      same-held = λ b U j.
          k.put_holds s i a T b U j
          ∙ ap₂ (λ (c : Dts) (x : Bool). has_place c a T && ltb i room && (eqb b a && eqb U.0 T.0) && eqb j i || x) h.same-clock (h.same-held b U j)
          ∙ sym (l.put_holds z i a T b U j);
    }

    same-later : (t : Dts) → K.clock_of (K.moved_on s t) ≡ L.clock_of (L.moved_on z t)
    same-later t =
        ap dts (k.moved-clock s t ∙ ap (λ (c : Dts). max c.0 t.0) h.same-clock ∙ sym (l.moved-clock z t))

    pub alike_moved : (t : Dts) → Alike K L (K.moved_on s t) (L.moved_on z t)
    alike_moved t = record {
      same-clock = same-later t;
      same-held = λ a T i.
          k.moved_holds s t a T i
          ∙ ap₂ (λ (c : Dts) (x : Bool). fresh T c && x) (same-later t) (h.same-held a T i)
          ∙ sym (l.moved_holds z t a T i);
    }

    same-sets : (a : ℕ) (T : Dts) → K.senders_in s a T ≡ L.senders_in z a T
    same-sets a T = same_bits (K.senders_in s a T) (L.senders_in z a T) (h.same-held a T)

    -- what is asked of two that agree
    answers : AnswerAlike K L s z
    answers = record {
      same-senders = same-sets;
      same-earliest = earliest-by-senders K L s z h.same-clock same-sets;
      same-within = λ n c. both_ways
          (K.within_in s n)
          (L.within_in z n)
          (λ w. l.holds-within z n (rw (sym h.same-clock) c) (λ a T i e. k.within-holds s n a T i w (h.same-held a T i ∙ e)))
          (λ w. k.holds-within s n c (λ a T i e. l.within-holds z n a T i w (sym (h.same-held a T i) ∙ e)));
    }

  alike-after : (s : K.Kept) (z : L.Kept) → Alike K L s z → (changes : List Change) → Alike K L (after K s changes) (after L z changes)
  alike-after s z h [] = h
  alike-after s z h (Put i a T ∷ rest) = alike-after (K.put_in s i a T) (L.put_in z i a T) (alike-put s z h i a T) rest
  alike-after s z h (Move t ∷ rest) = alike-after (K.moved_on s t) (L.moved_on z t) (alike_moved s z h t) rest

  -- Stores that agree on clock and on what is held answer alike after whatever is done with both.
  pub alike-always : (s : K.Kept) (z : L.Kept) → Alike K L s z → (changes : List Change) → AnswerAlike K L (after K s changes) (after L z changes)
  alike-always s z h changes = answers (after K s changes) (after L z changes) (alike-after s z h changes)

-- Of two stores of this crate.
pub same-answers : (s z : Store) → s.clock ≡ z.clock → ((a : ℕ) (T : Dts) (i : ℕ) → held s a T i ≡ held z a T i)
    → (changes : List Change) → AnswerAlike the_store the_store (after the_store s changes) (after the_store z changes)
unfolding held
same-answers s z c h = alike-always the_store the_store store-laws store-laws s z (record { same-clock = c; same-held = h })
