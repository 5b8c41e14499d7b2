-- A text is put into a buffer from a place on.
use Rattle.std.specs.Prelude.{ℕ, suc, ◌+◌, ◌<◌, ◌≤◌, ◌≡◌, refl, List, [], ◌∷◌, ◌++◌, length, set}
use Rattle.std.proofs.Common.{sym, ap, ap₂, ◌∙◌, add-zero, arith, length-append}
use Rattle.std.proofs.lemmas.List.Edits.{sets}
use Rattle.std.proofs.lemmas.List.{set_comm}
use Rattle.std.proofs.Math.Seq.{length-sets}

-- The buffer afterwards has the text from the place on and every other byte as before; the place handed back is the one after the text.
pub record Puts (before : List ℕ) (at : ℕ) (text : List ℕ) (after : List ℕ) (next : ℕ) : Type 0 where
  pub bytes : after ≡ sets before at text
  pub place : next ≡ at + length text

pub sets-append : (xs ys l : List ℕ) (i : ℕ) → sets l i (xs ++ ys) ≡ sets (sets l i xs) (i + length xs) ys
sets-append [] ys l i = ap (λ (k : ℕ). sets l k ys) (sym (add-zero i))
sets-append (x ∷ xs) ys l i =
    sets-append xs ys (set l i x) (suc i) ∙ ap (λ (k : ℕ). sets (sets (set l i x) (suc i) xs) k ys) (shift (length xs))
  where
    shift : (n : ℕ) → suc i + n ≡ i + suc n
    shift n = omega arith

-- one text after another
pub then : {a b c s t : List ℕ} {i j k : ℕ} → Puts a i s b j → Puts b j t c k → Puts a i (s ++ t) c k
then {a} {b} {c} {s} {t} {i} {j} {k} p q =
    record {
      bytes = q.bytes ∙ ap₂ (λ (l : List ℕ) (n : ℕ). sets l n t) p.bytes p.place ∙ sym (sets-append s t a i);
      place = omega (arith, p.place, q.place, length-append s t);
    }

-- the room that is left after a text, and after one byte
pub room-after : {a b s : List ℕ} {i j : ℕ} (m k : ℕ) → Puts a i s b j → length s ≤ m → i + (m + k) ≤ length a → j + k ≤ length b
room-after {a} {b} {s} {i} {j} m k p short room = omega (arith, p.place, ap length p.bytes, length-sets a i s)

pub room-byte : {a b : List ℕ} {x i j : ℕ} (k : ℕ) → Puts a i (x ∷ []) b j → i + suc k ≤ length a → j + k ≤ length b
room-byte {a} {b} {x} {i} {j} k p room = omega (arith, p.place, ap length p.bytes, length-sets a i (x ∷ []))

-- one byte before the others
pub set_front : (l ds : List ℕ) (p q d : ℕ) → p < q → set (sets l q ds) p d ≡ sets (set l p d) q ds
set_front l [] p q d h = refl
set_front l (x ∷ xs) p q d h =
    set_front (set l q x) xs p (suc q) d (omega arith) ∙ ap (λ (m : List ℕ). sets m (suc q) xs) (set_comm l q p x d (λ (e : q ≡ p). omega arith))
