-- The arithmetic of places, for AsBefore: where a set stood and where it stands, and what becomes of the two as the clock goes up.
use Rattle.std.specs.Prelude.{ℕ, ◌+◌, ◌*◌, ◌-◌, ◌/◌, ◌%◌, ◌≤◌, ◌<◌, ◌≡◌, true}
use Rattle.std.proofs.Common.{sym, ap₂, ◌∙◌}
use Rattle.std.proofs.Math.Path.{ap}
use native.Mathlib.Omega.{arith}
use Rattle.time.specs.declared.Dts.{Dts}
use Rattle.store.specs.Store.{stamps, places, has_place, place, oldest, turn}
use Rattle.store.specs.laws.Places.{bounds}
use Rattle.keeping.specs.laws.Before.{place_before, stood, stands}

-- the one undoes the other, for any oldest place
module _ (q r o : ℕ) (h : r < stamps) (l : o < stamps) where
  there_and_back : (q * stamps + (r + o) % stamps) / stamps * stamps + (q * stamps + (r + o) % stamps + stamps - o) % stamps ≡ q * stamps + r
  there_and_back = omega arith

  back-and-there : (q * stamps + (q * stamps + r + stamps - o) % stamps) / stamps * stamps + ((q * stamps + (q * stamps + r + stamps - o) % stamps) % stamps + o) % stamps
      ≡ q * stamps + r
  back-and-there = over ((q * stamps + r + stamps - o) % stamps) (omega arith) (omega arith)
    where
      over : (x : ℕ) → x < stamps → (x + o) % stamps ≡ r → (q * stamps + x) / stamps * stamps + ((q * stamps + x) % stamps + o) % stamps ≡ q * stamps + r
      over x m e = ap₂ (λ (u v : ℕ). u * stamps + (v + o) % stamps) (high x m) (low x m) ∙ ap (λ (u : ℕ). q * stamps + u) e
        where
          high : (x : ℕ) → x < stamps → (q * stamps + x) / stamps ≡ q
          high x m = omega arith

          low : (x : ℕ) → x < stamps → (q * stamps + x) % stamps ≡ x
          low x m = omega arith

whole : (k : ℕ) → k / stamps * stamps + k % stamps ≡ k
whole k = omega arith

pub back : (clock : Dts) (k : ℕ) → stood clock (stands clock k) ≡ k
unfolding turn
back clock k = there_and_back (k / stamps) (k % stamps) (oldest clock) (omega arith) (omega arith) ∙ whole k

pub forth : (clock : Dts) (k : ℕ) → stands clock (stood clock k) ≡ k
unfolding turn
forth clock k =
    ap (λ (j : ℕ). stands clock (k / stamps * stamps + (j + stamps - oldest clock) % stamps)) (sym (whole k))
    ∙ back-and-there (k / stamps) (k % stamps) (oldest clock) (omega arith) (omega arith)
    ∙ whole k

pub turn-lt : (clock : Dts) (k : ℕ) → turn clock k < stamps
unfolding turn
turn-lt clock k = omega arith

pub last : (clock : Dts) (k : ℕ) → stood clock k % stamps ≡ turn clock k
last clock k = let l = turn-lt clock k in omega arith

-- where the clock goes up, a set that falls out would have stood below the places, and any other stood further up by as much
module _ (c t : Dts) (k : ℕ) (h : c.0 < t.0) where
  later : oldest t ≡ (oldest c + (t.0 - c.0)) % stamps
  later = omega arith

  pub passes : turn c k < t.0 - c.0 → stamps ≤ turn t k + (t.0 - c.0)
  unfolding turn
  passes l = rw later (below (oldest c) (t.0 - c.0) (omega arith) l)
    where
      below : (o d : ℕ) → o < stamps → (k + stamps - o) % stamps < d → stamps ≤ (k + stamps - (o + d) % stamps) % stamps + d
      below o d h l = omega arith

  pub stays : t.0 - c.0 ≤ turn c k → turn t k + (t.0 - c.0) ≡ turn c k
  unfolding turn
  stays l = ap (λ (x : ℕ). (k + stamps - x) % stamps + (t.0 - c.0)) later ∙ further (oldest c) (t.0 - c.0) (omega arith) l
    where
      further : (o d : ℕ) → o < stamps → d ≤ (k + stamps - o) % stamps → (k + stamps - (o + d) % stamps) % stamps + d ≡ (k + stamps - o) % stamps
      further o d h l = omega arith

pub stood-lt : (clock : Dts) (k : ℕ) → k < places → stood clock k < places
unfolding turn
stood-lt clock k l = omega arith

-- a stamp's set stood where the distance says
pub stood-at : (clock : Dts) (a : ℕ) (T : Dts) → has_place clock a T ≡ true → stood clock (place a T) ≡ place_before clock a T
unfolding turn
stood-at clock a T e =
    let b = bounds clock a T e in
    let x = b.action-fits in
    let y = b.not-old in
    let z = b.not-ahead in
    omega arith
