-- Laws of what Fresh.antt defines.
use Rattle.std.specs.Prelude.{◌≡◌, ℕ, ◌+◌, ◌-◌, ◌^◌, ◌<◌, ◌≤◌, Bool, true, false, ◌&&◌, ◌==◌, nat_le, refl}
use Rattle.std.proofs.Common.{ap, mod-eq_of_lt, arith, le-leb, leb-true, leb-false, eqb-true}
use Rattle.std.proofs.Math.Bool.{and-eq-true_iff}
use Rattle.std.proofs.lemmas.Bool.{lt-leb}
use Rattle.time.specs.declared.Dts.{Dts}
use Rattle.time.specs.Fresh.{fresh, fresh_at, next, window}

-- the last clock that a step can name: "so t may be 1,000,000,001"
abbrev pub latest_clock : ℕ
latest_clock = 1_000_000_001

-- the same with sums alone
pub fresh-sums : (T t : ℕ) → fresh_at T t ≡ (nat_le t (T + window) && nat_le T (t + window))
fresh-sums T t = ap (λ (b : Bool). b && nat_le T (t + window)) (go (nat_le t (T + window)) refl)
  where
    go : (b : Bool) → nat_le t (T + window) ≡ b → nat_le (t - window) T ≡ b
    go true e = le-leb (t - window) T (omega (arith, leb-true))
    go false e = lt-leb (t - window) T (omega (arith, leb-false))

-- a stamp is fresh when its number is
pub fresh-same : (T U t : Dts) → (T.0 == U.0) ≡ true → fresh U t ≡ true → fresh T t ≡ true
fresh-same T U t e h = let p : T.0 ≡ U.0 = eqb-true T.0 U.0 e in rw p h

-- fresh at a later clock, and not ahead of the earlier one: fresh then
pub fresh-then : (T c t : Dts) → c.0 ≤ t.0 → T.0 ≤ c.0 + window → fresh T t ≡ true → fresh T c ≡ true
fresh-then T c t l h e =
    let q = (and-eq-true_iff (nat_le (t.0 - window) T.0) (nat_le T.0 (t.0 + window))).0 e in
    let low : t.0 - window ≤ T.0 = leb-true _ _ q.0 in
    simp (le-leb (c.0 - window) T.0 (omega arith), le-leb T.0 (c.0 + window) h)

pub fresh-ahead : (T t : Dts) → fresh T t ≡ true → T.0 ≤ t.0 + window
fresh-ahead T t e = leb-true _ _ ((and-eq-true_iff (nat_le (t.0 - window) T.0) (nat_le T.0 (t.0 + window))).0 e).1

pub next-is : (t : Dts) → t.0 + 1 < 2 ^ 32 → (next t).0 ≡ t.0 + 1
unfolding next
next-is t h = mod-eq_of_lt h
