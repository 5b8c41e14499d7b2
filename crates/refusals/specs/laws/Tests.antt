-- Laws of what Tests.antt defines.
use Rattle.std.specs.Prelude.{ℕ, ◌<◌, ◌≡◌, refl, Bool, true, false, ◌&&◌, cond, List, [], ◌∷◌, ◌++◌, eqb, Result, Ok, Err}
use Rattle.std.proofs.Common.{arith, sym, ap, ◌∙◌}
use Rattle.std.proofs.lemmas.Bool.{false≢true}
use Rattle.std.proofs.Math.Bool.{and-eq-true_iff}
use Rattle.refusals.specs.declared.Refusal.{Refusal}
use Rattle.refusals.specs.declared.Refusal.TheVariants.{BadStart, BadNumber, Compromised, WrongPhase, NotNow, ClockBack, NotFresh, NotVouchedFor, NotNew, NotAbove, NotArmed, NotRemembered, TooManyDown, LastClock, Unsound, Malformed}
use Rattle.refusals.specs.Numbers.{number}
use Rattle.refusals.specs.Tests.{Test, number_in, or_later, passed, refusal, test_at}

-- No refusal has the number 0, which means done.
pub numbered : (refusal : Refusal) → 0 < number refusal
numbered BadStart = omega arith
numbered BadNumber = omega arith
numbered Compromised = omega arith
numbered WrongPhase = omega arith
numbered NotNow = omega arith
numbered ClockBack = omega arith
numbered NotFresh = omega arith
numbered NotVouchedFor = omega arith
numbered NotNew = omega arith
numbered NotAbove = omega arith
numbered NotArmed = omega arith
numbered NotRemembered = omega arith
numbered TooManyDown = omega arith
numbered LastClock = omega arith
numbered Unsound = omega arith
numbered Malformed = omega arith

-- An answer has the number 0 exactly where it is not a refusal.
pub done-ok : (answer : Result (Unit {0}) Refusal) → number_in answer ≡ 0 → answer ≡ Ok tt
done-ok (Ok tt) e = refl
done-ok (Err refusal) e = absurd (omega (arith, numbered refusal, e))

-- Every test is passed exactly where there is no refusal.
pub passed-done : {R : Type 0} (ts : List (R × Bool)) → passed ts ≡ true → refusal ts ≡ Ok tt
unfolding refusal passed
passed-done [] e = refl
passed-done (t ∷ ts) e = go t.1 e (passed-done ts)
  where
    go : (b : Bool) → (b && passed ts) ≡ true → (passed ts ≡ true → refusal ts ≡ Ok tt) → cond b (refusal ts) (Err t.0) ≡ Ok tt
    go true e ih = ih e
    go false e ih = absurd (false≢true e)

pub done-passed : {R : Type 0} (ts : List (R × Bool)) → refusal ts ≡ Ok tt → passed ts ≡ true
unfolding refusal passed
done-passed [] e = refl
done-passed (t ∷ ts) e = go t.1 e (done-passed ts)
  where
    go : (b : Bool) → cond b (refusal ts) (Err t.0) ≡ Ok tt → (refusal ts ≡ Ok tt → passed ts ≡ true) → (b && passed ts) ≡ true
    go true e ih = ih e
    go false e ih = cc

-- Where there is no refusal, the test with any number is passed.
pub each-passed : (k : ℕ) (ts : List Test) → refusal ts ≡ Ok tt → test_at k ts ≡ true
unfolding passed
each-passed k ts e = within ts (done-passed ts e)
  where
    within : (ts : List Test) → passed ts ≡ true → test_at k ts ≡ true
    within [] h = refl
    within (t ∷ ts) h =
        let both = (and-eq-true_iff t.1 (passed ts)).0 h in
        one (eqb (number t.0) k) both.0 (within ts both.1)
      where
        one : (x : Bool) → t.1 ≡ true → test_at k ts ≡ true → cond x t.1 (test_at k ts) ≡ true
        one true here later = here
        one false here later = later

-- Two lists of tests, one after the other: the refusal of the first, or where that is passed, of the second.
pub appended : {R : Type 0} (ts us : List (R × Bool)) → or_later (refusal ts) (refusal us) ≡ refusal (ts ++ us)
unfolding refusal or_later
appended [] us = refl
appended (t ∷ ts) us = go t.1 (appended ts us)
  where
    go : (b : Bool) → or_later (refusal ts) (refusal us) ≡ refusal (ts ++ us)
        → or_later (cond b (refusal ts) (Err t.0)) (refusal us) ≡ cond b (refusal (ts ++ us)) (Err t.0)
    go true ih = ih
    go false ih = refl

pub fails : {R : Type 0} (ts us : List (R × Bool)) {fault : R} → refusal ts ≡ Err fault → refusal (ts ++ us) ≡ Err fault
unfolding or_later
fails {R} ts us e = sym (appended ts us) ∙ ap (λ (answer : Result (Unit {0}) R). or_later answer (refusal us)) e

pub goes_on : {R : Type 0} (ts us : List (R × Bool)) {done : Unit {0}} → refusal ts ≡ Ok done → refusal (ts ++ us) ≡ refusal us
unfolding or_later
goes_on {R} ts us e = sym (appended ts us) ∙ ap (λ (answer : Result (Unit {0}) R). or_later answer (refusal us)) e

-- Two tests with one refusal are one test.
pub one_number : {R : Type 0} (fault : R) (a b : Bool) (ts : List (R × Bool)) → refusal ((fault, a) ∷ (fault, b) ∷ ts) ≡ refusal ((fault, a && b) ∷ ts)
unfolding refusal
one_number fault true b ts = refl
one_number fault false b ts = refl
