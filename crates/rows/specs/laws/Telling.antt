-- Which condition a test tells: laws for each form that a test has.
use Rattle.std.specs.Prelude.{ℕ, ◌≤◌, ◌<◌, ◌≡◌, refl, Bool, true, false, not, ◌&&◌, ◌||◌, ◌↔◌, ◌⊎◌, List, [], ◌∷◌, eqb, leb, ltb, Option, None, Some}
use Rattle.std.proofs.Common.{sym, ◌∙◌, true≢false, inl, inr, ltb-false, le-ltb, leb-false, eqb-true, eq-eqb, ne_eqb}
use Rattle.std.proofs.lemmas.Bool.{lt-leb, eqb-false, not-false}
use Rattle.rows.specs.Exactly.{Tells}
use Rattle.steps.specs.declared.Beginning.{Beginning}
use Rattle.steps.specs.Named.{StepKind, Kind-discrete, is_yes, is_kind, Of, OneOf, EachOf, AllOf, of_named, of_each, any_of, of_one}
use Rattle.refusing.specs.Tests.{unless_start}
use Rattle.rows.specs.Conditions.{NoStart}

pub itself : (a : Bool) → Tells a (a ≡ false)
itself a = (λ e. e, λ e. e)

pub above : (a b : ℕ) → Tells (leb a b) (b < a)
above a b = (leb-false a b, lt-leb a b)

pub from : (a b : ℕ) → Tells (ltb a b) (b ≤ a)
from a b = (ltb-false a b, le-ltb a b)

pub other : (a b : ℕ) → Tells (eqb a b) (a ≡ b → ⊥)
other a b = (eqb-false a b, ne_eqb a b)

pub negated : (a : Bool) → Tells (not a) (a ≡ true)
negated a = (not-false a, turned a)
  where
    turned : (a : Bool) → a ≡ true → not a ≡ false
    turned true e = refl
    turned false e = sym e

pub equal : (a b : ℕ) → Tells (not (eqb a b)) (a ≡ b)
equal a b = (λ e. eqb-true a b ((negated (eqb a b)).0 e), λ e. (negated (eqb a b)).1 (eq-eqb a b e))

-- one of two tests fails; both do
infixr 2 ◌or◌
infixr 3 ◌and◌
pub ◌or◌ : {a b : Bool} {A B : Type 0} → Tells a A → Tells b B → Tells (a && b) (A ⊎ B)
◌or◌ {a} {b} {A} {B} p q = go a p
  where
    go : (a : Bool) → Tells a A → Tells (a && b) (A ⊎ B)
    go true p = (λ e. inr (q.0 e), either)
      where
        either : A ⊎ B → b ≡ false
        either (inl x) = absurd (true≢false (p.1 x))
        either (inr y) = q.1 y
    go false p = (λ e. inl (p.0 refl), λ h. refl)

pub ◌and◌ : {a b : Bool} {A B : Type 0} → Tells a A → Tells b B → Tells (a || b) (A × B)
◌and◌ {a} {b} {A} {B} p q = go a p
  where
    go : (a : Bool) → Tells a A → Tells (a || b) (A × B)
    go true p = (λ e. absurd (true≢false e), λ h. p.1 h.0)
    go false p = (λ e. (p.0 refl, q.0 e), λ h. q.1 h.1)

-- another spelling of a test
pub spelled : {a b : Bool} {C : Type 0} → a ≡ b → Tells b C → Tells a C
spelled e tells = (λ h. tells.0 (sym e ∙ h), λ c. e ∙ tells.1 c)

-- another wording of a condition
pub worded : {a : Bool} {C D : Type 0} → C ↔ D → Tells a C → Tells a D
worded iff tells = (λ h. iff.0 (tells.0 h), λ d. tells.1 (iff.1 d))

-- of what a step may name
pub of-named : {A : Type 0} (o : Option A) {p : A → Bool} {P : A → Type 0} → ((a : A) → Tells (p a) (P a)) → Tells (of_named o p) (Of o P)
of-named None tells = (true≢false, absurd)
of-named (Some a) tells = tells a

pub of-each : {A : Type 0} (l : List A) {p : A → Bool} {P : A → Type 0} → ((a : A) → Tells (p a) (P a)) → Tells (of_each l p) (OneOf l P)
of-each [] tells = (true≢false, absurd)
of-each (a ∷ others) tells = tells a or of-each others tells

of-any : {A : Type 0} (l : List A) {p : A → Bool} {P : A → Type 0} → ((a : A) → Tells (p a) (P a)) → Tells (any_of l p) (EachOf l P)
of-any [] tells = (λ e. tt, λ h. refl)
of-any (a ∷ others) tells = tells a and of-any others tells

pub of-one : {A : Type 0} (l : List A) {p : A → Bool} {P : A → Type 0} → ((a : A) → Tells (p a) (P a)) → Tells (of_one l p) (AllOf l P)
of-one [] tells = (true≢false, absurd)
of-one (a ∷ others) tells = tells a and of-any others tells

-- a test of the kind
pub kind-is : (a b : StepKind) → Tells (not (is_kind a b)) (a ≡ b)
kind-is a b = go (Kind-discrete a b)
  where
    go : (d : Dec (a ≡ b)) → Tells (not (is_yes d)) (a ≡ b)
    go (yes e) = (λ h. e, λ h. refl)
    go (no ne) = (λ h. absurd (true≢false h), λ e. absurd (ne e))

-- any step but Start
pub no_start : (b : Option Beginning) {test : Bool} {C : Type 0} → Tells test C → Tells (unless_start b test) (NoStart b × C)
no_start (Some b) tells = (λ e. absurd (true≢false e), λ h. absurd h.0)
no_start None tells = (λ e. (tt, tells.0 e), λ h. tells.1 h.1)
