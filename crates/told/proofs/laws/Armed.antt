-- What is being resent is b: where a stamp is, it is b's, and the node is in Done. Nothing that a node is told ends that.
use Rattle.std.specs.Prelude.{ℕ, ◌≡◌, refl, Bool, true, false, not, ◌&&◌, cond, ◌⊎◌, eqb, leb, Option, Some, None}
use Rattle.std.proofs.Common.{sym, ap, subst, ◌∙◌, true≢false, inl, inr, eqb-true, eq-eqb}
use Rattle.std.proofs.lemmas.Bool.{false≢true}
use Rattle.time.specs.declared.Dts.{Dts}
use Rattle.pairs.specs.declared.Pair.{Pair}
use Rattle.steps.specs.Named.{query, Said, is_kind}
use Rattle.told.specs.Telling.{Knows, are_done, reported_as, relay_by, later_of, acked_as, heard_by, gives_up_by, returns_to, same_status, is_ack_of, leaves_done, knows_after}
use Rattle.told.proofs.laws.Exact.{AckOrReport}

-- the stamp T is resent: b has it, and r and b agree
abbrev pub Resends : Option Pair → Option Pair → Dts → Type 0
Resends r b T = (p : Pair) × (b ≡ Some p) × (p.stamp ≡ T) × (are_done r b ≡ true)

abbrev pub ArmedAs : Option Pair → Option Pair → Option Dts → Type 0
ArmedAs r b None = Unit {0}
ArmedAs r b (Some T) = Resends r b T

-- ---- a step, before the combining rule

-- an ack of another status that leaves the node in Done leaves b
stays : (change r : Option Pair) (p : Pair) → are_done r (Some p) ≡ true → same_status change (Some p) ≡ false → are_done r (later_of (Some p) change) ≡ true
    → later_of (Some p) change ≡ Some p
stays None r p done other still = refl
stays (Some c) None p done other still = absurd (false≢true done)
stays (Some c) (Some q) p done other still = go (leb p.stamp.0 c.stamp.0) still
  where
    go : (x : Bool) → eqb q.status (cond x c p).status ≡ true → Some (cond x c p) ≡ Some p
    go true e =
        let same : q.status ≡ p.status = eqb-true _ _ done in
        let now : q.status ≡ c.status = eqb-true _ _ e in
        absurd (true≢false (sym (eq-eqb c.status p.status (sym now ∙ same)) ∙ other))
    go false e = refl

-- what becomes of b in a step that is no query, and of which an ack is no report
heard : (back : Option ℕ) (changeNumber : ℕ → Option Pair) (r r' : Option Pair) (p : Pair) → (back ≡ None) ⊎ (r' ≡ r) → are_done r (Some p) ≡ true
    → is_ack_of back changeNumber (Some p) ≡ false → are_done r' (acked_as back changeNumber (Some p)) ≡ true → acked_as back changeNumber (Some p) ≡ Some p
heard None changeNumber r r' p one done other still = refl
heard (Some back) changeNumber r r' p (inl e) done other still = absurd (false≢true (ap there (sym e)))
  where
    there : Option ℕ → Bool
    there None = false
    there (Some x) = true
heard (Some back) changeNumber r r' p (inr e) done other still =
    stays (changeNumber back) r p done other (subst (λ (x : Option Pair). are_done x (later_of (Some p) (changeNumber back)) ≡ true) e still)

module _ (said : Said) (changeNumber : ℕ → Option Pair) (now : Pair) (t : Dts) (r b : Option Pair) (apart : AckOrReport said) where
  abbrev r' : Option Pair
  r' = relay_by said t b r

  abbrev b' : Option Pair
  b' = heard_by said changeNumber now b

  either : (said.back ≡ None) ⊎ (r' ≡ r)
  either = go apart
    where
      go : AckOrReport said → (said.back ≡ None) ⊎ (r' ≡ r)
      go (inl e) = inl e
      go (inr e) = inr (ap (λ (x : Bool). cond x (reported_as said.status t b) r) e)

  resent : (T : Dts) → is_kind said.kind query ≡ false → Resends r b T → is_ack_of said.back changeNumber b ≡ false → are_done r' b' ≡ true → Resends r' b' T
  resent T no-query (p, is, at, done) other still =
      let heard-is : b' ≡ acked_as said.back changeNumber b = ap (λ (x : Bool). cond x (Some now) (acked_as said.back changeNumber b)) no-query in
      let same : acked_as said.back changeNumber (Some p) ≡ Some p =
      heard said.back changeNumber r r' p either (subst (λ (x : Option Pair). are_done r x ≡ true) is done)
      (subst (λ (x : Option Pair). is_ack_of said.back changeNumber x ≡ false) is other)
      (subst (λ (x : Option Pair). are_done r' (acked_as said.back changeNumber x) ≡ true) is (subst (λ (x : Option Pair). are_done r' x ≡ true) heard-is still)) in
      (p, heard-is ∙ ap (acked_as said.back changeNumber) is ∙ same, at, still)

  -- where the stamp is not given up
  kept-left : (resend : Option Dts) → (is_kind said.kind query ≡ true → resend ≡ None) → ArmedAs r b resend
      → ArmedAs r' b' (cond (is_ack_of said.back changeNumber b) None (cond (leaves_done r b r' b') None resend))
  kept-left None asks armed = go (is_ack_of said.back changeNumber b) (leaves_done r b r' b')
    where
      go : (x y : Bool) → ArmedAs r' b' (cond x None (cond y None None))
      go true y = tt
      go false true = tt
      go false false = tt
  kept-left (Some T) asks armed = go (is_ack_of said.back changeNumber b) (are_done r' b') refl refl (is_kind said.kind query) refl
    where
      armed-off : Some T ≡ None → ⊥
      armed-off e = false≢true (ap is_off e)
        where
          is_off : Option Dts → Bool
          is_off (Some U) = false
          is_off None = true

      go : (x y : Bool) → is_ack_of said.back changeNumber b ≡ x → are_done r' b' ≡ y → (z : Bool) → is_kind said.kind query ≡ z
          → ArmedAs r' b' (cond x None (cond (are_done r b && not y) None (Some T)))
      go true y ex ey z ez = tt
      go false y ex ey true ez = absurd (armed-off (asks ez))
      go false true ex ey false ez = subst (λ (d : Bool). ArmedAs r' b' (cond (d && false) None (Some T))) (sym armed.3) (resent T ez armed ex ey)
      go false false ex ey false ez = subst (λ (d : Bool). ArmedAs r' b' (cond (d && true) None (Some T))) (sym armed.3) tt

-- for what had been told
abbrev pub ArmedIn : Knows → Type 0
ArmedIn k = ArmedAs k.r k.b k.resend

pub armed-left : (said : Said) (changeNumber : ℕ → Option Pair) (now : Pair) (t : Dts) (k : Knows) → AckOrReport said → (is_kind said.kind query ≡ true → k.resend ≡ None)
    → ArmedIn k → ArmedIn (knows_after said t changeNumber now None k)
armed-left said changeNumber now t k apart asks armed = go (gives_up_by said t k.resend)
  where
    r' : Option Pair
    r' = relay_by said t k.b k.r

    b' : Bool → Option Pair
    b' z = cond z (returns_to k.second k.b) (heard_by said changeNumber now k.b)

    go : (z : Bool) → ArmedAs r' (b' z) (cond z None (cond (is_ack_of said.back changeNumber k.b) None (cond (leaves_done k.r k.b r' (b' z)) None k.resend)))
    go true = tt
    go false = kept-left said changeNumber now t k.r k.b apart k.resend asks armed
