-- What an event shares: the status that the relay said last, at the node's own clock or one ahead.
use Rattle.std.specs.Prelude.{ℕ, ◌+◌, ◌-◌, ◌≤◌, ◌≡◌, Bool, true, false, ◌&&◌, ◌||◌, ◌⊎◌, eqb, Option, None, Some}
use Rattle.std.proofs.Math.Path.{refl}
use Rattle.std.proofs.Common.{sym, ap, subst, ◌∙◌, inl, inr, arith, eqb-true, le-leb}
use Rattle.std.proofs.lemmas.Bool.{false≢true}
use Rattle.std.proofs.Math.Bool.{and-eq-true_iff}
use Rattle.time.specs.declared.Dts.{Dts}
use Rattle.time.specs.Fresh.{fresh, window, next}
use Rattle.time.specs.laws.Fresh.{latest_clock, next-is}
use Rattle.pairs.specs.declared.Pair.{Pair}
use Rattle.pairs.specs.declared.Pairs.{Pairs}
use Rattle.pairs.specs.declared.Pairs.TheVariants.{Zero, One, Two}
use Rattle.pairs.specs.Pair.{pair, listed, has}
use Rattle.node.specs.declared.Learned.{Learned}
use Rattle.node.specs.declared.Phase.{Phase}
use Rattle.node.specs.declared.Phase.TheVariants.{Starting}
use Rattle.node.specs.declared.Node.{Node}
use Rattle.node.specs.declared.Changed.{Changed}
use Rattle.node.specs.Asked.{phase_running, known_r}
use Rattle.combining.specs.Combining.{finished}
use Rattle.combining.specs.laws.OwnLaws.{Near}
use Rattle.breaker.specs.declared.Breaker.{Breaker}
use Rattle.steps.specs.declared.Event.{Event}
use Rattle.acting.specs.Acting.{changed_by, acted}
use Rattle.acting.specs.laws.ByEvent.{SharesLeft, no-shares, r-shared, runs_up, left_by}
use Rattle.acting.proofs.laws.Relay.{status_in, relay_after, told-r}

-- at its own clock, or one ahead
abbrev pub AtOwnClock : Dts → Dts → Type 0
AtOwnClock t T = (t.0 ≡ T.0) ⊎ (t.0 + 1 ≡ T.0)

-- the status that the relay said last, if it said one, is of an action
abbrev pub IsAction : Option ℕ → Type 0
IsAction None = Unit {0}
IsAction (Some A) = A ≤ 1

-- ---- a status with t alone, or with t and with t + 1

abbrev WithClock : ℕ → Dts → Pairs → Type 0
WithClock A t shares = (shares ≡ One (pair A t)) ⊎ (shares ≡ Two (pair A t) (pair A (next t)))

module _ (t : Dts) (m : t.0 ≤ latest_clock) where
  next-after : (next t).0 ≡ t.0 + 1
  next-after = next-is t (omega arith)

  own-clock : (status : ℕ) (shares : Pairs) (A : ℕ) (T : Dts) → WithClock status t shares → has (listed shares) A T ≡ true → (status ≡ A) × AtOwnClock t T
  own-clock status shares A T w h = go w
    where
      has_of : {qs : Pairs} → shares ≡ qs → has (listed qs) A T ≡ true
      has_of e = sym (ap (λ (ps : Pairs). has (listed ps) A T) e) ∙ h

      one_of : (U : Dts) → (eqb A status && eqb T.0 U.0) ≡ true → (status ≡ A) × (U.0 ≡ T.0)
      one_of U e =
          let p = (and-eq-true_iff (eqb A status) (eqb T.0 U.0)).0 e in
          (sym (eqb-true A status p.0), sym (eqb-true T.0 U.0 p.1))

      either : (x y : Bool) → (eqb A status && eqb T.0 t.0) ≡ x → (y ≡ true → (status ≡ A) × AtOwnClock t T) → (x || y) ≡ true → (status ≡ A) × AtOwnClock t T
      either true y ex other e = let q = one_of t ex in (q.0, inl q.1)
      either false y ex other e = other e

      second : (y : Bool) → (eqb A status && eqb T.0 (next t).0) ≡ y → (y || false) ≡ true → (status ≡ A) × AtOwnClock t T
      second true ey e = let q = one_of (next t) ey in (q.0, inr (sym next-after ∙ q.1))
      second false ey e = absurd (false≢true e)

      go : WithClock status t shares → (status ≡ A) × AtOwnClock t T
      go (inl e) = either _ false refl (λ no. absurd (false≢true no)) (has_of e)
      go (inr e) = either _ _ refl (second _ refl) (has_of e)

  fresh-self : fresh t t ≡ true
  fresh-self = simp (le-leb (t.0 - window) t.0 (omega arith), le-leb t.0 (t.0 + window) (omega arith))

  fresh-next : fresh (next t) t ≡ true
  fresh-next = rw next-after (simp (le-leb (t.0 - window) (t.0 + 1) (omega arith), le-leb (t.0 + 1) (t.0 + window) (omega arith)))

  near-clock : (status : ℕ) (shares : Pairs) → status ≤ 1 → WithClock status t shares → Near t shares
  near-clock status shares a (inl e) = subst (Near t) (sym e) (a, fresh-self)
  near-clock status shares a (inr e) = subst (Near t) (sym e) ((a, fresh-self), (a, fresh-next))

-- ---- before the combining rule

module _ (breaker : Breaker) (p : Phase) (t : Dts) (event : Event) where
  abbrev left : Changed
  left = changed_by breaker p t event

  abbrev last : Option ℕ
  last = relay_after event (status_in (known_r p))

  shares_left : SharesLeft p t left
  shares_left = (left_by breaker p t event).of_shares

  -- r's status is then the one that the relay said last
  of-relay : (r : Pair) → phase_running p ≡ true → known_r left.phase ≡ Some r → last ≡ Some r.status
  of-relay r runs is = sym (told-r breaker t p event (runs_up p runs)) ∙ ap status_in is

  pub shares-own : (A : ℕ) (T : Dts) → t.0 ≤ latest_clock → has (listed left.shares) A T ≡ true → (last ≡ Some A) × AtOwnClock t T
  shares-own A T m h = go shares_left
    where
      go : SharesLeft p t left → (last ≡ Some A) × AtOwnClock t T
      go (no-shares zero) = absurd (false≢true (sym (ap (λ (ps : Pairs). has (listed ps) A T) zero) ∙ h))
      go (r-shared r runs is w) =
          let q = own-clock t m r.status left.shares A T w h in
          (of-relay r runs is ∙ ap Some q.0, q.1)

  pub shares-near : t.0 ≤ latest_clock → IsAction last → Near t left.shares
  shares-near m a = go shares_left
    where
      go : SharesLeft p t left → Near t left.shares
      go (no-shares zero) = subst (Near t) (sym zero) tt
      go (r-shared r runs is w) = near-clock t m r.status left.shares (subst IsAction (of-relay r runs is) a) w

-- a node that starts up shares nothing, in the step in which it begins to run too
pub starting-shares : (breaker : Breaker) (l : Learned) (t : Dts) (event : Event) → (changed_by breaker (Starting l) t event).shares ≡ Zero
starting-shares breaker l t event = go (left_by breaker (Starting l) t event).of_shares
  where
    go : SharesLeft (Starting l) t (changed_by breaker (Starting l) t event) → (changed_by breaker (Starting l) t event).shares ≡ Zero
    go (no-shares zero) = zero
    go (r-shared r runs is w) = absurd (false≢true runs)

-- ---- at the end of the event

module _ (breaker : Breaker) (node : Node) (i f : ℕ) (t : Dts) (event : Event) where
  -- the end of an event leaves its shares
  pub acted-shares : (acted breaker node i f t event).shares ≡ (changed_by breaker node.phase t event).shares
  unfolding acted finished
  acted-shares = refl

  -- Whoever shares (A, T) does so at its own clock T or T − 1, and A is the status reported in this step or, at a timeout, that of r.
  pub shared : (A : ℕ) (T : Dts) → t.0 ≤ latest_clock → has (listed (acted breaker node i f t event).shares) A T ≡ true
      → (relay_after event (status_in (known_r node.phase)) ≡ Some A) × AtOwnClock t T
  shared A T m h = shares-own breaker node.phase t event A T m (rw acted-shares at h)
