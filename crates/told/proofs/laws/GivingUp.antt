-- §9 of 02: no node sends a command whose stamp is no longer fresh, and a resend timeout that finds the stamp so leaves none of it.
use Rattle.std.specs.Prelude.{ℕ, ◌≤◌, ◌≡◌, Bool, not, ◌&&◌, ◌||◌, cond, eqb, Option, Some, None}
use Rattle.std.proofs.Math.Path.{refl, subst}
use Rattle.std.proofs.Common.{sym, ap, ◌∙◌, eqb-true}
use Rattle.std.proofs.Math.Bool.{true, false}
use Rattle.std.proofs.lemmas.Bool.{false≢true}
use Rattle.refusals.specs.laws.Bools.{right}
use Rattle.time.specs.declared.Dts.{Dts}
use Rattle.time.specs.Fresh.{fresh}
use Rattle.store.specs.declared.Store.{Store}
use Rattle.store.specs.Earliest.{qualifies, earliest}
use Rattle.pairs.specs.declared.Pair.{Pair}
use Rattle.pairs.specs.Pair.{pair, listed, has}
use Rattle.pairs.specs.laws.KnownLaws.{none-known, same_known}
use Rattle.node.specs.declared.Phase.{Phase}
use Rattle.node.specs.declared.Phase.TheVariants.{Down, Starting, Running}
use Rattle.node.specs.declared.Node.{Node}
use Rattle.node.specs.declared.Changed.{Changed}
use Rattle.node.specs.State.{attempts}
use Rattle.node.specs.Asked.{phase_down, resending, known_b}
use Rattle.combining.specs.Combining.{commanding, combined, ended, put_all, followed, finished}
use Rattle.events.specs.Events.{given_up, resend_timed_out}
use Rattle.events.specs.laws.EventLaws.{resent}
use Rattle.breaker.specs.declared.Breaker.{Breaker}
use Rattle.steps.specs.declared.Event.{Event}
use Rattle.steps.specs.declared.Event.TheVariants.{ResendTimeout}
use Rattle.steps.specs.Named.{resend_timeout, said_by, is_kind}
use Rattle.acting.specs.Acting.{changed_by, stored, acted}
use Rattle.acting.proofs.laws.Stores.{clock-of}
use Rattle.told.specs.Telling.{again_of, again_by, known_in}
use Rattle.told.proofs.laws.Exact.{told-by}
use Rattle.told.specs.laws.First.{first-is}

-- what a phase resends, if anything, is fresh
abbrev pub ResendsFresh : Dts → Phase → Type 0
ResendsFresh t p = (T : Dts) → resending p ≡ Some T → fresh T t ≡ true

-- and a command, if there is one
abbrev IsFresh : Dts → Option Pair → Type 0
IsFresh t k = (c : Pair) → k ≡ Some c → fresh c.stamp t ≡ true

armed-as : (T U : Dts) → Some T ≡ Some U → T ≡ U
armed-as T U e = ap stamp_or e
  where
    stamp_or : Option Dts → Dts
    stamp_or (Some W) = W
    stamp_or None = U

off-armed : {C : Type 0} (T : Dts) → None ≡ Some T → C
off-armed T e = absurd (false≢true (ap is_armed e))
  where
    is_armed : Option Dts → Bool
    is_armed (Some U) = true
    is_armed None = false

-- ---- the combining rule

module _ (store : Store) (f : ℕ) (t : Dts) (at : store.clock ≡ t) where
  found-fresh : (A : ℕ) (above T : Dts) → earliest store A above f ≡ Some T → fresh T t ≡ true
  unfolding earliest
  found-fresh A above T e = subst (λ (c : Dts). fresh T c ≡ true) at (first-is store.clock (qualifies store A above f) T e).is-fresh

  rule-fresh : (p : Phase) → IsFresh t (ended p store f).command
  unfolding combined
  rule-fresh Down c = λ e. absurd (none-known e)
  rule-fresh (Starting l) c = λ e. absurd (none-known e)
  rule-fresh (Running rec) c = go (attempts rec.r rec.b) (earliest store rec.r.status rec.b.stamp f) refl
    where
      go : (x : Bool) (e : Option Dts) → earliest store rec.r.status rec.b.stamp f ≡ e → (cond x (commanding rec e) (record { rec = rec; command = None })).command ≡ Some c
          → fresh c.stamp t ≡ true
      go false e found is = absurd (none-known is)
      go true None found is = absurd (none-known is)
      go true (Some T) found is =
          subst (λ (q : Pair). fresh q.stamp t ≡ true) (same_known (pair rec.r.status T) c is) (found-fresh rec.r.status rec.b.stamp T found)

  -- what it arms is what it sends
  ended-fresh : (p : Phase) → ResendsFresh t p → ResendsFresh t (ended p store f).phase
  unfolding combined
  ended-fresh Down so T = off-armed T
  ended-fresh (Starting l) so T = off-armed T
  ended-fresh (Running rec) so T = go (attempts rec.r rec.b) (earliest store rec.r.status rec.b.stamp f) refl
    where
      go : (x : Bool) (e : Option Dts) → earliest store rec.r.status rec.b.stamp f ≡ e
          → resending (Running (cond x (commanding rec e) (record { rec = rec; command = None })).rec) ≡ Some T → fresh T t ≡ true
      go false e found is = so T is
      go true None found is = so T is
      go true (Some U) found is = subst (λ (W : Dts). fresh W t ≡ true) (armed-as U T is) (found-fresh rec.r.status rec.b.stamp U found)

-- ---- a command that is sent again

again-fresh : (t : Dts) (resend : Option Dts) (b : Option Pair) → IsFresh t (again_of t resend b)
again-fresh t (Some T) (Some p) c = go (fresh T t) refl
  where
    go : (x : Bool) → fresh T t ≡ x → cond x (Some (pair p.status T)) None ≡ Some c → fresh c.stamp t ≡ true
    go true e is = subst (λ (q : Pair). fresh q.stamp t ≡ true) (same_known (pair p.status T) c is) e
    go false e is = absurd (none-known is)
again-fresh t (Some T) None c = λ is. absurd (none-known is)
again-fresh t None b c = λ is. absurd (none-known is)

timed-out-fresh : (t : Dts) (p : Phase) → ResendsFresh t (resend_timed_out p t).phase
unfolding resend_timed_out given_up
timed-out-fresh t Down = λ T e. off-armed T e
timed-out-fresh t (Starting l) = λ T e. off-armed T e
timed-out-fresh t (Running rec) =
    resent t (λ x left. ResendsFresh t left.phase) rec
    (λ T armed is U e. subst (λ (W : Dts). fresh W t ≡ true) (armed-as T U (sym armed ∙ e)) is)
    (λ up U e. off-armed U e)
    (λ off U e. off-armed U (sym off ∙ e))

-- ---- an event, to its end

module _ (breaker : Breaker) (node : Node) (i f : ℕ) (t : Dts) (up : not (phase_down node.phase) ≡ true) (l : node.store.clock.0 ≤ t.0) where
  -- after a resend timeout the stamp being resent is fresh: one that is not was given up
  pub timeout-fresh : ResendsFresh t (acted breaker node i f t ResendTimeout).node.phase
  unfolding acted finished changed_by
  timeout-fresh =
      ended-fresh (put_all (stored node.phase node.store t ResendTimeout) i (resend_timed_out node.phase t).shares) f t
      (clock-of breaker node i f t ResendTimeout up l) (resend_timed_out node.phase t).phase (timed-out-fresh t node.phase)

  -- every command that an event sends is fresh
  pub commands-fresh : (event : Event) (A : ℕ) (T : Dts) → has (listed (acted breaker node i f t event).commands) A T ≡ true → fresh T t ≡ true
  unfolding acted finished
  commands-fresh event A T =
      both left.command (ended left.phase own f).command
      (λ c e. own-again c (sym (told-by breaker t event node.phase).command ∙ e)) (rule-fresh own f t (clock-of breaker node i f t event up l) left.phase)
    where
      left : Changed
      left = changed_by breaker node.phase t event

      own : Store
      own = put_all (stored node.phase node.store t event) i left.shares

      own-again : IsFresh t (again_by (said_by event) t (known_in node.phase).resend (known_b node.phase))
      own-again c = go (is_kind (said_by event).kind resend_timeout)
        where
          go : (x : Bool) → cond x (again_of t (known_in node.phase).resend (known_b node.phase)) None ≡ Some c → fresh c.stamp t ≡ true
          go true e = again-fresh t (known_in node.phase).resend (known_b node.phase) c e
          go false e = absurd (none-known e)

      -- the pair itself
      one : (p : Pair) (x : Bool) → fresh p.stamp t ≡ true → (eqb A p.status && eqb T.0 p.stamp.0) ≡ x → x ≡ true → fresh T t ≡ true
      one p x is e h =
          subst (λ (U : Dts). fresh U t ≡ true)
          (ap (λ (k : ℕ). record { 0 = k }) (sym (eqb-true T.0 p.stamp.0 (right (eqb A p.status) (eqb T.0 p.stamp.0) (e ∙ h))))) is

      first-or : (x y : Bool) → ((x || y) ≡ true) → (x ≡ true → fresh T t ≡ true) → (y ≡ true → fresh T t ≡ true) → fresh T t ≡ true
      first-or true y h f g = f refl
      first-or false y h f g = g h

      both : (x c : Option Pair) → IsFresh t x → IsFresh t c → has (listed (followed x c)) A T ≡ true → fresh T t ≡ true
      both (Some p) (Some q) fp fq h =
          first-or _ _ h (λ e. one p _ (fp p refl) refl e) (λ g. first-or _ _ g (λ e. one q _ (fq q refl) refl e) (λ e. absurd (false≢true e)))
      both (Some p) None fp fq h = first-or _ _ h (λ e. one p _ (fp p refl) refl e) (λ e. absurd (false≢true e))
      both None (Some q) fp fq h = first-or _ _ h (λ e. one q _ (fq q refl) refl e) (λ e. absurd (false≢true e))
      both None None fp fq h = absurd (false≢true h)
