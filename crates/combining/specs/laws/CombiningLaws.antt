-- What the combining rule leaves.
use Rattle.std.specs.Prelude.{ℕ, ◌≡◌, refl, Bool, true, false, ◌&&◌, ◌||◌, cond, ◌⊎◌, eqb, Option, Some, None}
use Rattle.time.specs.declared.Dts.{Dts}
use Rattle.std.proofs.Common.{sym, ap, subst, ◌∙◌, inl, inr, eq-eqb}
use Rattle.std.proofs.lemmas.Bool.{false≢true}
use Rattle.store.specs.declared.Store.{Store}
use Rattle.store.specs.Earliest.{earliest}
use Rattle.pairs.specs.declared.Pair.{Pair}
use Rattle.node.specs.declared.Learned.{Learned}
use Rattle.node.specs.declared.Record.{Record}
use Rattle.node.specs.declared.Phase.{Phase}
use Rattle.node.specs.declared.Phase.TheVariants.{Down, Starting, Running}
use Rattle.pairs.specs.Pair.{pair, listed, has}
use Rattle.pairs.specs.laws.KnownLaws.{is_known}
use Rattle.node.specs.State.{attempts, says_wait, state}
use Rattle.node.specs.laws.State.{same-no-wait}
use Rattle.node.specs.Asked.{phase_running, known_r, known_b}
use Rattle.node.specs.laws.PhaseLaws.{GoesOn, goes_same, goes-running, same-record}
use Rattle.combining.specs.Combining.{commanding, combined, ended, followed}

-- nothing is left to combine
abbrev pub Quiet : Record → Store → ℕ → Type 0
Quiet rec store f = attempts rec.r rec.b ≡ true → earliest store rec.r.status rec.b.stamp f ≡ None

pub combined-quiet : (rec : Record) (store : Store) (f : ℕ) → Quiet (combined rec store f).rec store f
unfolding combined
combined-quiet rec store f = go (attempts rec.r rec.b) (earliest store rec.r.status rec.b.stamp f) refl refl
  where
    go : (x : Bool) (e : Option Dts) → attempts rec.r rec.b ≡ x → earliest store rec.r.status rec.b.stamp f ≡ e
        → Quiet (cond x (commanding rec e) (record { rec = rec; command = None })).rec store f
    go false e ex ee = λ h. absurd (false≢true (sym ex ∙ h))
    go true None ex ee = λ h. ee
    go true (Some T) ex ee = λ h. absurd (false≢true (sym (simp (eq-eqb rec.r.status rec.r.status refl)) ∙ h))

pub combined-r : (rec : Record) (store : Store) (f : ℕ) → (combined rec store f).rec.r ≡ rec.r
unfolding combined
combined-r rec store f = go (attempts rec.r rec.b) (earliest store rec.r.status rec.b.stamp f)
  where
    go : (x : Bool) (e : Option Dts) → (cond x (commanding rec e) (record { rec = rec; command = None })).rec.r ≡ rec.r
    go false e = refl
    go true None = refl
    go true (Some T) = refl

-- a record's b is what it was, or the command that is sent
pub combined-b : (rec : Record) (store : Store) (f : ℕ)
    → ((combined rec store f).rec.b ≡ rec.b) ⊎ ((combined rec store f).command ≡ Some (combined rec store f).rec.b)
unfolding combined
combined-b rec store f = go (attempts rec.r rec.b) (earliest store rec.r.status rec.b.stamp f)
  where
    go : (x : Bool) (e : Option Dts)
        → ((cond x (commanding rec e) (record { rec = rec; command = None })).rec.b ≡ rec.b)
        ⊎ ((cond x (commanding rec e) (record { rec = rec; command = None })).command ≡ Some (cond x (commanding rec e) (record { rec = rec; command = None })).rec.b)
    go false e = inl refl
    go true None = inl refl
    go true (Some T) = inr refl

-- a record that does not wait does not wait afterwards: where a command is sent, the node is done
pub combined-no-wait : (rec : Record) (store : Store) (f : ℕ) → says_wait (state rec.r rec.b) ≡ false
    → says_wait (state (combined rec store f).rec.r (combined rec store f).rec.b) ≡ false
unfolding combined
combined-no-wait rec store f h = go (attempts rec.r rec.b) (earliest store rec.r.status rec.b.stamp f)
  where
    go : (x : Bool) (e : Option Dts)
        → says_wait (state (cond x (commanding rec e) (record { rec = rec; command = None })).rec.r (cond x (commanding rec e) (record { rec = rec; command = None })).rec.b) ≡ false
    go false e = h
    go true None = h
    go true (Some T) = same-no-wait rec.r (pair rec.r.status T) (eq-eqb rec.r.status rec.r.status refl)

-- ---- a phase at the end of an event

module _ (store : Store) (f : ℕ) where
  pub ended-r : (p : Phase) → known_r (ended p store f).phase ≡ known_r p
  ended-r Down = refl
  ended-r (Starting l) = refl
  ended-r (Running rec) = ap Some (combined-r rec store f)

  -- whether b is known is as it was
  pub ended-knows : (p : Phase) → is_known (known_b (ended p store f).phase) ≡ is_known (known_b p)
  ended-knows Down = refl
  ended-knows (Starting l) = refl
  ended-knows (Running rec) = refl

  pub ended-goes : (p : Phase) → GoesOn p (ended p store f).phase
  ended-goes Down = goes_same refl
  ended-goes (Starting l) = goes_same refl
  ended-goes (Running rec) = goes-running rec _

  -- it runs only if the event left it running
  pub ended-runs : (p : Phase) → phase_running (ended p store f).phase ≡ true → phase_running p ≡ true
  ended-runs Down e = e
  ended-runs (Starting l) e = e
  ended-runs (Running rec) e = refl

  pub ended-starting : (l : Learned) (p : Phase) → p ≡ Starting l → (ended p store f).phase ≡ Starting l
  ended-starting l p e = ap (λ (q : Phase). (ended q store f).phase) e

  -- a running node's b is what the event left, or the command that is sent; and nothing is left to combine
  pub ended-b : (p : Phase) (new : Record) → (ended p store f).phase ≡ Running new → (known_b p ≡ Some new.b) ⊎ ((ended p store f).command ≡ Some new.b)
  ended-b Down new e = absurd (false≢true (ap phase_running e))
  ended-b (Starting l) new e = absurd (false≢true (ap phase_running e))
  ended-b (Running rec) new e =
      subst (λ (x : Record). (Some rec.b ≡ Some x.b) ⊎ ((combined rec store f).command ≡ Some x.b)) (same-record _ new e) (go (combined-b rec store f))
    where
      go : ((combined rec store f).rec.b ≡ rec.b) ⊎ ((combined rec store f).command ≡ Some (combined rec store f).rec.b)
          → (Some rec.b ≡ Some (combined rec store f).rec.b) ⊎ ((combined rec store f).command ≡ Some (combined rec store f).rec.b)
      go (inl e) = inl (ap Some (sym e))
      go (inr e) = inr e

  pub ended-quiet : (p : Phase) (new : Record) → (ended p store f).phase ≡ Running new → Quiet new store f
  ended-quiet Down new e = absurd (false≢true (ap phase_running e))
  ended-quiet (Starting l) new e = absurd (false≢true (ap phase_running e))
  ended-quiet (Running rec) new e = subst (λ (x : Record). Quiet x store f) (same-record _ new e) (combined-quiet rec store f)

-- the command of the combining rule is among those sent
pub followed-has : (before : Option Pair) (p : Pair) → has (listed (followed before (Some p))) p.status p.stamp ≡ true
followed-has None p = simp (eq-eqb p.status p.status refl, eq-eqb p.stamp.0 p.stamp.0 refl)
followed-has (Some q) p = last (eqb p.status q.status && eqb p.stamp.0 q.stamp.0) _ self
  where
    self : (eqb p.status p.status && eqb p.stamp.0 p.stamp.0) ≡ true
    self = simp (eq-eqb p.status p.status refl, eq-eqb p.stamp.0 p.stamp.0 refl)

    last : (x y : Bool) → y ≡ true → (x || (y || false)) ≡ true
    last true y e = refl
    last false y e = ap (λ (z : Bool). z || false) e
