-- r after an event: a Report tells it, and no other event moves it.
use Rattle.std.specs.Prelude.{ℕ, ◌≡◌, Bool, true, false, not, ◌||◌, cond, [], ◌∷◌, Option, None, Some}
use Rattle.pairs.specs.declared.Pair.{Pair}
use Rattle.std.proofs.Common.{sym, ap, ◌∙◌, true≢false}
use Rattle.time.specs.declared.Dts.{Dts}
use Rattle.pairs.specs.laws.KnownLaws.{is_known}
use Rattle.node.specs.declared.Phase.{Phase}
use Rattle.node.specs.declared.Node.{Node}
use Rattle.node.specs.Asked.{phase_down, known_r}
use Rattle.combining.specs.Combining.{finished}
use Rattle.combining.specs.laws.CombiningLaws.{ended-r}
use Rattle.breaker.specs.declared.Breaker.{Breaker}
use Rattle.steps.specs.declared.Event.{Event}
use Rattle.steps.specs.Named.{report, said_by, among}
use Rattle.acting.specs.Acting.{changed_by, acted}
use Rattle.acting.specs.laws.ByEvent.{RelayLeft, r-stays, r-told, left_by}
pub use Rattle.acting.specs.laws.ByEvent.{reports}

abbrev pub status_in : Option Pair → Option ℕ
status_in (Some p) = Some p.status
status_in None = None

-- the status that the relay said last, for what it was before the event
abbrev pub relay_after : Event → Option ℕ → Option ℕ
relay_after event before = cond (reports event) (said_by event).status before

-- ---- before the combining rule

module _ (breaker : Breaker) (t : Dts) (p : Phase) (event : Event) where
  abbrev left : Phase
  left = (changed_by breaker p t event).phase

  relay-left : RelayLeft event p left
  relay-left = (left_by breaker p t event).of-phase.r

  pub kept-r : reports event ≡ false → known_r left ≡ known_r p
  kept-r e = go relay-left
    where
      go : RelayLeft event p left → known_r left ≡ known_r p
      go (r-stays no-report same) = same
      go (r-told is-report r says told) = absurd (true≢false (sym is-report ∙ e))

  pub told-r : not (phase_down p) ≡ true → status_in (known_r left) ≡ relay_after event (status_in (known_r p))
  told-r up = go relay-left
    where
      by : Bool → Option ℕ
      by x = cond x (said_by event).status (status_in (known_r p))

      go : RelayLeft event p left → status_in (known_r left) ≡ relay_after event (status_in (known_r p))
      go (r-stays no-report same) = ap status_in same ∙ sym (ap by no-report)
      go (r-told is-report r says told) = ap status_in (told up) ∙ sym says ∙ sym (ap by is-report)

  pub knows-r : not (phase_down p) ≡ true → is_known (known_r left) ≡ (among (said_by event).kind (report ∷ []) || is_known (known_r p))
  knows-r up = go relay-left
    where
      by : Bool → Bool
      by x = x || false || is_known (known_r p)

      go : RelayLeft event p left → is_known (known_r left) ≡ (among (said_by event).kind (report ∷ []) || is_known (known_r p))
      go (r-stays no-report same) = ap is_known same ∙ sym (ap by no-report)
      go (r-told is-report r says told) = ap is_known (told up) ∙ sym (ap by is-report)

-- ---- at the end of the event

module _ (breaker : Breaker) (node : Node) (i f : ℕ) (t : Dts) (event : Event) where
  pub acted-r : known_r (acted breaker node i f t event).node.phase ≡ known_r (changed_by breaker node.phase t event).phase
  unfolding acted finished
  acted-r = ended-r _ f (changed_by breaker node.phase t event).phase

  -- an event that is no Report leaves r
  pub relay-kept : reports event ≡ false → known_r (acted breaker node i f t event).node.phase ≡ known_r node.phase
  relay-kept e = acted-r ∙ kept-r breaker t node.phase event e

  -- a Report sets its status
  pub relay-told : not (phase_down node.phase) ≡ true
      → status_in (known_r (acted breaker node i f t event).node.phase) ≡ relay_after event (status_in (known_r node.phase))
  relay-told up = ap status_in acted-r ∙ told-r breaker t node.phase event up

  -- so r is known once a Report was taken
  pub relay-known : not (phase_down node.phase) ≡ true
      → is_known (known_r (acted breaker node i f t event).node.phase) ≡ (among (said_by event).kind (report ∷ []) || is_known (known_r node.phase))
  relay-known up = ap is_known acted-r ∙ knows-r breaker t node.phase event up
