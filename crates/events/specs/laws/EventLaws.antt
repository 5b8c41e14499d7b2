-- What each event leaves: of r, of b, and whether the node runs then.
use Rattle.std.specs.Prelude.{ℕ, ◌≡◌, Bool, Option, Some, None}
use Rattle.std.proofs.Math.Path.{refl, sym, ap}
use Rattle.std.proofs.Common.{◌∙◌, true≢false}
use Rattle.std.proofs.Math.Bool.{true, false, not, cond}
use Rattle.std.proofs.lemmas.Bool.{false≢true}
use Rattle.time.specs.declared.Dts.{Dts}
use Rattle.time.specs.Fresh.{fresh}
use Rattle.pairs.specs.declared.Pair.{Pair}
use Rattle.pairs.specs.declared.Pairs.{Pairs}
use Rattle.pairs.specs.declared.Pairs.TheVariants.{Zero, One}
use Rattle.pairs.specs.Pair.{pair}
use Rattle.node.specs.declared.Learned.{Learned}
use Rattle.node.specs.declared.Record.{Record}
use Rattle.node.specs.declared.Changed.{Changed}
use Rattle.node.specs.declared.Phase.{Phase}
use Rattle.node.specs.declared.Phase.TheVariants.{Down, Starting, Running}
use Rattle.node.specs.Asked.{phase_down, phase_starting, known_r, known_b, known_second, resending}
use Rattle.node.specs.laws.PhaseLaws.{GoesOn, goes_same, goes-running}
use Rattle.events.specs.Events.{unchanged, begun, report_stamp, report_running, report_starting, reported, share_timed_out, sent_again, returned, given_up, resent_as, resend_timed_out, later_than, ack_running, ack_starting, acked, queried}

-- ---- start-up: what was learned stays known, and the node runs exactly when both are

module _ (second : Option Pair) (number : Option ℕ) where
  abbrev begins : Option Pair → Option Pair → Phase
  begins r b = (begun (record { r = r; b = b; second = second; number = number })).phase

  begun-r : (r b : Option Pair) → known_r (begins r b) ≡ r
  unfolding begun
  begun-r (Some r) (Some b) = refl
  begun-r (Some r) None = refl
  begun-r None b = refl

  begun-b : (r b : Option Pair) → known_b (begins r b) ≡ b
  unfolding begun
  begun-b (Some r) (Some b) = refl
  begun-b (Some r) None = refl
  begun-b None b = refl

  begun-second : (r b : Option Pair) → known_second (begins r b) ≡ second
  unfolding begun
  begun-second (Some r) (Some b) = refl
  begun-second (Some r) None = refl
  begun-second None b = refl

  begun-goes : (l : Learned) (r b : Option Pair) → GoesOn (Starting l) (begins r b)
  unfolding begun
  begun-goes l (Some r) (Some b) = record { not-down = refl; runs_on = λ e. refl; once-known = λ e. refl }
  begun-goes l (Some r) None = record { not-down = refl; runs_on = λ e. e; once-known = λ e. refl }
  begun-goes l None b = record { not-down = refl; runs_on = λ e. e; once-known = λ e. refl }

-- ---- Report: "It sets r to the status and t", with the stamp of §1; b and the second pair stay

module _ (t : Dts) (A number : ℕ) where
  pub report-r : (p : Phase) → not (phase_down p) ≡ true → known_r (reported p t A number).phase ≡ Some (pair A (report_stamp (known_b p) t))
  unfolding reported report_running report_starting
  report-r Down up = absurd (false≢true up)
  report-r (Starting l) up = begun-r l.second (Some number) (Some (pair A (report_stamp l.b t))) l.b
  report-r (Running rec) up = refl

  pub report-b : (p : Phase) → known_b (reported p t A number).phase ≡ known_b p
  unfolding reported report_running report_starting
  report-b Down = refl
  report-b (Starting l) = begun-b l.second (Some number) (Some (pair A (report_stamp l.b t))) l.b
  report-b (Running rec) = refl

  pub report-second : (p : Phase) → known_second (reported p t A number).phase ≡ known_second p
  unfolding reported report_running report_starting
  report-second Down = refl
  report-second (Starting l) = begun-second l.second (Some number) (Some (pair A (report_stamp l.b t))) l.b
  report-second (Running rec) = refl

  pub report-goes : (p : Phase) → GoesOn p (reported p t A number).phase
  unfolding reported report_running report_starting
  report-goes Down = goes_same refl
  report-goes (Starting l) = begun-goes l.second (Some number) l (Some (pair A (report_stamp l.b t))) l.b
  report-goes (Running rec) = goes-running rec _

-- ---- Share timeout: it leaves the phase

-- "Shares (r's status, t)", where there is an r and the node runs
abbrev pub timeout_shares : Phase → Dts → Pairs
timeout_shares Down t = Zero
timeout_shares (Starting l) t = Zero
timeout_shares (Running rec) t = One (pair rec.r.status t)

pub share-phase : (p : Phase) (t : Dts) → (share_timed_out p t).phase ≡ p
unfolding share_timed_out
share-phase Down t = refl
share-phase (Starting l) t = refl
share-phase (Running rec) t = refl

pub share-shares : (p : Phase) (t : Dts) → (share_timed_out p t).shares ≡ timeout_shares p t
unfolding share_timed_out
share-shares Down t = refl
share-shares (Starting l) t = refl
share-shares (Running rec) t = refl

-- ---- Resend timeout: it gives the stamp up where that is armed and no longer fresh, and leaves the phase where not; it shares nothing

abbrev pub stale : Dts → Option Dts → Bool
stale t (Some T) = not (fresh T t)
stale t None = false

-- b returns
abbrev pub gives_up : Dts → Phase → Bool
gives_up t p = stale t (resending p)

-- to the second pair, if there is one
abbrev pub back_to : Option Pair → Option Pair → Option Pair
back_to (Some second) b = Some second
back_to None b = b

module _ (t : Dts) where
  -- one clause for each case of a timeout: what it leaves is shown of all three by what is shown of each
  pub resent : (P : Record → Changed → Type 0) (rec : Record)
      → ((T : Dts) → rec.resend ≡ Some T → fresh T t ≡ true → P rec (sent_again rec T))
      → (gives_up t (Running rec) ≡ true → P rec (given_up rec)) → (rec.resend ≡ None → P rec (unchanged (Running rec))) → P rec (resend_timed_out (Running rec) t)
  unfolding resend_timed_out
  resent P rec sends returns stays = go rec.resend refl
    where
      go : (x : Option Dts) → rec.resend ≡ x → P rec (resent_as x rec t)
      go (Some T) e = by (fresh T t) refl
        where
          by : (y : Bool) → fresh T t ≡ y → P rec (cond y (sent_again rec T) (given_up rec))
          by true is = sends T e is
          by false is = returns (ap (stale t) e ∙ ap not is)
      go None e = stays e

  pub resend-shares : (p : Phase) → (resend_timed_out p t).shares ≡ Zero
  unfolding resend_timed_out given_up
  resend-shares Down = refl
  resend-shares (Starting l) = refl
  resend-shares (Running rec) = resent (λ x left. left.shares ≡ Zero) rec (λ T e is. refl) (λ e. refl) (λ e. refl)

  pub resend-r : (p : Phase) → known_r (resend_timed_out p t).phase ≡ known_r p
  unfolding resend_timed_out given_up
  resend-r Down = refl
  resend-r (Starting l) = refl
  resend-r (Running rec) = resent (λ x left. known_r left.phase ≡ Some x.r) rec (λ T e is. refl) (λ e. refl) (λ e. refl)

  pub resend-second : (p : Phase) → known_second (resend_timed_out p t).phase ≡ known_second p
  unfolding resend_timed_out given_up
  resend-second Down = refl
  resend-second (Starting l) = refl
  resend-second (Running rec) = resent (λ x left. known_second left.phase ≡ x.second) rec (λ T e is. refl) (λ e. refl) (λ e. refl)

  pub resend-b : (p : Phase) → known_b (resend_timed_out p t).phase ≡ cond (gives_up t p) (back_to (known_second p) (known_b p)) (known_b p)
  unfolding resend_timed_out given_up
  resend-b Down = refl
  resend-b (Starting l) = refl
  resend-b (Running rec) =
      resent (λ x left. known_b left.phase ≡ cond (gives_up t (Running x)) (back_to x.second (Some x.b)) (Some x.b)) rec
      (λ T e is. sym (ap (λ (y : Bool). cond y (back_to rec.second (Some rec.b)) (Some rec.b)) (ap (stale t) e ∙ ap not is)))
      (λ e. to rec.second ∙ sym (ap (λ (y : Bool). cond y (back_to rec.second (Some rec.b)) (Some rec.b)) e))
      (λ e. sym (ap (λ (x : Option Dts). cond (stale t x) (back_to rec.second (Some rec.b)) (Some rec.b)) e))
    where
      to : (k : Option Pair) → Some (returned k rec.b) ≡ back_to k (Some rec.b)
      to (Some second) = refl
      to None = refl

  pub resend-goes : (p : Phase) → GoesOn p (resend_timed_out p t).phase
  unfolding resend_timed_out given_up
  resend-goes Down = goes_same refl
  resend-goes (Starting l) = goes_same refl
  resend-goes (Running rec) = resent (λ x left. GoesOn (Running x) left.phase) rec (λ T e is. goes_same refl) (λ e. goes-running rec _) (λ e. goes_same refl)

  -- one that gives up disarms it
  pub given-up : (p : Phase) → gives_up t p ≡ true → (resending (resend_timed_out p t).phase ≡ None) × ((resend_timed_out p t).command ≡ None)
  unfolding resend_timed_out given_up
  given-up Down e = absurd (false≢true e)
  given-up (Starting l) e = absurd (false≢true e)
  given-up (Running rec) e =
      resent (λ x left. gives_up t (Running x) ≡ true → (resending left.phase ≡ None) × (left.command ≡ None)) rec
      (λ T is fresh-yet up. absurd (false≢true (sym (ap (stale t) is ∙ ap not fresh-yet) ∙ up)))
      (λ up up'. (refl, refl))
      (λ is up. absurd (false≢true (sym (ap (stale t) is) ∙ up)))
      e

-- ---- Ack: r stays; b and the second pair are known then, and each is the later of what it was and the change

module _ (change : Pair) where
  pub ack-r : (p : Phase) → known_r (acked p change).phase ≡ known_r p
  unfolding acked ack_running ack_starting
  ack-r Down = refl
  ack-r (Starting l) = begun-r (Some (later_than l.second change)) l.number l.r (Some (later_than l.b change))
  ack-r (Running rec) = refl

  pub ack-b : (p : Phase) → not (phase_down p) ≡ true → known_b (acked p change).phase ≡ Some (later_than (known_b p) change)
  unfolding acked ack_running ack_starting
  ack-b Down up = absurd (false≢true up)
  ack-b (Starting l) up = begun-b (Some (later_than l.second change)) l.number l.r (Some (later_than l.b change))
  ack-b (Running rec) up = refl

  pub ack-second : (p : Phase) → not (phase_down p) ≡ true → known_second (acked p change).phase ≡ Some (later_than (known_second p) change)
  unfolding acked ack_running ack_starting
  ack-second Down up = absurd (false≢true up)
  ack-second (Starting l) up = begun-second (Some (later_than l.second change)) l.number l.r (Some (later_than l.b change))
  ack-second (Running rec) up = refl

  pub ack-goes : (p : Phase) → GoesOn p (acked p change).phase
  unfolding acked ack_running ack_starting
  ack-goes Down = goes_same refl
  ack-goes (Starting l) = begun-goes (Some (later_than l.second change)) l.number l l.r (Some (later_than l.b change))
  ack-goes (Running rec) = goes-running rec _

  pub ack-shares : (p : Phase) → (acked p change).shares ≡ Zero
  unfolding acked ack_running ack_starting begun
  ack-shares Down = refl
  ack-shares (Starting l) = refl
  ack-shares (Running rec) = refl

-- ---- Query: r stays, and b and the second pair are the breaker's then; a running node stays as it was

module _ (breaker : Pair) where
  pub query-r : (p : Phase) → known_r (queried p breaker).phase ≡ known_r p
  unfolding queried
  query-r Down = refl
  query-r (Starting l) = begun-r (Some breaker) l.number l.r (Some breaker)
  query-r (Running rec) = refl

  pub query-b : (p : Phase) → phase_starting p ≡ true → known_b (queried p breaker).phase ≡ Some breaker
  unfolding queried
  query-b Down up = absurd (false≢true up)
  query-b (Starting l) up = begun-b (Some breaker) l.number l.r (Some breaker)
  query-b (Running rec) up = absurd (false≢true up)

  pub query-second : (p : Phase) → phase_starting p ≡ true → known_second (queried p breaker).phase ≡ Some breaker
  unfolding queried
  query-second Down up = absurd (false≢true up)
  query-second (Starting l) up = begun-second (Some breaker) l.number l.r (Some breaker)
  query-second (Running rec) up = absurd (false≢true up)

  pub query-phase : (p : Phase) → phase_starting p ≡ false → (queried p breaker).phase ≡ p
  unfolding queried
  query-phase Down up = refl
  query-phase (Starting l) up = absurd (true≢false up)
  query-phase (Running rec) up = refl

  pub query-goes : (p : Phase) → GoesOn p (queried p breaker).phase
  unfolding queried
  query-goes Down = goes_same refl
  query-goes (Starting l) = begun-goes (Some breaker) l.number l l.r (Some breaker)
  query-goes (Running rec) = goes_same refl

  pub query-shares : (p : Phase) → (queried p breaker).shares ≡ Zero
  unfolding queried begun
  query-shares Down = refl
  query-shares (Starting l) = refl
  query-shares (Running rec) = refl
