-- Every event does what the step tells the node: of r, b, the number and resend, before the combining rule and after it; and what it shares and sends again.
use Rattle.std.specs.Prelude.{ℕ, ◌≡◌, Bool, ◌&&◌, [], ◌∷◌, ◌⊎◌, Option, Some, None}
use Rattle.std.proofs.Math.Path.{refl, sym, ap, ap₂}
use Rattle.std.proofs.Common.{◌∙◌}
use Rattle.std.proofs.Math.Bool.{true, false, not, cond, and-not_self}
use Rattle.std.proofs.lemmas.Bool.{false≢true}
use Rattle.std.proofs.Math.Logic.{inl, inr}
use Rattle.time.specs.declared.Dts.{Dts}
use Rattle.time.specs.Fresh.{fresh}
use Rattle.time.specs.Larger.{larger}
use Rattle.pairs.specs.declared.Pair.{Pair}
use Rattle.pairs.specs.declared.Pairs.TheVariants.{Zero}
use Rattle.pairs.specs.Pair.{pair}
use Rattle.pairs.specs.laws.KnownLaws.{is_known}
use Rattle.node.specs.declared.Learned.{Learned}
use Rattle.node.specs.declared.Phase.{Phase}
use Rattle.node.specs.declared.Phase.TheVariants.{Down, Starting, Running}
use Rattle.node.specs.Asked.{phase_down, phase_starting, phase_running, known_r, known_b}
use Rattle.node.specs.laws.PhaseLaws.{RunsOnceKnown}
use Rattle.events.specs.Events.{begun, report_stamp, kept, report_shares, report_running, report_starting, reported, share_timed_out, returned, given_up, resend_timed_out, later_than, ack_resend, ack_running, ack_starting, acked, queried}
use Rattle.events.specs.laws.EventLaws.{share-phase, share-shares, stale, resent, resend-shares, query-shares}
use Rattle.breaker.specs.declared.Breaker.{Breaker}
use Rattle.breaker.specs.Breaker.{change_at}
use Rattle.steps.specs.declared.Event.{Event}
use Rattle.steps.specs.declared.Event.TheVariants.{Report, Deliver, DeliverPair, ShareTimeout, ResendTimeout, Ack, Query}
use Rattle.steps.specs.Named.{StepKind, report, share_timeout, resend_timeout, ack, query, down, Said, said_by, is_kind, among}
use Rattle.acting.specs.Acting.{acked_by, changed_by}
use Rattle.acting.specs.laws.ByEvent.{remembers}
use Rattle.told.specs.Telling.{Knows, are_done, relay_by, later_of, is_stale, gives_up_by, returns_to, is_ack_of, leaves_done, resend_by, shares_by, again_of, again_by, knows_after, known_in}

-- ---- start-up: what was learned stays known, and nothing is resent

begun-knows : (r b second : Option Pair) (number : Option ℕ)
    → known_in (begun (record { r = r; b = b; second = second; number = number })).phase ≡ record { r = r; b = b; second = second; number = number; resend = None }
unfolding begun
begun-knows (Some r) (Some b) second number = refl
begun-knows (Some r) None second number = refl
begun-knows None b second number = refl

pub off-stays : (said : Said) (t : Dts) (changeNumber : ℕ → Option Pair) (r b r' b' : Option Pair) → None ≡ resend_by said t changeNumber r b r' b' None
off-stays said t changeNumber r b r' b' = go (gives_up_by said t None) (is_ack_of said.back changeNumber b) (leaves_done r b r' b')
  where
    go : (z x y : Bool) → ◌≡◌ {A = Option Dts} None (cond z None (cond x None (cond y None None)))
    go true x y = refl
    go false true y = refl
    go false false true = refl
    go false false false = refl

-- ---- where nothing is said of a field it stays

same-knows : (k : Knows)
    → record { r = k.r; b = k.b; second = k.second; number = k.number; resend = cond (are_done k.r k.b && not (are_done k.r k.b)) None k.resend } ≡ k
same-knows k =
    ap (λ (x : Bool). record { r = k.r; b = k.b; second = k.second; number = k.number; resend = cond x None k.resend }) (and-not_self (are_done k.r k.b))

-- ---- what each event leaves, before the combining rule

-- an ack is no report
abbrev pub AckOrReport : Said → Type 0
AckOrReport said = (said.back ≡ None) ⊎ (is_kind said.kind report ≡ false)

-- a step that sends a command again is no report, no query and no ack
abbrev pub AgainAlone : Said → Type 0
AgainAlone said =
    (is_kind said.kind resend_timeout ≡ false) ⊎ ((is_kind said.kind report ≡ false) × (is_kind said.kind query ≡ false) × (said.back ≡ None))

-- the phase takes such a step: Query is for starting nodes only, a share timeout for running ones
pub record Suits (p : Phase) (kind : StepKind) : Type 0 where
  pub starts : is_kind kind query ≡ true → phase_starting p ≡ true
  pub times-out : is_kind kind share_timeout ≡ true → phase_running p ≡ true

module _ (breaker : Breaker) (t : Dts) where
  -- what the node has been told, with no command sent yet
  abbrev pub told : Event → Phase → Knows
  told event p = knows_after (said_by event) t (change_at breaker) breaker.pair None (known_in p)

  report-starting : (A number : ℕ) (l : Learned) → known_in (report_starting l (pair A (report_stamp l.b t)) number).phase ≡ told (Report A number) (Starting l)
  unfolding report_starting
  report-starting A number l = begun-knows (Some (pair A (report_stamp l.b t))) l.b l.second (Some number) ∙ go l.b
    where
      go : (b : Option Pair) → record { r = Some (pair A (report_stamp b t)); b = b; second = l.second; number = Some number; resend = None }
          ≡ told (Report A number) (Starting (record { r = l.r; b = b; second = l.second; number = l.number }))
      go (Some b) =
          ap (λ (x : Option Dts). record { r = Some (pair A (larger t b.stamp)); b = Some b; second = l.second; number = Some number; resend = x })
          (off-stays (said_by (Report A number)) t (change_at breaker) l.r (Some b) (Some (pair A (larger t b.stamp))) (Some b))
      go None =
          ap (λ (x : Option Dts). record { r = Some (pair A t); b = None; second = l.second; number = Some number; resend = x })
          (off-stays (said_by (Report A number)) t (change_at breaker) l.r None (Some (pair A t)) None)

  report-knows : (A number : ℕ) (p : Phase) → not (phase_down p) ≡ true → known_in (reported p t A number).phase ≡ told (Report A number) p
  unfolding reported report_running kept
  report-knows A number Down up = absurd (false≢true up)
  report-knows A number (Starting l) up = report-starting A number l
  report-knows A number (Running rec) up = refl

  -- an ack of a change that is remembered
  module _ (back : ℕ) (change : Pair) where
    abbrev acks : Phase → Knows
    acks p = knows_after (said_by (Ack back)) t (λ k. Some change) breaker.pair None (known_in p)

    later-one : (k : Option Pair) → Some (later_than k change) ≡ later_of k (Some change)
    later-one (Some b) = refl
    later-one None = refl

    ack-starting : (l : Learned) → known_in (ack_starting l change).phase ≡ acks (Starting l)
    unfolding ack_starting
    ack-starting l =
        begun-knows l.r _ _ l.number
        ∙ ap₂ (λ (b second : Option Pair). record { r = l.r; b = b; second = second; number = l.number; resend = None }) (later-one l.b) (later-one l.second)
        ∙ ap (λ (x : Option Dts). record { r = l.r; b = later_of l.b (Some change); second = later_of l.second (Some change); number = l.number; resend = x })
        (off-stays (said_by (Ack back)) t (λ k. Some change) l.r l.b l.r (later_of l.b (Some change)))

    ack-knows : (p : Phase) → not (phase_down p) ≡ true → known_in (acked p change).phase ≡ acks p
    unfolding acked ack_running ack_resend kept
    ack-knows Down up = absurd (false≢true up)
    ack-knows (Starting l) up = ack-starting l
    ack-knows (Running rec) up =
        ap (λ (second : Option Pair). record { r = Some rec.r; b = (acks (Running rec)).b; second = second; number = rec.number; resend = (acks (Running rec)).resend })
        (later-one rec.second)

  query-knows : (p : Phase) → phase_starting p ≡ true → known_in (queried p breaker.pair).phase ≡ told Query p
  unfolding queried
  query-knows Down up = absurd (false≢true up)
  query-knows (Starting l) up =
      begun-knows l.r _ _ l.number
      ∙ ap (λ (x : Option Dts). record { r = l.r; b = Some breaker.pair; second = Some breaker.pair; number = l.number; resend = x })
      (off-stays (said_by Query) t (change_at breaker) l.r l.b l.r (Some breaker.pair))
  query-knows (Running rec) up = absurd (false≢true up)

  -- a resend timeout, while the stamp is fresh or where none is resent, and with one that is no longer fresh
  resend-stays : (k : Knows) → is_stale k.resend t ≡ false → k ≡ knows_after (said_by ResendTimeout) t (change_at breaker) breaker.pair None k
  resend-stays k e =
      sym (same-knows k)
      ∙ ap
      (λ (x : Bool).
      let b = cond x (returns_to k.second k.b) k.b in
      record { r = k.r; b = b; second = k.second; number = k.number; resend = cond x None (cond (are_done k.r k.b && not (are_done k.r b)) None k.resend) })
      (sym e)

  resend-returns : (k : Knows) → is_stale k.resend t ≡ true
      → record { r = k.r; b = returns_to k.second k.b; second = k.second; number = k.number; resend = None }
      ≡ knows_after (said_by ResendTimeout) t (change_at breaker) breaker.pair None k
  resend-returns k e =
      ap
      (λ (x : Bool).
      let b = cond x (returns_to k.second k.b) k.b in
      record { r = k.r; b = b; second = k.second; number = k.number; resend = cond x None (cond (are_done k.r k.b && not (are_done k.r b)) None k.resend) })
      (sym e)

  resend-knows : (p : Phase) → known_in (resend_timed_out p t).phase ≡ told ResendTimeout p
  unfolding resend_timed_out given_up
  resend-knows Down = resend-stays (known_in Down) refl
  resend-knows (Starting l) = resend-stays (known_in (Starting l)) refl
  resend-knows (Running rec) =
      resent t (λ x left. known_in left.phase ≡ told ResendTimeout (Running x)) rec
      (λ T e is. resend-stays (known_in (Running rec)) (ap (λ (x : Option Dts). is_stale x t) e ∙ ap not is))
      (λ up. back rec.second ∙ resend-returns (known_in (Running rec)) (same-stale rec.resend ∙ up))
      (λ e. resend-stays (known_in (Running rec)) (ap (λ (x : Option Dts). is_stale x t) e))
    where
      same-stale : (x : Option Dts) → is_stale x t ≡ stale t x
      same-stale (Some T) = refl
      same-stale None = refl

      with-b : Option Pair → Knows
      with-b b = record { r = Some rec.r; b = b; second = rec.second; number = rec.number; resend = None }

      back : (k : Option Pair) → with-b (Some (returned k rec.b)) ≡ with-b (returns_to k (Some rec.b))
      back (Some second) = refl
      back None = refl

  -- ---- what each event shares

  report-shares : (A number : ℕ) (p : Phase) → not (phase_down p) ≡ true → RunsOnceKnown p
      → (reported p t A number).shares ≡ shares_by (said_by (Report A number)) t (known_r p) (known_b p) (relay_by (said_by (Report A number)) t (known_b p) (known_r p))
  unfolding reported report_running report_starting report_shares begun
  report-shares A number Down up once = absurd (false≢true up)
  report-shares A number (Starting l) up once = go l.r l.b once
    where
      go : (r b : Option Pair) → false ≡ (is_known r && is_known b) → Zero ≡ shares_by (said_by (Report A number)) t r b (relay_by (said_by (Report A number)) t b r)
      go (Some r) (Some b) e = absurd (false≢true e)
      go (Some r) None e = refl
      go None b e = refl
  report-shares A number (Running rec) up once = refl

  timeout-shares : (p : Phase) → phase_running p ≡ true → (share_timed_out p t).shares ≡ shares_by (said_by ShareTimeout) t (known_r p) (known_b p) (known_r p)
  timeout-shares Down runs = absurd (false≢true runs)
  timeout-shares (Starting l) runs = absurd (false≢true runs)
  timeout-shares (Running rec) runs = share-shares (Running rec) t

  -- ---- what it sends, before the combining rule: a resend timeout the command being resent, any other nothing

  report-silent : (A number : ℕ) (p : Phase) → (reported p t A number).command ≡ None
  unfolding reported report_running report_starting begun
  report-silent A number Down = refl
  report-silent A number (Starting l) = refl
  report-silent A number (Running rec) = refl

  share-silent : (p : Phase) → (share_timed_out p t).command ≡ None
  unfolding share_timed_out
  share-silent Down = refl
  share-silent (Starting l) = refl
  share-silent (Running rec) = refl

  ack-silent : (p : Phase) (change : Option Pair) → ((acked_by p change).shares ≡ Zero) × ((acked_by p change).command ≡ None)
  unfolding acked ack_running ack_starting begun
  ack-silent Down (Some change) = (refl, refl)
  ack-silent (Starting l) (Some change) = (refl, refl)
  ack-silent (Running rec) (Some change) = (refl, refl)
  ack-silent p None = (refl, refl)

  query-silent : (p : Phase) → (queried p breaker.pair).command ≡ None
  unfolding queried begun
  query-silent Down = refl
  query-silent (Starting l) = refl
  query-silent (Running rec) = refl

  sent-again : (p : Phase) → (resend_timed_out p t).command ≡ again_by (said_by ResendTimeout) t (known_in p).resend (known_b p)
  unfolding resend_timed_out given_up
  sent-again Down = refl
  sent-again (Starting l) = refl
  sent-again (Running rec) =
      resent t (λ x left. left.command ≡ again_of t x.resend (Some x.b)) rec
      (λ T e is. sym (ap (λ (x : Option Dts). again_of t x (Some rec.b)) e ∙ ap (λ (y : Bool). cond y (Some (pair rec.b.status T)) None) is))
      (λ up. silent rec.resend up)
      (λ e. sym (ap (λ (x : Option Dts). again_of t x (Some rec.b)) e))
    where
      silent : (x : Option Dts) → stale t x ≡ true → None ≡ again_of t x (Some rec.b)
      silent (Some T) up = go (fresh T t) up
        where
          go : (y : Bool) → not y ≡ true → None ≡ cond y (Some (pair rec.b.status T)) None
          go true e = absurd (false≢true e)
          go false e = refl
      silent None up = refl

  -- ---- every event

  -- All that is shown of an event, one clause an event: `told-by`.
  pub record TellsAll (event : Event) (p : Phase) : Type 0 where
    -- what the node has been told then,
    pub knows : not (phase_down p) ≡ true → Suits p (said_by event).kind → remembers breaker event ≡ true → known_in (changed_by breaker p t event).phase ≡ told event p
    -- what it shares, and the command that it sends again;
    pub shares : not (phase_down p) ≡ true → Suits p (said_by event).kind → RunsOnceKnown p
        → (changed_by breaker p t event).shares ≡ shares_by (said_by event) t (known_r p) (known_b p) (relay_by (said_by event) t (known_b p) (known_r p))
    pub command : (changed_by breaker p t event).command ≡ again_by (said_by event) t (known_in p).resend (known_b p)
    -- no event is told of a report and of an ack, and one that sends a command again says nothing else
    pub apart : AckOrReport (said_by event)
    pub alone : AgainAlone (said_by event)
    -- one that a starting node takes brings no share
    pub unsent : among (said_by event).kind (report ∷ ack ∷ query ∷ down ∷ []) ≡ true → (said_by event).sender ≡ None

  pub told-by : (event : Event) (p : Phase) → TellsAll event p
  unfolding changed_by
  told-by (Report A number) p =
      record {
        knows = λ up suits known. report-knows A number p up;
        shares = λ up suits once. report-shares A number p up once;
        command = report-silent A number p;
        apart = inl refl;
        alone = inl refl;
        unsent = λ e. refl;
      }
  told-by (Deliver sender A T) p =
      record {
        knows = λ up suits known. sym (same-knows (known_in p));
        shares = λ up suits once. refl;
        command = refl;
        apart = inl refl;
        alone = inl refl;
        unsent = λ e. absurd (false≢true e);
      }
  told-by (DeliverPair sender A T) p =
      record {
        knows = λ up suits known. sym (same-knows (known_in p));
        shares = λ up suits once. refl;
        command = refl;
        apart = inl refl;
        alone = inl refl;
        unsent = λ e. absurd (false≢true e);
      }
  told-by ShareTimeout p =
      record {
        knows = λ up suits known. ap known_in (share-phase p t) ∙ sym (same-knows (known_in p));
        shares = λ up suits once. timeout-shares p (suits.times-out refl);
        command = share-silent p;
        apart = inl refl;
        alone = inl refl;
        unsent = λ e. refl;
      }
  told-by ResendTimeout p =
      record {
        knows = λ up suits known. resend-knows p;
        shares = λ up suits once. resend-shares t p;
        command = sent-again p;
        apart = inl refl;
        alone = inr (refl, refl, refl);
        unsent = λ e. refl;
      }
  told-by (Ack back) p =
      record {
        knows = λ up suits known. go (change_at breaker back) up known;
        shares = λ up suits once. (ack-silent p (change_at breaker back)).0;
        command = (ack-silent p (change_at breaker back)).1;
        apart = inr refl;
        alone = inl refl;
        unsent = λ e. refl;
      }
    where
      go : (change : Option Pair) → not (phase_down p) ≡ true → is_known change ≡ true
          → known_in (acked_by p change).phase ≡ knows_after (said_by (Ack back)) t (λ k. change) breaker.pair None (known_in p)
      go (Some change) up known = ack-knows back change p up
      go None up known = absurd (false≢true known)
  told-by Query p =
      record {
        knows = λ up suits known. query-knows p (suits.starts refl);
        shares = λ up suits once. query-shares breaker.pair p;
        command = query-silent p;
        apart = inl refl;
        alone = inl refl;
        unsent = λ e. refl;
      }
