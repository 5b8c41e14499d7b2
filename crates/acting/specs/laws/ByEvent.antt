-- What each event leaves of a node. `Leaves` is all that is shown of an event, and `left_by` shows it, one clause an event; the laws of the other modules
-- are of any event and rest on these. A new event is one more clause of `left_by`.
use Rattle.std.specs.Prelude.{ℕ, ◌≡◌, refl, Bool, true, false, not, cond, ◌⊎◌, List, [], ◌∷◌, leb, Option, None, Some}
use Rattle.std.proofs.Common.{sym, ap, ◌∙◌, inl, inr}
use Rattle.std.proofs.lemmas.Bool.{false≢true}
use Rattle.time.specs.declared.Dts.{Dts}
use Rattle.time.specs.Fresh.{next}
use Rattle.store.specs.declared.Store.{Store}
use Rattle.store.specs.Store.{put}
use Rattle.pairs.specs.declared.Pair.{Pair}
use Rattle.pairs.specs.declared.Pairs.TheVariants.{Zero, One, Two}
use Rattle.pairs.specs.Pair.{pair}
use Rattle.pairs.specs.laws.KnownLaws.{is_known}
use Rattle.node.specs.declared.Phase.{Phase}
use Rattle.node.specs.declared.Phase.TheVariants.{Down, Starting, Running}
use Rattle.node.specs.declared.Changed.{Changed}
use Rattle.node.specs.Asked.{phase_down, phase_starting, phase_running, known_r, known_b, known_second}
use Rattle.node.specs.laws.PhaseLaws.{GoesOn, goes_same}
use Rattle.events.specs.Events.{store_at, report_stamp, reported, share_timed_out, resend_timed_out, later_than, queried}
use Rattle.events.specs.laws.EventLaws.{report-r, report-b, report-goes, share-phase, share-shares, gives_up, back_to, resend-shares, resend-r, resend-b, resend-goes, ack-r, ack-b, ack-goes, ack-shares, query-r, query-b, query-phase, query-goes, query-shares}
use Rattle.events.specs.laws.ReportLaws.{enters_by, report-shares}
use Rattle.breaker.specs.declared.Breaker.{Breaker}
use Rattle.breaker.specs.Breaker.{change_at}
use Rattle.steps.specs.declared.Event.{Event}
use Rattle.steps.specs.declared.Event.TheVariants.{Report, Deliver, DeliverPair, ShareTimeout, ResendTimeout, Ack, Query}
use Rattle.steps.specs.Named.{report, resend_timeout, ack, query, said_by, is_kind, among, Of, of_named}
use Rattle.acting.specs.Acting.{acked_by, changed_by, stored}

-- ---- what an event leaves

abbrev pub reports : Event → Bool
reports event = is_kind (said_by event).kind report

-- an ack or a query: b is known after it
abbrev informs : Event → Bool
informs event = among (said_by event).kind (ack ∷ query ∷ [])

-- the change that an ack brings is remembered
abbrev pub remembers : Breaker → Event → Bool
remembers breaker event = of_named (said_by event).back (λ back. is_known (change_at breaker back))

-- the event is an ack, and this is the change that it brings
abbrev pub Acked : Breaker → Event → Pair → Type 0
Acked breaker event p = Of (said_by event).back λ back. change_at breaker back ≡ Some p

-- r: a Report sets its status, and no other event moves it
pub data RelayLeft (event : Event) (p q : Phase) : Type 0 where
  r-stays : reports event ≡ false → known_r q ≡ known_r p → RelayLeft event p q
  r-told : reports event ≡ true → (r : Pair) → (said_by event).status ≡ Some r.status → (not (phase_down p) ≡ true → known_r q ≡ Some r) → RelayLeft event p q

-- the event is a resend timeout with the stamp being resent no longer fresh, and this is the second pair
abbrev pub Returned : Dts → Event → Phase → Pair → Type 0
Returned t event p b = (is_kind (said_by event).kind resend_timeout ≡ true) × (gives_up t p ≡ true) × (known_second p ≡ Some b)

-- b: it is known after an ack and after a query; that of a running node is what it was, or the change that an ack brings, or the second pair
pub data BreakerLeft (breaker : Breaker) (t : Dts) (event : Event) (p q : Phase) : Type 0 where
  b-stays : informs event ≡ false → known_b q ≡ known_b p → BreakerLeft breaker t event p q
  b-learned : informs event ≡ true → (not (phase_down p) ≡ true → remembers breaker event ≡ true → is_known (known_b q) ≡ true)
      → (phase_running p ≡ true → (b : Pair) → known_b q ≡ Some b → (known_b p ≡ Some b) ⊎ Acked breaker event b) → BreakerLeft breaker t event p q
  b-returns : informs event ≡ false → is_known (known_b q) ≡ is_known (known_b p) → ((b : Pair) → known_b q ≡ Some b → (known_b p ≡ Some b) ⊎ Returned t event p b)
      → BreakerLeft breaker t event p q

-- the phase, before the combining rule
pub record PhaseLeft (breaker : Breaker) (t : Dts) (event : Event) (p q : Phase) : Type 0 where
  pub r : RelayLeft event p q
  pub b : BreakerLeft breaker t event p q
  pub goes : GoesOn p q

-- the shares: none, or, if the node runs, the status that r has then, with t alone or with t and with t + 1
pub data SharesLeft (p : Phase) (t : Dts) (left : Changed) : Type 0 where
  no-shares : left.shares ≡ Zero → SharesLeft p t left
  r-shared : (r : Pair) → phase_running p ≡ true → known_r left.phase ≡ Some r
      → (left.shares ≡ One (pair r.status t)) ⊎ (left.shares ≡ Two (pair r.status t) (pair r.status (next t))) → SharesLeft p t left

-- the store, for the sender, the status and the stamps that an event names: a share of each stamp is put
abbrev pub put_each : Store → ℕ → ℕ → List Dts → Store
put_each s sender A [] = s
put_each s sender A (T ∷ more) = put (put_each s sender A more) sender A T

abbrev pub put_from : Store → Option ℕ → Option ℕ → List Dts → Store
put_from s (Some sender) (Some A) stamps = put_each s sender A stamps
put_from s (Some sender) None stamps = s
put_from s None A stamps = s

-- all that is shown of an event
pub record Leaves (breaker : Breaker) (p : Phase) (t : Dts) (event : Event) (left : Changed) : Type 0 where
  pub of-phase : PhaseLeft breaker t event p left.phase
  pub of_shares : SharesLeft p t left
  -- what it delivers is put into the store,
  pub of-store : (s : Store) → stored p s t event ≡ put_from (store_at p s t) (said_by event).sender (said_by event).status (said_by event).stamps
  -- and an event that names a sender leaves the phase: no node begins to run by it
  pub unsent-or-kept : ((said_by event).sender ≡ None) ⊎ (left.phase ≡ p)

-- ---- an event that leaves the phase

module _ (breaker : Breaker) (t : Dts) (event : Event) {p q : Phase} where
  same-phase : reports event ≡ false → informs event ≡ false → q ≡ p → PhaseLeft breaker t event p q
  same-phase no-report no-news same = record { r = r-stays no-report (ap known_r same); b = b-stays no-news (ap known_b same); goes = goes_same same }

-- ---- a phase that runs

pub runs_up : (p : Phase) → phase_running p ≡ true → not (phase_down p) ≡ true
runs_up Down e = absurd (false≢true e)
runs_up (Starting l) e = refl
runs_up (Running rec) e = refl

no_start : (p : Phase) → phase_running p ≡ true → phase_starting p ≡ false
no_start Down e = refl
no_start (Starting l) e = absurd (false≢true e)
no_start (Running rec) e = refl

-- ---- Report and Share timeout: what they share

module _ (t : Dts) where
  report-left : (A number : ℕ) (p : Phase) → SharesLeft p t (reported p t A number)
  report-left A number Down = no-shares (report-shares t A number Down)
  report-left A number (Starting l) = no-shares (report-shares t A number (Starting l))
  report-left A number (Running rec) = go (enters_by A (Running rec)) (report-shares t A number (Running rec))
    where
      left : Changed
      left = reported (Running rec) t A number

      go : (x : Bool) → left.shares ≡ cond x (Two (pair A t) (pair A (next t))) Zero → SharesLeft (Running rec) t left
      go true e = r-shared _ refl (report-r t A number (Running rec) refl) (inr e)
      go false e = no-shares e

  timeout-left : (p : Phase) → SharesLeft p t (share_timed_out p t)
  timeout-left Down = no-shares (share-shares Down t)
  timeout-left (Starting l) = no-shares (share-shares (Starting l) t)
  timeout-left (Running rec) = r-shared rec.r refl (ap known_r (share-phase (Running rec) t)) (inl (share-shares (Running rec) t))

-- ---- Ack and Query: what they leave of b

module _ (breaker : Breaker) (t : Dts) (p : Phase) where
  ack-left : (back : ℕ) (k : Option Pair) → change_at breaker back ≡ k → PhaseLeft breaker t (Ack back) p (acked_by p k).phase
  ack-left back (Some change) is =
      record {
        r = r-stays refl (ack-r change p);
        b = b-learned refl (λ up known. ap is_known (ack-b change p up)) (λ runs b e. later-one b (known_b p) (sym e ∙ ack-b change p (runs_up p runs)));
        goes = ack-goes change p;
      }
    where
      later-one : (b : Pair) (k : Option Pair) → Some b ≡ Some (later_than k change) → (k ≡ Some b) ⊎ (change_at breaker back ≡ Some b)
      later-one b (Some old) e = go (leb old.stamp.0 change.stamp.0) e
        where
          go : (x : Bool) → Some b ≡ Some (cond x change old) → (Some old ≡ Some b) ⊎ (change_at breaker back ≡ Some b)
          go true e = inr (is ∙ sym e)
          go false e = inl (sym e)
      later-one b None e = inr (is ∙ sym e)
  ack-left back None is =
      record {
        r = r-stays refl refl;
        b = b-learned refl (λ up known. absurd (false≢true (sym (ap is_known is) ∙ known))) (λ runs b e. inl e);
        goes = goes_same refl;
      }

  ack-none : (k : Option Pair) → (acked_by p k).shares ≡ Zero
  ack-none (Some change) = ack-shares change p
  ack-none None = refl

  query-left : PhaseLeft breaker t Query p (queried p breaker.pair).phase
  query-left =
      record {
        r = r-stays refl (query-r breaker.pair p);
        b = b-learned refl (λ up known. informed p up) (λ runs b e. inl (ap known_b (sym (query-phase breaker.pair p (no_start p runs))) ∙ e));
        goes = query-goes breaker.pair p;
      }
    where
      informed : (p : Phase) → not (phase_down p) ≡ true → is_known (known_b (queried p breaker.pair).phase) ≡ true
      informed Down up = absurd (false≢true up)
      informed (Starting l) up = ap is_known (query-b breaker.pair (Starting l) refl)
      informed (Running rec) up = ap (λ (q : Phase). is_known (known_b q)) (query-phase breaker.pair (Running rec) refl)

-- ---- Resend timeout: b returns, or stays

module _ (breaker : Breaker) (t : Dts) (p : Phase) where
  resend-left : PhaseLeft breaker t ResendTimeout p (resend_timed_out p t).phase
  resend-left =
      record {
        r = r-stays refl (resend-r t p);
        b = b-returns refl (ap is_known (resend-b t p) ∙ as-known (gives_up t p) (known_second p) (known_b p) refl refl) (λ b e. one b (gives_up t p) (known_second p) refl refl (sym (resend-b t p) ∙ e));
        goes = resend-goes t p;
      }
    where
      -- only a running node gives up, and it knows b
      runs : gives_up t p ≡ true → is_known (known_b p) ≡ true
      runs = go p
        where
          go : (p : Phase) → gives_up t p ≡ true → is_known (known_b p) ≡ true
          go Down e = absurd (false≢true e)
          go (Starting l) e = absurd (false≢true e)
          go (Running rec) e = refl

      as-known : (x : Bool) (second b : Option Pair) → gives_up t p ≡ x → known_b p ≡ b → is_known (cond x (back_to second b) b) ≡ is_known b
      as-known true (Some s) b e is = sym (ap is_known (sym is) ∙ runs e)
      as-known true None b e is = refl
      as-known false second b e is = refl

      one : (b : Pair) (x : Bool) (second : Option Pair) → gives_up t p ≡ x → known_second p ≡ second → cond x (back_to second (known_b p)) (known_b p) ≡ Some b
          → (known_b p ≡ Some b) ⊎ Returned t ResendTimeout p b
      one b true (Some s) up is e = inr (refl, up, is ∙ e)
      one b true None up is e = inl e
      one b false second up is e = inl e

-- ---- every event

pub left_by : (breaker : Breaker) (p : Phase) (t : Dts) (event : Event) → Leaves breaker p t event (changed_by breaker p t event)
unfolding changed_by stored
left_by breaker p t (Report status number) =
    record {
      of-phase = record {
        r = r-told refl (pair status (report_stamp (known_b p) t)) refl (report-r t status number p);
        b = b-stays refl (report-b t status number p);
        goes = report-goes t status number p;
      };
      of_shares = report-left t status number p;
      of-store = λ s. refl;
      unsent-or-kept = inl refl;
    }
left_by breaker p t (Deliver sender status T) =
    record { of-phase = same-phase breaker t (Deliver sender status T) refl refl refl; of_shares = no-shares refl; of-store = λ s. refl; unsent-or-kept = inr refl }
left_by breaker p t (DeliverPair sender status T) =
    record { of-phase = same-phase breaker t (DeliverPair sender status T) refl refl refl; of_shares = no-shares refl; of-store = λ s. refl; unsent-or-kept = inr refl }
left_by breaker p t ShareTimeout =
    record { of-phase = same-phase breaker t ShareTimeout refl refl (share-phase p t); of_shares = timeout-left t p; of-store = λ s. refl; unsent-or-kept = inl refl }
left_by breaker p t ResendTimeout =
    record {
      of-phase = resend-left breaker t p;
      of_shares = no-shares (resend-shares t p);
      of-store = λ s. refl;
      unsent-or-kept = inl refl;
    }
left_by breaker p t (Ack back) =
    record {
      of-phase = ack-left breaker t p back (change_at breaker back) refl;
      of_shares = no-shares (ack-none breaker t p (change_at breaker back));
      of-store = λ s. refl;
      unsent-or-kept = inl refl;
    }
left_by breaker p t Query =
    record { of-phase = query-left breaker t p; of_shares = no-shares (query-shares breaker.pair p); of-store = λ s. refl; unsent-or-kept = inl refl }
