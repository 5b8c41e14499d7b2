-- What is in its range, as refusal 16 asks it of a record, is so after every event; and the second pair stays no later than b, and known where b is.
use Rattle.std.specs.Prelude.{ℕ, ◌≤◌, ◌<◌, ◌≡◌, refl, true, List, [], ◌∷◌, leb, Option, None, Some}
use Rattle.std.proofs.Common.{sym, ap, subst, ◌∙◌, arith}
use borrow.Author.Tests.{le-leb}
use Rattle.refusals.specs.laws.Bools.{right}
use Rattle.time.specs.declared.Dts.{Dts}
use Rattle.time.specs.Limits.{last_held_stamp, last_held_clock, stamp_sound}
use Rattle.time.specs.laws.Fresh.{latest_clock}
use Rattle.store.specs.declared.Store.{Store}
use Rattle.store.specs.Store.{empty, store_within}
use Rattle.store.proofs.laws.HeldLaws.{clock-at}
use Rattle.store.proofs.laws.WithinLaws.{empty-within, put-within, moved-within}
use Rattle.pairs.specs.declared.Pair.{Pair}
use Rattle.steps.specs.declared.Event.{Event}
use Rattle.steps.specs.declared.Event.TheVariants.{Report, Deliver, DeliverPair, ShareTimeout, ResendTimeout, Ack, Query}
use Rattle.steps.specs.Named.{said_by}
use Rattle.steps.specs.laws.Naming.{IfNamed}
use Rattle.node.specs.declared.Phase.{Phase}
use Rattle.node.specs.declared.Phase.TheVariants.{Down, Starting, Running}
use Rattle.node.specs.declared.Node.{Node}
use Rattle.node.specs.Asked.{node_in_range}
use Rattle.node.specs.laws.Soundness.{SoundPhase, SoundNode, parts, whole, FollowsIn}
use Rattle.combining.specs.Combining.{put_all, finished}
use Rattle.combining.specs.laws.OwnLaws.{clock-all}
use Rattle.combining.specs.laws.Soundness.{ended-sound, ended-follows, all-within}
use Rattle.events.specs.Events.{store_at}
use Rattle.events.proofs.laws.Soundness.{report-sound, share-sound, resend-sound, ack-sound, query-sound, report-follows, share-follows, resend-follows, ack-follows, query-follows}
use Rattle.breaker.specs.declared.Breaker.{Breaker}
use Rattle.breaker.specs.Breaker.{change_at, breaker_sound}
use Rattle.breaker.proofs.laws.Soundness.{change-sound, parts as breaker-parts}
use Rattle.acting.specs.Acting.{acked_by, changed_by, stored, acted}
use Rattle.acting.specs.laws.ByEvent.{put_each, put_from, left_by}
use Rattle.acting.proofs.laws.Stores.{clock-from}

-- ---- the phase, before the combining rule

acked-sound : (p : Phase) (k : Option Pair) → ((change : Pair) → k ≡ Some change → stamp_sound change.stamp ≡ true) → SoundPhase p → SoundPhase (acked_by p k).phase
acked-sound p (Some change) e s = ack-sound p change (e change refl) s
acked-sound p None e s = s

-- what each event leaves of a phase, one clause an event: a new stamp is the event's clock or comes from the breaker
pub sound-by : (breaker : Breaker) (p : Phase) (t : Dts) (event : Event) → breaker_sound breaker ≡ true → t.0 ≤ last_held_stamp → SoundPhase p
    → SoundPhase (changed_by breaker p t event).phase
unfolding changed_by
sound-by breaker p t (Report status number) of-breaker l s = report-sound p t status number l s
sound-by breaker p t (Deliver sender status T) of-breaker l s = s
sound-by breaker p t (DeliverPair sender status T) of-breaker l s = s
sound-by breaker p t ShareTimeout of-breaker l s = share-sound p t s
sound-by breaker p t ResendTimeout of-breaker l s = resend-sound p t s
sound-by breaker p t (Ack back) of-breaker l s =
    acked-sound p (change_at breaker back) (λ change is. right (leb change.status 1) _ (change-sound breaker back change of-breaker is)) s
sound-by breaker p t Query of-breaker l s = query-sound p breaker.pair (right (leb breaker.pair.status 1) _ (breaker-parts breaker of-breaker).of_pair) s

-- ---- the second pair

acked-follows : (p : Phase) (k : Option Pair) → FollowsIn p → FollowsIn (acked_by p k).phase
acked-follows p (Some change) l = ack-follows p change l
acked-follows p None l = l

-- one clause an event
pub follows_by : (breaker : Breaker) (p : Phase) (t : Dts) (event : Event) → FollowsIn p → FollowsIn (changed_by breaker p t event).phase
unfolding changed_by
follows_by breaker p t (Report status number) l = report-follows p t status number l
follows_by breaker p t (Deliver sender status T) l = l
follows_by breaker p t (DeliverPair sender status T) l = l
follows_by breaker p t ShareTimeout l = share-follows p t l
follows_by breaker p t ResendTimeout l = resend-follows p t l
follows_by breaker p t (Ack back) l = acked-follows p (change_at breaker back) l
follows_by breaker p t Query l = query-follows p breaker.pair l

pub acted-follows : (breaker : Breaker) (node : Node) (i f : ℕ) (t : Dts) (event : Event) → FollowsIn node.phase
    → FollowsIn (acted breaker node i f t event).node.phase
unfolding acted finished
acted-follows breaker node i f t event l =
    ended-follows (put_all (stored node.phase node.store t event) i (changed_by breaker node.phase t event).shares) f
    (changed_by breaker node.phase t event).phase (follows_by breaker node.phase t event l)

-- ---- the store

-- at the clock of an event
at-within : (p : Phase) (s : Store) (t : Dts) (n : ℕ) → store_within s n ≡ true → store_within (store_at p s t) n ≡ true
at-within Down s t n w = w
at-within (Starting l) s t n w = empty-within t n
at-within (Running rec) s t n w = moved-within s n w t

at-clock : (p : Phase) (s : Store) (t : Dts) → s.clock.0 ≤ t.0 → (store_at p s t).clock.0 ≤ t.0
unfolding empty
at-clock Down s t l = l
at-clock (Starting learned) s t l = omega arith
at-clock (Running rec) s t l = let e = ap (λ (c : Dts). c.0) (clock-at s t l) in omega (arith, e)

-- with the shares that an event delivers
module _ (s : Store) (n : ℕ) (w : store_within s n ≡ true) where
  each_within : (sender B : ℕ) (stamps : List Dts) → sender < n → store_within (put_each s sender B stamps) n ≡ true
  each_within sender B [] l = w
  each_within sender B (T ∷ more) l = put-within (put_each s sender B more) n (each_within sender B more l) sender B T l

  from-within : (sender status : Option ℕ) (stamps : List Dts) → IfNamed sender (λ k. k < n) → store_within (put_from s sender status stamps) n ≡ true
  from-within (Some sender) (Some B) stamps l = each_within sender B stamps l
  from-within (Some sender) None stamps l = w
  from-within None status stamps l = w

-- ---- at the end of the event

module _
    (breaker : Breaker) (node : Node) (i f n : ℕ) (t : Dts) (event : Event)
    (l : node.store.clock.0 ≤ t.0) (m : t.0 ≤ latest_clock) (here : i < n) (from : IfNamed (said_by event).sender (λ k. k < n))
    (of-breaker : breaker_sound breaker ≡ true) (sound : node_in_range node n ≡ true)
  where
    before : SoundNode node n
    before = parts node n sound

    is-stored : stored node.phase node.store t event
        ≡ put_from (store_at node.phase node.store t) (said_by event).sender (said_by event).status (said_by event).stamps
    is-stored = (left_by breaker node.phase t event).of-store node.store

    abbrev own : Store
    own = put_all (stored node.phase node.store t event) i (changed_by breaker node.phase t event).shares

    own-within : store_within own n ≡ true
    own-within =
        all-within (stored node.phase node.store t event) n i (changed_by breaker node.phase t event).shares
        (subst (λ (x : Store). store_within x n ≡ true) (sym is-stored)
        (from-within (store_at node.phase node.store t) n (at-within node.phase node.store t n before.of-store)
        (said_by event).sender (said_by event).status (said_by event).stamps from))
        here

    own-clock : own.clock.0 ≤ t.0
    own-clock =
        subst (λ (c : Dts). c.0 ≤ t.0)
        (sym
        (clock-all (stored node.phase node.store t event) i (changed_by breaker node.phase t event).shares
        ∙ ap (λ (x : Store). x.clock) is-stored
        ∙ clock-from (store_at node.phase node.store t) (said_by event).sender (said_by event).status (said_by event).stamps))
        (at-clock node.phase node.store t l)

    -- No stamp and no clock is beyond its limit, and every sender is below n: the node itself, and the one that the event names.
    pub acted-in-range : node_in_range (acted breaker node i f t event).node n ≡ true
    unfolding acted finished
    acted-in-range =
        whole _ n
        (record {
          of-clock = le-leb own.clock.0 last_held_clock (omega (arith, own-clock, m));
          of-store = own-within;
          of-phase =
              ended-sound own f (omega (arith, own-clock, m)) (changed_by breaker node.phase t event).phase
              (sound-by breaker node.phase t event of-breaker (omega (arith, m)) before.of-phase);
        })
