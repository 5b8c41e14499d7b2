-- Each event leaves a phase that refusal 16 lets pass, if it found one: the stamps that it brings are no later than those that a record may hold. And each
-- leaves the second pair no later than b, and known where b is, if it found it so.
use Rattle.std.specs.Prelude.{ℕ, ◌≤◌, ◌≡◌, refl, Bool, true, false, not, ◌&&◌, cond, leb, Option, Some, None}
use Rattle.std.proofs.Common.{sym, ap, subst, arith, leb-true, leb-false, le-leb}
use Rattle.time.specs.declared.Dts.{Dts}
use Rattle.time.specs.Limits.{last_held_stamp, stamp_sound}
use Rattle.time.specs.laws.Larger.{larger-most}
use Rattle.store.specs.Store.{empty}
use Rattle.store.proofs.laws.WithinLaws.{empty-within}
use Rattle.pairs.specs.declared.Pair.{Pair}
use Rattle.pairs.specs.Pair.{same}
use Rattle.node.specs.declared.Record.{Record}
use Rattle.node.specs.declared.Phase.{Phase}
use Rattle.node.specs.declared.Phase.TheVariants.{Down, Starting, Running}
use Rattle.node.specs.Asked.{known_r, known_b, known_second, resending, known_sound, resend_sound, Follows}
use Rattle.node.specs.laws.Soundness.{SoundPhase, whole, FollowsIn, Intact}
use Rattle.events.specs.Events.{begun, report_stamp, kept, report_running, report_starting, reported, share_timed_out, returned, given_up, resend_timed_out, later_than, ack_resend, ack_running, ack_starting, acked, queried, went_down, went_up}
use Rattle.events.specs.laws.EventLaws.{report-b, report-second, share-phase, resent, ack-b, ack-second}

-- ---- what the parts of a phase become

begun-sound : (r b second : Option Pair) (number : Option ℕ) → known_sound r ≡ true → known_sound b ≡ true → known_sound second ≡ true
    → SoundPhase (begun (record { r = r; b = b; second = second; number = number })).phase
unfolding begun
begun-sound (Some r) (Some b) second number of-r of-b of-second = record { of-r = of-r; of-b = of-b; of-second = of-second; of-resend = refl }
begun-sound (Some r) None second number of-r of-b of-second = record { of-r = of-r; of-b = of-b; of-second = of-second; of-resend = refl }
begun-sound None b second number of-r of-b of-second = record { of-r = of-r; of-b = of-b; of-second = of-second; of-resend = refl }

kept-sound : (rec : Record) (r b : Pair) → resend_sound rec.resend ≡ true → resend_sound (kept rec r b) ≡ true
unfolding kept
kept-sound rec r b e = go (same rec.r rec.b && not (same r b))
  where
    go : (x : Bool) → resend_sound (cond x None rec.resend) ≡ true
    go true = refl
    go false = e

ack-resend-sound : (rec : Record) (b change : Pair) → resend_sound rec.resend ≡ true → resend_sound (ack_resend rec b change) ≡ true
unfolding ack_resend
ack-resend-sound rec b change e = go (same change rec.b)
  where
    go : (x : Bool) → resend_sound (cond x None (kept rec rec.r b)) ≡ true
    go true = refl
    go false = kept-sound rec rec.r b e

stamped-sound : (k : Option Pair) (t : Dts) → t.0 ≤ last_held_stamp → known_sound k ≡ true → stamp_sound (report_stamp k t) ≡ true
stamped-sound (Some b) t l e = le-leb _ _ (larger-most t b.stamp last_held_stamp l (leb-true _ _ e))
stamped-sound None t l e = le-leb _ _ l

later-sound : (k : Option Pair) (change : Pair) → known_sound k ≡ true → stamp_sound change.stamp ≡ true → stamp_sound (later_than k change).stamp ≡ true
later-sound (Some b) change e new = go (leb b.stamp.0 change.stamp.0)
  where
    go : (x : Bool) → stamp_sound (cond x change b).stamp ≡ true
    go true = new
    go false = e
later-sound None change e new = new

-- ---- each event

pub report-sound : (p : Phase) (t : Dts) (A number : ℕ) → t.0 ≤ last_held_stamp → SoundPhase p → SoundPhase (reported p t A number).phase
unfolding reported report_running report_starting
report-sound Down t A number l s = s
report-sound (Starting learned) t A number l s =
    begun-sound _ learned.b learned.second _ (stamped-sound learned.b t l s.of-b) s.of-b s.of-second
report-sound (Running rec) t A number l s =
    record { of-r = stamped-sound (Some rec.b) t l s.of-b; of-b = s.of-b; of-second = s.of-second; of-resend = kept-sound rec _ rec.b s.of-resend }

pub share-sound : (p : Phase) (t : Dts) → SoundPhase p → SoundPhase (share_timed_out p t).phase
share-sound p t s = subst SoundPhase (sym (share-phase p t)) s

returned-sound : (k : Option Pair) (b : Pair) → known_sound k ≡ true → stamp_sound b.stamp ≡ true → stamp_sound (returned k b).stamp ≡ true
returned-sound (Some second) b e s = e
returned-sound None b e s = s

pub resend-sound : (p : Phase) (t : Dts) → SoundPhase p → SoundPhase (resend_timed_out p t).phase
unfolding resend_timed_out given_up
resend-sound Down t s = s
resend-sound (Starting l) t s = s
resend-sound (Running rec) t s =
    resent t (λ x left. SoundPhase left.phase) rec (λ T e is. s)
    (λ e. record { of-r = s.of-r; of-b = returned-sound rec.second rec.b s.of-second s.of-b; of-second = s.of-second; of-resend = refl }) (λ e. s)

pub ack-sound : (p : Phase) (change : Pair) → stamp_sound change.stamp ≡ true → SoundPhase p → SoundPhase (acked p change).phase
unfolding acked ack_running ack_starting
ack-sound Down change e s = s
ack-sound (Starting l) change e s =
    begun-sound l.r _ _ l.number s.of-r (later-sound l.b change s.of-b e) (later-sound l.second change s.of-second e)
ack-sound (Running rec) change e s =
    record {
      of-r = s.of-r;
      of-b = later-sound (Some rec.b) change s.of-b e;
      of-second = later-sound rec.second change s.of-second e;
      of-resend = ack-resend-sound rec _ change s.of-resend;
    }

pub query-sound : (p : Phase) (breaker : Pair) → stamp_sound breaker.stamp ≡ true → SoundPhase p → SoundPhase (queried p breaker).phase
unfolding queried
query-sound Down breaker e s = s
query-sound (Starting l) breaker e s = begun-sound l.r (Some breaker) (Some breaker) l.number s.of-r e e
query-sound (Running rec) breaker e s = s

-- ---- the second pair

-- where it is known what an event leaves of both
so-follows : (q : Phase) (second b : Option Pair) → known_second q ≡ second → known_b q ≡ b → Follows second b → FollowsIn q
so-follows q second b of-second of-b l = subst (λ (k : Option Pair). Follows k (known_b q)) (sym of-second) (subst (Follows second) (sym of-b) l)

pub report-follows : (p : Phase) (t : Dts) (A number : ℕ) → FollowsIn p → FollowsIn (reported p t A number).phase
report-follows p t A number l = so-follows (reported p t A number).phase (known_second p) (known_b p) (report-second t A number p) (report-b t A number p) l

pub share-follows : (p : Phase) (t : Dts) → FollowsIn p → FollowsIn (share_timed_out p t).phase
share-follows p t l = subst FollowsIn (sym (share-phase p t)) l

-- b that returned is the second pair
pub resend-follows : (p : Phase) (t : Dts) → FollowsIn p → FollowsIn (resend_timed_out p t).phase
unfolding resend_timed_out given_up
resend-follows Down t l = l
resend-follows (Starting learned) t l = l
resend-follows (Running rec) t l = resent t (λ x left. FollowsIn left.phase) rec (λ T e is. l) (λ e. go rec.second l) (λ e. l)
  where
    go : (k : Option Pair) → Follows k (Some rec.b) → Follows k (Some (returned k rec.b))
    go (Some second) l = omega arith
    go None l = l

-- an ack moves b wherever it moves the second pair
later-follows : (second b : Option Pair) (change : Pair) → Follows second b → (later_than second change).stamp.0 ≤ (later_than b change).stamp.0
later-follows (Some second) (Some b) change l = go (leb second.stamp.0 change.stamp.0) (leb b.stamp.0 change.stamp.0) refl
  where
    go : (x y : Bool) → leb b.stamp.0 change.stamp.0 ≡ y → (cond x change second).stamp.0 ≤ (cond y change b).stamp.0
    go true true e = omega arith
    go true false e = let h = leb-false b.stamp.0 change.stamp.0 e in omega (arith, h)
    go false true e = let h = leb-true b.stamp.0 change.stamp.0 e in omega (arith, h, l)
    go false false e = l
later-follows (Some second) None change l = absurd l
later-follows None (Some b) change l = absurd l
later-follows None None change l = omega arith

pub ack-follows : (p : Phase) (change : Pair) → FollowsIn p → FollowsIn (acked p change).phase
unfolding acked
ack-follows Down change l = l
ack-follows (Starting learned) change l =
    so-follows (acked (Starting learned) change).phase _ _ (ack-second change (Starting learned) refl) (ack-b change (Starting learned) refl)
    (later-follows learned.second learned.b change l)
ack-follows (Running rec) change l =
    so-follows (acked (Running rec) change).phase _ _ (ack-second change (Running rec) refl) (ack-b change (Running rec) refl)
    (later-follows rec.second (Some rec.b) change l)

pub query-follows : (p : Phase) (breaker : Pair) → FollowsIn p → FollowsIn (queried p breaker).phase
unfolding queried begun
query-follows Down breaker l = l
query-follows (Starting learned) breaker l = go learned.r
  where
    go : (r : Option Pair) → FollowsIn (begun (record { r = r; b = Some breaker; second = Some breaker; number = learned.number })).phase
    go (Some r) = omega arith
    go None = omega arith
query-follows (Running rec) breaker l = l

-- ---- a node that went down, and one that came up

nothing_known : (p : Phase) → known_r p ≡ None → known_b p ≡ None → known_second p ≡ None → resending p ≡ None → SoundPhase p
nothing_known p r b second resend = record { of-r = ap known_sound r; of-b = ap known_sound b; of-second = ap known_sound second; of-resend = ap resend_sound resend }

pub went-down-intact : (n : ℕ) → Intact went_down n
unfolding went_down empty
went-down-intact n =
    record {
      in-range = whole went_down n (record { of-clock = refl; of-store = empty-within _ n; of-phase = nothing_known went_down.phase refl refl refl refl });
      follows = tt;
    }

pub went-up-intact : (n : ℕ) → Intact went_up n
unfolding went_up empty
went-up-intact n =
    record {
      in-range = whole went_up n (record { of-clock = refl; of-store = empty-within _ n; of-phase = nothing_known went_up.phase refl refl refl refl });
      follows = tt;
    }
