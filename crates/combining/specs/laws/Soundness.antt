-- What the end of an event leaves, refusal 16 lets pass: the stamp of a command is fresh at the node's clock, and the node's own shares have the node as
-- their sender. And the second pair stays no later than b.
use Rattle.std.specs.Prelude.{ℕ, ◌+◌, ◌≤◌, ◌<◌, ◌≡◌, refl, Bool, true, false, cond, Option, Some, None}
use Rattle.pairs.specs.declared.Pair.{Pair}
use Rattle.std.proofs.Common.{arith, le-leb}
use Rattle.time.specs.declared.Dts.{Dts}
use Rattle.time.specs.Fresh.{window}
use Rattle.time.specs.Limits.{last_held_stamp, stamp_sound}
use Rattle.store.specs.declared.Store.{Store}
use Rattle.store.specs.Store.{store_within, put}
use Rattle.store.specs.Earliest.{earliest}
use Rattle.store.proofs.laws.EarliestLaws.{earliest-ahead, earliest-stamp}
use Rattle.store.proofs.laws.WithinLaws.{put-within}
use Rattle.pairs.specs.Pair.{pair}
use Rattle.pairs.specs.declared.Pairs.{Pairs}
use Rattle.pairs.specs.declared.Pairs.TheVariants.{Zero, One, Two}
use Rattle.node.specs.declared.Phase.{Phase}
use Rattle.node.specs.declared.Phase.TheVariants.{Down, Starting, Running}
use Rattle.node.specs.State.{attempts}
use Rattle.node.specs.Asked.{Follows}
use Rattle.node.specs.laws.Soundness.{SoundPhase, FollowsIn}
use Rattle.combining.specs.Combining.{commanding, combined, ended, put_all}

pub ended-sound : (store : Store) (f : ℕ) → store.clock.0 + window ≤ last_held_stamp → (p : Phase) → SoundPhase p → SoundPhase (ended p store f).phase
unfolding combined
ended-sound store f l Down s = s
ended-sound store f l (Starting learned) s = s
ended-sound store f l (Running rec) s = go (attempts rec.r rec.b) (earliest store rec.r.status rec.b.stamp f) refl
  where
    go : (x : Bool) (e : Option Dts) → earliest store rec.r.status rec.b.stamp f ≡ e
        → SoundPhase (Running (cond x (commanding rec e) (record { rec = rec; command = None })).rec)
    go false e is = s
    go true None is = s
    go true (Some T) is = record { of-r = s.of-r; of-b = sound; of-second = s.of-second; of-resend = sound }
      where
        sound : stamp_sound T ≡ true
        sound = let ahead = earliest-ahead store rec.r.status rec.b.stamp f T is in le-leb T.0 last_held_stamp (omega (arith, l, ahead))

-- a command's stamp is above b's, and so b stays no earlier than the second pair
pub ended-follows : (store : Store) (f : ℕ) (p : Phase) → FollowsIn p → FollowsIn (ended p store f).phase
unfolding combined
ended-follows store f Down l = l
ended-follows store f (Starting learned) l = l
ended-follows store f (Running rec) l = go (attempts rec.r rec.b) (earliest store rec.r.status rec.b.stamp f) refl
  where
    raised : (k : Option Pair) (T : Dts) → rec.b.stamp.0 < T.0 → Follows k (Some rec.b) → Follows k (Some (pair rec.r.status T))
    raised (Some second) T above l = omega (arith, above, l)
    raised None T above l = l

    go : (x : Bool) (e : Option Dts) → earliest store rec.r.status rec.b.stamp f ≡ e
        → FollowsIn (Running (cond x (commanding rec e) (record { rec = rec; command = None })).rec)
    go false e is = l
    go true None is = l
    go true (Some T) is = raised rec.second T (earliest-stamp store rec.r.status rec.b.stamp f T is).above-bound l

pub all-within : (s : Store) (n i : ℕ) (shares : Pairs) → store_within s n ≡ true → i < n → store_within (put_all s i shares) n ≡ true
unfolding put_all
all-within s n i Zero w l = w
all-within s n i (One p) w l = put-within s n w i p.status p.stamp l
all-within s n i (Two p q) w l = put-within (put s i p.status p.stamp) n (put-within s n w i p.status p.stamp l) i q.status q.stamp l
