-- What refusal 16 asks of a record, in terms of what a node knows, whatever its phase; and what a node that came from a Start has of its second pair, which
-- is more than 16 asks.
use Rattle.std.specs.Prelude.{ℕ, ◌≡◌, Bool, ◌&&◌, Option, None, Some}
use Rattle.std.proofs.Math.Path.{refl}
use Rattle.std.proofs.Math.Bool.{true}
use Rattle.std.proofs.Common.{le-leb}
use Rattle.refusals.specs.laws.Bools.{left, right}
use Rattle.time.specs.Limits.{stamp_sound, clock_sound}
use Rattle.store.specs.declared.Store.{Store}
use Rattle.store.specs.Store.{store_within}
use Rattle.pairs.specs.declared.Pair.{Pair}
use Rattle.pairs.specs.Pair.{is_known}
use Rattle.node.specs.declared.Phase.{Phase}
use Rattle.node.specs.declared.Phase.TheVariants.{Down, Starting, Running}
use Rattle.node.specs.declared.Node.{Node}
use Rattle.node.specs.Asked.{known_r, known_b, known_second, known_sound, resend_sound, learned_sound, record_sound, node_in_range, not_above, Follows, second_sound, node_sound, resending}

pub record SoundPhase (p : Phase) : Type 0 where
  pub of-r : known_sound (known_r p) ≡ true
  pub of-b : known_sound (known_b p) ≡ true
  pub of-second : known_sound (known_second p) ≡ true
  pub of-resend : resend_sound (resending p) ≡ true

pub record SoundNode (node : Node) (n : ℕ) : Type 0 where
  pub of-clock : clock_sound node.store.clock ≡ true
  pub of-store : store_within node.store n ≡ true
  pub of-phase : SoundPhase node.phase

module _ (s : Store) (n : ℕ) where
  abbrev at : Phase → Node
  at p = record { phase = p; store = s }

  -- x is what is asked of the phase
  with-phase : (p : Phase) (x : Bool) → (clock_sound s.clock && store_within s n && x) ≡ true → (x ≡ true → SoundPhase p) → SoundNode (at p) n
  with-phase p x e so =
      let two = left (clock_sound s.clock && store_within s n) x e in
      record {
        of-clock = left (clock_sound s.clock) (store_within s n) two;
        of-store = right (clock_sound s.clock) (store_within s n) two;
        of-phase = so (right (clock_sound s.clock && store_within s n) x e);
      }

  taken-apart : (p : Phase) → node_in_range (at p) n ≡ true → SoundNode (at p) n
  unfolding node_in_range
  taken-apart Down e = with-phase Down true e (λ h. record { of-r = refl; of-b = refl; of-second = refl; of-resend = refl })
  taken-apart (Starting l) e =
      with-phase (Starting l) (learned_sound l) e
      (λ h.
      let pairs = left (known_sound l.r && known_sound l.b) _ h in
      record {
        of-r = left (known_sound l.r) _ pairs;
        of-b = right (known_sound l.r) _ pairs;
        of-second = right (known_sound l.r && known_sound l.b) _ h;
        of-resend = refl;
      })
  taken-apart (Running rec) e =
      with-phase (Running rec) (record_sound rec) e
      (λ h.
      let three = left (stamp_sound rec.r.stamp && stamp_sound rec.b.stamp && resend_sound rec.resend) _ h in
      let pairs = left (stamp_sound rec.r.stamp && stamp_sound rec.b.stamp) _ three in
      record {
        of-r = left (stamp_sound rec.r.stamp) _ pairs;
        of-b = right (stamp_sound rec.r.stamp) _ pairs;
        of-second = right (stamp_sound rec.r.stamp && stamp_sound rec.b.stamp && resend_sound rec.resend) _ h;
        of-resend = right (stamp_sound rec.r.stamp && stamp_sound rec.b.stamp) _ three;
      })

  put-together : (p : Phase) → SoundNode (at p) n → node_in_range (at p) n ≡ true
  unfolding node_in_range
  put-together Down h = simp (h.of-clock, h.of-store)
  put-together (Starting l) h = simp (h.of-clock, h.of-store, h.of-phase.of-r, h.of-phase.of-b, h.of-phase.of-second)
  put-together (Running rec) h = simp (h.of-clock, h.of-store, h.of-phase.of-r, h.of-phase.of-b, h.of-phase.of-second, h.of-phase.of-resend)

pub parts : (node : Node) (n : ℕ) → node_in_range node n ≡ true → SoundNode node n
parts node n = taken-apart node.store n node.phase

pub whole : (node : Node) (n : ℕ) → SoundNode node n → node_in_range node n ≡ true
whole node n = put-together node.store n node.phase

-- ---- the second pair, for what is known of it and of b

abbrev pub FollowsIn : Phase → Type 0
FollowsIn p = Follows (known_second p) (known_b p)

-- so 16 has nothing against it
below : (second b : Option Pair) → Follows second b → not_above second b ≡ true
below (Some second) (Some b) l = le-leb _ _ l
below (Some second) None l = absurd l
below None (Some b) l = absurd l
below None None l = refl

there : (second : Option Pair) (b : Pair) → Follows second (Some b) → is_known second ≡ true
there (Some second) b l = refl
there None b l = absurd l

pub follows-sound : (p : Phase) → FollowsIn p → second_sound p ≡ true
follows-sound Down l = refl
follows-sound (Starting learned) l = below learned.second learned.b l
follows-sound (Running rec) l = simp (there rec.second rec.b l, below rec.second (Some rec.b) l)

-- what a record has that came from a Start: more than 16 asks, since a lent one may have b without a second pair while it starts up, and a second pair
-- without b
pub record Intact (node : Node) (n : ℕ) : Type 0 where
  pub in-range : node_in_range node n ≡ true
  pub follows : FollowsIn node.phase

pub intact-sound : (node : Node) (n : ℕ) → Intact node n → node_sound node n ≡ true
unfolding node_sound
intact-sound node n h = simp (h.in-range, follows-sound node.phase h.follows)
