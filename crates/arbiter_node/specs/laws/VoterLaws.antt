-- What an event leaves of a node: r is that of 01's node, and the message is of the status that the relay said last, with the node's own clock for its stamp.
-- And what refusal 16 asks of its record: that its numbers are in range, and no more.
use Rattle.std.specs.Prelude.{ℕ, ◌≡◌, refl, Bool, false, not, ◌&&◌, ◌||◌, eqb, Option, None, Some}
use Rattle.std.proofs.Math.Path.{sym, ap}
use Rattle.std.proofs.Common.{◌∙◌, inl, inr, arith, eqb-true, le-leb}
use Rattle.std.proofs.Math.Bool.{true, and-eq-true_iff}
use Rattle.std.proofs.lemmas.Bool.{false≢true}
use Rattle.refusals.specs.laws.Bools.{and-true}
use Rattle.time.specs.declared.Dts.{Dts}
use Rattle.pairs.specs.declared.Pair.{Pair}
use Rattle.pairs.specs.declared.Pairs.{Pairs}
use Rattle.pairs.specs.Pair.{pair, listed_known, has}
use Rattle.node.specs.declared.Phase.{Phase as PeerPhase}
use Rattle.node.specs.declared.Phase.TheVariants as Peer
use Rattle.node.specs.declared.Changed.{Changed}
use Rattle.node.specs.Asked.{phase_down, phase_running, known_r, node_in_range, not_above, second_sound, node_sound}
use Rattle.breaker.specs.declared.Breaker.{Breaker}
use Rattle.acting.specs.Acting.{changed_by}
use Rattle.acting.specs.laws.ByEvent.{SharesLeft, no-shares, r-shared, runs_up, left_by}
use Rattle.acting.proofs.laws.Relay.{status_in, relay_after, told-r}
use Rattle.arbiter_steps.specs.declared.Event.{Event}
use Rattle.arbiter_steps.specs.Steps as Steps
use Rattle.arbiter_node.specs.declared.Phase.{Phase}
use Rattle.arbiter_node.specs.declared.Phase.TheVariants.{Down, Starting, Running}
use Rattle.arbiter_node.specs.declared.Voter.{Voter}
use Rattle.arbiter_node.specs.Voter.{phase_in_peer, in_peer, of_peer_phase, first_of, voted}

-- what is forgotten is not r
same-r : (p : PeerPhase) → known_r (phase_in_peer (of_peer_phase p)) ≡ known_r p
same-r Peer.Down = refl
same-r (Peer.Starting l) = refl
same-r (Peer.Running rec) = refl

-- one status with one stamp
only_one : (status : ℕ) (U : Dts) (A : ℕ) (T : Dts) → has (listed_known (Some (pair status U))) A T ≡ true → (status ≡ A) × (U.0 ≡ T.0)
only_one status U A T e = go (eqb A status && eqb T.0 U.0) refl e
  where
    go : (x : Bool) → (eqb A status && eqb T.0 U.0) ≡ x → (x || false) ≡ true → (status ≡ A) × (U.0 ≡ T.0)
    go true ex h =
        let p = (and-eq-true_iff (eqb A status) (eqb T.0 U.0)).0 ex in
        (sym (eqb-true A status p.0), sym (eqb-true T.0 U.0 p.1))
    go false ex h = absurd (false≢true h)

-- for an event at a node
module _ (breaker : Breaker) (voter : Voter) (t : Dts) (event : Event) where
  abbrev before : PeerPhase
  before = phase_in_peer voter.phase

  abbrev left : Changed
  left = changed_by breaker before t (Steps.in_peer event)

  -- the status that the relay said last, in this step or before it
  abbrev pub last : Option ℕ
  last = relay_after (Steps.in_peer event) (status_in (known_r before))

  pub relay-told : not (phase_down before) ≡ true → status_in (known_r (phase_in_peer (voted breaker voter t event).voter.phase)) ≡ last
  unfolding voted
  relay-told up = ap status_in (same-r left.phase) ∙ told-r breaker t before (Steps.in_peer event) up

  -- Whoever sends (A, T) does so at its own clock T, and A is the status reported in this step or, at a timeout, that of r.
  pub sends-own : (A : ℕ) (T : Dts) → has (listed_known (voted breaker voter t event).message) A T ≡ true → (last ≡ Some A) × (t.0 ≡ T.0)
  unfolding voted
  sends-own A T h = go (left_by breaker before t (Steps.in_peer event)).of_shares
    where
      has_of : {shares : Pairs} → left.shares ≡ shares → has (listed_known (first_of shares)) A T ≡ true
      has_of e = sym (ap (λ (ps : Pairs). has (listed_known (first_of ps)) A T) e) ∙ h

      of-relay : (r : Pair) → phase_running before ≡ true → known_r left.phase ≡ Some r → last ≡ Some r.status
      of-relay r runs is = sym (told-r breaker t before (Steps.in_peer event) (runs_up before runs)) ∙ ap status_in is

      one : (r : Pair) → last ≡ Some r.status → has (listed_known (Some (pair r.status t))) A T ≡ true → (last ≡ Some A) × (t.0 ≡ T.0)
      one r said e = let q = only_one r.status t A T e in (said ∙ ap Some q.0, q.1)

      go : SharesLeft before t left → (last ≡ Some A) × (t.0 ≡ T.0)
      go (no-shares zero) = absurd (false≢true (has_of zero))
      go (r-shared r runs is (inl w)) = one r (of-relay r runs is) (has_of w)
      go (r-shared r runs is (inr w)) = one r (of-relay r runs is) (has_of w)

-- ---- refusal 16

-- the second pair is b: it is not above b, and a running node knows it
not-above : (b : Option Pair) → not_above b b ≡ true
not-above (Some b) = le-leb b.stamp.0 b.stamp.0 (omega arith)
not-above None = refl

second-sound : (p : Phase) → second_sound (phase_in_peer p) ≡ true
second-sound Down = refl
second-sound (Starting l) = not-above l.b
second-sound (Running heard) = not-above (Some heard.b)

-- so 16 has nothing against a record whose numbers are in range
pub sound-in-range : (voter : Voter) (n : ℕ) → node_sound (in_peer voter) n ≡ node_in_range (in_peer voter) n
unfolding node_sound
sound-in-range voter n = ap (λ (x : Bool). node_in_range (in_peer voter) n && x) (second-sound voter.phase) ∙ and-true (node_in_range (in_peer voter) n)
