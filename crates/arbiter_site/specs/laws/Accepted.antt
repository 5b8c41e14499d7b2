-- What the tests of an accepted step say. A step that 01's site has too passes the tests that it has there, so all that is known of 01's accepted steps is known of
-- it; what is left is what an accepted message has found.
use Rattle.std.specs.Prelude.{ℕ, ◌≤◌, ◌<◌, ◌≡◌, Bool, true, false, not, ◌&&◌, ◌||◌, cond, List, ◌∷◌, Option, None, Some, Ok, Err}
use Rattle.std.proofs.Math.Path.{refl, subst}
use Rattle.std.proofs.Common.{sym, ◌∙◌, ltb-true, leb-true}
use Rattle.std.proofs.lemmas.Bool.{false≢true}
use Rattle.std.proofs.Math.Bool.{and-eq-true_iff}
use Rattle.refusals.specs.declared.Refusal.TheVariants.{Unsound}
use Rattle.refusals.specs.Tests.{Test, refusal, test_at}
use Rattle.refusals.specs.laws.Tests.{each-passed}
use Rattle.refusals.specs.laws.Bools.{left, right, or-false}
use Rattle.time.specs.declared.Dts.{Dts}
use Rattle.time.specs.Fresh.{fresh}
use Rattle.time.specs.laws.Fresh.{latest_clock}
use Rattle.senders.specs.Masks.{room}
use Rattle.steps.specs.declared.Beginning.{Beginning}
use Rattle.steps.specs.declared.Turn.{Turn}
use Rattle.steps.specs.declared.Step.{Step as PeerStep}
use Rattle.steps.specs.declared.Step.TheVariants as Peer
use Rattle.steps.specs.Named.{Named, of_named}
use Rattle.steps.specs.Named as PeerNamed
use Rattle.site.specs.Site.{n, site_sound, actor_sound}
use Rattle.site.specs.laws.Sound.{sound}
use Rattle.refusing.specs.Tests.{is_status, is_node, can_deliver, unless_start, rows_for}
use Rattle.refusing.specs.Tests as PeerTests
use Rattle.refusing.specs.laws.Accepted.{room_for, timely}
use Rattle.refusing.specs.laws.Accepted as PeerAccepted
use Rattle.arbiter_steps.specs.declared.Event.{Event}
use Rattle.arbiter_steps.specs.declared.Message.{Message}
use Rattle.arbiter_steps.specs.declared.Step.{Step}
use Rattle.arbiter_steps.specs.declared.Step.TheVariants.{Start, Tick, AtNode, Life, AtBreaker}
use Rattle.arbiter_steps.specs.Steps.{named}
use Rattle.arbiter_steps.specs.Steps as Steps
use Rattle.arbiter_node.specs.declared.Voter.{Voter}
use Rattle.arbiter_node.specs.Voter.{in_peer}
use Rattle.arbiter_site.specs.declared.Arbiter.{Arbiter}
use Rattle.arbiter_site.specs.Site.{arbiter_sound}
use Rattle.arbiter_site.specs.Tests.{table_for, tests_of}

module _ (a : Arbiter) (lent : ℕ) (voter : Voter) (step : Step) where
  abbrev pub Passes : Type 0
  Passes = refusal (tests_of a lent voter step) ≡ Ok tt

  -- row k is passed
  pub row-passed : (k : ℕ) → Passes → test_at k (table_for a lent voter (named step)) ≡ true
  unfolding tests_of
  row-passed k e = each-passed k (table_for a lent voter (named step)) e

-- ---- the steps that 01's site has too

-- 16 asks of the site all that it asks of 01's
pub peer-sound : (a : Arbiter) (lent : ℕ) → arbiter_sound a lent ≡ true → site_sound a.site lent ≡ true
unfolding arbiter_sound
peer-sound a lent e = left (site_sound a.site lent) _ (left _ _ e)

-- with a weaker 16 in front of the other rows they are passed all the more
weaker : (x y : Bool) (ts : List Test) → (x ≡ true → y ≡ true) → refusal ((Unsound, x) ∷ ts) ≡ Ok tt → refusal ((Unsound, y) ∷ ts) ≡ Ok tt
unfolding refusal
weaker true y ts h e = subst (λ (b : Bool). cond b (refusal ts) (Err Unsound) ≡ Ok tt) (sym (h refl)) e
weaker false y ts h e = cc

module _ (a : Arbiter) (lent : ℕ) (voter : Voter) where
  weaker-16 : (beginning : Option Beginning) (actor : Bool) → unless_start beginning (arbiter_sound a lent && actor) ≡ true
      → unless_start beginning (site_sound a.site lent && actor) ≡ true
  weaker-16 (Some b) actor e = refl
  weaker-16 None actor e =
      let both = (and-eq-true_iff (arbiter_sound a lent) actor).0 e in
      (and-eq-true_iff (site_sound a.site lent) actor).1 (peer-sound a lent both.0, both.1)

  abbrev PeerPasses : PeerStep → Type 0
  PeerPasses step = PeerAccepted.Passes a.site lent (in_peer voter) step

  -- a step that names what one of 01's names
  as-peer : (step : Step) (peer : PeerStep) → named step ≡ PeerNamed.named peer → Passes a lent voter step → PeerPasses peer
  unfolding tests_of PeerTests.tests_of
  as-peer step peer same e =
      subst (λ (the : Named). refusal (PeerTests.table_for a.site lent (in_peer voter) the) ≡ Ok tt) same
      (weaker _ _ (rows_for a.site lent (in_peer voter) (named step)) (weaker-16 (named step).beginning (of_named (named step).actor (actor_sound a.site (in_peer voter)))) e)

  pub start-passes : (b : Beginning) → Passes a lent voter (Start b) → PeerPasses (Peer.Start b)
  start-passes b = as-peer (Start b) (Peer.Start b) refl

  pub tick-passes : Passes a lent voter Tick → PeerPasses Peer.Tick
  tick-passes = as-peer Tick Peer.Tick refl

  pub event-passes : (i : ℕ) (t : Dts) (event : Event) → Passes a lent voter (AtNode i t event) → PeerPasses (Peer.AtNode i t (Steps.in_peer event))
  event-passes i t event = as-peer (AtNode i t event) (Peer.AtNode i t (Steps.in_peer event)) refl

  pub turn-passes : (i : ℕ) (turn : Turn) → Passes a lent voter (Life i turn) → PeerPasses (Peer.Life i turn)
  turn-passes i turn = as-peer (Life i turn) (Peer.Life i turn) refl

-- ---- what 16 has found, in any step but a Start

pub sound-site : (a : Arbiter) (lent : ℕ) (voter : Voter) (step : Step) → Passes a lent voter step → (named step).beginning ≡ None → arbiter_sound a lent ≡ true
sound-site a lent voter step e no_start =
    left _ _
    (subst (λ (b : Option Beginning). unless_start b (arbiter_sound a lent && of_named (named step).actor (actor_sound a.site (in_peer voter))) ≡ true) no_start
    (row-passed a lent voter step 16 e))

-- ---- a message: rows 16, 2 and 5 to 8

pub record Heard (a : Arbiter) (t : Dts) (m : Message) : Type 0 where
  pub is-node : m.sender < n a.site
  pub has_room : m.sender < room
  pub is-status : m.status ≤ 1
  pub not_late : t.0 ≤ latest_clock
  pub not_back : a.site.breaker.clock.0 ≤ t.0
  pub is-fresh : fresh m.stamp t ≡ true
  pub vouched : can_deliver a.site m.sender m.status m.stamp ≡ true

-- a share that is fresh was made
made : (fresh can : Bool) → fresh ≡ true → (not fresh || can) ≡ true → can ≡ true
made true can f e = e
made false can f e = absurd (false≢true f)

pub hears : (a : Arbiter) (lent : ℕ) (voter : Voter) (t : Dts) (m : Message) → Passes a lent voter (AtBreaker t m) → Heard a t m
hears a lent voter t m e =
    let row : (k : ℕ) → test_at k (table_for a lent voter (named (AtBreaker t m))) ≡ true = λ k. row-passed a lent voter (AtBreaker t m) k e in
    let whole = sound a.site lent (peer-sound a lent (left (arbiter_sound a lent) true (row 16))) in
    let below : m.sender < n a.site = ltb-true _ _ (left (is_node a.site m.sender) _ (row 2)) in
    let near : fresh m.stamp t ≡ true = sym (or-false (fresh m.stamp t)) ∙ row 7 in
    record {
      is-node = below;
      has_room = room_for a.site lent whole m.sender below;
      is-status = leb-true _ _ (left (is_status m.status) true (right (is_node a.site m.sender) _ (row 2)));
      not_late = timely a.site t whole.last-g (row 5);
      not_back = leb-true _ _ (row 6);
      is-fresh = near;
      vouched = made (fresh m.stamp t) _ near (left _ true (left _ true (row 8)));
    }
