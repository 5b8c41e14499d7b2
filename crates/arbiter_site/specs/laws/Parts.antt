-- What the functions inside this crate promise of refusals: the table, cut as the code goes through it.
use Rattle.std.specs.Prelude.{ℕ, ◌≡◌, refl, Bool, true, ◌&&◌, List, [], ◌∷◌, leb}
use Rattle.std.proofs.Common.{sym, ap, ap₂, ◌∙◌}
use Rattle.refusals.specs.declared.Refusal.TheVariants.{BadStart, BadNumber, NotNow, ClockBack, Unsound}
use Rattle.refusals.specs.Tests.{Test, refusal}
use Rattle.refusals.specs.laws.Bools.{and-true, or-false}
use Rattle.time.specs.declared.Dts.{Dts}
use Rattle.steps.specs.declared.Beginning.{Beginning}
use Rattle.steps.specs.declared.Turn.{Turn}
use Rattle.steps.specs.declared.Event.{Event as PeerEvent}
use Rattle.steps.specs.declared.Step.TheVariants as Peer
use Rattle.node.specs.declared.Node.{Node}
use Rattle.site.specs.declared.Site.{Site}
use Rattle.site.specs.Site.{actor_sound}
use Rattle.refusing.specs.Tests.{is_now, is_node, is_status, can_begin, rows_for}
use Rattle.refusing.specs.laws.Parts.{share_tests, tick_tests, sound_tests, sixteen-first, if-fresh, rest-event, rest-turn, rest-tick}
use Rattle.arbiter_steps.specs.declared.Event.{Event}
use Rattle.arbiter_steps.specs.declared.Message.{Message}
use Rattle.arbiter_steps.specs.declared.Step.TheVariants.{Start, Tick, AtNode, Life, AtBreaker}
use Rattle.arbiter_steps.specs.Steps as Steps
use Rattle.arbiter_node.specs.declared.Voter.{Voter}
use Rattle.arbiter_node.specs.Voter.{in_peer}
use Rattle.arbiter_site.specs.declared.Arbiter.{Arbiter}
use Rattle.arbiter_site.specs.Site.{arbiter_sound}
use Rattle.arbiter_site.specs.Tests.{tests_of}

-- 2, 5, 6, 7 and 8 of a message
abbrev pub message_tests : Site → Dts → Message → List Test
message_tests site t m =
    (BadNumber, is_node site m.sender && is_status m.status)
    ∷ (NotNow, is_now site t)
    ∷ (ClockBack, leb site.breaker.clock.0 t.0)
    ∷ share_tests site t m.sender m.status m.stamp

module _ (a : Arbiter) (lent : ℕ) (voter : Voter) (sound : Bool) where
  -- where no node acts, 16 asks for the site alone
  of-site : sound ≡ arbiter_sound a lent → sound ≡ (arbiter_sound a lent && true)
  of-site is = is ∙ sym (and-true (arbiter_sound a lent))

  pub cut-tick : sound ≡ arbiter_sound a lent → refusal ((Unsound, sound) ∷ tick_tests a.site) ≡ refusal (tests_of a lent voter Tick)
  unfolding tests_of
  cut-tick is = sixteen-first sound _ (tick_tests a.site) _ (of-site is) (rest-tick a.site lent (in_peer voter))

  pub cut-event : (i : ℕ) (t : Dts) (event : Event) → sound ≡ (arbiter_sound a lent && actor_sound a.site (in_peer voter) i)
      → refusal ((Unsound, sound) ∷ sound_tests a.site (in_peer voter) (Peer.AtNode i t (Steps.in_peer event))) ≡ refusal (tests_of a lent voter (AtNode i t event))
  unfolding tests_of
  cut-event i t event is = sixteen-first sound _ _ _ is (rest-event a.site lent (in_peer voter) i t (Steps.in_peer event))

  pub cut-turn : (i : ℕ) (turn : Turn) → sound ≡ (arbiter_sound a lent && actor_sound a.site (in_peer voter) i)
      → refusal ((Unsound, sound) ∷ sound_tests a.site (in_peer voter) (Peer.Life i turn)) ≡ refusal (tests_of a lent voter (Life i turn))
  unfolding tests_of
  cut-turn i turn is = sixteen-first sound _ _ _ is (rest-turn a.site lent (in_peer voter) i turn)

  rest-message : (t : Dts) (m : Message) → refusal (message_tests a.site t m) ≡ refusal (rows_for a.site lent (in_peer voter) (Steps.named (AtBreaker t m)))
  unfolding refusal
  rest-message t m = simp (and-true, or-false, if-fresh)

  pub cut-message : (t : Dts) (m : Message) → sound ≡ arbiter_sound a lent → refusal ((Unsound, sound) ∷ message_tests a.site t m) ≡ refusal (tests_of a lent voter (AtBreaker t m))
  unfolding tests_of
  cut-message t m is = sixteen-first sound _ (message_tests a.site t m) _ (of-site is) (rest-message t m)

-- a Start has row 1 alone
pub start-alone : (a : Arbiter) (lent : ℕ) (voter : Voter) (b : Beginning) → refusal ((BadStart, can_begin lent b) ∷ []) ≡ refusal (tests_of a lent voter (Start b))
unfolding tests_of refusal
start-alone a lent voter b = refl

-- as the code has it: with 01's node, and its event, by themselves
module _ (a : Arbiter) (lent : ℕ) (voter : Voter) (i : ℕ) (node : Node) (is : node ≡ in_peer voter) where
  pub event-refused : (t : Dts) (event : Event) (e : PeerEvent) → e ≡ Steps.in_peer event → (sound : Bool) → sound ≡ (arbiter_sound a lent && actor_sound a.site node i)
      → refusal ((Unsound, sound) ∷ sound_tests a.site node (Peer.AtNode i t e)) ≡ refusal (tests_of a lent voter (AtNode i t event))
  event-refused t event e same sound so =
      ap₂ (λ (x : Node) (y : PeerEvent). refusal ((Unsound, sound) ∷ sound_tests a.site x (Peer.AtNode i t y))) is same
      ∙ cut-event a lent voter sound i t event (so ∙ ap (λ (x : Node). arbiter_sound a lent && actor_sound a.site x i) is)

  pub turn-refused : (turn : Turn) (sound : Bool) → sound ≡ (arbiter_sound a lent && actor_sound a.site node i)
      → refusal ((Unsound, sound) ∷ sound_tests a.site node (Peer.Life i turn)) ≡ refusal (tests_of a lent voter (Life i turn))
  turn-refused turn sound so =
      ap (λ (x : Node). refusal ((Unsound, sound) ∷ sound_tests a.site x (Peer.Life i turn))) is
      ∙ cut-turn a lent voter sound i turn (so ∙ ap (λ (x : Node). arbiter_sound a lent && actor_sound a.site x i) is)
