-- What the tests of an accepted step say: each row of the table by its number, and the rows that steps of one shape have in common.
use Rattle.std.specs.Prelude.{ℕ, ◌+◌, ◌≤◌, ◌<◌, ◌≡◌, Bool, true, false, not, ◌&&◌, ◌||◌, eqb, leb, Ok}
use Rattle.std.proofs.Math.Path.{refl}
use Rattle.std.proofs.Common.{sym, ◌∙◌, arith, ltb-true, leb-true, eqb-true}
use Rattle.std.proofs.lemmas.Bool.{eqb-false, not-true}
use Rattle.refusals.specs.Tests.{refusal, test_at}
use Rattle.refusals.specs.laws.Tests.{each-passed}
use Rattle.refusals.specs.laws.Bools.{left, right, or-false}
use Rattle.time.specs.declared.Dts.{Dts}
use Rattle.time.specs.Fresh.{fresh}
use Rattle.time.specs.laws.Fresh.{latest_clock}
use Rattle.senders.specs.Masks.{room, is_in, size, within}
use Rattle.steps.specs.declared.Beginning.{Beginning}
use Rattle.steps.specs.declared.Event.{Event}
use Rattle.steps.specs.declared.Turn.{Turn}
use Rattle.steps.specs.declared.Act.{Act}
use Rattle.steps.specs.declared.Step.{Step}
use Rattle.steps.specs.declared.Step.TheVariants.{Start, Tick, AtNode, Life, AtBreaker}
use Rattle.steps.specs.Named.{named, said_by, said_by_turn, of_named}
use Rattle.node.specs.declared.Node.{Node}
use Rattle.node.specs.Asked.{phase_down}
use Rattle.site.specs.declared.Site.{Site}
use Rattle.site.specs.Site.{nodes, n, g, most_f, most_k, first_g, last_start_g, last_g, site_sound, actor_sound}
use Rattle.site.specs.laws.Sound.{SoundSite, sound}
use Rattle.refusing.specs.laws.Parts.{not-down}
use Rattle.refusing.specs.Tests.{is_now, is_status, is_node, node_clock, are_in_range, table_for, tests_of}

module _ (site : Site) (lent : ℕ) (node : Node) (step : Step) where
  abbrev pub Passes : Type 0
  Passes = refusal (tests_of site lent node step) ≡ Ok tt

  -- row k is passed
  pub row-passed : (k : ℕ) → Passes → test_at k (table_for site lent node (named step)) ≡ true
  unfolding tests_of
  row-passed k e = each-passed k (table_for site lent node (named step)) e

-- a Start: row 1
pub record Begins (lent : ℕ) (b : Beginning) : Type 0 where
  pub most-f : b.f ≤ most_f
  pub most-k : b.k ≤ most_k
  pub few : size b.compromised ≤ b.f
  pub lends : nodes b.f b.k ≤ lent

-- and the rest of that row
pub record BeginsWithin (b : Beginning) : Type 0 where
  pub is-status : b.status ≤ 1
  pub first-g : first_g ≤ b.g.0
  pub last-g : b.g.0 ≤ last_start_g
  pub inside : within b.compromised (nodes b.f b.k) ≡ true

seven : (a b c d e f g : Bool) → (a && b && c && d && e && f && g) ≡ true
    → (a ≡ true) × (b ≡ true) × (c ≡ true) × (d ≡ true) × (e ≡ true) × (f ≡ true) × (g ≡ true)
seven a b c d e f g all =
    let six = left (a && b && c && d && e && f) g all in
    let five = left (a && b && c && d && e) f six in
    let four = left (a && b && c && d) e five in
    let three = left (a && b && c) d four in
    let two = left (a && b) c three in
    (left a b two, right a b two, right (a && b) c three, right (a && b && c) d four, right (a && b && c && d) e five, right (a && b && c && d && e) f six, right (a && b && c && d && e && f) g all)

module _ (site : Site) (lent : ℕ) (node : Node) (b : Beginning) (e : Passes site lent node (Start b)) where
  row-1 : (leb b.f most_f ≡ true)
      × (leb b.k most_k ≡ true)
      × (is_status b.status ≡ true)
      × ((leb first_g b.g.0 && leb b.g.0 last_start_g) ≡ true)
      × (within b.compromised (nodes b.f b.k) ≡ true)
      × (leb (size b.compromised) b.f ≡ true)
      × (leb (nodes b.f b.k) lent ≡ true)
  row-1 =
      seven (leb b.f most_f) (leb b.k most_k) (is_status b.status) (leb first_g b.g.0 && leb b.g.0 last_start_g)
      (within b.compromised (nodes b.f b.k)) (leb (size b.compromised) b.f) (leb (nodes b.f b.k) lent) (row-passed site lent node (Start b) 1 e)

  pub begins : Begins lent b
  begins = record { most-f = leb-true _ _ row-1.0; most-k = leb-true _ _ row-1.1; few = leb-true _ _ row-1.5; lends = leb-true _ _ row-1.6 }

  pub begins-within : BeginsWithin b
  begins-within =
      record {
        is-status = leb-true _ _ row-1.2;
        first-g = leb-true _ _ (left (leb first_g b.g.0) _ row-1.3);
        last-g = leb-true _ _ (right (leb first_g b.g.0) _ row-1.3);
        inside = row-1.4;
      }

-- a step at node i: rows 16, 2 and 3
pub record Placed (site : Site) (lent i : ℕ) : Type 0 where
  pub whole : SoundSite site lent
  pub is-node : i < n site
  pub is-lent : i < lent
  pub has_room : i < room
  pub room-for-node : (k : ℕ) → is_node site k ≡ true → k < room
  pub is-correct : is_in site.compromised i ≡ false

-- a mask has room for each of its nodes
pub room_for : (site : Site) (lent : ℕ) → SoundSite site lent → (k : ℕ) → k < n site → k < room
room_for site lent whole k below =
    let most-f = whole.most-f in
    let most-k = whole.most-k in
    omega arith

placed : (site : Site) (lent : ℕ) (node : Node) (i : ℕ) (fields : Bool) → (site_sound site lent && actor_sound site node i) ≡ true → (is_node site i && fields) ≡ true
    → not (is_in site.compromised i) ≡ true → Placed site lent i
placed site lent node i fields a b c =
    let whole = sound site lent (left _ _ a) in
    let below : i < n site = ltb-true _ _ (left _ _ b) in
    let lends = whole.lends in
    record {
      whole = whole;
      is-node = below;
      is-lent = omega arith;
      has_room = room_for site lent whole i below;
      room-for-node = λ k e. room_for site lent whole k (ltb-true _ _ e);
      is-correct = not-true _ c;
    }

pub timely : (site : Site) (t : Dts) → (g site).0 ≤ last_g → is_now site t ≡ true → t.0 ≤ latest_clock
timely site t last b = go (eqb t.0 (g site).0) refl b
  where
    go : (x : Bool) → eqb t.0 (g site).0 ≡ x → (x || eqb t.0 ((g site).0 + 1)) ≡ true → t.0 ≤ latest_clock
    go true e h = let q : t.0 ≡ (g site).0 = eqb-true _ _ e in omega arith
    go false e h = let q : t.0 ≡ (g site).0 + 1 = eqb-true _ _ h in omega arith

-- an event at a node: rows 16 and 2 to 6
pub record Happens (site : Site) (lent : ℕ) (node : Node) (i : ℕ) (t : Dts) (event : Event) : Type 0 where
  pub place : Placed site lent i
  pub of-sender : of_named (said_by event).sender (is_node site) ≡ true
  pub of-status : of_named (said_by event).status is_status ≡ true
  pub of-back : of_named (said_by event).back (λ back. leb back 7) ≡ true
  pub is_up : not (phase_down node.phase) ≡ true
  pub not_late : t.0 ≤ latest_clock
  pub not_back : (node_clock node).0 ≤ t.0

pub happens : (site : Site) (lent : ℕ) (node : Node) (i : ℕ) (t : Dts) (event : Event) → Passes site lent node (AtNode i t event) → Happens site lent node i t event
happens site lent node i t event e =
    let place = placed site lent node i (are_in_range site (said_by event)) (row-passed site lent node (AtNode i t event) 16 e) (row-passed site lent node (AtNode i t event) 2 e) (row-passed site lent node (AtNode i t event) 3 e) in
    let range = right (is_node site i) _ (row-passed site lent node (AtNode i t event) 2 e) in
    let after-sender = right (of_named (said_by event).sender (is_node site)) _ range in
    record {
      place = place;
      of-sender = left _ _ range;
      of-status = left _ _ after-sender;
      of-back = left _ _ (right (of_named (said_by event).status is_status) _ after-sender);
      is_up = not-down node.phase event (row-passed site lent node (AtNode i t event) 4 e);
      not_late = timely site t place.whole.last-g (row-passed site lent node (AtNode i t event) 5 e);
      not_back = leb-true _ _ (row-passed site lent node (AtNode i t event) 6 e);
    }

-- a turn in a node's life
pub turns : (site : Site) (lent : ℕ) (node : Node) (i : ℕ) (turn : Turn) → Passes site lent node (Life i turn) → Placed site lent i
turns site lent node i turn e =
    placed site lent node i (are_in_range site (said_by_turn turn)) (row-passed site lent node (Life i turn) 16 e) (row-passed site lent node (Life i turn) 2 e)
    (row-passed site lent node (Life i turn) 3 e)

-- a Tick: rows 16 and 15
pub ticks : (site : Site) (lent : ℕ) (node : Node) → Passes site lent node Tick → (g site).0 < last_g
ticks site lent node e =
    let last = (sound site lent (left _ true (row-passed site lent node Tick 16 e))).last-g in
    let not_last = eqb-false (g site).0 last_g (not-true _ (row-passed site lent node Tick 15 e)) in
    omega (arith, last, not_last)

-- a step at the breaker: rows 16, 2, 5 and 7
pub record AtTheBreaker (t : Dts) (act : Act) : Type 0 where
  pub is-status : act.status ≤ 1
  pub not_late : t.0 ≤ latest_clock
  pub is-fresh : fresh act.stamp t ≡ true

pub at-breaker : (site : Site) (lent : ℕ) (node : Node) (t : Dts) (act : Act) → Passes site lent node (AtBreaker t act) → AtTheBreaker t act
at-breaker site lent node t act e =
    record {
      is-status = leb-true _ _ (left (is_status act.status) true (row-passed site lent node (AtBreaker t act) 2 e));
      not_late =
          timely site t (sound site lent (left _ true (row-passed site lent node (AtBreaker t act) 16 e))).last-g (row-passed site lent node (AtBreaker t act) 5 e);
      is-fresh = sym (or-false (fresh act.stamp t)) ∙ row-passed site lent node (AtBreaker t act) 7 e;
    }
