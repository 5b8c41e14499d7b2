-- A site that came from a Start passes refusal 16, and so does the record of each of its nodes: every step keeps what 16 asks of a site, and of a record that
-- its numbers are in range and that its second pair is no later than b, and known where b is.
use Prim.Native.Nat.{ℕ, ◌≤◌, ◌<◌}
use Rattle.std.specs.Prelude.{◌≡◌, Bool, true, false, ◌&&◌, ◌||◌, List, ◌∷◌, eqb, leb, length, set, drop, Option, None, Some}
use Rattle.std.proofs.Math.Path.{refl, subst}
use Rattle.std.proofs.Common.{sym, ap₂, lit<, length-set, get_or-set_same, get_or-set_other}
use Rattle.std.proofs.Math.Bool.{and-eq-true_iff}
use Rattle.std.proofs.Math.ListN.{get_or}
use borrow.Author.Tests.{eqb-true, eqb-false, leb-true, leb-false, ltb-true}
use Rattle.refusals.specs.laws.Bools.{left}
use Rattle.time.specs.declared.Dts.{Dts}
use Rattle.node.specs.declared.Node.{Node}
use Rattle.node.specs.Asked.{node_in_range, node_sound}
use Rattle.node.specs.laws.Soundness.{Intact, intact-sound, FollowsIn}
use Rattle.events.specs.Events.{went_down}
use Rattle.steps.specs.declared.Beginning.{Beginning}
use Rattle.steps.specs.declared.Event.{Event}
use Rattle.steps.specs.declared.Turn.{Turn}
use Rattle.steps.specs.declared.Act.{Act}
use Rattle.steps.specs.declared.Step.{Step}
use Rattle.steps.specs.declared.Step.TheVariants.{Start, Tick, AtNode, Life, AtBreaker}
use Rattle.steps.specs.Named.{said_by, named, of_named}
use Rattle.steps.specs.laws.Naming.{if-named}
use Rattle.acting.specs.Acting.{acted}
use Rattle.acting.proofs.laws.Soundness.{acted-in-range, acted-follows}
use Rattle.site.specs.declared.Site.{Site}
use Rattle.site.specs.declared.Out.{Out}
use Rattle.site.specs.Site.{nodes, n, site_sound, actor_sound}
use Rattle.site.specs.laws.Sound.{tested}
use Rattle.refusing.specs.Tests.{is_node, are_sound, unless_start}
use Rattle.refusing.specs.laws.Accepted.{Passes, row-passed, begins, begins-within, ticks, happens, turns, at-breaker}
use Rattle.effects.specs.Effects.{started_site, first_record, ticked, act, commanded, effect_of}
use Rattle.effects.specs.laws.Soundness.{first-intact, begun-sound, ticked-sound, noted-sound, turned-sound, commanded-sound}
use Rattle.stepping.specs.laws.StepLaws.{by_tests}
use Rattle.rows.proofs.laws.Cases.{not-given}
use Rattle.lent.specs.Lent.{record_of, out_of, table_after, table_after_answer}
use Rattle.loans.specs.laws.LoanLaws.{front, begun-length}
use Rattle.sequences.specs.History.{Entry, last_start}
use Rattle.sequences.specs.Moments.{Moment, Reached, from, then, node_at}
use Rattle.sequences.specs.Demand.{Always}
use Rattle.sequences.specs.State.{NeverDamaged, NeverAbove}
use Rattle.sequences.proofs.laws.Reaching.{no_start, reached-keeps}

-- what 16 asks of a site, of the length of its table and of its nodes' records
pub record Sound (site : Site) (records : List Node) : Type 0 where
  pub of-site : site_sound site (length records) ≡ true
  pub of-nodes : (j : ℕ) → j < n site → Intact (get_or records j went_down) (n site)

-- a step at node i
at-node : (site next : Site) (records : List Node) (i : ℕ) (node : Node) → Sound site records → n next ≡ n site → i < length records
    → site_sound next (length records) ≡ true → Intact node (n site) → Sound next (set records i node)
at-node site next records i node before same lent whole new =
    record {
      of-site = subst (λ (count : ℕ). site_sound next count ≡ true) (sym (length-set records i node)) whole;
      of-nodes = λ j l.
          subst (Intact (get_or (set records i node) j went_down)) (sym same)
          (one j (subst (λ (count : ℕ). j < count) same l) (eqb j i) refl);
    }
  where
    IsSound : Node → Type 0
    IsSound x = Intact x (n site)

    one : (j : ℕ) → j < n site → (x : Bool) → eqb j i ≡ x → IsSound (get_or (set records i node) j went_down)
    one j l true e =
        subst (λ (k : ℕ). IsSound (get_or (set records i node) k went_down)) (sym (eqb-true j i e))
        (subst IsSound (sym (get_or-set_same records i node went_down lent)) new)
    one j l false e = subst IsSound (sym (get_or-set_other records i j node went_down (eqb-false j i e))) (before.of-nodes j l)

-- ---- one step

module _ (h : List Entry) (site : Site) (records : List Node) (before : (b : Beginning) → last_start h ≡ Some b → Sound site records) where
  abbrev SoundBy : Step → Out → Type 0
  SoundBy step out =
      (b : Beginning) → last_start (record { step = step; answer = out.answer } ∷ h) ≡ Some b
      → Sound out.site (table_after_answer out.answer step records out.node)

  abbrev node_of : Step → Node
  node_of step = record_of (named step).actor records

  abbrev Does : Step → Type 0
  Does step = Passes site (length records) (node_of step) step → SoundBy step (effect_of site (node_of step) step)

  begins-anew : (first : Beginning) → Does (Start first)
  unfolding effect_of started_site first_record
  begins-anew first e = λ b q.
      let begun = begins site (length records) went_down first e in
      let given = begins-within site (length records) went_down first e in
      record {
        of-site =
            subst (λ (count : ℕ). site_sound (started_site first) count ≡ true) (sym (begun-length first.compromised records count begun.lends))
            (begun-sound first (length records) begun.most-f begun.most-k given.is-status given.first-g given.last-g given.inside begun.few begun.lends);
        of-nodes = λ j l.
            subst (λ (x : Node). Intact x count) (sym (front count (first_record first.compromised) (drop count records) j went_down l))
            (first-intact first.compromised j count);
      }
    where
      count : ℕ
      count = nodes first.f first.k

  one-tick : Does Tick
  unfolding effect_of ticked
  one-tick e = λ b q.
      let s = before b q in
      record { of-site = ticked-sound site (length records) s.of-site (ticks site (length records) went_down e); of-nodes = s.of-nodes }

  happens-at : (i : ℕ) (t : Dts) (event : Event) → Does (AtNode i t event)
  unfolding effect_of act
  happens-at i t event e = λ b q.
      let node = get_or records i went_down in
      let x = happens site (length records) node i t event e in
      let s = before b q in
      at-node site _ records i _ s refl x.place.is-lent
      (noted-sound site (length records) s.of-site i (acted site.breaker node i site.f t event).shares x.place.is-node)
      (record {
        in-range =
            acted-in-range site.breaker node i site.f (n site) t event x.not_back x.not_late x.place.is-node
            (if-named (is_node site) (λ k. k < n site) (λ k is. ltb-true _ _ is) (said_by event).sender x.of-sender)
            (tested site (length records) s.of-site).of-breaker (s.of-nodes i x.place.is-node).in-range;
        follows = acted-follows site.breaker node i site.f t event (s.of-nodes i x.place.is-node).follows;
      })

  takes-turn : (i : ℕ) (turn : Turn) → Does (Life i turn)
  unfolding effect_of
  takes-turn i turn e =
      let place = turns site (length records) (node_of (Life i turn)) i turn e in
      let whole = left (site_sound site (length records)) _ (row-passed site (length records) (node_of (Life i turn)) (Life i turn) 16 e) in
      let after = turned-sound site (length records) whole i turn place.is-node in
      subst (SoundBy (Life i turn)) (sym after.is) (λ b q. at-node site _ records i after.node (before b q) refl place.is-lent after.of-site after.of_node)

  is-told : (t : Dts) (command : Act) → Does (AtBreaker t command)
  unfolding effect_of commanded
  is-told t command e = λ b q.
      let s = before b q in
      let told = at-breaker site (length records) went_down t command e in
      record { of-site = commanded-sound site (length records) s.of-site t command told.is-status told.not_late told.is-fresh; of-nodes = s.of-nodes }

  done : (step : Step) → Does step
  done (Start b) = begins-anew b
  done Tick = one-tick
  done (AtNode i t event) = happens-at i t event
  done (Life i turn) = takes-turn i turn
  done (AtBreaker t command) = is-told t command

  still-sound : (step : Step) → SoundBy step (out_of site records step)
  unfolding out_of
  still-sound step = by_tests (SoundBy step) site (length records) (node_of step) step (done step) (λ number. before)

-- ---- every sequence

pub reached-sound : {first : Moment} {h : List Entry} {m : Moment} → Reached first h m → (b : Beginning) → last_start h ≡ Some b → Sound m.site m.records
unfolding table_after
reached-sound from = λ b q. absurd (no_start q)
reached-sound (then {h} {m} r step) = still-sound h m.site m.records (reached-sound r) step

-- ---- what is promised

-- for a history h, the moment m to which it leads, and what its last accepted Start gave
module _ (h : List Entry) (m : Moment) (b : Beginning) where
  -- "a table shorter than n": it is not
  abbrev pub LongEnough : Type 0
  LongEnough = nodes b.f b.k ≤ length m.records

  abbrev pub SiteSound : Type 0
  SiteSound = site_sound m.site (length m.records) ≡ true

  -- of a compromised node too
  abbrev pub NodesSound : Type 0
  NodesSound = (j : ℕ) → j < nodes b.f b.k → node_sound (node_at m j) (nodes b.f b.k) ≡ true

-- the site's n is the one that Start gave
same-n : {first : Moment} {h : List Entry} {m : Moment} → Reached first h m → (b : Beginning) → last_start h ≡ Some b → n m.site ≡ nodes b.f b.k
same-n r b q = let keeps = reached-keeps r b q in ap₂ nodes keeps.same-f keeps.same-k

pub site-sound : Always SiteSound
site-sound first h m r b q = (reached-sound r b q).of-site

pub node-sound : Always NodesSound
node-sound first h m r b q =
    subst (λ (count : ℕ). (j : ℕ) → j < count → node_sound (node_at m j) count ≡ true) (same-n r b q)
    (λ j l. intact-sound (node_at m j) (n m.site) ((reached-sound r b q).of-nodes j l))

-- its numbers, the senders of its store among them
pub in-range : Always λ h m b. (j : ℕ) → j < nodes b.f b.k → node_in_range (node_at m j) (nodes b.f b.k) ≡ true
in-range first h m r b q =
    subst (λ (count : ℕ). (j : ℕ) → j < count → node_in_range (node_at m j) count ≡ true) (same-n r b q) (λ j l. ((reached-sound r b q).of-nodes j l).in-range)

-- "it is never above b's stamp"
pub never-above : Always NeverAbove
never-above first h m r b q =
    subst (λ (count : ℕ). (j : ℕ) → j < count → FollowsIn (node_at m j).phase) (same-n r b q) (λ j l. ((reached-sound r b q).of-nodes j l).follows)

pub long-enough : Always LongEnough
long-enough first h m r b q =
    subst (λ (count : ℕ). count ≤ length m.records) (same-n r b q) (leb-true _ _ (tested m.site (length m.records) (reached-sound r b q).of-site).lends)

-- the first test of the table, for every step: a step that names a node from n on, or none, asks for no record
passes-16 : (site : Site) (records : List Node) (step : Step) → Sound site records
    → are_sound site (length records) (record_of (named step).actor records) (named step) ≡ true
unfolding actor_sound
passes-16 site records step s = go (named step).beginning (named step).actor
  where
    below : (i : ℕ) (x : Bool) → leb (n site) i ≡ x → (x || node_sound (get_or records i went_down) (n site)) ≡ true
    below i true e = refl
    below i false e = intact-sound (get_or records i went_down) (n site) (s.of-nodes i (leb-false _ _ e))

    of-actor : (actor : Option ℕ) → of_named actor (actor_sound site (record_of actor records)) ≡ true
    of-actor None = refl
    of-actor (Some i) = below i (leb (n site) i) refl

    go : (b : Option Beginning) (actor : Option ℕ) → unless_start b (site_sound site (length records) && of_named actor (actor_sound site (record_of actor records))) ≡ true
    go (Some b) actor = refl
    go None actor = (and-eq-true_iff _ _).1 (s.of-site, of-actor actor)

pub never-damaged : Always NeverDamaged
unfolding out_of
never-damaged first h m r b q step =
    not-given m.site (length m.records) (record_of (named step).actor m.records) step 16 (lit< tt) (passes-16 m.site m.records step (reached-sound r b q))
