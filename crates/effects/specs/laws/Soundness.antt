-- What each step leaves of a site that refusal 16 lets pass, 16 lets pass too; and so it does a site at the start.
use Rattle.std.specs.Prelude.{ℕ, ◌≤◌, ◌<◌, ◌≡◌, refl, Bool, true, false, cond, leb}
use Rattle.std.proofs.Common.{ap, ◌∙◌, arith}
use borrow.Author.Tests.{leb-true, le-leb}
use Rattle.time.specs.declared.Dts.{Dts}
use Rattle.time.specs.Fresh.{fresh, next}
use Rattle.time.specs.Larger.{larger}
use Rattle.time.specs.Limits.{last_held_stamp, last_held_clock}
use Rattle.time.specs.laws.Fresh.{latest_clock, fresh-ahead, next-is}
use Rattle.time.specs.laws.Larger.{larger-most}
use Rattle.senders.specs.Masks.{is_in, size, within}
use Rattle.senders.proofs.laws.Within.{joined-within, without-within, none_within}
use Rattle.store.specs.declared.Store.{Store}
use Rattle.store.specs.Store.{empty, moved_to, store_within}
use Rattle.store.proofs.laws.Held.{clock-moved}
use Rattle.store.proofs.laws.WithinLaws.{empty-within, moved-within}
use Rattle.pairs.specs.declared.Pairs.{Pairs}
use Rattle.steps.specs.declared.Beginning.{Beginning}
use Rattle.steps.specs.declared.Turn.{Turn}
use Rattle.steps.specs.declared.Turn.TheVariants.{Down, Up}
use Rattle.steps.specs.declared.Act.{Act}
use Rattle.node.specs.declared.Node.{Node}
use Rattle.node.specs.laws.Soundness.{Intact}
use Rattle.combining.specs.Combining.{put_all}
use Rattle.combining.specs.laws.OwnLaws.{clock-all}
use Rattle.combining.specs.laws.Soundness.{all-within}
use Rattle.events.specs.Events.{went_down, went_up}
use Rattle.events.proofs.laws.Soundness.{went-down-intact, went-up-intact}
use Rattle.breaker.specs.declared.Breaker.{Breaker}
use Rattle.breaker.specs.Breaker.{after_command, breaker_sound}
use Rattle.breaker.proofs.laws.Soundness.{started-sound, command-sound}
use Rattle.site.specs.declared.Site.{Site}
use Rattle.site.specs.declared.Out.{Out}
use Rattle.site.specs.Answers.{silence, done}
use Rattle.site.specs.Site.{nodes, n, g, most_f, most_k, first_g, last_start_g, last_g, site_sound}
use Rattle.site.specs.laws.Sound.{Tested, tested, tests-passed}
use Rattle.effects.specs.Effects.{with_made, with_down, with_breaker, started_site, first_record, ticked, turned}

-- ---- a Start: what row 1 asks of it is what 16 asks of the site

pub first-intact : (compromised j count : ℕ) → Intact (first_record compromised j) count
unfolding first_record
first-intact compromised j count = either (is_in compromised j)
  where
    either : (x : Bool) → Intact (cond x went_down went_up) count
    either true = went-down-intact count
    either false = went-up-intact count

pub begun-sound : (b : Beginning) (lent : ℕ) → b.f ≤ most_f → b.k ≤ most_k → b.status ≤ 1 → first_g ≤ b.g.0 → b.g.0 ≤ last_start_g
    → within b.compromised (nodes b.f b.k) ≡ true → size b.compromised ≤ b.f → nodes b.f b.k ≤ lent → site_sound (started_site b) lent ≡ true
unfolding started_site empty
begun-sound b lent most-f most-k status first last inside few lends =
    tests-passed (started_site b) lent
    (record {
      is-started = refl;
      lends = le-leb _ _ lends;
      most-f = le-leb _ _ most-f;
      most-k = le-leb _ _ most-k;
      first-g = le-leb _ _ first;
      last-g = le-leb b.g.0 last_g (omega arith);
      of-compromised = inside;
      few = le-leb _ _ few;
      of-down = none_within (nodes b.f b.k);
      of-made = empty-within b.g (nodes b.f b.k);
      of-breaker =
          started-sound b.status b.g (simp (le-leb b.status 1 status, le-leb b.g.0 last_held_stamp (omega arith)))
          (le-leb b.g.0 last_held_clock (omega arith));
    })

-- ---- any other step

-- what a turn leaves: of the site another set of nodes that are down, and a new record
pub record TurnedSound (site : Site) (lent : ℕ) (out : Out) : Type 0 where
  pub down : ℕ
  pub node : Node
  pub is : out ≡ done silence (with_down site down) node
  pub of-site : site_sound (with_down site down) lent ≡ true
  pub of_node : Intact node (n site)

module _ (site : Site) (lent : ℕ) (sound : site_sound site lent ≡ true) where
  before : Tested site lent
  before = tested site lent sound

  -- the parts that steps change
  with-parts : (down : ℕ) (breaker : Breaker) (made : Store) → within down (n site) ≡ true → breaker_sound breaker ≡ true
      → leb first_g made.clock.0 ≡ true → leb made.clock.0 last_g ≡ true → store_within made (n site) ≡ true
      → site_sound (record { started = site.started; f = site.f; k = site.k; compromised = site.compromised; down = down; breaker = breaker; made = made }) lent ≡ true
  with-parts down breaker made of-down of-breaker first last of-made =
      tests-passed _ lent
      (record {
        is-started = before.is-started;
        lends = before.lends;
        most-f = before.most-f;
        most-k = before.most-k;
        first-g = first;
        last-g = last;
        of-compromised = before.of-compromised;
        few = before.few;
        of-down = of-down;
        of-made = of-made;
        of-breaker = of-breaker;
      })

  made-sound : (made : Store) → leb first_g made.clock.0 ≡ true → leb made.clock.0 last_g ≡ true → store_within made (n site) ≡ true
      → site_sound (with_made site made) lent ≡ true
  made-sound made = with-parts site.down site.breaker made before.of-down before.of-breaker

  down-sound : (down : ℕ) → within down (n site) ≡ true → site_sound (with_down site down) lent ≡ true
  down-sound down of-down = with-parts down site.breaker site.made of-down before.of-breaker before.first-g before.last-g before.of-made

  -- a Tick, before the last g
  pub ticked-sound : (g site).0 < last_g → site_sound (ticked site) lent ≡ true
  unfolding ticked
  ticked-sound below =
      let clock = clock-moved site.made (next (g site)) in
      let after = next-is (g site) (omega (arith, below)) in
      let first : first_g ≤ (g site).0 = leb-true _ _ before.first-g in
      made-sound (moved_to site.made (next (g site)))
      (le-leb first_g (moved_to site.made (next (g site))).clock.0 (omega (arith, clock, after, first)))
      (le-leb (moved_to site.made (next (g site))).clock.0 last_g (omega (arith, clock, after, below)))
      (moved-within site.made (n site) before.of-made (next (g site)))

  -- an event at node i, with the shares that it makes
  pub noted-sound : (i : ℕ) (shares : Pairs) → i < n site → site_sound (with_made site (put_all site.made i shares)) lent ≡ true
  noted-sound i shares l =
      let clock = ap (λ (c : Dts). c.0) (clock-all site.made i shares) in
      made-sound (put_all site.made i shares) (ap (λ (c : ℕ). leb first_g c) clock ∙ before.first-g) (ap (λ (c : ℕ). leb c last_g) clock ∙ before.last-g)
      (all-within site.made (n site) i shares before.of-made l)

  -- a turn in the life of node i, one clause a turn
  pub turned-sound : (i : ℕ) (turn : Turn) → i < n site → TurnedSound site lent (turned site i turn)
  unfolding turned
  turned-sound i Down l =
      record { down = _; node = _; is = refl; of-site = down-sound _ (joined-within site.down (n site) i before.of-down l); of_node = went-down-intact (n site) }
  turned-sound i Up l =
      record { down = _; node = _; is = refl; of-site = down-sound _ (without-within site.down (n site) i before.of-down); of_node = went-up-intact (n site) }

  -- a command at clock t
  pub commanded-sound : (t : Dts) (act : Act) → act.status ≤ 1 → t.0 ≤ latest_clock → fresh act.stamp t ≡ true
      → site_sound (with_breaker site (after_command site.breaker t act.status act.stamp)) lent ≡ true
  commanded-sound t act status late is-fresh =
      let ahead = fresh-ahead act.stamp t is-fresh in
      let stamp : (larger act.stamp t).0 ≤ last_held_stamp = larger-most act.stamp t last_held_stamp (omega (arith, late, ahead)) (omega (arith, late)) in
      with-parts site.down (after_command site.breaker t act.status act.stamp) site.made before.of-down
      (command-sound site.breaker t act.status act.stamp before.of-breaker (le-leb t.0 last_held_clock (omega (arith, late)))
      (simp (le-leb act.status 1 status, le-leb (larger act.stamp t).0 last_held_stamp stamp)))
      before.first-g before.last-g before.of-made
