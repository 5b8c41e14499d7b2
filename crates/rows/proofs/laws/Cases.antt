-- What each row's test tells, and so which number a step is answered with.
use Rattle.std.specs.Prelude.{ℕ, ◌+◌, ◌-◌, ◌≤◌, ◌<◌, ◌≡◌, refl, true, not, ◌&&◌, ◌↔◌, ◌⊎◌, leb}
use Rattle.std.proofs.Common.{sym, ◌∙◌, true≢false, arith, le-leb, leb-true}
use Rattle.refusals.specs.declared.Refusal.TheVariants.{BadStart, BadNumber, Compromised, WrongPhase, NotNow, ClockBack, NotFresh, NotVouchedFor, NotNew, NotAbove, NotArmed, NotRemembered, TooManyDown, LastClock, Unsound}
use Rattle.refusals.specs.Tests.{number_in, refusal, test_at}
use Rattle.refusals.specs.laws.Bools.{and_assoc, left, right}
use Rattle.time.specs.declared.Dts.{Dts}
use Rattle.time.specs.Fresh.{fresh}
use Rattle.time.specs.Limits.{last_held_clock, stamp_sound, clock_sound}
use Rattle.senders.specs.Masks.{is_in, size, within}
use Rattle.store.specs.Store.{store_within}
use Rattle.store.specs.Held.{held}
use Rattle.steps.specs.declared.Beginning.{Beginning}
use Rattle.steps.specs.declared.Step.{Step}
use Rattle.steps.specs.Named.{tick, share_timeout, resend_timeout, command, down, Named, named, paired}
use Rattle.node.specs.declared.Node.{Node}
use Rattle.node.specs.Asked.{node_sound}
use Rattle.breaker.specs.Breaker.{changes_sound, breaker_sound}
use Rattle.site.specs.declared.Site.{Site}
use Rattle.site.specs.Site.{nodes, n, g, most_f, most_k, first_g, last_start_g, last_g, sets_sound, site_sound, actor_sound}
use Rattle.refusing.specs.Tests.{counted, phase_takes, last_clock, can_begin, top_stamp, rows_for, table_for, tests_of}
use Rattle.rows.specs.Exactly.{Condition, NoneBefore, None, Tells, Tell, no_rows, also}
use Rattle.rows.specs.laws.Exactly.{exactly, exactly-done, at_most, met}
use Rattle.rows.specs.Outsiders.{Outsider}
use Rattle.rows.specs.laws.Outsiders.{outsider}
use Rattle.rows.specs.laws.Answered.{answered_with, answered-is}
use Rattle.rows.specs.Conditions.{SiteOutOfRange, later_rows, refusal_table}
use Rattle.rows.specs.laws.Telling.{itself, above, from, other, negated, equal, ◌or◌, ◌and◌, spelled, worded, of-named, of-each, of-one, kind-is, no_start}
use Rattle.rows.proofs.laws.Ranges.{store-tells, pair-tells, changes-tell, node-tells, new-tells, in-attempt-tells, armed-tells}

pub site-tells : (site : Site) (lent : ℕ) (node : Node) (the : Named) → Tells (site_sound site lent) (SiteOutOfRange site lent node the)
unfolding site_sound sets_sound breaker_sound
site-tells site lent node the =
    spelled spelling
    (itself site.started
    or above (n site) lent
    or above site.f most_f
    or above site.k most_k
    or above first_g (g site).0
    or above (g site).0 last_g
    or outsider site.compromised (n site)
    or above (size site.compromised) site.f
    or outsider site.down (n site)
    or store-tells site.made (n site)
    or pair-tells site.breaker.pair
    or above site.breaker.clock.0 last_held_clock
    or changes-tell site.breaker.changes)
  where
    spelling : site_sound site lent
        ≡ (site.started
        && (leb (n site) lent
        && (leb site.f most_f
        && (leb site.k most_k
        && (leb first_g (g site).0
        && (leb (g site).0 last_g
        && (within site.compromised (n site)
        && (leb (size site.compromised) site.f
        && (within site.down (n site)
        && (store_within site.made (n site)
        && ((leb site.breaker.pair.status 1 && stamp_sound site.breaker.pair.stamp)
        && (clock_sound site.breaker.clock && changes_sound site.breaker.changes))))))))))))
    spelling = simp and_assoc

pub actor-tells : (site : Site) (node : Node) (i : ℕ) {C : Type 0} → Tells (node_sound node (n site)) C → Tells (actor_sound site node i) ((i < n site) × C)
unfolding actor_sound
actor-tells site node i tells = above (n site) i and tells

begin-tells : (lent : ℕ) (b : Beginning)
    → Tells (can_begin lent b)
    ((4 < b.f)
    ⊎ (3 < b.k)
    ⊎ (1 < b.status)
    ⊎ (b.g.0 < 2)
    ⊎ (999_999_000 < b.g.0)
    ⊎ Outsider b.compromised (nodes b.f b.k)
    ⊎ (b.f < size b.compromised)
    ⊎ (lent < nodes b.f b.k))
begin-tells lent b =
    spelled (simp and_assoc)
    (above b.f most_f
    or above b.k most_k
    or above b.status 1
    or above first_g b.g.0
    or above b.g.0 last_start_g
    or outsider b.compromised (nodes b.f b.k)
    or above (size b.compromised) b.f
    or above (nodes b.f b.k) lent)

fresh-tells : (T t : Dts) → Tells (fresh T t) ((T.0 + 2 < t.0) ⊎ (t.0 + 2 < T.0))
fresh-tells T t = worded (λ h. omega arith, λ h. omega arith) (above (t.0 - 2) T.0) or above T.0 (t.0 + 2)

stale-tells : (T t : Dts) → Tells (not (fresh T t)) ((t.0 ≤ T.0 + 2) × (T.0 ≤ t.0 + 2))
stale-tells T t = worded (near, far) (negated (fresh T t))
  where
    near : fresh T t ≡ true → (t.0 ≤ T.0 + 2) × (T.0 ≤ t.0 + 2)
    near e =
        let low : t.0 - 2 ≤ T.0 = leb-true _ _ (left (leb (t.0 - 2) T.0) _ e) in
        (omega (arith, low), leb-true _ _ (right (leb (t.0 - 2) T.0) _ e))

    far : (t.0 ≤ T.0 + 2) × (T.0 ≤ t.0 + 2) → fresh T t ≡ true
    far h = simp (le-leb (t.0 - 2) T.0 (omega (arith, h.0)), le-leb T.0 (t.0 + 2) h.1)

-- every row's test tells the row's condition: those after 16, whatever step it is that names these things,
pub later-rows-tell : (site : Site) (lent : ℕ) (node : Node) (the : Named) → Tell (rows_for site lent node the) (later_rows site lent node the)
later-rows-tell site lent node the =
    let said = the.said in
    also BadStart (of-named the.beginning (begin-tells lent))
    (also BadNumber
    (of-named the.actor (λ i. from i (n site))
    or of-named said.sender (λ i. from i (n site))
    or of-named said.status (λ A. above A 1)
    or of-named said.back (λ back. above back 7)
    or of-named (paired said.stamps) (λ T. equal T.0 top_stamp))
    (also Compromised (of-named the.actor λ i. negated (is_in site.compromised i))
    (also WrongPhase (of-named the.actor λ i. itself (phase_takes node.phase said.kind))
    (also NotNow (of-named the.clock λ t. other t.0 (g site).0 and other t.0 ((g site).0 + 1))
    (also ClockBack (of-named the.clock λ t. above (last_clock site node the.actor).0 t.0)
    (also NotFresh (of-named the.clock λ t. of-one said.stamps λ T. fresh-tells T t)
    (also NotVouchedFor
    ((of-named the.clock λ t. of-named said.sender λ i. of-named said.status λ A. of-each said.stamps λ T.
    stale-tells T t and itself (is_in site.compromised i) and itself (held site.made A T i))
    or kind-is said.kind command and (of-named said.status λ A. of-each said.stamps λ T. above (site.f + 1) (size (counted site A T))))
    (also NotNew (of-named said.number λ number. new-tells node number)
    (also NotAbove
    (kind-is said.kind command and (of-named said.status λ A.
    other A site.breaker.pair.status and (of-each said.stamps λ T. from site.breaker.pair.stamp.0 T.0)))
    (also NotArmed
    (kind-is said.kind share_timeout and in-attempt-tells node or kind-is said.kind resend_timeout and armed-tells node)
    (also NotRemembered (of-named said.back λ back. above (back + 1) site.breaker.changes.count)
    (also TooManyDown (kind-is said.kind down and from (size site.down) site.k)
    (also LastClock (kind-is said.kind tick and equal (g site).0 1_000_000_000)
    no_rows)))))))))))))

module _ (site : Site) (lent : ℕ) (node : Node) (step : Step) where
  -- and 16
  rows_tell : Tell (table_for site lent node (named step)) (refusal_table site lent node (named step))
  rows_tell =
      let the = named step in
      also Unsound (no_start the.beginning (site-tells site lent node the or of-named the.actor (λ i. actor-tells site node i (node-tells node (n site)))))
      (later-rows-tell site lent node the)

  number : answered_with site lent node step ≡ number_in (refusal (table_for site lent node (named step)))
  unfolding tests_of
  number = answered-is site lent node step

  -- A step is answered with k exactly when the condition of row k is met and that of no row in front of it.
  pub told : (k : ℕ) → 0 < k
      → (answered_with site lent node step ≡ k) ↔ (NoneBefore k (refusal_table site lent node (named step)) × Condition k (refusal_table site lent node (named step)))
  told k pos = rw number (exactly rows_tell refl k pos)

  -- A step that passes the test of row k is not answered with k.
  pub not-given : (k : ℕ) → 0 < k → test_at k (table_for site lent node (named step)) ≡ true → answered_with site lent node step ≡ k → ⊥
  not-given k pos passes is = true≢false (sym passes ∙ met rows_tell k ((told k pos).0 is).1)

  -- It is answered with 0 exactly when no row has its condition met,
  pub told-done : (answered_with site lent node step ≡ 0) ↔ None (refusal_table site lent node (named step))
  told-done = rw number (exactly-done rows_tell refl)

  -- and with no number above 16.
  pub told-at-most : answered_with site lent node step ≤ 16
  told-at-most = rw number (at_most rows_tell 16 refl)
