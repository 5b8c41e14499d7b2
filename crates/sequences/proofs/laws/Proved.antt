-- The third demand holds.
use Rattle.std.specs.Prelude.{ℕ, ◌+◌, ◌-◌, ◌^◌, ◌≤◌, ◌<◌, ◌≡◌, refl, Bool, true, false, ◌&&◌, List, leb, ltb, Option}
use Rattle.std.proofs.Common.{sym, ap, ap₂, subst, ◌∙◌, arith, ltb-true, ltb-false}
use Rattle.std.proofs.lemmas.Bool.{lt-leb}
use Rattle.refusals.specs.laws.Bools.{and-false}
use Rattle.time.specs.declared.Dts.{Dts}
use Rattle.time.specs.Fresh.{fresh, window}
use Rattle.senders.specs.Sets.{count_below}
use Rattle.senders.specs.laws.Sets.{count-more, count_none}
use Rattle.senders.specs.Masks.{is_in, size, room}
use Rattle.store.specs.declared.Store.{Store}
use Rattle.store.specs.Store.{senders_of}
use Rattle.store.specs.Held.{held}
use Rattle.store.proofs.laws.EarliestLaws.{earliest-nothing}
use Rattle.pairs.specs.declared.Pair.{Pair}
use Rattle.pairs.specs.Pair.{has}
use Rattle.node.specs.declared.Record.{Record}
use Rattle.node.specs.State.{attempts}
use Rattle.node.specs.Asked.{phase_running}
use Rattle.combining.specs.laws.CombiningLaws.{Quiet}
use Rattle.site.specs.Site.{nodes}
use Rattle.sequences.specs.History.{Accepted, accepted, at_node, deliveries, fresh_at_clock}
use Rattle.sequences.specs.Moments.{node_at, holds}
use Rattle.sequences.specs.Demand.{Always, AtMostF, StatusAsTold, SharedByACorrectNode, StampsRise, RunsAsTold, HeldExactly, NoneLeft, OneSendersOwn}
use Rattle.sequences.proofs.laws.Fitting.{RunningFits, runs-told}
use Rattle.sequences.proofs.laws.Reaching.{reached-keeps}
use Rattle.sequences.proofs.laws.Changing.{reached-changing}

pub at-most-f : Always AtMostF
at-most-f first h m r b q = (reached-keeps r b q).few-compromised

-- ---- 1

pub status-as-told : Always StatusAsTold
status-as-told first h m r b q = (reached-changing r b q).status

pub shared-by-a-correct-node : Always SharedByACorrectNode
shared-by-a-correct-node first h m r b q = (reached-changing r b q).shared

-- ---- 2

pub stamps-rise : Always StampsRise
stamps-rise first h m r b q = (reached-changing r b q).rising

-- ---- 3

pub runs-as-told : Always RunsAsTold
runs-as-told first h m r b q j c =
    runs-told m.site.f j (node_at m j).phase (node_at m j).store (at_node j (accepted h)) ((reached-keeps r b q).fits j c)

pub held-exactly : Always HeldExactly
held-exactly first h m r b q j c e i A T =
    let fits = (reached-keeps r b q).fits j c in
    let running = fits.while-running (runs-told m.site.f j (node_at m j).phase (node_at m j).store (at_node j (accepted h)) fits ∙ e) in
    running.holding i A T ∙ ap (λ (t : Option Dts). has (deliveries i j (at_node j (accepted h))) A T && fresh_at_clock T t) (sym running.now)

pub one-senders-own : OneSendersOwn
one-senders-own first first' h h' m m' r r' b b' q q' j c c' e e' i same-deliveries same-clock A T =
    held-exactly first h m r b q j c e i A T
    ∙ ap₂ (λ (ps : List Pair) (t : Option Dts). has ps A T && fresh_at_clock T t) same-deliveries same-clock
    ∙ sym (held-exactly first' h' m' r' b' q' j c' e' i A T)

-- ---- 4

few-held : (f j : ℕ) (rec : Record) (s : Store) (own : List Accepted) (n : ℕ) → n ≤ room → RunningFits f j s own → Quiet rec s f → attempts rec.r rec.b ≡ true
    → (T : Dts) → rec.b.stamp.0 < T.0 → count_below n (held s rec.r.status T) ≤ f
unfolding size held
few-held f j rec s own n l fits left attempts-now T above = go (ltb T.0 (2 ^ 32)) refl
  where
    go : (x : Bool) → ltb T.0 (2 ^ 32) ≡ x → count_below n (held s rec.r.status T) ≤ f
    go true e =
        let few : count_below room (is_in (senders_of s rec.r.status T)) ≤ f = earliest-nothing s rec.r.status rec.b.stamp f (left attempts-now) T above (ltb-true _ _ e) in
        let more = count-more n room (held s rec.r.status T) l in
        omega (arith, few, more)
    go false e =
        let far : 2 ^ 32 ≤ T.0 = ltb-false _ _ e in
        let late = fits.not_late in
        let old : fresh T s.clock ≡ false =
        ap (λ (x : Bool). leb (s.clock.0 - window) T.0 && x) (lt-leb T.0 (s.clock.0 + window) (omega (arith, far, late)))
        ∙ and-false (leb (s.clock.0 - window) T.0)
        in
        let none = count_none n (held s rec.r.status T) (λ i.
        fits.holding i rec.r.status T ∙ ap (λ (x : Bool). has (deliveries i j own) rec.r.status T && x) old ∙ and-false (has (deliveries i j own) rec.r.status T)) in
        omega (arith, none)

pub none_left : Always NoneLeft
none_left first h m r b q j c rec is attempts-now T above =
    let keeps = reached-keeps r b q in
    let fits = keeps.fits j c in
    let running = fits.while-running (ap phase_running is) in
    subst (λ (f : ℕ). count_below (nodes b.f b.k) (holds m j rec.r.status T) ≤ f) keeps.same-f
    (few-held m.site.f j rec (node_at m j).store (at_node j (accepted h)) (nodes b.f b.k) keeps.few-nodes running (fits.nothing_left rec is)
    attempts-now T above)
