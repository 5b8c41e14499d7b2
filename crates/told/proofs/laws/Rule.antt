-- The combining rule, for who is held: it sends the command of the earliest fresh stamp above b's that is held from at least f + 1 of n nodes.
use Rattle.std.specs.Prelude.{ℕ, zero, suc, ◌+◌, ◌^◌, ◌≤◌, ◌<◌, ◌≡◌, Bool, ◌&&◌, Option, Some, None}
use Rattle.pairs.specs.declared.Pair.{Pair}
use Rattle.std.proofs.Math.Path.{refl, ap}
use Rattle.std.proofs.Common.{ap₂, ◌∙◌, arith, lt-ltb}
use Rattle.std.proofs.Math.Bool.{true, false, cond}
use Rattle.std.proofs.lemmas.Bool.{false≢true}
use Rattle.std.proofs.Math.Dec.{leb, ltb}
use Rattle.refusals.specs.laws.Bools.{and-true}
use Rattle.time.specs.declared.Dts.{Dts}
use Rattle.time.specs.laws.Fresh.{latest_clock}
use Rattle.senders.specs.Sets.{count_below}
use Rattle.senders.specs.laws.Sets.{count-ext, count-above}
use Rattle.senders.specs.Masks.{size, room}
use Rattle.tables.specs.Tables.{table}
use Rattle.store.specs.declared.Store.{Store}
use Rattle.store.specs.Store.{stamps, senders_of}
use Rattle.store.specs.Held.{held}
use Rattle.store.specs.Earliest.{dts, fresh_stamp, fresh_stamps, qualifies, first_of, earliest}
use Rattle.pairs.specs.laws.KnownLaws.{is_known}
use Rattle.node.specs.declared.Record.{Record}
use Rattle.node.specs.declared.Phase.{Phase}
use Rattle.node.specs.declared.Phase.TheVariants.{Down, Starting, Running}
use Rattle.node.specs.State.{attempts}
use Rattle.node.specs.Asked.{known_r, known_b}
use Rattle.node.specs.laws.PhaseLaws.{RunsOnceKnown}
use Rattle.combining.specs.Combining.{commanding, combined, ended}
use Rattle.told.specs.Telling.{is_enough, command_at, combined_of}

-- two searches by tests that agree
first-same : (test other : ℕ → Bool) (m : ℕ) (rule : ℕ → ℕ) → ((i : ℕ) → i < m → test (rule i) ≡ other (rule i)) → first_of test (table m rule) ≡ first_of other (table m rule)
unfolding table
first-same test other zero rule same = refl
first-same test other (suc m) rule same =
    ap₂ (λ (x : Bool) (rest : Option Dts). cond x (Some (dts (rule zero))) rest) (same zero (omega arith))
    (first-same test other m (λ i. rule (suc i)) (λ i l. same (suc i) (omega (arith, l))))

module _
    (n f : ℕ) (store : Store) (t : Dts) (heldFrom : ℕ → Dts → ℕ → Bool)
    (now : store.clock ≡ t) (not_late : t.0 ≤ latest_clock) (few : n ≤ room)
    (same : (A : ℕ) (T : Dts) (i : ℕ) → held store A T i ≡ heldFrom A T i) (below : (A : ℕ) (T : Dts) (i : ℕ) → held store A T i ≡ true → i < n)
  where
    outside : (A : ℕ) (T : Dts) (i : ℕ) → n ≤ i → (x : Bool) → held store A T i ≡ x → x ≡ false
    outside A T i l true e = absurd (let k = below A T i e in omega (arith, k, l))
    outside A T i l false e = refl

    counted : (A : ℕ) (T : Dts) → size (senders_of store A T) ≡ count_below n (heldFrom A T)
    unfolding size held
    counted A T = count-above n room (held store A T) few (λ i l. outside A T i l (held store A T i) refl) ∙ count-ext n (held store A T) (heldFrom A T) (λ i l. same A T i)

    tested : (A : ℕ) (above : Dts) (T : ℕ) → T < 2 ^ 32 → qualifies store A above f T ≡ is_enough n f above (heldFrom A) T
    unfolding qualifies
    tested A above T fits =
        ap (λ (x : Bool). ltb above.0 T && x && leb (f + 1) (size (senders_of store A (dts T)))) (lt-ltb T (2 ^ 32) fits)
        ∙ ap (λ (x : Bool). x && leb (f + 1) (size (senders_of store A (dts T)))) (and-true (ltb above.0 T))
        ∙ ap (λ (k : ℕ). ltb above.0 T && leb (f + 1) k) (counted A (dts T))

    found : (A : ℕ) (above : Dts) → earliest store A above f ≡ first_of (is_enough n f above (heldFrom A)) (fresh_stamps t)
    unfolding earliest
    found A above =
        ap (λ (c : Dts). first_of (qualifies store A above f) (fresh_stamps c)) now
        ∙ first-same (qualifies store A above f) (is_enough n f above (heldFrom A)) stamps (fresh_stamp t) (λ i l. tested A above (fresh_stamp t i) (omega (arith, l, not_late)))

    of-running : (rec : Record) → (combined rec store f).command ≡ combined_of n f t heldFrom (Some rec.r) (Some rec.b)
    unfolding combined
    of-running rec = go (attempts rec.r rec.b) (earliest store rec.r.status rec.b.stamp f) (found rec.r.status rec.b.stamp)
      where
        go : (x : Bool) (e : Option Dts) {s : Option Dts} → e ≡ s → (cond x (commanding rec e) (record { rec = rec; command = None })).command ≡ cond x (command_at rec.r.status s) None
        go false e is = refl
        go true None is = ap (command_at rec.r.status) is
        go true (Some T) is = ap (command_at rec.r.status) is

    pub by-rule : (p : Phase) → RunsOnceKnown p → (ended p store f).command ≡ combined_of n f t heldFrom (known_r p) (known_b p)
    by-rule Down once = refl
    by-rule (Starting l) once = go l.r l.b once
      where
        go : (r b : Option Pair) → false ≡ (is_known r && is_known b) → None ≡ combined_of n f t heldFrom r b
        go (Some r) (Some b) e = absurd (false≢true e)
        go (Some r) None e = refl
        go None b e = refl
    by-rule (Running rec) once = of-running rec
