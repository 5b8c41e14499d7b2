-- What an accepted command says: the shares behind it, and its stamp.
use Rattle.std.specs.Prelude.{ℕ, ◌+◌, ◌≤◌, ◌<◌, ◌≡◌, Bool, true, false, ◌&&◌, ◌||◌, ltb}
use Rattle.std.proofs.Common.{sym, ap, ◌∙◌, arith, leb-true, ltb-true}
use Rattle.refusals.specs.laws.Bools.{and-true}
use Rattle.time.specs.declared.Dts.{Dts}
use Rattle.senders.specs.Sets.{count_below, either}
use Rattle.senders.specs.laws.Sets.{count-ext, vouched}
use Rattle.senders.specs.Masks.{is_in, size, room}
use Rattle.senders.proofs.laws.MaskLaws.{in-together}
use Rattle.store.specs.Store.{senders_of}
use Rattle.store.specs.Held.{held}
use Rattle.breaker.specs.Breaker.{repeats}
use Rattle.site.specs.declared.Site.{Site}
use Rattle.steps.specs.Named.{said_by_act}
use Rattle.refusing.specs.Tests.{counted, verdict, are_above}

-- "the compromised nodes, together with the correct nodes that have shared (A, T) since Start, number at least f+1": where at most f are
-- compromised, one of them is a correct node that has shared it
pub shared-by-one : (site : Site) (A : ℕ) (T : Dts) → size site.compromised ≤ site.f → verdict site A T ≡ true
    → (i : ℕ) × (is_in site.compromised i ≡ false) × (held site.made A T i ≡ true)
unfolding size held
shared-by-one site A T few says =
    let enough : site.f + 1 ≤ count_below room (is_in (counted site A T)) = leb-true _ _ says in
    let same = count-ext room (is_in (counted site A T)) (either (is_in site.compromised) (is_in (senders_of site.made A T))) (λ i l. in-together site.compromised (senders_of site.made A T) i) in
    let found = vouched room site.f (is_in site.compromised) (is_in (senders_of site.made A T)) few (omega (arith, enough, same)) in
    (found.0, found.3, found.2)

-- where it changes the status, its stamp is above the breaker's
pub stamp-above : (site : Site) (A : ℕ) (T : Dts) → are_above site (said_by_act (record { status = A; stamp = T })) ≡ true → repeats site.breaker A ≡ false
    → site.breaker.pair.stamp.0 < T.0
stamp-above site A T above changes =
    ltb-true _ _
    (sym (and-true (ltb site.breaker.pair.stamp.0 T.0))
    ∙ (ap (λ (same : Bool). same || (ltb site.breaker.pair.stamp.0 T.0 && true)) (sym changes) ∙ above))
