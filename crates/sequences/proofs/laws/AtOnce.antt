-- Where f+1 senders are held at a fresh stamp above a node's breaker stamp, for the action that it attempts, it sends the command in that same step: read off what
-- is sent.
use Rattle.std.specs.Prelude.{ℕ, ◌+◌, ◌≡◌, refl, Bool, true, false, not, ◌&&◌, ◌||◌, cond, ◌⊎◌, List, [], ◌∷◌, ◌++◌, eqb, leb, ltb, Option, Some, None}
use Rattle.std.proofs.Common.{sym, ap, ap₂, subst, ◌∙◌, inl, inr, lt-ltb, le-leb, ltb-true, leb-true, eqb-true, eq-eqb}
use Rattle.std.proofs.lemmas.Bool.{false≢true}
use Rattle.refusals.specs.laws.Bools.{left, right}
use Rattle.time.specs.declared.Dts.{Dts}
use Rattle.time.specs.Fresh.{fresh}
use Rattle.senders.specs.Sets.{count_below}
use Rattle.store.specs.Earliest.{fresh_stamps, first_of}
use Rattle.pairs.specs.declared.Pair.{Pair}
use Rattle.pairs.specs.Pair.{pair, listed, listed_known, has}
use Rattle.node.specs.State.{attempts}
use Rattle.combining.specs.laws.OwnLaws.{has-append}
use Rattle.steps.specs.declared.Beginning.{Beginning}
use Rattle.steps.specs.declared.Event.{Event}
use Rattle.steps.specs.declared.Step.{Step}
use Rattle.steps.specs.declared.Step.TheVariants.{Start, Tick, AtNode, Life, AtBreaker}
use Rattle.steps.specs.Named.{resend_timeout, said_by, is_kind}
use Rattle.rows.specs.laws.Telling.{kind-is}
use Rattle.told.specs.Telling.{again_of, again_by, is_enough, command_at, combined_of}
use Rattle.told.specs.laws.First.{some_first, IsFirst, first-is}
use Rattle.site.specs.Site.{nodes}
use Rattle.sequences.specs.History.{Accepted}
use Rattle.sequences.specs.Told.{told_to, r_then, b_then, held_then}
use Rattle.sequences.specs.Demand.{EachStep, IsResent, Attempts, HeldEnough, IsEarliest, SendsAtOnceHere, SendsAtOnceBy}
use Rattle.sequences.specs.State.{commands_told, SentSo}

-- among two lists, among one of them
either-has : (ps qs : List Pair) (A : ℕ) (T : Dts) → has (ps ++ qs) A T ≡ true → (has ps A T ≡ true) ⊎ (has qs A T ≡ true)
either-has ps qs A T e = go (has ps A T) refl (sym (has-append ps qs A T) ∙ e)
  where
    go : (x : Bool) → has ps A T ≡ x → (x || has qs A T) ≡ true → (has ps A T ≡ true) ⊎ (has qs A T ≡ true)
    go true ex h = inl ex
    go false ex h = inr h

has_last : (ps qs : List Pair) (A : ℕ) (T : Dts) → has qs A T ≡ true → has (ps ++ qs) A T ≡ true
has_last ps qs A T e = has-append ps qs A T ∙ go (has ps A T)
  where
    go : (x : Bool) → (x || has qs A T) ≡ true
    go true = refl
    go false = e

-- the one pair that is known
only_one : (p : Pair) (A : ℕ) (T : Dts) → has (p ∷ []) A T ≡ true → (A ≡ p.status) × (T.0 ≡ p.stamp.0)
only_one p A T e = go (eqb A p.status && eqb T.0 p.stamp.0) refl e
  where
    go : (x : Bool) → (eqb A p.status && eqb T.0 p.stamp.0) ≡ x → (x || false) ≡ true → (A ≡ p.status) × (T.0 ≡ p.stamp.0)
    go true ex h = (eqb-true _ _ (left (eqb A p.status) (eqb T.0 p.stamp.0) ex), eqb-true _ _ (right (eqb A p.status) (eqb T.0 p.stamp.0) ex))
    go false ex h = absurd (false≢true h)

itself : (p : Pair) → has (p ∷ []) p.status p.stamp ≡ true
itself p = simp (eq-eqb p.status p.status refl, eq-eqb p.stamp.0 p.stamp.0 refl)

-- ---- what is sent again

resent : (t : Dts) (resend : Option Dts) (b : Option Pair) (A : ℕ) (T : Dts) → has (listed_known (again_of t resend b)) A T ≡ true → IsResent resend b A T
resent t (Some U) (Some p) A T e = go (fresh U t) e
  where
    go : (x : Bool) → has (listed_known (cond x (Some (pair p.status U)) None)) A T ≡ true → (A ≡ p.status) × (T.0 ≡ U.0)
    go true e = only_one _ A T e
    go false e = absurd (false≢true e)
resent t (Some U) None A T e = absurd (false≢true e)
resent t None b A T e = absurd (false≢true e)

module _ (b : Beginning) (a : Accepted) (before : List Accepted) (j : ℕ) (t : Dts) (event : Event) where
  abbrev n : ℕ
  n = nodes b.f b.k

  abbrev held : ℕ → Dts → ℕ → Bool
  held = held_then before a j t

  abbrev again : Option Pair
  again = again_by (said_by event) t (told_to b j before).resend (told_to b j before).b

  abbrev rule : Option Pair
  rule = combined_of n b.f t held (r_then b before j t event) (b_then b before j t event)

  abbrev test : Pair → Pair → ℕ → Bool
  test r p = is_enough n b.f p.stamp (held r.status)

  tested : (r p : Pair) (T : Dts) → HeldEnough b a before j t event r.status p T → test r p T.0 ≡ true
  tested r p T (is, above, enough) = simp (lt-ltb p.stamp.0 T.0 above, le-leb (b.f + 1) (count_below n (held r.status T)) enough)

  enough-of : (r p : Pair) (T : Dts) → fresh T t ≡ true → test r p T.0 ≡ true → HeldEnough b a before j t event r.status p T
  enough-of r p T is e = (
    is,
    ltb-true _ _ (left (ltb p.stamp.0 T.0) (leb (b.f + 1) (count_below n (held r.status T))) e),
    leb-true _ _ (right (ltb p.stamp.0 T.0) (leb (b.f + 1) (count_below n (held r.status T))) e),
  )

  earliest-of : (r p : Pair) (U : Dts) → IsFirst t (test r p) U → IsEarliest b a before j t event r.status p U
  earliest-of r p U first = (enough-of r p U first.is-fresh first.passes, λ W enough. first.earliest W.0 enough.0 (tested r p W enough))

  ruled : (r p : Pair) → r_then b before j t event ≡ Some r → b_then b before j t event ≡ Some p → attempts r p ≡ true
      → rule ≡ command_at r.status (first_of (test r p) (fresh_stamps t))
  ruled r p is-r is-p attempting =
      ap₂ (combined_of n b.f t held) is-r is-p ∙ ap (λ (x : Bool). cond x (command_at r.status (first_of (test r p) (fresh_stamps t))) None) attempting

  -- a command of the rule
  by-rule : (x y : Option Pair) → r_then b before j t event ≡ x → b_then b before j t event ≡ y → (A : ℕ) (T : Dts) → has (listed_known (combined_of n b.f t held x y)) A T ≡ true
      → (p : Pair) × Attempts b a before j t event A p × IsEarliest b a before j t event A p T
  by-rule (Some r) (Some p) is-r is-p A T = go (attempts r p) (first_of (test r p) (fresh_stamps t)) refl refl
    where
      go : (x : Bool) (e : Option Dts) → attempts r p ≡ x → first_of (test r p) (fresh_stamps t) ≡ e → has (listed_known (cond x (command_at r.status e) None)) A T ≡ true
          → (p : Pair) × Attempts b a before j t event A p × IsEarliest b a before j t event A p T
      go false e ex ee h = absurd (false≢true h)
      go true None ex ee h = absurd (false≢true h)
      go true (Some U) ex ee h =
          let that = only_one _ A T h in
          let stamp : T ≡ U = ap (λ (k : ℕ). record { 0 = k }) that.1 in (
            p,
            (r, is-r, is-p, ex, that.0),
            subst (λ (B : ℕ). IsEarliest b a before j t event B p T) (sym that.0)
                (subst (IsEarliest b a before j t event r.status p) (sym stamp) (earliest-of r p U (first-is t (test r p) U ee))),
          )
  by-rule (Some r) None is-r is-p A T = λ h. absurd (false≢true h)
  by-rule None y is-r is-p A T = λ h. absurd (false≢true h)

  pub sends-here : listed a.sent.commands ≡ listed_known again ++ listed_known rule → SendsAtOnceHere b a before j t event
  sends-here so =
      record {
        at_once = λ A p T. sends A p T;
        no_other = λ A T h. from (either-has (listed_known again) (listed_known rule) A T (ap (λ (ps : List Pair). has ps A T) (sym so) ∙ h));
      }
    where
      sends : (A : ℕ) (p : Pair) (T : Dts) → Attempts b a before j t event A p → HeldEnough b a before j t event A p T
          → (U : Dts) × IsEarliest b a before j t event A p U × (has (listed a.sent.commands) A U ≡ true)
      sends A p T (r, is-r, is-p, attempting, same) enough =
          let here = subst (λ (B : ℕ). HeldEnough b a before j t event B p T) same enough in
          let found = some_first t (test r p) T.0 here.0 (tested r p T here) in (
            found.0,
            subst (λ (B : ℕ). IsEarliest b a before j t event B p found.0) (sym same) (earliest-of r p found.0 (first-is t (test r p) found.0 found.1)),
            subst (λ (B : ℕ). has (listed a.sent.commands) B found.0 ≡ true) (sym same)
                (ap (λ (ps : List Pair). has ps r.status found.0) so
                ∙ has_last (listed_known again) (listed_known rule) r.status found.0
                (ap (λ (k : Option Pair). has (listed_known k) r.status found.0) (ruled r p is-r is-p attempting ∙ ap (command_at r.status) found.1) ∙ itself (pair r.status found.0))),
          )

      from : {A : ℕ} {T : Dts} → (has (listed_known again) A T ≡ true) ⊎ (has (listed_known rule) A T ≡ true)
          → (IsResent (told_to b j before).resend (told_to b j before).b A T × ((said_by event).kind ≡ resend_timeout)) ⊎ ((p : Pair) × Attempts b a before j t event A p × IsEarliest b a before j t event A p T)
      from {A} {T} (inl h) = inl (go (is_kind (said_by event).kind resend_timeout) refl h)
        where
          go : (x : Bool) → is_kind (said_by event).kind resend_timeout ≡ x → has (listed_known (cond x (again_of t (told_to b j before).resend (told_to b j before).b) None)) A T ≡ true
              → IsResent (told_to b j before).resend (told_to b j before).b A T × ((said_by event).kind ≡ resend_timeout)
          go true e h = (resent t (told_to b j before).resend (told_to b j before).b A T h, (kind-is (said_by event).kind resend_timeout).0 (ap not e))
          go false e h = absurd (false≢true h)
      from {A} {T} (inr h) = inr (by-rule (r_then b before j t event) (b_then b before j t event) refl refl A T h)

-- ---- every step

one-sends : (b : Beginning) (a : Accepted) (before : List Accepted) (step : Step) → listed a.sent.commands ≡ commands_told b before a step → SendsAtOnceBy b a before step
one-sends b a before (Start b') so = so
one-sends b a before Tick so = so
one-sends b a before (AtNode j t event) so = sends-here b a before j t event so
one-sends b a before (Life i turn) so = so
one-sends b a before (AtBreaker t act) so = so

pub each-sends : (b : Beginning) (steps : List Accepted) → EachStep (SentSo b) steps → EachStep (λ a before. SendsAtOnceBy b a before a.step) steps
each-sends b [] so = tt
each-sends b (a ∷ before) so = (one-sends b a before a.step so.0.commands, each-sends b before so.1)
