-- An event to its end: what the node has been told then, what it shared, and what it sent.
use Rattle.std.specs.Prelude.{ℕ, ◌≡◌, Bool, not, ◌&&◌, cond, ◌++◌, Option, Some, None}
use Rattle.std.proofs.Math.Path.{refl, ap, subst}
use Rattle.std.proofs.Common.{sym, ap₂, ◌∙◌, inl, inr}
use Rattle.std.proofs.Math.Bool.{true, false, and-not_self}
use Rattle.std.proofs.lemmas.Bool.{false≢true}
use Rattle.std.proofs.Math.Dec.{eqb}
use borrow.Author.Tests.{eq-eqb}
use Rattle.time.specs.declared.Dts.{Dts}
use Rattle.time.specs.Fresh.{fresh}
use Rattle.store.specs.declared.Store.{Store}
use Rattle.store.specs.Earliest.{earliest}
use Rattle.pairs.specs.declared.Pair.{Pair}
use Rattle.pairs.specs.Pair.{pair, listed, listed_known}
use Rattle.pairs.specs.laws.KnownLaws.{none-known, same_known}
use Rattle.node.specs.declared.Record.{Record}
use Rattle.node.specs.declared.Phase.{Phase}
use Rattle.node.specs.declared.Phase.TheVariants.{Down, Starting, Running}
use Rattle.node.specs.declared.Changed.{Changed}
use Rattle.node.specs.declared.Node.{Node}
use Rattle.node.specs.State.{attempts}
use Rattle.node.specs.Asked.{phase_down, phase_starting, known_r, known_b}
use Rattle.node.specs.laws.PhaseLaws.{RunsOnceKnown}
use Rattle.combining.specs.Combining.{commanding, combined, ended, put_all, followed, finished}
use Rattle.breaker.specs.declared.Breaker.{Breaker}
use Rattle.breaker.specs.Breaker.{change_at}
use Rattle.steps.specs.declared.Event.{Event}
use Rattle.steps.specs.Named.{resend_timeout, Said, said_by, is_kind}
use Rattle.acting.specs.Acting.{changed_by, stored, acted}
use Rattle.acting.specs.laws.ByEvent.{remembers}
use Rattle.told.specs.Telling.{Knows, are_done, reported_as, relay_by, acked_as, heard_by, is_stale, gives_up_by, returns_to, breaker_by, is_ack_of, leaves_done, resend_by, shares_by, again_of, again_by, last_of, or_sent, or_armed, knows_after, known_in}
use Rattle.told.proofs.laws.Exact.{AgainAlone, Suits, told-by}
use Rattle.told.proofs.laws.Armed.{ArmedAs, ArmedIn, armed-left}

-- ---- the combining rule

abbrev sends : Option Pair → Knows → Knows
sends command k = record { r = k.r; b = or_sent command k.b; second = k.second; number = k.number; resend = or_armed command k.resend }

module _ (store : Store) (f : ℕ) where
  combined-knows : (rec : Record) → known_in (Running (combined rec store f).rec) ≡ sends (combined rec store f).command (known_in (Running rec))
  unfolding combined
  combined-knows rec = go (attempts rec.r rec.b) (earliest store rec.r.status rec.b.stamp f)
    where
      go : (x : Bool) (e : Option Dts)
          → known_in (Running (cond x (commanding rec e) (record { rec = rec; command = None })).rec)
          ≡ sends (cond x (commanding rec e) (record { rec = rec; command = None })).command (known_in (Running rec))
      go false e = refl
      go true None = refl
      go true (Some T) = refl

  ended-known : (p : Phase) → known_in (ended p store f).phase ≡ sends (ended p store f).command (known_in p)
  ended-known Down = refl
  ended-known (Starting l) = refl
  ended-known (Running rec) = combined-knows rec

  -- the command that the rule sends is of r's status
  combined-done : (rec : Record) (c : Pair) → (combined rec store f).command ≡ Some c → eqb rec.r.status c.status ≡ true
  unfolding combined
  combined-done rec c = go (attempts rec.r rec.b) (earliest store rec.r.status rec.b.stamp f)
    where
      go : (x : Bool) (e : Option Dts) → (cond x (commanding rec e) (record { rec = rec; command = None })).command ≡ Some c → eqb rec.r.status c.status ≡ true
      go false e is = absurd (none-known is)
      go true None is = absurd (none-known is)
      go true (Some T) is = eq-eqb _ _ (ap (λ (p : Pair). p.status) (same_known _ c is))

  ended-done : (p : Phase) (c : Pair) → (ended p store f).command ≡ Some c → are_done (known_r p) (Some c) ≡ true
  ended-done Down c is = absurd (none-known is)
  ended-done (Starting l) c is = absurd (none-known is)
  ended-done (Running rec) c is = combined-done rec c is

-- ---- a command that is sent again is b, with the stamp being resent

sent-again : (t : Dts) (r b : Option Pair) (resend : Option Dts) (q : Pair) → ArmedAs r b resend → again_of t resend b ≡ Some q
    → (b ≡ Some q) × (resend ≡ Some q.stamp) × (is_stale resend t ≡ false)
sent-again t r b None q armed is = absurd (none-known is)
sent-again t r None (Some T) q armed is = absurd (none-known is)
sent-again t r (Some p) (Some T) q (o, has, at, done) is = go (fresh T t) refl is
  where
    go : (x : Bool) → fresh T t ≡ x → cond x (Some (pair p.status T)) None ≡ Some q → (Some p ≡ Some q) × (Some T ≡ Some q.stamp) × (not (fresh T t) ≡ false)
    go true e is =
        let that : p ≡ o = same_known p o has in
        let this : pair p.status T ≡ q = same_known (pair p.status T) q is in
        let stamp : p.stamp ≡ T = ap (λ (x : Pair). x.stamp) that ∙ at in
        (ap (λ (x : Dts). Some (pair p.status x)) stamp ∙ ap Some this, ap (λ (x : Pair). Some x.stamp) this, ap not e)
    go false e is = absurd (none-known is)

module _ (said : Said) (changeNumber : ℕ → Option Pair) (now : Pair) (t : Dts) (k : Knows) (q : Pair) (armed : ArmedIn k) where
  abbrev then : Knows
  then = knows_after said t changeNumber now None k

  again-same : AgainAlone said → again_by said t k.resend k.b ≡ Some q → (then.b ≡ Some q) × (then.resend ≡ Some q.stamp)
  again-same (inl other) is = absurd (none-known (sym (ap (λ (x : Bool). cond x (again_of t k.resend k.b) None) other) ∙ is))
  again-same (inr (no-report, no-query, no-ack)) is =
      let sent = sent-again t k.r k.b k.resend q armed (of-again (is_kind said.kind resend_timeout) is) in
      let same-r : relay_by said t k.b k.r ≡ k.r = ap (λ (x : Bool). cond x (reported_as said.status t k.b) k.r) no-report in
      let holds : gives_up_by said t k.resend ≡ false = ap (λ (x : Bool). is_kind said.kind resend_timeout && x) sent.2 ∙ and-false (is_kind said.kind resend_timeout) in
      let same-b : breaker_by said t changeNumber now k ≡ k.b =
      ap (λ (x : Bool). cond x (returns_to k.second k.b) (heard_by said changeNumber now k.b)) holds
      ∙ ap (λ (x : Bool). cond x (Some now) (acked_as said.back changeNumber k.b)) no-query
      ∙ ap (λ (o : Option ℕ). acked_as o changeNumber k.b) no-ack in (
        same-b ∙ sent.0,
        ap₂ (λ (r' b' : Option Pair). resend_by said t changeNumber k.r k.b r' b' k.resend) same-r same-b
            ∙ ap (λ (x : Bool). cond x None (cond (is_ack_of said.back changeNumber k.b) None (cond (leaves_done k.r k.b k.r k.b) None k.resend))) holds
            ∙ ap (λ (o : Option ℕ). cond (is_ack_of o changeNumber k.b) None (cond (leaves_done k.r k.b k.r k.b) None k.resend)) no-ack
            ∙ ap (λ (x : Bool). cond x None k.resend) (and-not_self (are_done k.r k.b))
            ∙ sent.1,
      )
    where
      of-again : (x : Bool) → cond x (again_of t k.resend k.b) None ≡ Some q → again_of t k.resend k.b ≡ Some q
      of-again true e = e
      of-again false e = absurd (none-known e)

      and-false : (x : Bool) → (x && false) ≡ false
      and-false true = refl
      and-false false = refl

-- a node that starts up resends nothing
starting-off : (p : Phase) → phase_starting p ≡ true → (known_in p).resend ≡ None
starting-off Down e = refl
starting-off (Starting l) e = refl
starting-off (Running rec) e = absurd (false≢true e)

-- ---- every event, to its end

module _
    (breaker : Breaker) (node : Node) (i f : ℕ) (t : Dts) (event : Event)
    (up : not (phase_down node.phase) ≡ true) (suits : Suits node.phase (said_by event).kind) (known : remembers breaker event ≡ true)
    (armed : ArmedIn (known_in node.phase))
  where
    abbrev p : Phase
    p = node.phase

    abbrev left : Changed
    left = changed_by breaker p t event

    abbrev own : Store
    own = put_all (stored p node.store t event) i left.shares

    abbrev rule : Option Pair
    rule = (ended left.phase own f).command

    -- what the node has been told, with what it sent
    abbrev after : Option Pair → Knows
    after sent = knows_after (said_by event) t (change_at breaker) breaker.pair sent (known_in p)

    abbrev again : Option Pair
    again = again_by (said_by event) t (known_in p).resend (known_b p)

    sent-last : (x c : Option Pair) → again ≡ x → sends c (after None) ≡ after (last_of (listed (followed x c)))
    sent-last (Some q) (Some c) is = refl
    sent-last None (Some c) is = refl
    sent-last None None is = refl
    sent-last (Some q) None is =
        let same = again-same (said_by event) (change_at breaker) breaker.pair t (known_in p) q armed (told-by breaker t event p).alone is in
        ap₂ (λ (b : Option Pair) (resend : Option Dts). record { r = (after None).r; b = b; second = (after None).second; number = (after None).number; resend = resend }) same.0 same.1

    pub event-known : known_in (acted breaker node i f t event).node.phase ≡ after (last_of (listed (acted breaker node i f t event).commands))
    unfolding acted finished
    event-known =
        ended-known own f left.phase
        ∙ ap (sends rule) ((told-by breaker t event p).knows up suits known)
        ∙ sent-last again rule refl
        ∙ ap (λ (x : Option Pair). after (last_of (listed (followed x rule)))) (sym (told-by breaker t event p).command)

    pub event-armed : ArmedIn (known_in (acted breaker node i f t event).node.phase)
    unfolding acted finished
    event-armed =
        subst ArmedIn (sym (ended-known own f left.phase ∙ ap (sends rule) ((told-by breaker t event p).knows up suits known)))
        (go rule (λ c is. subst (λ (k : Knows). are_done k.r (Some c) ≡ true) ((told-by breaker t event p).knows up suits known) (ended-done own f left.phase c is)))
      where
        go : (c : Option Pair) → ((d : Pair) → c ≡ Some d → are_done (after None).r (Some d) ≡ true) → ArmedIn (sends c (after None))
        go (Some d) done = (d, refl, refl, done d refl)
        go None done = armed-left (said_by event) (change_at breaker) breaker.pair t (known_in p) (told-by breaker t event p).apart (λ e. starting-off p (suits.starts e)) armed

    pub event-shares : RunsOnceKnown p
        → (acted breaker node i f t event).shares ≡ shares_by (said_by event) t (known_r p) (known_b p) (relay_by (said_by event) t (known_b p) (known_r p))
    unfolding acted finished
    event-shares once = (told-by breaker t event p).shares up suits once

    -- what is sent: the command that is sent again, and then that of the combining rule
    pub event-commands : listed (acted breaker node i f t event).commands ≡ listed_known again ++ listed_known rule
    unfolding acted finished
    event-commands = ap (λ (x : Option Pair). listed (followed x rule)) (told-by breaker t event p).command ∙ both again rule
      where
        both : (x c : Option Pair) → listed (followed x c) ≡ listed_known x ++ listed_known c
        both (Some q) (Some c) = refl
        both (Some q) None = refl
        both None (Some c) = refl
        both None None = refl
