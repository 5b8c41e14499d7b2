-- The second pair is the latest of what this life's acks and queries have said: what was heard is never later than the breaker's pair, since its stamps rise.
use Rattle.std.specs.Prelude.{ℕ, zero, suc, ◌≤◌, ◌<◌, ◌≡◌, refl, Bool, true, false, ◌&&◌, ◌||◌, cond, List, [], ◌∷◌, ◌++◌, map, eqb, leb, ltb, Option, None, Some}
use Rattle.std.proofs.Common.{sym, ap, subst, ◌∙◌, arith, eq-eqb, leb-true, leb-false}
use Rattle.time.specs.declared.Dts.{Dts}
use Rattle.time.specs.laws.Larger.{larger-least}
use Rattle.pairs.specs.declared.Pair.{Pair}
use Rattle.pairs.specs.Pair.{pair, listed, listed_known, has}
use Rattle.breaker.specs.Breaker.{most_changes}
use Rattle.steps.specs.declared.Act.{Act}
use Rattle.steps.specs.declared.Beginning.{Beginning}
use Rattle.steps.specs.declared.Step.{Step}
use Rattle.steps.specs.declared.Step.TheVariants.{Start, Tick, AtNode, Life, AtBreaker}
use Rattle.steps.specs.Named.{query, said_by, is_kind}
use Rattle.told.specs.Telling.{Knows, acked_as, heard_by, later_of, last_of}
use Rattle.sequences.specs.History.{Accepted, Change, accepted, unless_had, breaker_status, change_by, changes_in, concerns}
use Rattle.sequences.specs.Told.{pair_of, first_or, numbered, numbered_of, change_pairs, breaker_pair, told_to, knows_by, said_by_ack, heard_with, heard_to}
use Rattle.sequences.specs.Demand.{Each, EachStep, Rising, BothStamps, Always}
use Rattle.sequences.specs.State.{ack_told, SentSo, IsLatest, LatestHeard}
use Rattle.sequences.proofs.laws.Changing.{each-so, reached-changing}
use Rattle.sequences.proofs.laws.StateTold.{reached-told}
use Rattle.sequences.proofs.laws.SentTold.{reached-sent}

-- not later than a stamp
abbrev NoLater : Dts → Pair → Type 0
NoLater T q = q.stamp.0 ≤ T.0

later-too : (T U : Dts) → T.0 ≤ U.0 → (qs : List Pair) → Each (NoLater T) qs → Each (NoLater U) qs
later-too T U l = each-so (NoLater T) (NoLater U) (λ q h. omega (arith, l, h))

-- ---- the pairs of the changes, the newest first

-- what a change is: acknowledged with its pair, and after the Start's g
abbrev IsAcked : Change → Type 0
IsAcked c = c.acked ≡ Some (pair_of c)

abbrev Told : Dts → Change → Type 0
Told g c = IsAcked c × (g.0 < c.stamp.0)

each_both : {A : Type 0} (P Q : A → Type 0) (l : List A) → Each P l → Each Q l → Each (λ a. P a × Q a) l
each_both P Q [] h k = tt
each_both P Q (a ∷ rest) h k = ((h.0, k.0), each_both P Q rest h.1 k.1)

module _ (p : Pair) where
  -- the newest, or the Start's pair where there is none, is the latest
  abbrev newest : List Change → Dts
  newest cs = (first_or p (map pair_of cs)).stamp

  all-below : (c : Change) (cs : List Change) → Each (BothStamps λ U. U.0 < c.stamp.0) cs → Each (Told p.stamp) cs → Each (NoLater (pair_of c).stamp) (map pair_of cs)
  all-below c [] below told = tt
  all-below c (d ∷ rest) below told =
      let least = larger-least c.stamp c.clock in
      let d-below = below.0.1 (pair_of d) told.0.0 in
      (omega (arith, least, d-below), all-below c rest below.1 told.1)

  pub newest-latest : (cs : List Change) → Rising cs → Each (Told p.stamp) cs → Each (NoLater (newest cs)) (map pair_of cs) × (p.stamp.0 ≤ (newest cs).0)
  newest-latest [] rising told = (tt, omega arith)
  newest-latest (c ∷ rest) rising told =
      let least = larger-least c.stamp c.clock in
      let after = told.0.1 in
      ((omega arith, all-below c rest rising.0 told.1), omega (arith, least, after))

  -- so one more change moves it on
  pub moves-on : (c : Change) (cs : List Change) → Rising (c ∷ cs) → Each (Told p.stamp) (c ∷ cs) → (newest cs).0 ≤ (pair_of c).stamp.0
  moves-on c [] rising told = (newest-latest (c ∷ []) rising told).1
  moves-on c (d ∷ rest) rising told = (newest-latest (c ∷ d ∷ rest) rising told).0.1.0

-- the one at a place
at_place : (T : Dts) (qs : List Pair) (back : ℕ) → Each (NoLater T) qs → Each (NoLater T) (listed_known (numbered qs back))
at_place T [] back h = tt
at_place T (q ∷ more) zero h = (h.0, tt)
at_place T (q ∷ more) (suc back) h = at_place T more back h.1

at-number : (T : Dts) (qs : List Pair) (back : ℕ) → Each (NoLater T) qs → Each (NoLater T) (listed_known (numbered_of qs back))
at-number T qs back h = go (ltb back most_changes)
  where
    go : (x : Bool) → Each (NoLater T) (listed_known (cond x (numbered qs back) None))
    go true = at_place T qs back h
    go false = tt

-- a pair is among those that begin with it, and what is among some is among more
itself : (p : Pair) (qs : List Pair) → has (p ∷ qs) p.status p.stamp ≡ true
itself p qs = simp (eq-eqb p.status p.status refl, eq-eqb p.stamp.0 p.stamp.0 refl)

or-so : (x : Bool) {y : Bool} → y ≡ true → (x || y) ≡ true
or-so true e = refl
or-so false e = e

-- ---- over the accepted steps

module _ (b : Beginning) where
  abbrev first : Pair
  first = pair b.status b.g

  abbrev changes : List Accepted → List Change
  changes steps = changes_in b.status steps

  -- what a step adds to the changes before it
  module _ (a : Accepted) (before : List Accepted) where
    abbrev with-step : Step → List Change
    with-step step = change_by step a (breaker_status b.status before) before ++ changes before

    abbrev change_as : Dts → Act → Change
    change_as t act = record { number = a.number; clock = t; action = act.status; stamp = act.stamp; acked = a.sent.ack; before = before }

    -- a change is acknowledged with its pair
    acked-so : (step : Step) → a.step ≡ step → a.sent.ack ≡ ack_told b before a step → Each IsAcked (changes before) → Each IsAcked (with-step step)
    acked-so (Start first) is so old = old
    acked-so Tick is so old = old
    acked-so (AtNode i t event) is so old = old
    acked-so (Life i turn) is so old = old
    acked-so (AtBreaker t act) is so old = go (eqb act.status (breaker_status b.status before)) refl
      where
        go : (x : Bool) → eqb act.status (breaker_status b.status before) ≡ x → Each IsAcked (unless_had x (change_as t act) ++ changes before)
        go true e = old
        go false e = (
          so
              ∙ ap (λ (step : Step). Some (first_or first (map pair_of (with-step step)))) is
              ∙ ap (λ (x : Bool). Some (first_or first (map pair_of (unless_had x (change_as t act) ++ changes before)))) e,
          old,
        )

    -- what is known of the changes is known of those before, and the breaker's stamp has not fallen
    abbrev Since : List Change → Type 0
    Since cs = Rising cs → Each (Told b.g) cs → Rising (changes before) × Each (Told b.g) (changes before) × ((newest first (changes before)).0 ≤ (newest first cs).0)

    since : (step : Step) → Since (with-step step)
    since (Start other) = λ rising told. (rising, told, omega arith)
    since Tick = λ rising told. (rising, told, omega arith)
    since (AtNode i t event) = λ rising told. (rising, told, omega arith)
    since (Life i turn) = λ rising told. (rising, told, omega arith)
    since (AtBreaker t act) = go (eqb act.status (breaker_status b.status before))
      where
        go : (x : Bool) → Since (unless_had x (change_as t act) ++ changes before)
        go true = λ rising told. (rising, told, omega arith)
        go false = λ rising told. (rising.1, told.1, moves-on first (change_as t act) (changes before) rising told)

  all-acked : (steps : List Accepted) → EachStep (SentSo b) steps → Each IsAcked (changes steps)
  all-acked [] so = tt
  all-acked (a ∷ before) so = acked-so a before a.step refl so.0.ack (all-acked before so.1)

  -- ---- one node

  module _ (j : ℕ) where
    -- what it has heard is no later than a stamp, and this is the latest of it
    abbrev Hears : Dts → List Pair → Option Pair → Type 0
    Hears T heard second = Each (NoLater T) heard × IsLatest heard second

    module _ (N : Dts) (change : ℕ → Option Pair) (now : Pair) (heard : List Pair) (second : Option Pair) (at_most : Each (NoLater now.stamp) heard)
        (latest : IsLatest heard second) (bound : now.stamp.0 ≤ N.0) (among : (back : ℕ) → Each (NoLater now.stamp) (listed_known (change back))) where
      same : Hears N heard second
      same = (later-too now.stamp N bound heard at_most, latest)

      -- the change that an ack brings
      one_more : (c : Pair) → c.stamp.0 ≤ now.stamp.0 → (k : Option Pair) → IsLatest heard k → Hears N (c ∷ heard) (later_of k (Some c))
      one_more c l None is = ((omega (arith, l, bound), same.0), (itself c heard, (omega arith, subst (Each (NoLater c.stamp)) (sym is) tt)))
      one_more c l (Some p) is = ((omega (arith, l, bound), same.0), go (leb p.stamp.0 c.stamp.0) refl)
        where
          go : (x : Bool) → leb p.stamp.0 c.stamp.0 ≡ x → IsLatest (c ∷ heard) (Some (cond x c p))
          go true e = let up = leb-true p.stamp.0 c.stamp.0 e in (itself c heard, (omega arith, later-too p.stamp c.stamp up heard is.1))
          go false e = let up = leb-false p.stamp.0 c.stamp.0 e in (or-so (eqb p.status c.status && eqb p.stamp.0 c.stamp.0) is.0, (omega (arith, up), is.1))

      by-ack : (k : Option Pair) → Each (NoLater now.stamp) (listed_known k) → Hears N (listed_known k ++ heard) (later_of second k)
      by-ack (Some c) l = one_more c l.0 second latest
      by-ack None l = go second latest
        where
          go : (k : Option Pair) → IsLatest heard k → Hears N heard (later_of k None)
          go (Some p) is = (same.0, is)
          go None is = (same.0, is)

      by-event : (asks : Bool) (back : Option ℕ) → Hears N (cond asks (now ∷ []) (said_by_ack back change) ++ heard) (cond asks (Some now) (acked_as back change second))
      by-event true back = ((bound, same.0), (itself now heard, (omega arith, at_most)))
      by-event false (Some back) = by-ack (change back) (among back)
      by-event false None = same

      by-step : (step : Step) (sent : Option Pair) (k : Knows) → k.second ≡ second → Hears N (heard_with step change now heard) (knows_by step change now sent k).second
      by-step (Start other) sent k is = subst (Hears N heard) (sym is) same
      by-step Tick sent k is = subst (Hears N heard) (sym is) same
      by-step (AtNode i t event) sent k is =
          subst (λ (s : Option Pair). Hears N (cond (is_kind (said_by event).kind query) (now ∷ []) (said_by_ack (said_by event).back change) ++ heard) (heard_by (said_by event) change now s)) (sym is)
          (by-event (is_kind (said_by event).kind query) (said_by event).back)
      by-step (Life i turn) sent k is = (tt, refl)
      by-step (AtBreaker t act) sent k is = subst (Hears N heard) (sym is) same

    hears : (steps : List Accepted) → Rising (changes steps) → Each (Told b.g) (changes steps)
        → Hears (breaker_pair b steps).stamp (heard_to b j steps) (told_to b j steps).second
    hears [] rising told = (tt, refl)
    hears (a ∷ before) rising told =
        let old = since a before a.step rising told in
        go old.0 old.1 old.2 (hears before old.0 old.1) (concerns j a)
      where
        sent : Option Pair
        sent = last_of (listed a.sent.commands)

        go : Rising (changes before) → Each (Told b.g) (changes before) → (newest first (changes before)).0 ≤ (newest first (changes (a ∷ before))).0
            → Hears (breaker_pair b before).stamp (heard_to b j before) (told_to b j before).second → (x : Bool)
            → Hears (breaker_pair b (a ∷ before)).stamp
            (cond x (heard_with a.step (numbered_of (change_pairs b before)) (breaker_pair b before) (heard_to b j before)) (heard_to b j before))
            (cond x (knows_by a.step (numbered_of (change_pairs b before)) (breaker_pair b before) sent (told_to b j before)) (told_to b j before)).second
        go rise are l ih true =
            by-step (breaker_pair b (a ∷ before)).stamp (numbered_of (change_pairs b before)) (breaker_pair b before) (heard_to b j before) (told_to b j before).second ih.0 ih.1
            l (λ back. at-number (breaker_pair b before).stamp (change_pairs b before) back (newest-latest first (changes before) rise are).0) a.step sent (told_to b j before) refl
        go rise are l ih false = (later-too (breaker_pair b before).stamp (breaker_pair b (a ∷ before)).stamp l (heard_to b j before) ih.0, ih.1)

-- ---- every sequence

pub latest-heard : Always LatestHeard
latest-heard first h m r b q j c =
    let all = reached-changing r b q in
    subst (IsLatest (heard_to b j (accepted h))) (sym (ap (λ (k : Knows). k.second) ((reached-told r b q).nodes-told j c).knows))
    (hears b j (accepted h) all.rising (each_both IsAcked (λ c. b.g.0 < c.stamp.0) (changes_in b.status (accepted h)) (all-acked b (accepted h) (reached-sent r b q)) all.after-g)).1
