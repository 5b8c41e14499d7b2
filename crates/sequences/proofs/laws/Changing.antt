-- What the accepted changes are, step by step: the breaker has the status that they are told by, each was shared before by a correct node, and their
-- stamps rise, from the Start's g on.
use Rattle.std.specs.Prelude.{ℕ, ◌≤◌, ◌<◌, ◌≡◌, Bool, true, false, eqb, length, Option, Some, None, unwrap_or}
use Rattle.std.proofs.Math.Path.{refl, subst}
use Rattle.std.proofs.Common.{sym, ap, ◌∙◌, arith, eqb-true}
use mathlib.Core.List.{List, [], ◌∷◌, ◌++◌}
use Rattle.refusals.specs.laws.Bools.{left, and-true}
use Rattle.time.specs.declared.Dts.{Dts}
use Rattle.time.specs.Larger.{larger}
use Rattle.time.specs.laws.Larger.{larger-least}
use Rattle.pairs.specs.declared.Pair.{Pair}
use Rattle.pairs.specs.Pair.{pair}
use Rattle.node.specs.declared.Node.{Node}
use Rattle.steps.specs.declared.Beginning.{Beginning}
use Rattle.steps.specs.declared.Event.{Event}
use Rattle.steps.specs.declared.Turn.{Turn}
use Rattle.steps.specs.declared.Turn.TheVariants.{Down, Up}
use Rattle.steps.specs.declared.Step.{Step}
use Rattle.steps.specs.declared.Step.TheVariants.{Start, Tick, AtNode, Life, AtBreaker}
use Rattle.breaker.specs.Breaker.{started, repeats}
use Rattle.site.specs.declared.Site.{Site}
use Rattle.site.specs.declared.Out.{Out}
use Rattle.refusing.specs.Tests.{verdict}
use Rattle.refusing.specs.laws.Accepted.{Passes, row-passed}
use Rattle.refusing.specs.laws.CommandLaws.{shared-by-one, stamp-above}
use Rattle.effects.specs.Effects.{started_site, ticked, act, only_ack, commanded, turned, effect_of}
use Rattle.effects.specs.laws.CommandLaws.{repeat-done, change-done}
use Rattle.lent.specs.Lent.{record_of, out_of}
use Rattle.stepping.specs.laws.StepLaws.{by_tests}
use Rattle.steps.specs.Named.{named}
use Rattle.sequences.specs.History.{Entry, Accepted, Change, next_number, last_start, accepted, breaker_status, unless_had, changes_in}
use Rattle.sequences.specs.Moments.{Moment, Reached, from, then}
use Rattle.sequences.specs.Demand.{Correct, Earlier, Shared, Each, SharedEarlier, BothStamps, Rising}
use Rattle.rows.specs.Rows.{commands}
use Rattle.sequences.proofs.laws.Fitting.{done_with}
use Rattle.site.specs.laws.Sound.{sound}
use Rattle.sequences.proofs.laws.Keeps.{Keeps}
use Rattle.sequences.proofs.laws.Reaching.{no_start, reached-keeps}

-- what all of a list are, if it follows from what they are
pub each-so : {A : Type 0} (P Q : A → Type 0) → ((a : A) → P a → Q a) → (l : List A) → Each P l → Each Q l
each-so P Q so [] h = tt
each-so P Q so (a ∷ rest) h = (so a h.0, each-so P Q so rest h.1)

-- a change is not above a stamp
abbrev NotAbove : Dts → Change → Type 0
NotAbove U = BothStamps λ T. T.0 ≤ U.0

-- For what the last Start gave and the steps accepted since
pub record Changing (b : Beginning) (steps : List Accepted) (site : Site) : Type 0 where
  pub status : site.breaker.pair.status ≡ breaker_status b.status steps
  pub shared : Each (SharedEarlier b) (changes_in b.status steps)
  pub rising : Rising (changes_in b.status steps)
  pub not-above : Each (NotAbove site.breaker.pair.stamp) (changes_in b.status steps)
  pub since : b.g.0 ≤ site.breaker.pair.stamp.0
  pub after-g : Each (λ c. b.g.0 < c.stamp.0) (changes_in b.status steps)

abbrev stamp_of : Option Pair → ℕ
stamp_of (Some p) = p.stamp.0
stamp_of None = 0

module _ (b : Beginning) (steps : List Accepted) (site : Site) (before : Changing b steps site) where
  -- where neither the breaker's pair nor the list of changes moves
  pub unmoved : (a : Accepted) (next : Site) → next.breaker.pair ≡ site.breaker.pair → breaker_status b.status (a ∷ steps) ≡ breaker_status b.status steps
      → changes_in b.status (a ∷ steps) ≡ changes_in b.status steps → Changing b (a ∷ steps) next
  unmoved a next same same-status no_more =
      record {
        status = ap (λ (p : Pair). p.status) same ∙ before.status ∙ sym same-status;
        shared = subst (Each (SharedEarlier b)) (sym no_more) before.shared;
        rising = subst Rising (sym no_more) before.rising;
        not-above =
            subst (λ (cs : List Change). Each (NotAbove next.breaker.pair.stamp) cs) (sym no_more)
            (subst (λ (p : Pair). Each (NotAbove p.stamp) (changes_in b.status steps)) (sym same) before.not-above);
        since = subst (λ (p : Pair). b.g.0 ≤ p.stamp.0) (sym same) before.since;
        after-g = subst (Each (λ c. b.g.0 < c.stamp.0)) (sym no_more) before.after-g;
      }

  module _ (number : ℕ) (t : Dts) (A : ℕ) (T : Dts) where
    -- the command, with the ack that was sent
    abbrev command_with : Pair → Accepted
    command_with sent = done_with number (commands t A T) (only_ack sent)

    -- a command for the status that the breaker has not: it is a change
    pub changed : (next : Site) → repeats site.breaker A ≡ false → next.breaker.pair ≡ pair A (larger T t) → site.breaker.pair.stamp.0 < T.0
        → (i : ℕ) × Correct b steps i × Earlier (Shared i A T) steps → Changing b (command_with (pair A (larger T t)) ∷ steps) next
    changed next e same higher found =
        let least : T.0 ≤ (larger T t).0 = larger-least T t in
        let list : c ∷ changes_in b.status steps ≡ changes_in b.status (a ∷ steps) =
        sym (ap (λ (had : Bool). unless_had had c ++ changes_in b.status steps) (ap (λ (had : ℕ). eqb A had) (sym before.status) ∙ e)) in
        record {
          status = ap (λ (p : Pair). p.status) same;
          shared = subst (Each (SharedEarlier b)) list (found, before.shared);
          rising = subst Rising list (each-so (NotAbove site.breaker.pair.stamp) (BothStamps λ U. U.0 < T.0) (below higher) (changes_in b.status steps) before.not-above, before.rising);
          not-above =
              subst (Each (NotAbove next.breaker.pair.stamp)) list
              (subst (λ (p : Pair). Each (NotAbove p.stamp) (c ∷ changes_in b.status steps)) (sym same) (
                (least, λ p is. let z : (larger T t).0 ≡ p.stamp.0 = ap stamp_of is in omega arith),
                each-so (NotAbove site.breaker.pair.stamp) (NotAbove (larger T t)) (still higher least) (changes_in b.status steps) before.not-above,
              ));
          since = let old = before.since in subst (λ (p : Pair). b.g.0 ≤ p.stamp.0) (sym same) (omega (arith, old, higher, least));
          after-g = let old = before.since in subst (Each (λ c. b.g.0 < c.stamp.0)) list (omega (arith, old, higher), before.after-g);
        }
      where
        a : Accepted
        a = command_with (pair A (larger T t))

        c : Change
        c = record { number = number; clock = t; action = A; stamp = T; acked = Some (pair A (larger T t)); before = steps }

        below : site.breaker.pair.stamp.0 < T.0 → (d : Change) → NotAbove site.breaker.pair.stamp d → BothStamps (λ U. U.0 < T.0) d
        below higher d old = (let x = old.0 in omega (arith, higher, x), λ p is. let x = old.1 p is in omega (arith, higher, x))

        still : site.breaker.pair.stamp.0 < T.0 → T.0 ≤ (larger T t).0 → (d : Change) → NotAbove site.breaker.pair.stamp d → NotAbove (larger T t) d
        still higher least d old = (let x = old.0 in omega (arith, higher, least, x), λ p is. let x = old.1 p is in omega (arith, higher, least, x))

    -- one for the status that it has
    pub repeated : (next : Site) (sent : Pair) → repeats site.breaker A ≡ true → next.breaker.pair ≡ site.breaker.pair
        → Changing b (command_with sent ∷ steps) next
    repeated next sent e same =
        let is : A ≡ site.breaker.pair.status = eqb-true _ _ e in
        unmoved (command_with sent) next same (is ∙ before.status)
        (ap
        (λ (had : Bool). unless_had had (record { number = number; clock = t; action = A; stamp = T; acked = Some sent; before = steps }) ++ changes_in b.status steps)
        (ap (λ (had : ℕ). eqb A had) (sym before.status) ∙ e))

-- ---- one step

module _
    (h : List Entry) (site : Site) (records : List Node)
    (keeps : (b : Beginning) → last_start h ≡ Some b → Keeps b (accepted h) site records)
    (before : (b : Beginning) → last_start h ≡ Some b → Changing b (accepted h) site)
  where
    abbrev ChangedBy : Step → Out → Type 0
    ChangedBy step out =
        (b : Beginning) → last_start (record { step = step; answer = out.answer } ∷ h) ≡ Some b
        → Changing b (accepted (record { step = step; answer = out.answer } ∷ h)) out.site

    starts : (b : Beginning) → Changing b [] (started_site b)
    unfolding started_site started
    starts b = record { status = refl; shared = tt; rising = tt; not-above = tt; since = omega arith; after-g = tt }

    commanding : (node : Node) (t : Dts) (A : ℕ) (T : Dts) → Passes site (length records) node (commands t A T)
        → ChangedBy (commands t A T) (commanded site node t (record { status = A; stamp = T }))
    commanding node t A T e = go (repeats site.breaker A) refl
      where
        go : (x : Bool) → repeats site.breaker A ≡ x → ChangedBy (commands t A T) (commanded site node t (record { status = A; stamp = T }))
        go true r =
            subst (ChangedBy (commands t A T)) (sym (repeat-done site node t A T r))
            (λ b q. repeated b (accepted h) site (before b q) (next_number h) t A T _ site.breaker.pair r refl)
        go false r =
            let whole = sound site (length records) (left _ true (row-passed site (length records) node (commands t A T) 16 e)) in
            let yes : verdict site A T ≡ true = sym (and-true (verdict site A T)) ∙ row-passed site (length records) node (commands t A T) 8 e in
            let found = shared-by-one site A T whole.few yes in
            subst (ChangedBy (commands t A T)) (sym (change-done site node t A T r))
            (λ b q.
            let made = (keeps b q).made found.0 A T found.2 in
            changed b (accepted h) site (before b q) (next_number h) t A T _ r refl
            (stamp-above site A T (row-passed site (length records) node (commands t A T) 11 e) r) (found.0, made.0, made.1))

    begins-anew : (first : Beginning) (node : Node) → ChangedBy (Start first) (effect_of site node (Start first))
    unfolding effect_of
    begins-anew first node = λ b q. subst (λ (x : Beginning). Changing x [] (started_site first)) (ap (λ (o : Option Beginning). unwrap_or o b) q) (starts first)

    happens-at : (i : ℕ) (t : Dts) (event : Event) (node : Node) → ChangedBy (AtNode i t event) (effect_of site node (AtNode i t event))
    unfolding effect_of act
    happens-at i t event node = λ b q. unmoved b (accepted h) site (before b q) _ _ refl refl refl

    takes-turn : (i : ℕ) (turn : Turn) (node : Node) → ChangedBy (Life i turn) (effect_of site node (Life i turn))
    unfolding effect_of turned
    takes-turn i Down node = λ b q. unmoved b (accepted h) site (before b q) _ _ refl refl refl
    takes-turn i Up node = λ b q. unmoved b (accepted h) site (before b q) _ _ refl refl refl

    done : (step : Step) (node : Node) → Passes site (length records) node step → ChangedBy step (effect_of site node step)
    unfolding effect_of ticked
    done (Start first) node e = begins-anew first node
    done Tick node e = λ b q. unmoved b (accepted h) site (before b q) _ _ refl refl refl
    done (AtNode i t event) node e = happens-at i t event node
    done (Life i turn) node e = takes-turn i turn node
    done (AtBreaker t act) node e = commanding node t act.status act.stamp e

    pub changing : (step : Step) → ChangedBy step (out_of site records step)
    unfolding out_of
    changing step =
        by_tests (ChangedBy step) site (length records) (record_of (named step).actor records) step (done step (record_of (named step).actor records)) (λ number. before)

-- ---- every sequence

pub reached-changing : {first : Moment} {h : List Entry} {m : Moment} → Reached first h m → (b : Beginning) → last_start h ≡ Some b → Changing b (accepted h) m.site
reached-changing from = λ b q. absurd (no_start q)
reached-changing (then {h} {m} r step) = changing h m.site m.records (reached-keeps r) (reached-changing r) step
