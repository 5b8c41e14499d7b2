-- The state is the history's, and a refused step changes nothing.
use Rattle.std.specs.Prelude.{ℕ, ◌≡◌, refl, Bool, true, false, ◌&&◌, ◌||◌, cond, List, [], ◌∷◌, length, Some, Ok, Err}
use Rattle.std.proofs.Common.{sym, ap, subst, ◌∙◌, eqb-true}
use Rattle.std.proofs.lemmas.Bool.{false≢true}
use Rattle.refusals.specs.declared.Refusal.{Refusal}
use Rattle.time.specs.declared.Dts.{Dts}
use Rattle.time.specs.Fresh.{fresh_at, fresh}
use Rattle.store.specs.declared.Store.{Store}
use Rattle.store.specs.Held.{held}
use Rattle.store.proofs.laws.Held.{held-empty}
use Rattle.pairs.specs.declared.Pair.{Pair}
use Rattle.pairs.specs.Pair.{has}
use Rattle.pairs.specs.laws.KnownLaws.{same_known}
use Rattle.node.specs.declared.Phase.{Phase}
use Rattle.node.specs.Asked.{is_running}
use Rattle.steps.specs.declared.Beginning.{Beginning}
use Rattle.steps.specs.declared.Step.{Step}
use Rattle.steps.specs.declared.Step.TheVariants.{Start}
use Rattle.steps.specs.Named.{report, named, is_kind}
use Rattle.told.specs.Telling.{known_in}
use Rattle.told.proofs.laws.Armed.{ArmedAs, ArmedIn}
use Rattle.site.specs.declared.Sent.{Sent}
use Rattle.site.specs.declared.Out.{Out}
use Rattle.site.specs.Answers.{silence, is_done, Answer}
use Rattle.effects.specs.Effects.{effect_of}
use Rattle.stepping.specs.laws.StepLaws.{by_tests, effect-done}
use Rattle.lent.specs.Lent.{record_of, out_of, table_after, table_after_answer}
use Rattle.sequences.specs.History.{Entry, Accepted, step_kind, last_start, accepted, at_node, last_report, ends_life, life, one_of, runs, deliveries}
use Rattle.sequences.specs.Told.{shares_of, last_clock_told}
use Rattle.sequences.specs.Moments.{Moment, Reached, node_at, holds}
use Rattle.sequences.specs.Demand.{Always, Correct}
use Rattle.sequences.specs.State.{StateAsTold, ResendsB, StartsSilent, RefusedChangesNothing}
use Rattle.sequences.proofs.laws.Fitting.{runs-told}
use Rattle.sequences.proofs.laws.Reaching.{reached-keeps}
use Rattle.sequences.proofs.laws.StateTold.{reached-told}

-- a node that does not run holds nothing
module _ {first : Moment} {h : List Entry} {m : Moment} (r : Reached first h m) (b : Beginning) (q : last_start h ≡ Some b) (j : ℕ) (c : Correct b (accepted h) j) where
  runs_so : is_running (node_at m j) ≡ runs (at_node j (accepted h))
  runs_so = runs-told m.site.f j (node_at m j).phase (node_at m j).store (at_node j (accepted h)) ((reached-keeps r b q).fits j c)

  holds-so : (i A : ℕ) (T : Dts)
      → holds m j A T i ≡ (runs (at_node j (accepted h)) && (has (deliveries i j (at_node j (accepted h))) A T && fresh T (last_clock_told (at_node j (accepted h)))))
  holds-so i A T = go (runs (at_node j (accepted h))) runs_so
    where
      at : (node_at m j).store.clock ≡ last_clock_told (at_node j (accepted h))
      at = ((reached-told r b q).nodes-told j c).last-clock

      go : (x : Bool) → is_running (node_at m j) ≡ x → holds m j A T i ≡ (x && (has (deliveries i j (at_node j (accepted h))) A T && fresh T (last_clock_told (at_node j (accepted h)))))
      go true e =
          (((reached-keeps r b q).fits j c).while-running e).holding i A T ∙ ap (λ (t : Dts). has (deliveries i j (at_node j (accepted h))) A T && fresh T t) at
      go false e = ap (λ (s : Store). held s A T i) (((reached-told r b q).nodes-told j c).idle e) ∙ held-empty (node_at m j).store.clock A T i

pub state-as-told : Always StateAsTold
state-as-told first h m r b q =
    let keeps = reached-keeps r b q in
    let told = reached-told r b q in
    record {
      site =
          record {
            is-started = told.is-started;
            same-f = keeps.same-f;
            same-k = keeps.same-k;
            same-compromised = keeps.same_set;
            site-clock = told.now;
            breaker = told.breaker;
            down = told.down;
            made = λ i A T. told.made i A T ∙ ap (λ (t : ℕ). has (shares_of i (accepted h)) A T && fresh_at T.0 t) told.now;
          };
      node = λ j c.
          record {
            is-down = (told.nodes-told j c).is-down;
            is-running = runs_so r b q j c;
            knows = (told.nodes-told j c).knows;
            last-clock = (told.nodes-told j c).last-clock;
            store = holds-so r b q j c;
          };
      compromised = told.others-down;
    }

-- ---- what is being resent is b

pub resends-b : Always ResendsB
resends-b first h m r b q j c rec is T armed =
    let all : ArmedAs (Some rec.r) (Some rec.b) (Some T) =
    subst (ArmedAs (Some rec.r) (Some rec.b)) armed
    (subst (λ (p : Phase). ArmedIn (known_in p)) is ((reached-told r b q).nodes-told j c).armed) in
    let same : rec.b ≡ all.0 = same_known rec.b all.0 all.1 in
    (ap (λ (p : Pair). p.stamp) same ∙ all.2, eqb-true rec.r.status rec.b.status all.3)

-- ---- "its relay's last accepted report": of a node whose relay has reported in this life, the last one is of this life

pub reported-in-life : (own : List Accepted) → one_of (report ∷ []) (life own) ≡ true → last_report own ≡ last_report (life own)
reported-in-life [] e = refl
reported-in-life (a ∷ rest) e = go (ends_life a.step) (is_kind (step_kind a) report) refl e (reported-in-life rest)
  where
    go : (x y : Bool) → is_kind (step_kind a) report ≡ y → one_of (report ∷ []) (cond x [] (a ∷ life rest)) ≡ true
        → (one_of (report ∷ []) (life rest) ≡ true → last_report rest ≡ last_report (life rest))
        → cond (is_kind (step_kind a) report) (named a.step).said.status (last_report rest) ≡ last_report (cond x [] (a ∷ life rest))
    go true y ey e further = absurd (false≢true e)
    go false true ey e further = ap (λ (x : Bool). cond x (named a.step).said.status (last_report rest)) ey ∙ sym (ap (λ (x : Bool). cond x (named a.step).said.status (last_report (life rest))) ey)
    go false false ey e further =
        ap (λ (x : Bool). cond x (named a.step).said.status (last_report rest)) ey
        ∙ further (sym (ap (λ (x : Bool). (x || false) || one_of (report ∷ []) (life rest)) ey) ∙ e)
        ∙ sym (ap (λ (x : Bool). cond x (named a.step).said.status (last_report (life rest))) ey)

-- ---- a refused step

abbrev Unchanged : Moment → Step → Out → Type 0
Unchanged m step out =
    (refusal : Refusal) → out.answer ≡ Err refusal → ◌≡◌ {A = Moment} (record { site = out.site; records = table_after_answer out.answer step m.records out.node }) m

pub refused-changes-nothing : RefusedChangesNothing
unfolding out_of table_after
refused-changes-nothing m step =
    by_tests (Unchanged m step) m.site (length m.records) (record_of (named step).actor m.records) step
    (λ e number is. absurd (false≢true (sym (ap is_done is) ∙ effect-done m.site (record_of (named step).actor m.records) step)))
    (λ refusal number is. refl)

sent_in : Answer → Sent
sent_in (Ok sent) = sent
sent_in (Err refusal) = silence

pub starts-silent : StartsSilent
unfolding out_of effect_of sent_in
starts-silent m b sent =
    by_tests (λ out. out.answer ≡ Ok sent → sent ≡ silence) m.site (length m.records) (record_of (named (Start b)).actor m.records) (Start b)
    (λ e is. sym (ap sent_in is)) (λ number is. absurd (false≢true (ap is_done is)))
