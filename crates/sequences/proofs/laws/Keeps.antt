-- What a site and its table keep of the history, step by step.
use Rattle.std.specs.Prelude.{ℕ, ◌≤◌, ◌<◌, ◌≡◌, refl, Bool, true, false, cond, ◌⊎◌, List, ◌∷◌, eqb, length, get_or, set, Some}
use Rattle.std.proofs.Common.{sym, ap, ap₂, subst, ◌∙◌, inl, inr, get_or-set_same, get_or-set_other, eqb-true, eq-eqb}
use Rattle.std.proofs.lemmas.Bool.{eqb-false}
use Rattle.time.specs.declared.Dts.{Dts}
use Rattle.senders.specs.Masks.{is_in, size, room}
use Rattle.store.specs.Held.{held}
use Rattle.pairs.specs.Pair.{listed, has}
use Rattle.node.specs.declared.Node.{Node}
use Rattle.node.specs.declared.Acted.{Acted}
use Rattle.combining.specs.Combining.{put_all}
use Rattle.combining.specs.laws.OwnLaws.{from_all}
use Rattle.events.specs.Events.{went_down}
use Rattle.steps.specs.declared.Beginning.{Beginning}
use Rattle.steps.specs.declared.Event.{Event}
use Rattle.steps.specs.declared.Step.TheVariants.{AtNode}
use Rattle.acting.specs.Acting.{acted}
use Rattle.acting.proofs.laws.Shares.{AtOwnClock}
use Rattle.site.specs.declared.Site.{Site}
use Rattle.site.specs.Site.{nodes}
use Rattle.effects.specs.Effects.{with_made}
use Rattle.refusing.specs.laws.Accepted.{Placed}
use Rattle.sequences.specs.History.{Accepted, concerns, at_node, last_report}
use Rattle.sequences.specs.Demand.{Correct, Earlier, here, further, Shared}
use Rattle.sequences.proofs.laws.Fitting.{done_with, sent_by, Fits}

abbrev pub FitsNode : ℕ → ℕ → Node → List Accepted → Type 0
FitsNode f j node own = Fits f j node.phase node.store own

-- For what the last Start gave and the steps accepted since: the site has the Start's numbers, what it knows to be made was shared by a correct
-- node, and the record of each correct node fits.
pub record Keeps (b : Beginning) (steps : List Accepted) (site : Site) (records : List Node) : Type 0 where
  pub few-nodes : nodes b.f b.k ≤ room
  pub few-compromised : size b.compromised ≤ b.f
  pub same-f : site.f ≡ b.f
  pub same-k : site.k ≡ b.k
  pub same_set : site.compromised ≡ b.compromised
  pub made : (i A : ℕ) (T : Dts) → held site.made A T i ≡ true → Correct b steps i × Earlier (Shared i A T) steps
  pub fits : (j : ℕ) → Correct b steps j → FitsNode site.f j (get_or records j went_down) (at_node j steps)

module _ (b : Beginning) (steps : List Accepted) (site : Site) (records : List Node) (keeps : Keeps b steps site records) where
  pub correct : (i : ℕ) → Placed site (length records) i → Correct b steps i
  correct i p = (
    subst (λ (m : ℕ). i < m) (ap₂ nodes keeps.same-f keeps.same-k) p.is-node,
    subst (λ (c : ℕ). is_in c i ≡ false) keeps.same_set p.is-correct,
  )

  -- a step at no node: what the site knows to be made was made already
  pub elsewhere : (a : Accepted) (next : Site) → ((j : ℕ) → concerns j a ≡ false) → next.f ≡ site.f → next.k ≡ site.k → next.compromised ≡ site.compromised
      → ((i A : ℕ) (T : Dts) → held next.made A T i ≡ true → held site.made A T i ≡ true) → Keeps b (a ∷ steps) next records
  elsewhere a next away ef ek es old =
      record {
        few-nodes = keeps.few-nodes;
        few-compromised = keeps.few-compromised;
        same-f = ef ∙ keeps.same-f;
        same-k = ek ∙ keeps.same-k;
        same_set = es ∙ keeps.same_set;
        made = λ i A T h. let q = keeps.made i A T (old i A T h) in (q.0, further q.1);
        fits = λ j c.
            subst (λ (f : ℕ). FitsNode f j (get_or records j went_down) (at_node j (a ∷ steps))) (sym ef)
            (subst (λ (x : Bool). FitsNode site.f j (get_or records j went_down) (cond x (a ∷ at_node j steps) (at_node j steps))) (sym (away j)) (keeps.fits j c));
      }

  -- a step at node i
  pub at-node : (i : ℕ) (a : Accepted) (next : Site) (node : Node) → ((j : ℕ) → concerns j a ≡ eqb i j) → Placed site (length records) i
      → next.f ≡ site.f → next.k ≡ site.k → next.compromised ≡ site.compromised
      → ((k A : ℕ) (T : Dts) → held next.made A T k ≡ true → ((eqb k i ≡ true) × Shared i A T a steps) ⊎ (held site.made A T k ≡ true))
      → FitsNode site.f i node (a ∷ at_node i steps) → Keeps b (a ∷ steps) next (set records i node)
  at-node i a next node there p ef ek es source new =
      record {
        few-nodes = keeps.few-nodes;
        few-compromised = keeps.few-compromised;
        same-f = ef ∙ keeps.same-f;
        same-k = ek ∙ keeps.same-k;
        same_set = es ∙ keeps.same_set;
        made = λ k A T h. known k A T (source k A T h);
        fits = λ j c.
            subst (λ (f : ℕ). FitsNode f j (get_or (set records i node) j went_down) (at_node j (a ∷ steps))) (sym ef)
            (subst (λ (x : Bool). FitsNode site.f j (get_or (set records i node) j went_down) (cond x (a ∷ at_node j steps) (at_node j steps))) (sym (there j))
            (one j c (eqb i j) refl));
      }
    where
      known : (k A : ℕ) (T : Dts) → ((eqb k i ≡ true) × Shared i A T a steps) ⊎ (held site.made A T k ≡ true) → Correct b (a ∷ steps) k × Earlier (Shared k A T) (a ∷ steps)
      known k A T (inl h) =
          let q : k ≡ i = eqb-true k i h.0 in
          subst (λ (x : ℕ). Correct b (a ∷ steps) x × Earlier (Shared x A T) (a ∷ steps)) (sym q) (correct i p, here h.1)
      known k A T (inr h) = let q = keeps.made k A T h in (q.0, further q.1)

      one : (j : ℕ) → Correct b (a ∷ steps) j → (x : Bool) → eqb i j ≡ x → FitsNode site.f j (get_or (set records i node) j went_down) (cond x (a ∷ at_node j steps) (at_node j steps))
      one j c true e =
          let q : i ≡ j = eqb-true i j e in
          subst (λ (x : ℕ). FitsNode site.f x (get_or (set records i node) x went_down) (a ∷ at_node x steps)) q
          (subst (λ (x : Node). FitsNode site.f i x (a ∷ at_node i steps)) (sym (get_or-set_same records i node went_down p.is-lent)) new)
      one j c false e =
          subst (λ (x : Node). FitsNode site.f j x (at_node j steps)) (sym (get_or-set_other records i j node went_down (λ (d : j ≡ i). eqb-false i j e (sym d))))
          (keeps.fits j c)

  -- an event at node i, with the shares that it makes
  pub acts : (i number : ℕ) (t : Dts) (event : Event) → Placed site (length records) i
      → ((A : ℕ) (T : Dts) → has (listed (acted site.breaker (get_or records i went_down) i site.f t event).shares) A T ≡ true
      → AtOwnClock t T × (last_report (done_with number (AtNode i t event) (sent_by (acted site.breaker (get_or records i went_down) i site.f t event)) ∷ at_node i steps) ≡ Some A))
      → FitsNode site.f i (acted site.breaker (get_or records i went_down) i site.f t event).node
      (done_with number (AtNode i t event) (sent_by (acted site.breaker (get_or records i went_down) i site.f t event)) ∷ at_node i steps)
      → Keeps b (done_with number (AtNode i t event) (sent_by (acted site.breaker (get_or records i went_down) i site.f t event)) ∷ steps)
      (with_made site (put_all site.made i (acted site.breaker (get_or records i went_down) i site.f t event).shares))
      (set records i (acted site.breaker (get_or records i went_down) i site.f t event).node)
  acts i number t event p shares new =
      at-node i a (with_made site (put_all site.made i end.shares)) end.node (λ j. refl) p refl refl refl
      (λ k A T h. source k A T (from_all site.made i end.shares A T k h)) new
    where
      end : Acted
      end = acted site.breaker (get_or records i went_down) i site.f t event

      a : Accepted
      a = done_with number (AtNode i t event) (sent_by end)

      source : (k A : ℕ) (T : Dts) → ((has (listed end.shares) A T ≡ true) × (eqb k i ≡ true)) ⊎ (held site.made A T k ≡ true)
          → ((eqb k i ≡ true) × Shared i A T a steps) ⊎ (held site.made A T k ≡ true)
      source k A T (inr h) = inr h
      source k A T (inl h) =
          let own : eqb i i ≡ true = eq-eqb i i refl in
          let q = shares A T h.0 in
          inl (
            h.1,
            record {
              by-node = own;
              shared = h.0;
              at-clock = q.0;
              reported = ap (λ (x : Bool). last_report (cond x (a ∷ at_node i steps) (at_node i steps))) own ∙ q.1;
            },
          )
