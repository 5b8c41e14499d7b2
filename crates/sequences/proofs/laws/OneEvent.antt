-- An accepted event at a node, at any moment whatever, reached or not: what holds of what the event makes of the node holds of the record that the lent table
-- has afterwards, and what holds of what it sends holds of the answer.
use Rattle.std.specs.Prelude.{ℕ, ◌≤◌, ◌≡◌, true, not, List, length, get_or, Ok, Err}
use Rattle.std.proofs.Common.{sym, ap, get_or-set_same}
use Rattle.std.proofs.Math.Path.{subst}
use Rattle.std.proofs.lemmas.Bool.{false≢true}
use Rattle.time.specs.declared.Dts.{Dts}
use Rattle.node.specs.declared.Phase.{Phase}
use Rattle.node.specs.declared.Node.{Node}
use Rattle.node.specs.declared.Acted.{Acted}
use Rattle.node.specs.Asked.{phase_down}
use Rattle.events.specs.Events.{went_down}
use Rattle.steps.specs.declared.Event.{Event}
use Rattle.steps.specs.declared.Step.{Step}
use Rattle.steps.specs.declared.Step.TheVariants.{AtNode}
use Rattle.acting.specs.Acting.{acted}
use Rattle.site.specs.declared.Site.{Site}
use Rattle.site.specs.declared.Sent.{Sent}
use Rattle.site.specs.declared.Out.{Out}
use Rattle.site.specs.Answers.{is_done, silence, Answer}
use Rattle.refusing.specs.laws.Accepted.{happens}
use Rattle.effects.specs.Effects.{act, effect_of}
use Rattle.lent.specs.Lent.{out_of, table_after, table_after_answer}
use Rattle.stepping.specs.laws.StepLaws.{by_tests}
use Rattle.sequences.specs.Moments.{Moment, Accepts, answer_to, after_step, node_at}
use Rattle.sequences.proofs.laws.Fitting.{sent_by}

-- a node's phase after a step
abbrev pub phase_after : Moment → Step → ℕ → Phase
phase_after m step j = (node_at (after_step m step) j).phase

sent_in : Answer → Sent
sent_in (Ok sent) = sent
sent_in (Err refusal) = silence

module _ (site : Site) (records : List Node) (j : ℕ) (t : Dts) (event : Event) where
  abbrev node : Node
  node = get_or records j went_down

  abbrev end : Acted
  end = acted site.breaker node j site.f t event

  -- what is known of an event that is accepted: its node is not down, and its clock no earlier than the node's
  abbrev Once : Type 0 → Type 0
  Once C = not (phase_down node.phase) ≡ true → node.store.clock.0 ≤ t.0 → C

  abbrev Leaves : (Phase → Type 0) → Out → Type 0
  Leaves P out = is_done out.answer ≡ true → P (get_or (table_after_answer out.answer (AtNode j t event) records out.node) j went_down).phase

  leaves : (P : Phase → Type 0) → Once (P end.node.phase) → Leaves P (out_of site records (AtNode j t event))
  unfolding out_of effect_of act
  leaves P so =
      by_tests (Leaves P) site (length records) node (AtNode j t event)
      (λ e done.
      let x = happens site (length records) node j t event e in
      subst (λ (n : Node). P n.phase) (sym (get_or-set_same records j _ went_down x.place.is-lent)) (so x.is_up x.not_back))
      (λ refused done. absurd (false≢true done))

  abbrev Sends : (Sent → Type 0) → Sent → Out → Type 0
  Sends P sent out = out.answer ≡ Ok sent → P sent

  sends : (P : Sent → Type 0) → Once (P (sent_by end)) → (sent : Sent) → Sends P sent (out_of site records (AtNode j t event))
  unfolding out_of effect_of act sent_in
  sends P so sent =
      by_tests (Sends P sent) site (length records) node (AtNode j t event)
      (λ passed e. let x = happens site (length records) node j t event passed in subst P (ap sent_in e) (so x.is_up x.not_back))
      (λ refused e. absurd (false≢true (ap is_done e)))

module _ (m : Moment) (j : ℕ) (t : Dts) (event : Event) where
  abbrev before : Node
  before = node_at m j

  abbrev after : Acted
  after = acted m.site.breaker before j m.site.f t event

  pub event-leaves : (P : Phase → Type 0) → (not (phase_down before.phase) ≡ true → before.store.clock.0 ≤ t.0 → P after.node.phase) → Accepts m (AtNode j t event)
      → P (phase_after m (AtNode j t event) j)
  unfolding table_after
  event-leaves P so is-done = leaves m.site m.records j t event P so is-done

  pub event-sends : (P : Sent → Type 0) → (not (phase_down before.phase) ≡ true → before.store.clock.0 ≤ t.0 → P (sent_by after)) → (sent : Sent)
      → answer_to m (AtNode j t event) ≡ Ok sent → P sent
  event-sends P so sent e = sends m.site m.records j t event P so sent e
