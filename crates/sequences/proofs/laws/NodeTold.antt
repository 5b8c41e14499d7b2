-- What is told of a node is what its record says, through every event and turn.
use Rattle.std.specs.Prelude.{ℕ, ◌≤◌, ◌≡◌, refl, true, false, not, List, [], ◌∷◌, Option}
use Rattle.std.proofs.Common.{sym, ap, ap₂, subst, ◌∙◌}
use Rattle.std.proofs.Math.Path.{fun_ext}
use Rattle.std.proofs.lemmas.Bool.{false≢true}
use Rattle.time.specs.declared.Dts.{Dts}
use Rattle.store.specs.Store.{empty}
use Rattle.pairs.specs.declared.Pair.{Pair}
use Rattle.pairs.specs.Pair.{listed}
use Rattle.node.specs.declared.Phase.{Phase}
use Rattle.node.specs.declared.Phase.TheVariants.{Starting, Running, Down as NotUp}
use Rattle.node.specs.declared.Node.{Node}
use Rattle.node.specs.declared.Acted.{Acted}
use Rattle.node.specs.Asked.{phase_down, phase_running}
use Rattle.events.specs.Events.{went_down, went_up}
use Rattle.breaker.specs.declared.Breaker.{Breaker}
use Rattle.breaker.specs.Breaker.{change_at}
use Rattle.steps.specs.declared.Event.{Event}
use Rattle.steps.specs.declared.Turn.TheVariants.{Down, Up}
use Rattle.steps.specs.declared.Step.TheVariants.{AtNode, Life}
use Rattle.steps.specs.Named.{query, share_timeout, StepKind, said_by, is_kind}
use Rattle.acting.specs.Acting.{acted}
use Rattle.acting.proofs.laws.Running.{remembers, goes_on}
use Rattle.acting.proofs.laws.Stores.{clock-of, still-empty}
use Rattle.told.specs.Telling.{Knows, nothing, knows_after, last_of, known_in}
use Rattle.told.proofs.laws.Exact.{Suits, told-by}
use Rattle.told.proofs.laws.Armed.{ArmedIn}
use Rattle.told.proofs.laws.Ending.{event-known, event-armed}
use Rattle.site.specs.Answers.{silence}
use Rattle.refusing.specs.Tests.{phase_takes}
use Rattle.rows.specs.laws.Telling.{kind-is}
use Rattle.sequences.specs.History.{Accepted}
use Rattle.sequences.specs.Told.{is_down_told, last_clock_told}
use Rattle.sequences.proofs.laws.Fitting.{done_with, sent_by}

-- ---- what a phase takes

-- a kind that a phase takes is none that it does not take
other-kind : (p : Phase) (kind k : StepKind) → phase_takes p kind ≡ true → phase_takes p k ≡ false → is_kind kind k ≡ true → ⊥
other-kind p kind k taken absent is = false≢true (sym absent ∙ subst (λ (y : StepKind). phase_takes p y ≡ true) ((kind-is kind k).0 (ap not is)) taken)

pub suits : (p : Phase) (kind : StepKind) → phase_takes p kind ≡ true → Suits p kind
suits NotUp kind e = record { starts = λ is. absurd (other-kind NotUp kind query e refl is); times-out = λ is. absurd (other-kind NotUp kind share_timeout e refl is) }
suits (Starting l) kind e = record { starts = λ is. refl; times-out = λ is. absurd (other-kind (Starting l) kind share_timeout e refl is) }
suits (Running rec) kind e = record { starts = λ is. absurd (other-kind (Running rec) kind query e refl is); times-out = λ is. refl }

-- ---- a node

-- for what it has been told, and its own accepted steps
pub record NodeTells (k : Knows) (own : List Accepted) (node : Node) : Type 0 where
  pub knows : known_in node.phase ≡ k
  pub is-down : phase_down node.phase ≡ is_down_told own
  pub last-clock : node.store.clock ≡ last_clock_told own
  pub armed : ArmedIn (known_in node.phase)
  pub idle : phase_running node.phase ≡ false → node.store ≡ empty node.store.clock

-- an event that it takes
module _
    (breaker : Breaker) (node : Node) (i f number : ℕ) (t : Dts) (event : Event) (k : Knows) (own : List Accepted) (before : NodeTells k own node)
    (up : not (phase_down node.phase) ≡ true) (takes : phase_takes node.phase (said_by event).kind ≡ true) (known : remembers breaker event ≡ true)
    (l : node.store.clock.0 ≤ t.0)
  where
    abbrev end : Acted
    end = acted breaker node i f t event

    abbrev step : Accepted
    step = done_with number (AtNode i t event) (sent_by end)

    stays-idle : (p : Phase) → node.phase ≡ p → phase_running end.node.phase ≡ false → end.node.store ≡ empty t
    stays-idle NotUp is e = absurd (false≢true (ap (λ (q : Phase). not (phase_down q)) (sym is) ∙ up))
    stays-idle (Starting learned) is e =
        ap (λ (p : Phase). (acted breaker (record { phase = p; store = node.store }) i f t event).node.store) is
        ∙ still-empty breaker learned node.store i f t event
        ((told-by breaker t event node.phase).unsent (subst (λ (p : Phase). phase_takes p (said_by event).kind ≡ true) is takes))
    stays-idle (Running rec) is e = absurd (false≢true (sym e ∙ (goes_on breaker node i f t event).runs_on (ap phase_running is)))

    pub event-tells : (change : ℕ → Option Pair) (now : Pair) → ((back : ℕ) → change_at breaker back ≡ change back) → breaker.pair ≡ now
        → NodeTells (knows_after (said_by event) t change now (last_of (listed end.commands)) k) (step ∷ own) end.node
    event-tells change now same-change same-now =
        record {
          knows =
              event-known breaker node i f t event up (suits node.phase (said_by event).kind takes) known before.armed
              ∙ ap (knows_after (said_by event) t (change_at breaker) breaker.pair (last_of (listed end.commands))) before.knows
              ∙ ap₂ (λ (c : ℕ → Option Pair) (p : Pair). knows_after (said_by event) t c p (last_of (listed end.commands)) k) (fun_ext same-change) same-now;
          is-down = (goes_on breaker node i f t event).not-down ∙ before.is-down;
          last-clock = at;
          armed = event-armed breaker node i f t event up (suits node.phase (said_by event).kind takes) known before.armed;
          idle = λ e. stays-idle node.phase refl e ∙ ap empty (sym at);
        }
      where
        at : end.node.store.clock ≡ t
        at = clock-of breaker node i f t event up l

-- one that goes down, and one that comes up
pub down-tells : (i number : ℕ) (own : List Accepted) → NodeTells nothing (done_with number (Life i Down) silence ∷ own) went_down
unfolding went_down empty
down-tells i number own = record { knows = refl; is-down = refl; last-clock = refl; armed = tt; idle = λ e. refl }

pub up-tells : (i number : ℕ) (own : List Accepted) → NodeTells nothing (done_with number (Life i Up) silence ∷ own) went_up
unfolding went_up empty
up-tells i number own = record { knows = refl; is-down = refl; last-clock = refl; armed = tt; idle = λ e. refl }

pub first-tells : NodeTells nothing [] went_up
unfolding went_up empty
first-tells = record { knows = refl; is-down = refl; last-clock = refl; armed = tt; idle = λ e. refl }
