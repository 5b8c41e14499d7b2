-- What has happened, told by the steps and their answers alone: no field of a site or of a record is looked at. Every list has the latest first. It is the
-- same for any type S of steps, by what each of them names.
use Rattle.std.specs.Prelude.{ℕ, suc, Bool, false, cond, List, [], ◌∷◌, eqb, length, Option, None, Some, Ok, Err}
use Rattle.steps.specs.declared.Beginning.{Beginning}
use Rattle.steps.specs.Named.{StepKind, report, Named, is_kind}
use Rattle.site.specs.declared.Sent.{Sent}
use Rattle.site.specs.Answers.{Answer}

-- a step with its answer
pub record Entry (S : Type 0) : Type 0 where
  pub step : S
  pub answer : Answer

-- Steps are numbered from 1, refused ones too: the number of the step after those of a history
abbrev pub next_number : {S : Type 0} → List (Entry S) → ℕ
next_number h = suc (length h)

-- an accepted step with its number, and what was sent in it
pub record Accepted (S : Type 0) : Type 0 where
  pub number : ℕ
  pub step : S
  pub sent : Sent

-- ---- since the last accepted Start

abbrev started_by : Answer → Option Beginning → Option Beginning → Option Beginning
started_by (Ok sent) (Some b) before = Some b
started_by (Ok sent) None before = before
started_by (Err refusal) b before = before

-- what the last accepted Start gave, if there was one
abbrev pub last_start : {S : Type 0} → (S → Named) → List (Entry S) → Option Beginning
last_start named [] = None
last_start named (e ∷ h) = started_by e.answer (named e.step).beginning (last_start named h)

abbrev onward : {S : Type 0} → Option Beginning → Accepted S → List (Accepted S) → List (Accepted S)
onward (Some b) a before = []
onward None a before = a ∷ before

abbrev tell_to : {S : Type 0} → (S → Named) → Answer → ℕ → S → List (Accepted S) → List (Accepted S)
tell_to named (Ok sent) number step before = onward (named step).beginning (record { number = number; step = step; sent = sent }) before
tell_to named (Err refusal) number step before = before

-- the accepted steps since then
abbrev pub accepted : {S : Type 0} → (S → Named) → List (Entry S) → List (Accepted S)
accepted named [] = []
accepted named (e ∷ h) = tell_to named e.answer (next_number h) e.step (accepted named h)

-- ---- at one node

abbrev is_named : ℕ → Option ℕ → Bool
is_named j None = false
is_named j (Some i) = eqb i j

-- the step is at node j
abbrev pub is_at : {S : Type 0} → (S → Named) → ℕ → Accepted S → Bool
is_at named j a = is_named j (named a.step).actor

-- those of a list that pass a test
abbrev pub those : {A : Type 0} → (A → Bool) → List A → List A
those test [] = []
those test (a ∷ rest) = cond (test a) (a ∷ those test rest) (those test rest)

abbrev pub step_kind : {S : Type 0} → (S → Named) → Accepted S → StepKind
step_kind named a = (named a.step).said.kind

-- "its relay's last accepted report", of the accepted steps at its node: the status
abbrev pub last_report : {S : Type 0} → (S → Named) → List (Accepted S) → Option ℕ
last_report named [] = None
last_report named (a ∷ rest) = cond (is_kind (step_kind named a) report) (named a.step).said.status (last_report named rest)
