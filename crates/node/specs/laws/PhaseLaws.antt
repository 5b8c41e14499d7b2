-- A phase that runs, and what every event keeps of a phase.
use Rattle.std.specs.Prelude.{◌≡◌, refl, true, ◌&&◌}
use Rattle.std.proofs.Common.{sym, ap, subst, ◌∙◌}
use Rattle.std.proofs.lemmas.Bool.{false≢true}
use Rattle.pairs.specs.laws.KnownLaws.{is_known}
use Rattle.node.specs.declared.Record.{Record}
use Rattle.node.specs.declared.Phase.{Phase}
use Rattle.node.specs.declared.Phase.TheVariants.{Down, Starting, Running}
use Rattle.node.specs.Asked.{phase_down, phase_running, known_r, known_b}

-- it has a record,
pub running-record : (p : Phase) → phase_running p ≡ true → (rec : Record) × (p ≡ Running rec)
running-record Down e = absurd (false≢true e)
running-record (Starting l) e = absurd (false≢true e)
running-record (Running rec) e = (rec, refl)

abbrev record_or : Record → Phase → Record
record_or other Down = other
record_or other (Starting l) = other
record_or other (Running rec) = rec

-- and one only
pub same-record : (rec new : Record) → Running rec ≡ Running new → rec ≡ new
same-record rec new e = ap (record_or new) e

-- "When r and b are both known it runs", and not before: so it is with a node at the start
abbrev pub RunsOnceKnown : Phase → Type 0
RunsOnceKnown p = phase_running p ≡ (is_known (known_r p) && is_known (known_b p))

-- What every event keeps of a phase.
pub record GoesOn (p q : Phase) : Type 0 where
  pub not-down : phase_down q ≡ phase_down p
  pub runs_on : phase_running p ≡ true → phase_running q ≡ true
  pub once-known : RunsOnceKnown p → RunsOnceKnown q

pub goes_same : {p q : Phase} → q ≡ p → GoesOn p q
goes_same {p} e =
    record {
      not-down = ap phase_down e;
      runs_on = λ h. ap phase_running e ∙ h;
      once-known = λ h. subst RunsOnceKnown (sym e) h;
    }

pub goes_then : {p q s : Phase} → GoesOn p q → GoesOn q s → GoesOn p s
goes_then g h =
    record {
      not-down = h.not-down ∙ g.not-down;
      runs_on = λ e. h.runs_on (g.runs_on e);
      once-known = λ e. h.once-known (g.once-known e);
    }

pub goes-running : (rec new : Record) → GoesOn (Running rec) (Running new)
goes-running rec new = record { not-down = refl; runs_on = λ e. refl; once-known = λ e. refl }
