-- Where a log that came in is over: the text that was printed is what the log prints, whole.
use Rattle.std.specs.Prelude.{ℕ, ◌≡◌, Bool, true, List, [], ◌++◌, ◌⊎◌, length}
use Rattle.std.proofs.Common.{sym, ap, subst, ◌∙◌, append-nil, append_assoc, inl, inr}
use Rattle.steps.specs.declared.Step.{Step}
use Rattle.turns.specs.declared.Run.{Run}
use Rattle.turns.specs.declared.Next.TheVariants.{Halt}
use Rattle.turns.specs.Turns.{next_turn}
use Rattle.replay.specs.Replay.{due_at, Whole}
use Rattle.replay.proofs.laws.Taken.{ended-due}
use Rattle.replay.proofs.laws.Cutting.{Came, as-whole, halts-too}
use Rattle.replay.proofs.laws.Told.{leads-prints}

-- This text, and no other, is what these bytes print, whatever may stand behind them; nothing does, where they are known to be all.
abbrev pub Printed : Bool → List ℕ → List ℕ → Type 0
Printed over bytes text = (rest : List ℕ) → (over ≡ true → rest ≡ []) → (steps : List Step) × Whole (bytes ++ rest) steps text

-- A run over a log that came in has printed all of it, where nothing is to be done and the log has ended, or the run has: it was malformed.
pub came-whole : {over : Bool} {run : Run} {gone wait text : List ℕ} → Came over run gone wait text → next_turn run.version run.ended wait 0 over ≡ Halt
    → (over ≡ true) ⊎ (run.ended ≡ true) → Printed over (gone ++ wait) text
came-whole {over} {run} {gone} {wait} {text} came halts ends rest none =
    let told = leads-prints (as-whole came rest none) in
    (told.0, rw append_assoc (record { end = run; to = length gone; prints = told.1; over = done ends }))
  where
    done : (over ≡ true) ⊎ (run.ended ≡ true) → due_at (gone ++ (wait ++ rest)) true run (length gone) ≡ Halt
    done (inl e) =
        ap (λ (l : List ℕ). due_at (gone ++ l) true run (length gone)) (ap (λ (l : List ℕ). wait ++ l) (none e) ∙ append-nil wait)
        ∙ halts-too (subst (λ (b : Bool). Came b run gone wait text) e came) (ap (λ (b : Bool). next_turn run.version run.ended wait 0 b) (sym e) ∙ halts)
    done (inr ended) = ended-due (gone ++ (wait ++ rest)) true run (length gone) ended
