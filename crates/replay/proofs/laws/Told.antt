-- A log prints one text, by one list of steps: whoever has begun to print it goes on to the same end.
use Rattle.std.specs.Prelude.{ℕ, ◌+◌, ◌≤◌, ◌≡◌, refl, Bool, true, List, [], ◌∷◌, ◌++◌, length}
use Rattle.std.proofs.Common.{sym, ap, ap₂, subst, ◌∙◌, append_assoc, append-nil, ⊎_elim, arith, length-append}
use Rattle.std.proofs.lemmas.Bool.{false≢true}
use Rattle.steps.specs.declared.Step.{Step}
use Rattle.text.specs.Lines.{longest_line}
use Rattle.turns.specs.declared.Run.{Run}
use Rattle.turns.specs.declared.Next.{Next}
use Rattle.turns.specs.declared.Next.TheVariants.{Halt, Fault, Front, Take}
use Rattle.turns.specs.Turns.{Go, applied, step_line, over_after, malformed_line, versioned, doing}
use Rattle.turns.specs.Blocks.{ran_of}
use Rattle.turns.specs.laws.RunLaws.{goes_on}
use Rattle.turns.proofs.laws.Enough.{stops-for}
use Rattle.replay.specs.Replay.{due_at, Prints, no_lines, version, malformed, line}
use Rattle.replay.proofs.laws.Taken.{ended-due, nothing-more, taken_in, ran-prints}
use Rattle.replay.specs.laws.Leading.{Leads, here, turn}

-- what is left of a log that is printed to its end, once some of it is printed
pub record Rest (log : List ℕ) (last : Bool) (mid end : Run) (place to : ℕ) (steps all : List Step) (text whole : List ℕ) : Type 0 where
  pub more : List Step
  pub bytes : List ℕ
  pub prints : Prints log last mid place more bytes end to
  pub all-steps : all ≡ steps ++ more
  pub all-bytes : whole ≡ text ++ bytes

one_more : {log : List ℕ} {last : Bool} {mid end : Run} {place to : ℕ} {steps all : List Step} {text whole : List ℕ} (run : Run) (step' step : Step) → step' ≡ step
    → Rest log last mid end place to steps all text whole
    → Rest log last mid end place to (step ∷ steps) (step' ∷ all) (step_line run step ++ text) (step_line run step' ++ whole)
one_more {steps = steps} {text = text} run step' step same r =
    record {
      more = r.more;
      bytes = r.bytes;
      prints = r.prints;
      all-steps = ap₂ (λ (s : Step) (l : List Step). s ∷ l) same r.all-steps;
      all-bytes = ap₂ (λ (s : Step) (l : List ℕ). step_line run s ++ l) same r.all-bytes ∙ sym (append_assoc (step_line run step) text r.bytes);
    }

pub goes-on-alike : {log : List ℕ} {last : Bool} {run mid end : Run} {at place to : ℕ} {steps all : List Step} {text whole : List ℕ}
    → Prints log last run at steps text mid place → Prints log last run at all whole end to → due_at log last end to ≡ Halt
    → Rest log last mid end place to steps all text whole
goes-on-alike no_lines q over = record { more = _; bytes = _; prints = q; all-steps = refl; all-bytes = refl }
goes-on-alike (version v is p) no_lines over = absurd (false≢true (ap goes_on (sym over ∙ is)))
goes-on-alike {log} {last} {run} {end = end} {at} {to = to} {all = all} {whole = whole} (version v is p) (version w also q) over =
    let same : w ≡ v = cc in
    goes-on-alike p (subst (λ (k : ℕ). Prints log last (versioned run k) (at + 1) all whole end to) same q) over
goes-on-alike (version v is p) (malformed also) over = absurd (let z : ◌≡◌ {A = ℕ} 0 1 = cc in omega arith)
goes-on-alike (version v is p) (line step next also q) over = absurd (let z : ◌≡◌ {A = ℕ} 0 1 = cc in omega arith)
goes-on-alike (malformed is) no_lines over = absurd (false≢true (ap goes_on (sym over ∙ is)))
goes-on-alike (malformed is) (version w also q) over = absurd (let z : ◌≡◌ {A = ℕ} 0 1 = cc in omega arith)
goes-on-alike (malformed is) (malformed also) over = record { more = []; bytes = []; prints = no_lines; all-steps = refl; all-bytes = sym (append-nil _) }
goes-on-alike (malformed is) (line step next also q) over = absurd (let z : ◌≡◌ {A = ℕ} 0 1 = cc in omega arith)
goes-on-alike (line step next is p) no_lines over = absurd (false≢true (ap goes_on (sym over ∙ is)))
goes-on-alike (line step next is p) (version w also q) over = absurd (let z : ◌≡◌ {A = ℕ} 0 1 = cc in omega arith)
goes-on-alike (line step next is p) (malformed also) over = absurd (let z : ◌≡◌ {A = ℕ} 0 1 = cc in omega arith)
goes-on-alike {log} {last} {run} {end = end} {to = to} (line step next is p) (line {steps = others} {text = rest} step' next' also q) over =
    let same_step : step' ≡ step = cc in
    let same_place : next' ≡ next = cc in
    one_more run step' step same_step
    (goes-on-alike p
    (subst (λ (k : ℕ). Prints log last (applied run step) k others rest end to) same_place
    (subst (λ (s : Step). Prints log last (applied run s) next' others rest end to) same_step q)) over)

-- So two that have come to their end are the same.
pub told-once : {log : List ℕ} {last : Bool} {run end other : Run} {at to place : ℕ} {steps all : List Step} {text whole : List ℕ}
    → Prints log last run at steps text other place → due_at log last other place ≡ Halt → Prints log last run at all whole end to → due_at log last end to ≡ Halt
    → (steps ≡ all) × (text ≡ whole) × (other ≡ end) × (place ≡ to)
told-once {steps = steps} {text = text} p done q over =
    let r = goes-on-alike p q over in
    let none = nothing-more r.prints done in (
      sym (r.all-steps ∙ ap (λ (l : List Step). steps ++ l) none.0 ∙ append-nil steps),
      sym (r.all-bytes ∙ ap (λ (l : List ℕ). text ++ l) none.1 ∙ append-nil text),
      sym none.2,
      sym none.3,
    )

-- A log that is printed to its end is printed so in one block, where the buffer has room.
pub in-one-block : {log : List ℕ} {last : Bool} {run end : Run} {to : ℕ} {steps : List Step} {text : List ℕ} (size : ℕ)
    → Prints log last run 0 steps text end to → due_at log last end to ≡ Halt → length text + longest_line ≤ size
    → (taken_in run log last size ≡ steps) × ((ran_of run log last size).text ≡ text) × ((ran_of run log last size).run ≡ end) × ((ran_of run log last size).read ≡ to)
in-one-block {log} {last} {run} {end} {to} {steps} {text} size p over room =
    told-once (ran-prints run log last size)
    (⊎_elim (λ h. h) (λ short. absurd (omega (arith, short, room, ap length r.all-bytes, length-append (ran_of run log last size).text r.bytes))) (stops-for log last size run)) p over
  where
    r : Rest log last (ran_of run log last size).run end (ran_of run log last size).read to (taken_in run log last size) steps (ran_of run log last size).text text
    r = goes-on-alike (ran-prints run log last size) p over

-- ---- the turns over a whole log

over-ends : (run : Run) → (over_after run).ended ≡ true
unfolding over_after
over-ends run = refl

module _ {log : List ℕ} {last : Bool} where
  from-there : {run after end : Run} {at place to : ℕ} {steps : List Step} {text : List ℕ} → Prints log last after place steps text end to → after ≡ run → place ≡ at
      → Prints log last run at steps text end to
  from-there {after = after} {end} {at} {to = to} {steps} {text} p r k =
      subst (λ (x : Run). Prints log last x at steps text end to) r (subst (λ (x : ℕ). Prints log last after x steps text end to) k p)

  to-there : {run end mid : Run} {at to place : ℕ} {steps : List Step} {text other : List ℕ} → Prints log last run at steps text mid place → text ≡ other → mid ≡ end → place ≡ to
      → Prints log last run at steps other end to
  to-there {run} {end} {mid} {at} {to} {steps = steps} {text} p t r k =
      subst (λ (x : List ℕ). Prints log last run at steps x end to) t
      (subst (λ (x : Run). Prints log last run at steps text x to) r (subst (λ (x : ℕ). Prints log last run at steps text mid x) k p))

-- a text that the turns over a log print, with the steps that they take
pub leads-prints : {log : List ℕ} {run end : Run} {at to : ℕ} {text : List ℕ} → Leads log run at text end to → (steps : List Step) × Prints log true run at steps text end to
leads-prints here = ([], no_lines)
leads-prints {log} {run} {end} {at} {to} (turn {next = after} {place = place} {text = text} {more = more} e w) =
    let p = leads-prints w in
    by-due (due_at log true run at) refl e p.0 p.1
  where
    by-due : (next : Next) → due_at log true run at ≡ next → doing run at next ≡ Go after place text → (steps : List Step) → Prints log true after place steps more end to
        → (steps : List Step) × Prints log true run at steps (text ++ more) end to
    by-due Halt is q steps p = absurd (let z : ◌≡◌ {A = ℕ} 0 1 = cc in omega arith)
    by-due Fault is q steps p =
        let then : over_after run ≡ after = cc in
        let same : at ≡ place = cc in
        let line : malformed_line run ≡ text = cc in
        let none = nothing-more p (ended-due log true after place (ap (λ (r : Run). r.ended) (sym then) ∙ over-ends run)) in
        ([], to-there (malformed is) (line ∙ sym (append-nil text) ∙ ap (λ (l : List ℕ). text ++ l) (sym none.1)) (then ∙ sym none.2) (same ∙ sym none.3))
    by-due (Front v) is q steps p =
        let then : after ≡ versioned run v = cc in
        let on : place ≡ at + 1 = cc in
        let empty : [] ≡ text = cc in
        (steps, to-there (version v is (from-there p then on)) (ap (λ (l : List ℕ). l ++ more) empty) refl refl)
    by-due (Take step next) is q steps p =
        let then : after ≡ applied run step = cc in
        let on : place ≡ next = cc in
        let its : step_line run step ≡ text = cc in
        (step ∷ steps, to-there (line step next is (from-there p then on)) (ap (λ (l : List ℕ). l ++ more) its) refl refl)

-- and the other way round
pub prints-leads : {log : List ℕ} {run end : Run} {at to : ℕ} {steps : List Step} {text : List ℕ} → Prints log true run at steps text end to → Leads log run at text end to
prints-leads no_lines = here
prints-leads {run = run} {at = at} (version v is p) = turn (ap (doing run at) is) (prints-leads p)
prints-leads {log} {run} {at = at} (malformed is) = subst (λ (l : List ℕ). Leads log run at l (over_after run) at) (append-nil (malformed_line run)) (turn (ap (doing run at) is) here)
prints-leads {run = run} {at = at} (line step next is p) = turn (ap (doing run at) is) (prints-leads p)
