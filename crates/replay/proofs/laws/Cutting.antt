-- However a log comes in, in blocks of whatever length, what is printed is what the whole log prints.
use Rattle.std.specs.Prelude.{ℕ, ◌+◌, ◌≤◌, ◌≡◌, refl, Bool, true, false, List, [], ◌++◌, length, take, drop}
use Rattle.std.proofs.Common.{sym, ap, ap₂, subst, ◌∙◌, append_assoc, append-nil, add-zero, arith, length-append, length-take, take-append-drop}
use Rattle.std.proofs.lemmas.Bool.{false≢true}
use Rattle.turns.specs.declared.Run.{Run}
use Rattle.turns.specs.declared.Ran.{Ran}
use Rattle.turns.specs.declared.Next.{Next}
use Rattle.turns.specs.declared.Next.TheVariants.{Halt}
use Rattle.turns.specs.Turns.{Turn, Stop, Go, first_run, next_turn, doing, turn_of}
use Rattle.turns.specs.Blocks.{Advance, turns_for, ran_of, Block}
use Rattle.replay.specs.laws.Leading.{Leads, here, turn, leads-on, Alike, turn-alike, block_within, read-inside}
pub use Rattle.replay.specs.laws.Cutting.{Came, begun, block, ended}

module _
    (over : Bool) (run : Run) (gone wait text : List ℕ) (size : ℕ) (more rest : List ℕ)
    (none : over ≡ true → more ≡ []) (end : over ≡ true → rest ≡ [])
  where
    abbrev ran : Advance
    ran = ran_of run wait over size

    abbrev before : List ℕ
    before = gone ++ (wait ++ (more ++ rest))

    none-behind : over ≡ true → length (more ++ rest) ≡ 0
    none-behind e = length-append more rest ∙ ap₂ (λ (x y : List ℕ). length x + length y) (none e) (end e)

    same_log : (gone ++ take ran.read wait) ++ ((drop ran.read wait ++ more) ++ rest) ≡ before
    same_log =
        append_assoc gone (take ran.read wait) ((drop ran.read wait ++ more) ++ rest)
        ∙ ap (λ (l : List ℕ). gone ++ l)
        (ap (λ (l : List ℕ). take ran.read wait ++ l) (append_assoc (drop ran.read wait) more rest)
        ∙ sym (append_assoc (take ran.read wait) (drop ran.read wait) (more ++ rest))
        ∙ ap (λ (l : List ℕ). l ++ (more ++ rest)) (take-append-drop ran.read wait))

    inside : ran.read ≤ length wait
    unfolding ran_of
    inside = read-inside wait over (turns_for wait) run 0 size 0 (omega arith)

    place : length gone + ran.read ≡ length (gone ++ take ran.read wait)
    place = omega (arith, length-append gone (take ran.read wait), length-take ran.read wait, inside)

    over-block : Leads before run (length gone + 0) ran.text ran.run (length gone + ran.read)
    unfolding ran_of
    over-block = block_within gone wait (more ++ rest) over none-behind (turns_for wait) run 0 size 0

    one_more : Leads before first_run 0 text run (length gone)
        → Leads ((gone ++ take ran.read wait) ++ ((drop ran.read wait ++ more) ++ rest)) first_run 0 (text ++ ran.text) ran.run (length (gone ++ take ran.read wait))
    one_more w =
        subst (λ (l : List ℕ). Leads l first_run 0 (text ++ ran.text) ran.run (length (gone ++ take ran.read wait))) (sym same_log)
        (subst (λ (k : ℕ). Leads before first_run 0 (text ++ ran.text) ran.run k) place
        (leads-on w (subst (λ (k : ℕ). Leads before run k ran.text ran.run (length gone + ran.read)) (add-zero (length gone)) over-block)))

-- so the whole log, with whatever is still to come, prints what was printed
pub as-whole : {over : Bool} {run : Run} {gone wait text : List ℕ} → Came over run gone wait text → (rest : List ℕ) → (over ≡ true → rest ≡ [])
    → Leads (gone ++ (wait ++ rest)) first_run 0 text run (length gone)
as-whole begun rest end = here
as-whole (ended c) rest end = as-whole c rest (λ e. absurd (false≢true e))
as-whole (block {over} {run} {gone} {wait} {text} c size more none) rest end =
    one_more over run gone wait text size more rest none end (as-whole c (more ++ rest) (λ e. ap₂ (λ (x y : List ℕ). x ++ y) (none e) (end e)))

-- ---- once the log has ended

module _ {run : Run} {gone wait text : List ℕ} (came : Came true run gone wait text) (no_more : next_turn run.version run.ended wait 0 true ≡ Halt) where
  -- where nothing is to be done any more, all was printed that the log prints,
  pub all-printed : Leads (gone ++ wait) first_run 0 text run (length gone)
  all-printed = subst (λ (l : List ℕ). Leads (gone ++ l) first_run 0 text run (length gone)) (append-nil wait) (as-whole came [] (λ e. refl))

  -- and nothing is to be done over the whole log either
  pub halts-too : next_turn run.version run.ended (gone ++ wait) (length gone) true ≡ Halt
  halts-too =
      let alike = turn-alike gone wait [] true (λ e. refl) 0 run.version run.ended in
      let halts : next_turn run.version run.ended (gone ++ (wait ++ [])) (length gone + 0) true ≡ Halt =
      subst (λ (n : Next). Alike gone wait [] true (λ e. refl) (next_turn run.version run.ended (gone ++ (wait ++ [])) (length gone + 0) true) n) no_more alike refl in
      ap₂ (λ (l : List ℕ) (k : ℕ). next_turn run.version run.ended (gone ++ l) k true) (sym (append-nil wait)) (sym (add-zero (length gone))) ∙ halts

  pub over-too : turn_of run (gone ++ wait) (length gone) true ≡ Stop
  over-too = ap (doing run (length gone)) halts-too

-- A log prints one text: turns over it that have come to their end have printed the same.
abbrev is_stop : Turn → Bool
is_stop Stop = true
is_stop (Go next place text) = false

abbrev run_in : Turn → Run
run_in Stop = first_run
run_in (Go next place text) = next

abbrev place_in : Turn → ℕ
place_in Stop = 0
place_in (Go next place text) = place

abbrev text_in : Turn → List ℕ
text_in Stop = []
text_in (Go next place text) = text

pub one-text : {log : List ℕ} {run end other : Run} {at to place : ℕ} {text more : List ℕ} → Leads log run at text end to → turn_of end log to true ≡ Stop
    → Leads log run at more other place → turn_of other log place true ≡ Stop → text ≡ more
one-text here s here z = refl
one-text here s (turn e w) z = absurd (false≢true (ap is_stop (sym e ∙ s)))
one-text (turn e v) s here z = absurd (false≢true (ap is_stop (sym e ∙ z)))
one-text {log} {other = other} {place = place} (turn {next = next} {place = on} {more = rest} e v) s (turn {next = next'} {place = on'} {more = rest'} e' w) z =
    let same = sym e' ∙ e in
    ap₂ (λ (x y : List ℕ). x ++ y) (ap text_in (sym same))
    (one-text {other = other} {place = place} v s
    (subst (λ (r : Run). Leads log r on rest' other place) (ap run_in same) (subst (λ (k : ℕ). Leads log next' k rest' other place) (ap place_in same) w)) z)

-- So it does not matter how a log is cut: whoever runs over all of it has printed the same.
pub cut-anyhow : {run other : Run} {gone wait text gone' wait' text' : List ℕ} → Came true run gone wait text → next_turn run.version run.ended wait 0 true ≡ Halt
    → Came true other gone' wait' text' → next_turn other.version other.ended wait' 0 true ≡ Halt → gone ++ wait ≡ gone' ++ wait' → text ≡ text'
cut-anyhow {run} {other} {gone} {wait} {text} {gone'} {wait'} {text'} came done came' done' same =
    one-text (all-printed came done) (over-too came done)
    (subst (λ (l : List ℕ). Leads l first_run 0 text' other (length gone')) (sym same) (all-printed came' done'))
    (subst (λ (l : List ℕ). turn_of other l (length gone') true ≡ Stop) (sym same) (over-too came' done'))

-- What `run_block` promises is such a block.
pub came-block : {over : Bool} {run : Run} {gone wait text : List ℕ} → Came over run gone wait text → (before after : List ℕ) (ran : Ran) → Block run wait over before after ran
    → (more : List ℕ) → (over ≡ true → more ≡ [])
    → Came over ran.run (gone ++ take ran.read wait) (drop ran.read wait ++ more) (text ++ (ran_of run wait over (length before)).text)
came-block {over} {run} {gone} {wait} {text} came before after ran is more none =
    subst (λ (r : Run). Came over r (gone ++ take ran.read wait) (drop ran.read wait ++ more) (text ++ (ran_of run wait over (length before)).text)) (sym is.run-after)
    (subst (λ (k : ℕ). Came over (ran_of run wait over (length before)).run (gone ++ take k wait) (drop k wait ++ more) (text ++ (ran_of run wait over (length before)).text)) (sym is.read-after)
    (block came (length before) more none))
