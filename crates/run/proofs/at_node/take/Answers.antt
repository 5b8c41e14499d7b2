use Rattle.std.specs.Prelude.{◌≡◌, refl, Result, Ok, Err}
use Rattle.std.proofs.Common.{◌&&◌, sym, ◌∙◌, ap₂}
use Rattle.refusals.specs.declared.Refusal.{Refusal}
use Rattle.run.specs.laws.Arms.{line_as, line_number, take-refused, take-quiet, take-loud}
use Rattle.run.proofs.at_node.take.Goals as goal

not_refused : (answer : Result (Unit {0}) Refusal) → ((refusal : Refusal) → answer ≡ Err refusal → ⊥) → answer ≡ Ok tt
not_refused (Ok done) h = refl
not_refused (Err refusal) h = absurd (h refusal refl)

pub returns-in-Err : goal.returns-in-Err
returns-in-Err c =
    let a = c.args in
    take-refused _ _ _ _ a.line a.whole a.fits a.site a.node a.i a.t a.event _ c.is_fit-sound.ensures _ _ c.shown_status-status.ensures c.shown_stamp-stamp.ensures _ (sym c.in-Err.is ∙ c.refuse_event.ensures)
    (line_as _ _ (line_number _ _ _ c.number.ensures) c.put_quiet-next.ensures)

pub returns-then-no_shares-no_commands : goal.returns-then-no_shares-no_commands
returns-then-no_shares-no_commands c =
    let a = c.args in
    let none = ap₂ ◌&&◌ (sym c.is_none-no_shares.ensures) (sym c.is_none-no_commands.ensures) in
    take-quiet _ _ _ _ a.line a.whole a.fits a.site a.node a.i a.t a.event _ c.is_fit-sound.ensures _ _ c.shown_status-status.ensures c.shown_stamp-stamp.ensures (sym (not_refused _ c.in_default.not-Err) ∙ c.refuse_event.ensures) _ c.note-noted.ensures (none ∙ c.if-no_shares-no_commands.true) c.put_quiet-next-then-no_shares-no_commands.ensures

pub returns : goal.returns
returns c =
    let a = c.args in
    let none = ap₂ ◌&&◌ (sym c.is_none-no_shares.ensures) (sym c.is_none-no_commands.ensures) in
    take-loud _ _ _ _ a.line a.whole a.fits a.site a.node a.i a.t a.event _ c.is_fit-sound.ensures _ _ c.shown_status-status.ensures c.shown_stamp-stamp.ensures (sym (not_refused _ c.in_default.not-Err) ∙ c.refuse_event.ensures) _ c.note-noted.ensures (none ∙ c.if-no_shares-no_commands.false) c.put_loud-next.ensures
