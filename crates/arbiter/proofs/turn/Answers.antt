use mathlib.Core.Path.{refl}
use Rattle.arbiter_calls.specs.laws.Fitting.{fits, stands}
use Rattle.arbiter.specs.Moving.{nothing-came}
use Rattle.arbiter.specs.laws.MovingLaws.{as_long, failed, over, on}
use Rattle.arbiter.proofs.turn.Goals as goal

pub returns-then-count-eq0 : goal.returns-then-count-eq0
returns-then-count-eq0 c = nothing-came refl refl

pub slice_bounds-hand_out-end : goal.slice_bounds-hand_out-end
slice_bounds-hand_out-end c = fits c.args.progress.run _ _ _ c.take-ran.result c.requires.longest_line_in_bounds c.take-ran.ensures

pub slice_bounds-hand_out-end-2 : goal.slice_bounds-hand_out-end-2
slice_bounds-hand_out-end-2 c = as_long _ _ (fits c.args.progress.run _ _ _ c.take-ran.result c.requires.longest_line_in_bounds c.take-ran.ensures)

pub hand_out-is_taken-requires : goal.hand_out-is_taken-requires
hand_out-is_taken-requires c = stands c.args.progress.run _ _ _ c.take-ran.result c.requires.longest_line_in_bounds c.take-ran.ensures

pub returns-then-not-is_taken : goal.returns-then-not-is_taken
returns-then-not-is_taken c = failed c.args.progress _ c.read_call-count.result _ _ c.take-ran.result c.take-ran.ensures

pub returns-then-ran : goal.returns-then-ran
returns-then-ran c = over c.args.progress _ c.read_call-count.result _ _ c.take-ran.result c.take-ran.ensures _ c.if-ran.true

pub returns-else-ran : goal.returns-else-ran
returns-else-ran c = on c.args.progress _ c.read_call-count.result _ _ c.take-ran.result c.take-ran.ensures _ c.requires.going_value
