use Rattle.std.proofs.Common.{◌≡◌, ◌≢◌, length, arith, eq-eqb, ne_eqb}
use Rattle.arbiter_calls.specs.Calls.{read_as}
use Rattle.arbiter_calls.specs.laws.CallLaws.{four_bytes}
use Rattle.arbiter_calls.proofs.read.Goals as goal

pub returns-in_default : goal.returns-in_default
unfolding read_as
returns-in_default c =
    let other : length c.args.call.now ≢ 12 = omega (arith, c.in_default.len_below) in
    simp (ne_eqb _ _ other)

pub returns-in_default-2 : goal.returns-in_default-2
unfolding read_as
returns-in_default-2 c =
    let other : length c.args.call.now ≢ 12 = omega (arith, c.in_default.len_at_least) in
    simp (ne_eqb _ _ other)

pub returns : goal.returns
unfolding read_as
returns c =
    let whole : length c.args.call.now ≡ 12 = omega (arith, c.in-len12.len_at_least, c.in-len12.len_below) in
    simp (eq-eqb _ _ whole, c.step_of.ensures, c.from_be_bytes-x.ensures, c.from_be_bytes-y.ensures, four_bytes)
