use Rattle.std.specs.Prelude.{◌≡◌, Ok, Err}
use Rattle.std.proofs.Common.{arith, le-leb}
use borrow.Author.Tests.{lt-leb}
use Rattle.refusals.specs.declared.Refusal.TheVariants.{BadStart, LastClock}
use Rattle.refusals.specs.Tests.{refusal}
use Rattle.time.specs.Discretising.{whole_part, discretised_by}
use Rattle.time.specs.laws.Rounding.{remainder-fits, quotient_fits, rounded-first}
use Rattle.time.specs.laws.InNumbers.{numbered}
use Rattle.time.proofs.discretise_by.Goals as goal

pub returns-then-width-lt-SHORTEST_INTERVAL : goal.returns-then-width-lt-SHORTEST_INTERVAL
unfolding discretised_by refusal
returns-then-width-lt-SHORTEST_INTERVAL c =
    let a = c.args in
    let answer : Err BadStart ≡ discretised_by a.rounding a.reading a.interval = simp (lt-leb _ _ c.if-width-lt-SHORTEST_INTERVAL.true) in
    record { answer = answer; numbers = numbered _ _ _ _ answer }

pub returns-then-width-gt-LONGEST_INTERVAL : goal.returns-then-width-gt-LONGEST_INTERVAL
unfolding discretised_by refusal
returns-then-width-gt-LONGEST_INTERVAL c =
    let a = c.args in
    let answer : Err BadStart ≡ discretised_by a.rounding a.reading a.interval =
    simp (le-leb _ _ c.if-width-lt-SHORTEST_INTERVAL.false, lt-leb _ _ c.if-width-gt-LONGEST_INTERVAL.true) in
    record { answer = answer; numbers = numbered _ _ _ _ answer }

pub overflow_add-stamp : goal.overflow_add-stamp
overflow_add-stamp c =
    let a = c.args in
    record { fits = remainder-fits a.rounding a.interval.0 a.reading.0 _ c.if-width-lt-SHORTEST_INTERVAL.false c.if-width-gt-LONGEST_INTERVAL.false (omega (arith, c.well_formed)) c.added-more.ensures }

pub overflow_add-stamp-2 : goal.overflow_add-stamp-2
overflow_add-stamp-2 c =
    let a = c.args in
    record { fits = quotient_fits a.rounding a.interval.0 a.reading.0 _ c.if-width-lt-SHORTEST_INTERVAL.false c.if-width-gt-LONGEST_INTERVAL.false (omega (arith, c.well_formed)) c.added-more.ensures }

pub returns-then-stamp-gt-LAST_STAMP : goal.returns-then-stamp-gt-LAST_STAMP
unfolding discretised_by refusal
returns-then-stamp-gt-LAST_STAMP c =
    let a = c.args in
    let low = c.if-width-lt-SHORTEST_INTERVAL.false in
    let same = rounded-first a.rounding a.reading a.interval _ c.added-more.ensures (omega (arith, low)) in
    let answer : Err LastClock ≡ discretised_by a.rounding a.reading a.interval =
    simp (le-leb _ _ low, le-leb _ _ c.if-width-gt-LONGEST_INTERVAL.false, lt-leb _ _ (rw same at c.if-stamp-gt-LAST_STAMP.true)) in
    record { answer = answer; numbers = numbered _ _ _ _ answer }

pub returns : goal.returns
unfolding discretised_by refusal
returns c =
    let a = c.args in
    let low = c.if-width-lt-SHORTEST_INTERVAL.false in
    let same = rounded-first a.rounding a.reading a.interval _ c.added-more.ensures (omega (arith, low)) in
    let answer : Ok (record { 0 = whole_part a.rounding a.reading a.interval }) ≡ discretised_by a.rounding a.reading a.interval =
    simp (le-leb _ _ low, le-leb _ _ c.if-width-gt-LONGEST_INTERVAL.false, le-leb _ _ (rw same at c.if-stamp-gt-LAST_STAMP.false)) in
    rw same (record { answer = answer; numbers = numbered _ _ _ _ answer })
