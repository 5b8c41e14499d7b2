-- Document 01's numbers of the refusals. 0 stands for "done" there and 10 is given no more, so no refusal has these.
use Rattle.std.specs.Prelude.{ℕ}
use Rattle.refusals.specs.declared.Refusal.{Refusal}
use Rattle.refusals.specs.declared.Refusal.TheVariants.{BadStart, BadNumber, Compromised, WrongPhase, NotNow, ClockBack, NotFresh, NotVouchedFor, NotNew, NotAbove, NotArmed, NotRemembered, TooManyDown, LastClock, Unsound, Malformed}

abbrev pub number : Refusal → ℕ
number BadStart = 1
number BadNumber = 2
number Compromised = 3
number WrongPhase = 4
number NotNow = 5
number ClockBack = 6
number NotFresh = 7
number NotVouchedFor = 8
number NotNew = 9
number NotAbove = 11
number NotArmed = 12
number NotRemembered = 13
number TooManyDown = 14
number LastClock = 15
number Unsound = 16
number Malformed = 17
