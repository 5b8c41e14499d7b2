-- Document 01's table of refusals: the condition of each row, and the order in which the rows are checked.
-- `Of the.clock λ t. C` reads "the step names a clock t, and C", `OneOf` the same of one of some, `AllOf` of some and each of them. `×` is "and", `⊎` is "or", `→ ⊥` is "not".
use Rattle.std.specs.Prelude.{ℕ, ◌+◌, ◌≤◌, ◌<◌, ◌≡◌, true, false, ◌⊎◌, List, [], ◌∷◌, Option, Some, None}
use Rattle.time.specs.declared.Dts.{Dts}
use Rattle.time.specs.Newer.{ahead}
use Rattle.senders.specs.Masks.{is_in, size}
use Rattle.store.specs.declared.Store.{Store}
use Rattle.store.specs.Store.{places, set_at}
use Rattle.store.specs.Held.{held}
use Rattle.pairs.specs.declared.Pair.{Pair}
use Rattle.steps.specs.declared.Beginning.{Beginning}
use Rattle.steps.specs.Named.{tick, share_timeout, resend_timeout, command, down, Said, Named, Of, OneOf, AllOf, paired}
use Rattle.node.specs.declared.Phase.{Phase}
use Rattle.node.specs.declared.Phase.TheVariants.{Starting, Running, Down as NotUp}
use Rattle.node.specs.declared.Node.{Node}
use Rattle.node.specs.Asked.{last_number}
use Rattle.breaker.specs.declared.Changes.{Changes}
use Rattle.breaker.specs.Breaker.{pair_at}
use Rattle.site.specs.declared.Site.{Site}
use Rattle.site.specs.Site.{nodes, n, g}
use Rattle.refusing.specs.Tests.{counted, phase_takes, node_clock, last_clock}
use Rattle.rows.specs.Exactly.{Row}
use Rattle.rows.specs.Outsiders.{Outsider}

-- ---- 16, of what stands in a site and in a record

-- a stamp above 1,000,000,003, and a clock above it
abbrev pub StampTooLate : Dts → Type 0
StampTooLate T = 1_000_000_003 < T.0

abbrev pub ClockTooLate : Dts → Type 0
ClockTooLate t = 1_000_000_003 < t.0

abbrev pub KnownTooLate : Option Pair → Type 0
KnownTooLate (Some p) = StampTooLate p.stamp
KnownTooLate None = ⊥

abbrev pub ResendTooLate : Option Dts → Type 0
ResendTooLate (Some T) = StampTooLate T
ResendTooLate None = ⊥

-- a sender not below n, at one of the store's places
abbrev pub SenderOutside : Store → ℕ → Type 0
SenderOutside store n = (k : ℕ) × (k < places) × Outsider (set_at store k) n

-- more than eight changes, or one of the eight places has a status above 1 or a stamp too late
abbrev pub PairOutOfRange : Pair → Type 0
PairOutOfRange p = (1 < p.status) ⊎ StampTooLate p.stamp

abbrev pub ChangesOutOfRange : Changes → Type 0
ChangesOutOfRange changes = (8 < changes.count) ⊎ ((k : ℕ) × (k < 8) × PairOutOfRange (pair_at changes k))

-- what a starting node has learned, or a running one knows
abbrev pub PhaseTooLate : Phase → Type 0
PhaseTooLate NotUp = ⊥
PhaseTooLate (Starting l) = KnownTooLate l.r ⊎ KnownTooLate l.b ⊎ KnownTooLate l.second
PhaseTooLate (Running rec) = StampTooLate rec.r.stamp ⊎ StampTooLate rec.b.stamp ⊎ ResendTooLate rec.resend ⊎ KnownTooLate rec.second

-- "16 also for a record whose second pair has a stamp above b's, and for a running record with no second pair" (§9 of 02)
abbrev pub SecondAbove : Option Pair → Option Pair → Type 0
SecondAbove (Some second) (Some b) = b.stamp.0 < second.stamp.0
SecondAbove (Some second) None = ⊥
SecondAbove None b = ⊥

abbrev pub NoSecond : Option Pair → Type 0
NoSecond (Some second) = ⊥
NoSecond None = Unit {0}

abbrev pub SecondOutOfOrder : Phase → Type 0
SecondOutOfOrder NotUp = ⊥
SecondOutOfOrder (Starting l) = SecondAbove l.second l.b
SecondOutOfOrder (Running rec) = NoSecond rec.second ⊎ SecondAbove rec.second (Some rec.b)

-- "any step but Start"
abbrev pub NoStart : Option Beginning → Type 0
NoStart (Some b) = ⊥
NoStart None = Unit {0}

-- ---- 9 and 12, of a node's phase

-- "a number is new when none is known since start-up, or when number minus last, wrapping at 32 bits, is 1 to 2,147,483,647"
abbrev pub NotNewAfter : ℕ → Option ℕ → Type 0
NotNewAfter number (Some last) = (ahead number last ≡ 0) ⊎ (2_147_483_647 < ahead number last)
NotNewAfter number None = ⊥

-- "Armed exactly in Attempt": the statuses differ, and r's stamp is no older than b's
abbrev pub NotInAttempt : Phase → Type 0
NotInAttempt NotUp = Unit {0}
NotInAttempt (Starting l) = Unit {0}
NotInAttempt (Running rec) = (rec.r.status ≡ rec.b.status) ⊎ (rec.r.stamp.0 < rec.b.stamp.0)

-- "Armed after a command was sent": no stamp is being resent
abbrev pub NoStampResent : Phase → Type 0
NoStampResent NotUp = Unit {0}
NoStampResent (Starting l) = Unit {0}
NoStampResent (Running rec) = rec.resend ≡ None

-- for a site, the number of records that are lent, the record of the acting node, and what a step names
module _ (site : Site) (lent : ℕ) (node : Node) (the : Named) where
  -- what it says beside its node, its clock and what Start gives
  abbrev said : Said
  said = the.said

  -- 1: "Start: f, k, status or g out of range, a compromised number not below n, more than f compromised, table shorter than n". (The row's other
  -- half, a bad interval, is discretising's.)
  abbrev pub StartOutOfRange : Type 0
  StartOutOfRange =
      Of the.beginning λ b.
      (4 < b.f)
      ⊎ (3 < b.k)
      ⊎ (1 < b.status)
      ⊎ (b.g.0 < 2)
      ⊎ (999_999_000 < b.g.0)
      ⊎ Outsider b.compromised (nodes b.f b.k)
      ⊎ (b.f < size b.compromised)
      ⊎ (lent < nodes b.f b.k)

  -- 2: "node or sender ≥ n, status above 1, back above 7"; of a pair "2 also for T equal to 4,294,967,295" (§6 of 02)
  abbrev pub OutsideItsRange : Type 0
  OutsideItsRange =
      Of the.actor (λ i. n site ≤ i)
      ⊎ Of said.sender (λ i. n site ≤ i)
      ⊎ Of said.status (λ A. 1 < A)
      ⊎ Of said.back (λ back. 7 < back)
      ⊎ Of (paired said.stamps) (λ T. T.0 ≡ 4_294_967_295)

  -- 3: "the acting node (for Deliver, the receiver) is compromised"
  abbrev pub ActorCompromised : Type 0
  ActorCompromised = Of the.actor λ i. is_in site.compromised i ≡ true

  -- 4: "the node's phase does not take this step (Down of a down node, Up of another)"
  abbrev pub PhaseDoesNotTake : Type 0
  PhaseDoesNotTake = Of the.actor λ i. phase_takes node.phase said.kind ≡ false

  -- 5: "t is neither g nor g+1"
  abbrev pub NeitherNowNorNext : Type 0
  NeitherNowNorNext = Of the.clock λ t. (t.0 ≡ (g site).0 → ⊥) × (t.0 ≡ (g site).0 + 1 → ⊥)

  -- 6: "t is below that node's, or the breaker's, last accepted clock since it started"
  abbrev pub BelowLastClock : Type 0
  BelowLastClock = Of the.clock λ t. t.0 < (last_clock site node the.actor).0

  -- 7: "T not fresh at t"; of a pair "7 when neither is fresh" (§6 of 02)
  abbrev pub NotFresh : Type 0
  NotFresh = Of the.clock λ t. AllOf said.stamps λ T. (T.0 + 2 < t.0) ⊎ (t.0 + 2 < T.0)

  -- 8: "share not made by its correct sender; for Command, verdict no"; of a pair "8 when a fresh one wasn't made" (§6 of 02)
  abbrev pub ShareNotMade : Type 0
  ShareNotMade =
      Of the.clock λ t. Of said.sender λ i. Of said.status λ A. OneOf said.stamps λ T.
      ((t.0 ≤ T.0 + 2) × (T.0 ≤ t.0 + 2)) × ((is_in site.compromised i ≡ false) × (held site.made A T i ≡ false))

  abbrev pub VerdictNo : Type 0
  VerdictNo =
      (said.kind ≡ command) × Of said.status λ A. OneOf said.stamps λ T. size (counted site A T) < site.f + 1

  abbrev pub NotVouchedFor : Type 0
  NotVouchedFor = ShareNotMade ⊎ VerdictNo

  -- 9: "report not new"
  abbrev pub ReportNotNew : Type 0
  ReportNotNew = Of said.number λ number. NotNewAfter number (last_number node.phase)

  -- 10 is no step's: "10 is not given by Command from then on" (§4 of 02), and 01 gave it to no other.

  -- 11: "T ≤ breaker's stamp", and "only for a command that would change the status" (§4 of 02)
  abbrev pub StampNotAbove : Type 0
  StampNotAbove =
      (said.kind ≡ command)
      × Of said.status λ A. (A ≡ site.breaker.pair.status → ⊥) × OneOf said.stamps λ T. T.0 ≤ site.breaker.pair.stamp.0

  -- 12: "timeout not armed"
  abbrev pub NotArmed : Type 0
  NotArmed =
      ((said.kind ≡ share_timeout) × NotInAttempt node.phase) ⊎ ((said.kind ≡ resend_timeout) × NoStampResent node.phase)

  -- 13: "fewer changes than `back` + 1"
  abbrev pub TooFewChanges : Type 0
  TooFewChanges = Of said.back λ back. site.breaker.changes.count < back + 1

  -- 14: "Down: already k correct nodes down, by the site's own count"
  abbrev pub EnoughDown : Type 0
  EnoughDown = (said.kind ≡ down) × (site.k ≤ size site.down)

  -- 15: "Tick when g is 1,000,000,000". (The row's other half is discretising's.)
  abbrev pub TickAtTheLast : Type 0
  TickAtTheLast = (said.kind ≡ tick) × ((g site).0 ≡ 1_000_000_000)

  -- 16: "no site started yet; a table shorter than n; a site number outside its range (f, k, n and status as above; g 2 to 1,000,000,000; at most
  -- eight changes; stamps and clock to 1,000,000,003; sets within n, at most f compromised)"
  abbrev pub SiteOutOfRange : Type 0
  SiteOutOfRange =
      (site.started ≡ false)
      ⊎ (lent < n site)
      ⊎ (4 < site.f)
      ⊎ (3 < site.k)
      ⊎ ((g site).0 < 2)
      ⊎ (1_000_000_000 < (g site).0)
      ⊎ Outsider site.compromised (n site)
      ⊎ (site.f < size site.compromised)
      ⊎ Outsider site.down (n site)
      ⊎ SenderOutside site.made (n site)
      ⊎ PairOutOfRange site.breaker.pair
      ⊎ ClockTooLate site.breaker.clock
      ⊎ ChangesOutOfRange site.breaker.changes

  -- "the record of the acting node (for Deliver, the receiver), if that node is below n, holds a stamp or clock above 1,000,000,003 or a sender not
  -- below n", or has a second pair out of order
  abbrev pub RecordOutOfRange : Type 0
  RecordOutOfRange =
      Of the.actor λ i.
      (i < n site) × (ClockTooLate (node_clock node) ⊎ SenderOutside node.store (n site) ⊎ PhaseTooLate node.phase ⊎ SecondOutOfOrder node.phase)

  -- "any step but Start"
  abbrev pub SiteOrRecordOutOfRange : Type 0
  SiteOrRecordOutOfRange = NoStart the.beginning × (SiteOutOfRange ⊎ RecordOutOfRange)

  -- "Checks run in this order: 17, 16, then 1 for Start, then 2 to 15." (17 is the log's.) The rows after 16
  abbrev pub later_rows : List Row
  later_rows =
      (1, StartOutOfRange)
      ∷ (2, OutsideItsRange)
      ∷ (3, ActorCompromised)
      ∷ (4, PhaseDoesNotTake)
      ∷ (5, NeitherNowNorNext)
      ∷ (6, BelowLastClock)
      ∷ (7, NotFresh)
      ∷ (8, NotVouchedFor)
      ∷ (9, ReportNotNew)
      ∷ (11, StampNotAbove)
      ∷ (12, NotArmed)
      ∷ (13, TooFewChanges)
      ∷ (14, EnoughDown)
      ∷ (15, TickAtTheLast)
      ∷ []

  abbrev pub refusal_table : List Row
  refusal_table = (16, SiteOrRecordOutOfRange) ∷ later_rows
