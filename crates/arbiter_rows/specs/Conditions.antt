-- "Refusals: those of 01, in its order; 10 and 11 are not given" (§3 of 02): the conditions of an Arbiter site. Those after 16 are 01's own (crates/rows,
-- specs/Conditions.antt), for what the step names and for the node as 01's; of a message, which names no acting node, 3 and 4 are never met, and 6 goes by the
-- breaker's last clock.
use Rattle.std.specs.Prelude.{ℕ, ◌<◌, ◌⊎◌, List, ◌∷◌}
use Rattle.steps.specs.Named.{Named, Of}
use Rattle.site.specs.Site.{n}
use Rattle.rows.specs.Exactly.{Row}
use Rattle.rows.specs.Conditions.{StampTooLate, ClockTooLate, KnownTooLate, SenderOutside, NoStart, SiteOutOfRange, later_rows}
use Rattle.arbiter_node.specs.declared.Phase.{Phase}
use Rattle.arbiter_node.specs.declared.Phase.TheVariants.{Down, Starting, Running}
use Rattle.arbiter_node.specs.declared.Voter.{Voter}
use Rattle.arbiter_node.specs.Voter.{in_peer}
use Rattle.arbiter_site.specs.declared.Arbiter.{Arbiter}

-- what a starting node has learned, or a running one knows: "a stamp [..] above 1,000,000,003"
abbrev pub PhaseTooLate : Phase → Type 0
PhaseTooLate Down = ⊥
PhaseTooLate (Starting l) = KnownTooLate l.r ⊎ KnownTooLate l.b
PhaseTooLate (Running heard) = StampTooLate heard.r.stamp ⊎ StampTooLate heard.b.stamp

-- for a site, the number of records that are lent, the record of the acting node, and what a step names
module _ (a : Arbiter) (lent : ℕ) (voter : Voter) (the : Named) where
  -- 16, of the messages that the breaker holds: "clock to 1,000,000,003; sets within n"
  abbrev pub HeldOutOfRange : Type 0
  HeldOutOfRange = ClockTooLate a.held.clock ⊎ SenderOutside a.held (n a.site)

  -- "the record of the acting node, if that node is below n, holds a stamp or clock above 1,000,000,003"; it holds no sender
  abbrev pub RecordOutOfRange : Type 0
  RecordOutOfRange = Of the.actor λ i. (i < n a.site) × (ClockTooLate voter.clock ⊎ PhaseTooLate voter.phase)

  -- "any step but Start"
  abbrev pub SiteOrRecordOutOfRange : Type 0
  SiteOrRecordOutOfRange = NoStart the.beginning × (SiteOutOfRange a.site lent (in_peer voter) the ⊎ HeldOutOfRange ⊎ RecordOutOfRange)

  abbrev pub refusal_table : List Row
  refusal_table = (16, SiteOrRecordOutOfRange) ∷ later_rows a.site lent (in_peer voter) the
