-- §9 of 02: "If the command arrives too late, the node resends a dead stamp for ever." It no longer does. Of an accepted step at any moment whatever, reached or
-- not, and of what the lent table has afterwards.
use Rattle.std.specs.Prelude.{ℕ, ◌≡◌, true, Some, Ok}
use Rattle.time.specs.declared.Dts.{Dts}
use Rattle.time.specs.Fresh.{fresh}
use Rattle.pairs.specs.Pair.{listed, has}
use Rattle.node.specs.Asked.{resending}
use Rattle.steps.specs.declared.Event.{Event}
use Rattle.steps.specs.declared.Event.TheVariants.{ResendTimeout}
use Rattle.steps.specs.declared.Step.TheVariants.{AtNode}
use Rattle.told.proofs.laws.GivingUp.{ResendsFresh, timeout-fresh, commands-fresh}
use Rattle.site.specs.declared.Sent.{Sent}
use Rattle.sequences.specs.Moments.{Moment, Accepts, answer_to, node_at}
use Rattle.sequences.proofs.laws.OneEvent.{phase_after, event-leaves, event-sends}

-- After a resend timeout the stamp being resent, if there is one, is fresh at the node's clock: one that was not is given up.
abbrev pub NoDeadStampResent : Type 0
NoDeadStampResent =
    (m : Moment) (j : ℕ) (t : Dts) → Accepts m (AtNode j t ResendTimeout) → (T : Dts) → resending (phase_after m (AtNode j t ResendTimeout) j) ≡ Some T
    → fresh T t ≡ true

-- Whatever the event, every command that a node sends is fresh at its clock.
abbrev pub NoDeadStampSent : Type 0
NoDeadStampSent =
    (m : Moment) (j : ℕ) (t : Dts) (event : Event) (sent : Sent) → answer_to m (AtNode j t event) ≡ Ok sent → (A : ℕ) (T : Dts) → has (listed sent.commands) A T ≡ true
    → fresh T t ≡ true

pub no-dead-stamp-resent : NoDeadStampResent
no-dead-stamp-resent m j t is-done =
    event-leaves m j t ResendTimeout (ResendsFresh t) (λ up l. timeout-fresh m.site.breaker (node_at m j) j m.site.f t up l) is-done

pub no-dead-stamp-sent : NoDeadStampSent
no-dead-stamp-sent m j t event sent e A T =
    event-sends m j t event (λ sent. has (listed sent.commands) A T ≡ true → fresh T t ≡ true)
    (λ up l. commands-fresh m.site.breaker (node_at m j) j m.site.f t up l event A T) sent e
