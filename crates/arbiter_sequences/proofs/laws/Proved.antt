-- The demand holds.
use Rattle.std.specs.Prelude.{◌≡◌, refl, List, length, Err}
use Rattle.std.proofs.Common.{sym, ap, ap₂, ◌∙◌, true≢false}
use Rattle.refusals.specs.declared.Refusal.{Refusal}
use Rattle.time.specs.declared.Dts.{Dts}
use Rattle.pairs.specs.declared.Pair.{Pair}
use Rattle.site.specs.Answers.{is_done}
use Rattle.arbiter_steps.specs.Steps.{named}
use Rattle.arbiter_site.specs.declared.Out.{Out}
use Rattle.arbiter_site.specs.laws.StepLaws.{by_tests, effect-done}
use Rattle.arbiter_lent.specs.Lent.{record_of, out_of, table_after_answer, table_after}
use Rattle.arbiter_sequences.specs.History.{held_of}
use Rattle.arbiter_sequences.specs.Demand.{AtMostF, CountedOneWasCorrect, StampsRise, BreakerAsTold, HeldExactly, ChangesAtOnce, SendsNoCommand, Always, OneSendersOwn, RefusedChangesNothing}
use Rattle.arbiter_sequences.proofs.laws.Keeping.{reached-keeps}

pub at-most-f : Always AtMostF
at-most-f first h m r b q = (reached-keeps r b q).few-compromised

pub counted-one-was-correct : Always CountedOneWasCorrect
counted-one-was-correct first h m r b q = (reached-keeps r b q).holds.correct-one

pub stamps-rise : Always StampsRise
stamps-rise first h m r b q = ((reached-keeps r b q).holds.above, (reached-keeps r b q).holds.rising)

pub breaker-as-told : Always BreakerAsTold
breaker-as-told first h m r b q = ((reached-keeps r b q).holds.has-pair, (reached-keeps r b q).holds.clock)

pub held-exactly : Always HeldExactly
held-exactly first h m r b q = (reached-keeps r b q).holds.holding

pub changes-at-once : Always ChangesAtOnce
changes-at-once first h m r b q = (reached-keeps r b q).holds.at_once

pub sends-no-command : Always SendsNoCommand
sends-no-command first h m r b q = (reached-keeps r b q).holds.no-command

pub one-senders-own : OneSendersOwn
one-senders-own first first' h h' m m' r r' b b' q q' i same clocks A T =
    held-exactly first h m r b q i A T
    ∙ ap₂ (λ (ps : List Pair) (t : Dts). held_of ps t A T) same clocks
    ∙ sym (held-exactly first' h' m' r' b' q' i A T)

pub refused-changes-nothing : RefusedChangesNothing
unfolding out_of table_after
refused-changes-nothing m step number is =
    by_tests Nothing m.site (length m.records) (record_of (named step).actor m.records) step
    (λ e. λ number is. absurd (true≢false (sym (effect-done m.site (record_of (named step).actor m.records) step) ∙ ap is_done is)))
    (λ k. λ number is. refl) number is
  where
    Nothing : Out → Type 0
    Nothing out =
        (refusal : Refusal) → out.answer ≡ Err refusal
        → record { site = out.site; records = table_after_answer out.answer step m.records out.node } ≡ m
