-- A sequence with two changes, so that no part of the demand is met for nothing: what has happened in it, what the history tells of node 0, and each of the four
-- parts of the demand, computed.
use Rattle.std.specs.Prelude.{ℕ, ◌<◌, ◌≡◌, refl, true, List, [], ◌∷◌, Some, Option, None}
use Rattle.std.proofs.Common.{subst, inl, inr, arith, lit<}
use Rattle.refusals.specs.Tests.{refusal, passed}
use Rattle.tables.specs.Tables.{table}
use Rattle.time.specs.declared.Dts.{Dts}
use Rattle.time.specs.Fresh.{next}
use Rattle.time.specs.Newer.{newer, ahead}
use Rattle.senders.specs.Sets.{count_below}
use Rattle.senders.specs.Masks.{is_in, size, joined, together, within}
use Rattle.store.specs.Store.{empty, put, moved_to, turn, left_at, has_place, senders_of, store_within}
use Rattle.store.specs.Held.{held}
use Rattle.store.specs.Earliest.{earliest, qualifies}
use Rattle.pairs.specs.declared.Pair.{Pair}
use Rattle.pairs.specs.declared.Pairs.TheVariants.{Zero, One, Two}
use Rattle.pairs.specs.Pair.{pair, listed}
use Rattle.node.specs.Asked.{node_in_range, node_sound}
use Rattle.combining.specs.Combining.{combined, put_all, finished}
use Rattle.events.specs.Events.{begun, reported, report_running, report_starting, report_shares, kept, queried, went_down, went_up}
use Rattle.acting.specs.Acting.{changed_by, stored, acted}
use Rattle.breaker.specs.Breaker.{started, answered, changed, after_command, remembered, changes_sound, breaker_sound}
use Rattle.site.specs.declared.Sent.{Sent}
use Rattle.site.specs.Site.{site_sound, sets_sound, actor_sound}
use Rattle.site.specs.Answers.{silence}
use Rattle.effects.specs.Effects.{started_site, first_record, ticked, act, only_ack, commanded, effect_of}
use Rattle.refusing.specs.Tests.{tests_of}
use Rattle.stepping.specs.Steps.{stepped}
use Rattle.lent.specs.Lent.{out_of, table_after}
use Rattle.steps.specs.declared.Beginning.{Beginning}
use Rattle.steps.specs.declared.Event.TheVariants.{Report, Deliver, ResendTimeout, Query}
use Rattle.told.specs.Telling.{Knows}
use Rattle.steps.specs.declared.Step.{Step}
use Rattle.steps.specs.declared.Step.TheVariants.{Start, Tick, AtNode, AtBreaker}
use Rattle.turns.specs.Turns.{first_run}
use Rattle.sequences.specs.History.{Entry, Accepted, Change, accepted, last_start, changes_in, at_node, runs, deliveries}
use Rattle.sequences.specs.Told.{told_to, site_clock, breaker_pair, held_then}
use Rattle.sequences.specs.Demand.{here, further, Each, SharedEarlier, Rising, Attempts, HeldEnough}
use Rattle.sequences.proofs.laws.Fitting.{done_with}
use Rattle.replay.specs.Replay.{moment_of, told}

abbrev stamp : ℕ → Dts
stamp n = record { 0 = n }

abbrev pub start : Beginning
start = record { f = 1; k = 0; compromised = 4; status = 0; g = stamp 100 }

abbrev command : ℕ → ℕ → ℕ → Step
command t A T = AtBreaker (stamp t) (record { status = A; stamp = stamp T })

-- Start(1, 0, {2}, CLOSE, 100); Query(0, 100); Report(0, 100, CLOSE, 1); Report(0, 100, TRIP, 2); Deliver(2, 0, 100, TRIP, 101); Command(100, TRIP, 101); two
-- Ticks; Report(0, 102, CLOSE, 3); Deliver(2, 0, 102, CLOSE, 102); Command(102, CLOSE, 102)
abbrev pub steps : List Step
steps =
    Start start
    ∷ AtNode 0 (stamp 100) Query
    ∷ AtNode 0 (stamp 100) (Report 0 1)
    ∷ AtNode 0 (stamp 100) (Report 1 2)
    ∷ AtNode 0 (stamp 100) (Deliver 2 1 (stamp 101))
    ∷ command 100 1 101
    ∷ Tick
    ∷ Tick
    ∷ AtNode 0 (stamp 102) (Report 0 3)
    ∷ AtNode 0 (stamp 102) (Deliver 2 0 (stamp 102))
    ∷ command 102 0 102
    ∷ []

abbrev pub history : List Entry
history = told (moment_of first_run) steps []

-- ---- what has happened: the accepted steps since the Start, the latest first

abbrev shares : Pair → Pair → Sent
shares p q = record { shares = Two p q; commands = Zero; ack = None }

abbrev sends : Pair → Sent
sends p = record { shares = Zero; commands = One p; ack = None }

abbrev pub before_trip : List Accepted
before_trip =
    done_with 5 (AtNode 0 (stamp 100) (Deliver 2 1 (stamp 101))) (sends (pair 1 (stamp 101)))
    ∷ done_with 4 (AtNode 0 (stamp 100) (Report 1 2)) (shares (pair 1 (stamp 100)) (pair 1 (stamp 101)))
    ∷ done_with 3 (AtNode 0 (stamp 100) (Report 0 1)) silence
    ∷ done_with 2 (AtNode 0 (stamp 100) Query) silence
    ∷ []

abbrev pub before_delivery : List Accepted
before_delivery =
    done_with 9 (AtNode 0 (stamp 102) (Report 0 3)) (shares (pair 0 (stamp 102)) (pair 0 (stamp 103)))
    ∷ done_with 8 Tick silence
    ∷ done_with 7 Tick silence
    ∷ done_with 6 (command 100 1 101) (only_ack (pair 1 (stamp 101)))
    ∷ before_trip

abbrev pub delivery : Accepted
delivery = done_with 10 (AtNode 0 (stamp 102) (Deliver 2 0 (stamp 102))) (sends (pair 0 (stamp 102)))

abbrev pub happened : List Accepted
happened = done_with 11 (command 102 0 102) (only_ack (pair 0 (stamp 102))) ∷ delivery ∷ before_delivery

pub has-happened : (last_start history ≡ Some start) × (accepted history ≡ happened)
unfolding first_run out_of table_after stepped tests_of effect_of refusal passed started_site first_record table empty started act ticked finished combined put_all acted changed_by stored reported report_running report_starting report_shares kept queried went_down went_up begun moved_to turn left_at put held senders_of has_place store_within earliest qualifies next site_sound sets_sound actor_sound node_in_range node_sound breaker_sound changes_sound after_command answered changed remembered commanded newer ahead size count_below is_in joined within together
has-happened = (refl, refl)

-- ---- the four parts

abbrev stamp_in : Option Pair → ℕ
stamp_in (Some p) = p.stamp.0
stamp_in None = 0

abbrev trip : Change
trip = record { number = 6; clock = stamp 100; action = 1; stamp = stamp 101; acked = Some (pair 1 (stamp 101)); before = before_trip }

abbrev close : Change
close = record { number = 11; clock = stamp 102; action = 0; stamp = stamp 102; acked = Some (pair 0 (stamp 102)); before = delivery ∷ before_delivery }

pub two-changes : changes_in 0 happened ≡ close ∷ trip ∷ []
two-changes = refl

-- 1. Node 0, which is correct, shared each of them before: the trip at its own clock 100, one ahead; the close at its own clock 102.
pub shared-before : Each (SharedEarlier start) (close ∷ trip ∷ [])
unfolding is_in
shared-before = (
  (0, (lit< tt, refl), further (here (record { by-node = refl; shared = refl; at-clock = inl refl; reported = refl }))),
  ((0, (lit< tt, refl), further (here (record { by-node = refl; shared = refl; at-clock = inr refl; reported = refl }))), tt),
)

-- 2. Their stamps rise.
pub stamps-rise : Rising (close ∷ trip ∷ [])
stamps-rise = (((lit< tt, λ p is. subst (λ (k : Option Pair). stamp_in k < 102) is (lit< tt)), tt), (tt, tt))

-- 3. Node 0 runs, and holds what was delivered to it, by itself and by node 2, at its clock 102; node 1 delivered nothing.
pub deliveries-so : (runs (at_node 0 happened) ≡ true)
    × (deliveries 0 0 (at_node 0 happened) ≡ pair 0 (stamp 102) ∷ pair 0 (stamp 103) ∷ pair 1 (stamp 100) ∷ pair 1 (stamp 101) ∷ [])
    × (deliveries 1 0 (at_node 0 happened) ≡ [])
    × (deliveries 2 0 (at_node 0 happened) ≡ pair 0 (stamp 102) ∷ pair 1 (stamp 101) ∷ [])
deliveries-so = (refl, refl, refl, refl)

-- 4. With the delivery of step 10 it attempts CLOSE, and two senders are held at 102, above its breaker stamp 101: the command is sent in that step.
pub sent-at-once : Attempts start delivery before_delivery 0 (stamp 102) (Deliver 2 0 (stamp 102)) 0 (pair 1 (stamp 101))
    × HeldEnough start delivery before_delivery 0 (stamp 102) (Deliver 2 0 (stamp 102)) 0 (pair 1 (stamp 101)) (stamp 102)
    × (listed delivery.sent.commands ≡ pair 0 (stamp 102) ∷ [])
unfolding count_below
sent-at-once =
    let two : count_below 3 (held_then before_delivery delivery 0 (stamp 102) 0 (stamp 102)) ≡ 2 = refl in
    ((pair 0 (stamp 102), refl, refl, refl, refl), (refl, lit< tt, omega (arith, two)), refl)

-- What the history tells, at the end: of node 0, of the site clock and of the breaker.
abbrev pub knows_then : Knows
knows_then =
    record { r = Some (pair 0 (stamp 102)); b = Some (pair 0 (stamp 102)); second = Some (pair 0 (stamp 100)); number = Some 3; resend = Some (stamp 102) }

pub told-so : (told_to start 0 happened ≡ knows_then) × (site_clock start happened ≡ 102) × (breaker_pair start happened ≡ pair 0 (stamp 102))
told-so = (refl, refl, refl)

-- No ack came to it. A resend timeout at clock 104 sends the command again; at clock 105 the stamp is no longer fresh, and b returns to what the query said.
abbrev timed_out : ℕ → Sent → List Accepted
timed_out t sent = done_with 15 (AtNode 0 (stamp t) ResendTimeout) sent ∷ happened

pub given-up : (told_to start 0 (timed_out 104 (sends (pair 0 (stamp 102)))) ≡ knows_then)
    × (told_to start 0 (timed_out 105 silence)
    ≡ record { r = Some (pair 0 (stamp 102)); b = Some (pair 0 (stamp 100)); second = Some (pair 0 (stamp 100)); number = Some 3; resend = None })
given-up = (refl, refl)
