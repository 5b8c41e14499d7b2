-- What an accepted step tells a node, field by field and in the rules' words. No phase, record or store is looked at: a field afterwards is worked out from
-- the step and from what was told before. What has happened to a node is told by these, step after step (crates/sequences, Told.antt); that every event
-- does what they say is a theorem about the events (crates/acting, Exact.antt).
use Rattle.std.specs.Prelude.{ℕ, ◌+◌, Bool, true, false, not, ◌&&◌, cond, List, [], ◌∷◌, eqb, leb, ltb, Option, Some, None}
use Rattle.time.specs.declared.Dts.{Dts}
use Rattle.time.specs.Larger.{larger}
use Rattle.time.specs.Fresh.{next, fresh}
use Rattle.senders.specs.Sets.{count_below}
use Rattle.store.specs.Earliest.{dts, fresh_stamps, first_of}
use Rattle.pairs.specs.declared.Pair.{Pair}
use Rattle.pairs.specs.declared.Pairs.{Pairs}
use Rattle.pairs.specs.declared.Pairs.TheVariants.{Zero, One, Two}
use Rattle.pairs.specs.Pair.{pair}
use Rattle.steps.specs.Named.{report, share_timeout, resend_timeout, query, Said, is_kind}
use Rattle.node.specs.declared.Phase.{Phase}
use Rattle.node.specs.Asked.{known_r, known_b, known_second, last_number, resending}

-- What a node has been told: of its relay, of the breaker, of the breaker as acknowledged or queried (the second pair), the relay's last state number, and the
-- stamp being resent.
pub record Knows : Type 0 where
  pub r : Option Pair
  pub b : Option Pair
  pub second : Option Pair
  pub number : Option ℕ
  pub resend : Option Dts

-- a node that has been told nothing
abbrev pub nothing : Knows
nothing = record { r = None; b = None; second = None; number = None; resend = None }

-- ---- what r and b say together, where both are known

-- "equal statuses, Done"
abbrev pub are_done : Option Pair → Option Pair → Bool
are_done (Some r) (Some b) = eqb r.status b.status
are_done (Some r) None = false
are_done None b = false

-- "Otherwise Attempt of r's status where r's stamp ≥ b's stamp"
abbrev pub are_attempt : Option Pair → Option Pair → Bool
are_attempt (Some r) (Some b) = not (eqb r.status b.status) && leb b.stamp.0 r.stamp.0
are_attempt (Some r) None = false
are_attempt None b = false

-- "When r and b are both known it runs"
abbrev pub are_known : Option Pair → Option Pair → Bool
are_known (Some r) (Some b) = true
are_known (Some r) None = false
are_known None b = false

-- ---- r, and the relay's number

-- "a report at a node that knows b stamps r with the larger of t and b's stamp" (§1 of 02); at any other, "It sets r to the status and t."
abbrev stamp_for : Option Pair → Dts → Dts
stamp_for (Some b) t = larger t b.stamp
stamp_for None t = t

abbrev pub reported_as : Option ℕ → Dts → Option Pair → Option Pair
reported_as (Some A) t b = Some (pair A (stamp_for b t))
reported_as None t b = None

-- r after a step at clock t, for the b and the r that were known
abbrev pub relay_by : Said → Dts → Option Pair → Option Pair → Option Pair
relay_by said t b r = cond (is_kind said.kind report) (reported_as said.status t b) r

-- "the last state number"
abbrev number_or : Option ℕ → Option ℕ → Option ℕ
number_or (Some number) last = Some number
number_or None last = last

abbrev pub number_by : Said → Option ℕ → Option ℕ
number_by said last = number_or said.number last

-- ---- b, before the combining rule

-- "If its stamp ≥ b's stamp, b becomes that change; a later-arriving older one leaves b." "With no b, any ack sets it."
abbrev pub later_of : Option Pair → Option Pair → Option Pair
later_of (Some b) (Some change) = Some (cond (leb b.stamp.0 change.stamp.0) change b)
later_of (Some b) None = Some b
later_of None change = change

abbrev pub acked_as : Option ℕ → (ℕ → Option Pair) → Option Pair → Option Pair
acked_as (Some back) changeNumber b = later_of b (changeNumber back)
acked_as None changeNumber b = b

-- Query: "b becomes the breaker's status and stamp now." Ack: as above, of the breaker's change number `back`. No other step speaks of the breaker. The second
-- pair is heard of in the same way: "A query sets it, and so does an ack when there is none yet or its stamp is not below the pair's" (§9 of 02)
abbrev pub heard_by : Said → (ℕ → Option Pair) → Pair → Option Pair → Option Pair
heard_by said changeNumber now b = cond (is_kind said.kind query) (Some now) (acked_as said.back changeNumber b)

-- "On a resend timeout when the stamp is no longer fresh" (§9 of 02)
abbrev pub is_stale : Option Dts → Dts → Bool
is_stale (Some T) t = not (fresh T t)
is_stale None t = false

abbrev pub gives_up_by : Said → Dts → Option Dts → Bool
gives_up_by said t resend = is_kind said.kind resend_timeout && is_stale resend t

-- "b returns to that pair"; a node that has a stamp to give up knows it
abbrev pub returns_to : Option Pair → Option Pair → Option Pair
returns_to (Some second) b = Some second
returns_to None b = b

-- b after a step at clock t, for what had been told
abbrev pub breaker_by : Said → Dts → (ℕ → Option Pair) → Pair → Knows → Option Pair
breaker_by said t changeNumber now k = cond (gives_up_by said t k.resend) (returns_to k.second k.b) (heard_by said changeNumber now k.b)

-- ---- resend, before the combining rule

-- "An ack of the status that b has beforehand disarms resend, older or not."
abbrev pub same_status : Option Pair → Option Pair → Bool
same_status (Some change) (Some b) = eqb change.status b.status
same_status (Some change) None = false
same_status None b = false

abbrev pub is_ack_of : Option ℕ → (ℕ → Option Pair) → Option Pair → Bool
is_ack_of (Some back) changeNumber b = same_status (changeNumber back) b
is_ack_of None changeNumber b = false

-- "Leaving Done disarms resend." r and b before the step, and after it
abbrev pub leaves_done : Option Pair → Option Pair → Option Pair → Option Pair → Bool
leaves_done r b r' b' = are_done r b && not (are_done r' b')

-- A resend timeout with its stamp no longer fresh: "resend is disarmed"
abbrev pub resend_by : Said → Dts → (ℕ → Option Pair) → Option Pair → Option Pair → Option Pair → Option Pair → Option Dts → Option Dts
resend_by said t changeNumber r b r' b' resend =
    cond (gives_up_by said t resend) None (cond (is_ack_of said.back changeNumber b) None (cond (leaves_done r b r' b') None resend))

-- ---- what is sent

-- Report: "If a running node was not in Attempt and now is, it shares (status, t) and (status, t+1)." Share timeout: "Shares (r's status, t)."
abbrev two_shares : Option Pair → Dts → Pairs
two_shares (Some r) t = Two (pair r.status t) (pair r.status (next t))
two_shares None t = Zero

abbrev one_share : Option Pair → Dts → Pairs
one_share (Some r) t = One (pair r.status t)
one_share None t = Zero

abbrev pub shares_by : Said → Dts → Option Pair → Option Pair → Option Pair → Pairs
shares_by said t r b r' =
    cond (is_kind said.kind report)
    (cond (are_known r b && (not (are_attempt r b) && are_attempt r' b)) (two_shares r' t) Zero)
    (cond (is_kind said.kind share_timeout) (one_share r t) Zero)

-- Resend timeout: "Sends that command (b's status, that stamp) again." With the stamp no longer fresh, "the old command is not sent" (§9 of 02)
abbrev pub again_of : Dts → Option Dts → Option Pair → Option Pair
again_of t (Some T) (Some b) = cond (fresh T t) (Some (pair b.status T)) None
again_of t (Some T) None = None
again_of t None b = None

abbrev pub again_by : Said → Dts → Option Dts → Option Pair → Option Pair
again_by said t resend b = cond (is_kind said.kind resend_timeout) (again_of t resend b) None

-- ---- the combining rule

-- "some fresh stamp above b's stamp is held from at least f+1 senders for A": of n nodes, for who holds what
abbrev pub is_enough : ℕ → ℕ → Dts → (Dts → ℕ → Bool) → ℕ → Bool
is_enough n f above heldFrom T = ltb above.0 T && leb (f + 1) (count_below n (heldFrom (dts T)))

abbrev pub command_at : ℕ → Option Dts → Option Pair
command_at A (Some T) = Some (pair A T)
command_at A None = None

-- "leaves it running in Attempt of A: [..] it takes the earliest such T, sends command (A, T)", for r and b after the event, the clock t, and which senders
-- are held for an action and a stamp
abbrev pub combined_of : ℕ → ℕ → Dts → (ℕ → Dts → ℕ → Bool) → Option Pair → Option Pair → Option Pair
combined_of n f t held (Some r) (Some b) =
    cond (are_attempt (Some r) (Some b)) (command_at r.status (first_of (is_enough n f b.stamp (held r.status)) (fresh_stamps t))) None
combined_of n f t held (Some r) None = None
combined_of n f t held None b = None

-- ---- a step at a node, to its end

-- the last of some commands
abbrev pub last_of : List Pair → Option Pair
last_of [] = None
last_of (p ∷ []) = Some p
last_of (p ∷ q ∷ more) = last_of (q ∷ more)

-- "sends command (A, T), sets b to (A, T), arms resend": the command that was sent last in the step, if one was. (A command that is sent again is b with the
-- stamp being resent, and so they stay what they are.)
abbrev pub or_sent : Option Pair → Option Pair → Option Pair
or_sent (Some command) b = Some command
or_sent None b = b

abbrev pub or_armed : Option Pair → Option Dts → Option Dts
or_armed (Some command) resend = Some command.stamp
or_armed None resend = resend

-- with r and b as the step itself left them
abbrev ends_as : Said → Dts → (ℕ → Option Pair) → Pair → Option Pair → Knows → Option Pair → Option Pair → Knows
ends_as said t changeNumber now sent k r' b' =
    record {
      r = r';
      b = or_sent sent b';
      second = heard_by said changeNumber now k.second;
      number = number_by said k.number;
      resend = or_armed sent (resend_by said t changeNumber k.r k.b r' b' k.resend);
    }

-- what a node has been told after a step at its clock t, for the breaker's changes and its pair at that time, and for the last command that the node sent in
-- the step
abbrev pub knows_after : Said → Dts → (ℕ → Option Pair) → Pair → Option Pair → Knows → Knows
knows_after said t changeNumber now sent k =
    ends_as said t changeNumber now sent k (relay_by said t k.b k.r) (breaker_by said t changeNumber now k)

-- ---- what a record knows, in the same words

abbrev pub known_in : Phase → Knows
known_in phase = record { r = known_r phase; b = known_b phase; second = known_second phase; number = last_number phase; resend = resending phase }
