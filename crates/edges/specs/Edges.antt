-- "Both sides of each edge": P1 to P10, and beside P1 the edge of the default interval, by a single statement over one list.
use Rattle.std.specs.Prelude.{ℕ, ◌≡◌, refl, Bool, true, false, not, ◌&&◌, List, [], ◌∷◌, eqb}
use Rattle.refusals.specs.Tests.{refusal}
use Rattle.time.specs.declared.Micros.{Micros}
use Rattle.time.specs.declared.Dts.{Dts}
use Rattle.time.specs.Discretising.{discretised_by, discretised, default_interval, in_numbers}
use Rattle.time.specs.Fresh.{fresh_at}
use Rattle.time.specs.Newer.{newer, ahead}
use Rattle.senders.specs.Sets.{count_below}
use Rattle.senders.specs.Masks.{is_in, size, enough, joined, within, together}
use Rattle.tables.specs.Tables.{table}
use Rattle.store.specs.Store.{empty, put, has_place, senders_of, store_within}
use Rattle.pairs.specs.declared.Pair.{Pair}
use Rattle.pairs.specs.Pair.{pair}
use Rattle.node.specs.State.{State, Done, Attempt, Wait, state}
use Rattle.events.specs.Events.{went_down}
use Rattle.breaker.specs.Breaker.{started, changed, after_command, remembered, changes_sound, breaker_sound}
use Rattle.steps.specs.declared.Beginning.{Beginning}
use Rattle.steps.specs.declared.Step.{Step}
use Rattle.steps.specs.declared.Step.TheVariants.{Start, AtBreaker}
use Rattle.site.specs.declared.Site.{Site}
use Rattle.site.specs.Site.{nodes, sets_sound, site_sound}
use Rattle.refusing.specs.Tests.{verdict, tests_of}
use Rattle.site.specs.Answers.{number_of}
use Rattle.effects.specs.Effects.{started_site, with_made, commanded, effect_of}
use Rattle.stepping.specs.Steps.{stepped}

-- "Status 0 is CLOSE, 1 is TRIP."
abbrev pub CLOSE : ℕ
CLOSE = 0

abbrev pub TRIP : ℕ
TRIP = 1

abbrev pub at : ℕ → Dts
at n = record { 0 = n }

abbrev micros : ℕ → Micros
micros n = record { 0 = n }

-- a reading, discretised at an interval, is accepted and gives that stamp
abbrev gives : ℕ → Micros → ℕ → Bool
gives reading interval stamp =
    let d = in_numbers (discretised (micros reading) interval) in eqb d.refusal 0 && eqb d.stamp.0 stamp

abbrev is_attempt : ℕ → State → Bool
is_attempt A (Done B) = false
is_attempt A (Attempt B) = eqb A B
is_attempt A (Wait B) = false

abbrev is_wait : ℕ → State → Bool
is_wait A (Done B) = false
is_wait A (Attempt B) = false
is_wait A (Wait B) = eqb A B

abbrev pub beginning : (f k compromised status : ℕ) → Dts → Beginning
beginning f k compromised status g = record { f = f; k = k; compromised = compromised; status = status; g = g }

-- a command at the breaker's clock
abbrev command : Dts → ℕ → Dts → Step
command t A T = AtBreaker t (record { status = A; stamp = T })

-- f = 1, k = 0, node 2 compromised, the breaker (CLOSE, 100), g = 100; node 0 has shared TRIP at 100 and at 101
abbrev pub site : Site
site =
    with_made (started_site (beginning 1 0 4 CLOSE (at 100))) (put (put (empty (at 100)) 0 TRIP (at 100)) 0 TRIP (at 101))

-- the number that a step is answered with, twelve records being lent
abbrev answer : Step → ℕ
answer step = number_of (stepped site 12 went_down step).answer

-- the breaker after a step
abbrev breaker_after : Step → Pair
breaker_after step = (stepped site 12 went_down step).site.breaker.pair

-- a mark, and the fact beside it
abbrev pub Edge : Type 0
Edge = ℕ × Bool

unfoldable pub edges : List Edge
edges =
    -- 3,999 µs gives 1, 4,000 gives 2; §5 of 02: at an interval of 2,000, by name
    (1, gives 3_999 (micros 2_000) 1 && gives 4_000 (micros 2_000) 2)
    -- §5 of 02, by default: 999 µs gives 0, 1,000 gives 1
    ∷ (1, gives 999 default_interval 0 && gives 1_000 default_interval 1)
    -- r (TRIP, 100), b (CLOSE, 100): Attempt TRIP
    ∷ (2, is_attempt TRIP (state (pair TRIP (at 100)) (pair CLOSE (at 100))))
    -- r (TRIP, 99): Wait CLOSE
    ∷ (3, is_wait CLOSE (state (pair TRIP (at 99)) (pair CLOSE (at 100))))
    -- after 4,294,967,295, number 0 is new
    ∷ (4, newer 0 4_294_967_295)
    -- after 7, number 2,147,483,654 is new, 2,147,483,655 and 7 are not
    ∷ (5, newer 2_147_483_654 7 && not (newer 2_147_483_655 7) && not (newer 7 7))
    -- at t = 100, 98 and 102 are fresh, 97 and 103 are not
    ∷ (6, fresh_at 98 100 && fresh_at 102 100 && not (fresh_at 97 100) && not (fresh_at 103 100))
    -- f = 1: senders {0, 2} suffice; sender 2 twice does not
    ∷ (7, enough (joined (joined 0 0) 2) 1 && not (enough (joined (joined 0 2) 2) 1))
    -- breaker (CLOSE, 100), t = 100, verdict yes: TRIP at 100 is 11; TRIP at 101 is done, breaker (TRIP, 101)
    ∷ (8, verdict site TRIP (at 100) && verdict site TRIP (at 101))
    ∷ (8, eqb (answer (command (at 100) TRIP (at 100))) 11 && eqb (answer (command (at 100) TRIP (at 101))) 0)
    ∷ (8, eqb (breaker_after (command (at 100) TRIP (at 101))).status TRIP && eqb (breaker_after (command (at 100) TRIP (at 101))).stamp.0 101)
    -- f = 4, k = 3 gives n = 12; f = 5 is 1
    ∷ (9, eqb (nodes 4 3) 12 && eqb (answer (Start (beginning 4 3 0 CLOSE (at 100)))) 0 && eqb (answer (Start (beginning 5 0 0 CLOSE (at 100)))) 1)
    -- f = 1 with two compromised is 1
    ∷ (10, eqb (answer (Start (beginning 1 0 4 CLOSE (at 100)))) 0 && eqb (answer (Start (beginning 1 0 6 CLOSE (at 100)))) 1)
    ∷ []

abbrev pub all : List Edge → Bool
all [] = true
all (e ∷ es) = e.1 && all es

pub every-edge : all edges ≡ true
unfolding edges discretised_by refusal state newer ahead size count_below is_in joined within together stepped tests_of effect_of site_sound sets_sound store_within breaker_sound changes_sound commanded after_command changed remembered started started_site senders_of has_place put empty table went_down
every-edge = refl
