-- Both sides of each edge that §6 of 02 has: of rounding to nearest, and of a pair. One list, as that of the edges marked P, over the same site.
use Rattle.std.specs.Prelude.{ℕ, ◌≡◌, refl, Bool, true, false, not, ◌&&◌, List, [], ◌∷◌, eqb, Some, None, Ok, Err}
use Rattle.refusals.specs.Tests.{refusal}
use Rattle.time.specs.declared.Rounding.{Rounding}
use Rattle.time.specs.declared.Rounding.TheVariants.{Down, Nearest}
use Rattle.time.specs.Discretising.{discretised_by, in_numbers}
use Rattle.time.specs.Fresh.{next}
use Rattle.senders.specs.Sets.{count_below}
use Rattle.senders.specs.Masks.{is_in, size, joined, within, together}
use Rattle.tables.specs.Tables.{table}
use Rattle.store.specs.declared.Store.{Store}
use Rattle.store.specs.Store.{empty, put, moved_to, turn, left_at, has_place, senders_of, store_within}
use Rattle.store.specs.Held.{held}
use Rattle.store.specs.Earliest.{earliest, qualifies}
use Rattle.pairs.specs.declared.Pair.{Pair}
use Rattle.pairs.specs.Pair.{pair, listed}
use Rattle.node.specs.declared.Phase.TheVariants.{Running}
use Rattle.node.specs.declared.Node.{Node}
use Rattle.node.specs.Asked.{node_in_range, node_sound}
use Rattle.combining.specs.Combining.{combined, put_all, finished}
use Rattle.acting.specs.Acting.{changed_by, stored, acted}
use Rattle.breaker.specs.Breaker.{started, changes_sound, breaker_sound}
use Rattle.steps.specs.declared.Event.{Event}
use Rattle.steps.specs.declared.Event.TheVariants.{Deliver, DeliverPair}
use Rattle.steps.specs.declared.Step.TheVariants.{AtNode}
use Rattle.site.specs.declared.Site.{Site}
use Rattle.site.specs.Site.{sets_sound, site_sound, actor_sound}
use Rattle.refusing.specs.Tests.{tests_of}
use Rattle.site.specs.Answers.{number_of, Answer}
use Rattle.effects.specs.Effects.{started_site, with_made, act, effect_of}
use Rattle.stepping.specs.Steps.{stepped}
use Rattle.edges.specs.Edges.{CLOSE, TRIP, at, site, beginning}

-- ---- rounding

-- a reading, rounded so at an interval, is answered with this number and gives this stamp
abbrev gives : Rounding → ℕ → ℕ → ℕ → ℕ → Bool
gives rounding reading interval number stamp =
    let d = in_numbers (discretised_by rounding (record { 0 = reading }) (record { 0 = interval })) in eqb d.refusal number && eqb d.stamp.0 stamp

-- ---- a pair at node 1, whose clock is 100 and whose own shares of TRIP at 100 and 101 are held; b is (CLOSE, 99), so that it attempts to trip

abbrev own : Store
own = put (put (empty (at 100)) 1 TRIP (at 100)) 1 TRIP (at 101)

abbrev node : Node
node =
    record {
      phase = Running (record { r = pair TRIP (at 100); b = pair CLOSE (at 99); second = Some (pair CLOSE (at 99)); number = None; resend = None });
      store = own;
    }

abbrev answer : Site → ℕ → Event → ℕ
answer site t event = number_of (stepped site 12 node (AtNode 1 (at t) event)).answer

-- what node 1 holds then
abbrev holds : Event → ℕ → ℕ → Bool
holds event sender T = held (stepped site 12 node (AtNode 1 (at 100) event)).node.store TRIP (at T) sender

-- the one command that it sends is for this stamp
abbrev one_for : ℕ → List Pair → Bool
one_for T [] = false
one_for T (p ∷ []) = eqb p.status TRIP && eqb p.stamp.0 T
one_for T (p ∷ q ∷ more) = false

abbrev commands_of : Answer → List Pair
commands_of (Ok sent) = listed sent.commands
commands_of (Err refusal) = []

abbrev sends : Event → ℕ → Bool
sends event T = one_for T (commands_of (stepped site 12 node (AtNode 1 (at 100) event)).answer)

-- three ticks later: of what node 0 shared, 101 alone is still fresh
abbrev later : Site
later = with_made (started_site (beginning 1 0 4 CLOSE (at 103))) (put (empty (at 103)) 0 TRIP (at 101))

unfoldable pub edges : List Bool
edges =
    -- to nearest at 2,000: 999 µs gives 0, 1,000 gives 1; 2,999 gives 1, 3,000 gives 2
    (gives Nearest 999 2_000 0 0 && gives Nearest 1_000 2_000 0 1 && gives Nearest 2_999 2_000 0 1 && gives Nearest 3_000 2_000 0 2)
    -- down, the same readings: 0, 0, 1 and 1
    ∷ (gives Down 999 2_000 0 0 && gives Down 1_000 2_000 0 0 && gives Down 2_999 2_000 0 1 && gives Down 3_000 2_000 0 1)
    -- half of an odd interval is 500 of 1,001: 500 µs gives 0, 501 gives 1
    ∷ (gives Nearest 500 1_001 0 0 && gives Nearest 501 1_001 0 1)
    -- the last stamp: half an interval below 1,000,000,001 is 15, one microsecond earlier is not
    ∷ (gives Nearest 1_000_000_000_499 1_000 0 1_000_000_000 && gives Nearest 1_000_000_000_500 1_000 15 0)
    ∷ (gives Nearest 10_000_000_004_999 10_000 0 1_000_000_000 && gives Nearest 10_000_000_005_000 10_000 15 0)
    -- the largest reading, with which half an interval does not fit 64 bits
    ∷ (gives Nearest 18_446_744_073_709_551_615 10_000 15 0 && gives Down 18_446_744_073_709_551_615 10_000 15 0)
    -- a bad interval is 1, before 15
    ∷ (gives Nearest 18_446_744_073_709_551_615 999 1 0 && gives Nearest 18_446_744_073_709_551_615 10_001 1 0 && gives Nearest 0 0 1 0)
    -- 7: of a compromised sender's pair at 100, 97 and 102 have one that is fresh, 96 and 103 have none
    ∷ (eqb (answer site 100 (DeliverPair 2 TRIP (at 96))) 7 && eqb (answer site 100 (DeliverPair 2 TRIP (at 97))) 0)
    ∷ (eqb (answer site 100 (DeliverPair 2 TRIP (at 102))) 0 && eqb (answer site 100 (DeliverPair 2 TRIP (at 103))) 7)
    -- and the fresh ones alone are held
    ∷ (not (holds (DeliverPair 2 TRIP (at 97)) 2 97) && holds (DeliverPair 2 TRIP (at 97)) 2 98)
    ∷ (holds (DeliverPair 2 TRIP (at 102)) 2 102 && not (holds (DeliverPair 2 TRIP (at 102)) 2 103))
    ∷ (holds (DeliverPair 2 TRIP (at 100)) 2 100 && holds (DeliverPair 2 TRIP (at 100)) 2 101 && not (holds (DeliverPair 2 TRIP (at 100)) 2 102))
    -- 8: node 0 has shared TRIP at 100 and 101, and neither at 99 nor at 102
    ∷ (eqb (answer site 100 (DeliverPair 0 TRIP (at 100))) 0 && eqb (answer site 100 (DeliverPair 0 TRIP (at 99))) 8 && eqb (answer site 100 (DeliverPair 0 TRIP (at 101))) 8)
    -- but one that is not fresh is not asked about
    ∷ (eqb (answer later 103 (DeliverPair 0 TRIP (at 100))) 0 && eqb (answer later 103 (DeliverPair 0 TRIP (at 101))) 8)
    -- 2: the last T that there is has none after it, and that is asked before 7
    ∷ (eqb (answer site 100 (DeliverPair 2 TRIP (at 4_294_967_295))) 2 && eqb (answer site 100 (DeliverPair 2 TRIP (at 4_294_967_294))) 7)
    ∷ (eqb (answer site 100 (Deliver 2 TRIP (at 4_294_967_295))) 7 && eqb (answer site 100 (DeliverPair 3 TRIP (at 100))) 2 && eqb (answer site 100 (DeliverPair 2 2 (at 100))) 2)
    -- a pair that completes two stamps at once sends the earlier, and one command; of two Delivers the first one sends, whichever it is
    ∷ (sends (DeliverPair 0 TRIP (at 100)) 100 && sends (Deliver 0 TRIP (at 101)) 101 && sends (Deliver 0 TRIP (at 100)) 100)
    ∷ []

abbrev pub all : List Bool → Bool
all [] = true
all (e ∷ es) = e && all es

pub every-edge : all edges ≡ true
unfolding edges discretised_by refusal next held size count_below is_in joined within together stepped tests_of effect_of act acted finished combined put_all changed_by stored earliest qualifies site_sound sets_sound actor_sound node_in_range node_sound store_within breaker_sound changes_sound started started_site senders_of has_place put moved_to turn left_at empty table
every-edge = refl
