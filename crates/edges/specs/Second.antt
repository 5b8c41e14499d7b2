-- Both sides of each edge that §9 of 02 has: "16 also for a record whose second pair has a stamp above b's, and for a running record with no second pair", and
-- "On a resend timeout when the stamp is no longer fresh, b returns to that pair". One list, as that of the edges marked P, over the same site.
use Rattle.std.specs.Prelude.{ℕ, ◌≡◌, refl, Bool, true, false, not, ◌&&◌, List, [], ◌∷◌, eqb, Option, Some, None}
use Rattle.time.specs.declared.Dts.{Dts}
use Rattle.pairs.specs.declared.Pair.{Pair}
use Rattle.refusals.specs.Tests.{refusal}
use Rattle.senders.specs.Sets.{count_below}
use Rattle.senders.specs.Masks.{is_in, size, joined, within, together}
use Rattle.tables.specs.Tables.{table}
use Rattle.store.specs.Store.{empty, put, moved_to, turn, left_at, has_place, senders_of, store_within}
use Rattle.store.specs.Earliest.{earliest, qualifies}
use Rattle.pairs.specs.Pair.{pair}
use Rattle.node.specs.declared.Phase.{Phase}
use Rattle.node.specs.declared.Phase.TheVariants.{Starting, Running}
use Rattle.node.specs.declared.Node.{Node}
use Rattle.node.specs.Asked.{resending, known_b, node_in_range, node_sound}
use Rattle.combining.specs.Combining.{combined, put_all, finished}
use Rattle.events.specs.Events.{given_up, resend_timed_out}
use Rattle.acting.specs.Acting.{changed_by, stored, acted}
use Rattle.breaker.specs.Breaker.{started, changes_sound, breaker_sound}
use Rattle.steps.specs.declared.Event.TheVariants.{Report, ResendTimeout}
use Rattle.steps.specs.declared.Step.TheVariants.{AtNode}
use Rattle.site.specs.Site.{sets_sound, site_sound, actor_sound}
use Rattle.refusing.specs.Tests.{tests_of}
use Rattle.site.specs.Answers.{number_of}
use Rattle.effects.specs.Effects.{started_site, act, effect_of}
use Rattle.stepping.specs.Steps.{stepped}
use Rattle.edges.specs.Edges.{CLOSE, TRIP, at, site}

abbrev node : Phase → Node
node p = record { phase = p; store = empty (at 100) }

-- a pair that the breaker may have had
abbrev closed : ℕ → Option Pair
closed T = Some (pair CLOSE (at T))

-- a node whose b is (CLOSE, 100), running and starting, with this second pair
abbrev running : Option Pair → Node
running second = node (Running (record { r = pair CLOSE (at 100); b = pair CLOSE (at 100); second = second; number = None; resend = None }))

abbrev starting : Option Pair → Option Pair → Node
starting b second = node (Starting (record { r = None; b = b; second = second; number = None }))

-- the number that a report of it is answered with at clock 100, twelve records being lent
abbrev answer : Node → ℕ
answer n = number_of (stepped site 12 n (AtNode 0 (at 100) (Report TRIP 1))).answer

-- node 0 has sent (TRIP, T), and what it heard of the breaker last is (CLOSE, 96): its phase after a resend timeout at clock 100
abbrev after : ℕ → Phase
after T =
    (stepped site 12 (node (Running (record { r = pair TRIP (at 96); b = pair TRIP (at T); second = closed 96; number = None; resend = Some (at T) })))
    (AtNode 0 (at 100) ResendTimeout)).node.phase

abbrev resends : ℕ → Option Dts → Bool
resends T (Some U) = eqb U.0 T
resends T None = false

abbrev is_pair : ℕ → ℕ → Option Pair → Bool
is_pair A T (Some p) = eqb p.status A && eqb p.stamp.0 T
is_pair A T None = false

unfoldable pub edges : List Bool
edges =
    -- running: at b's stamp, above it, and none
    eqb (answer (running (closed 100))) 0
    ∷ eqb (answer (running (closed 101))) 16
    ∷ eqb (answer (running None)) 16
    -- starting: at b's stamp, above it, and none
    ∷ eqb (answer (starting (closed 100) (closed 100))) 0
    ∷ eqb (answer (starting (closed 100) (closed 101))) 16
    ∷ eqb (answer (starting (closed 100) None)) 0
    -- starting with no b: none, one, and one above 1,000,000,003
    ∷ eqb (answer (starting None None)) 0
    ∷ eqb (answer (starting None (closed 1_000_000_003))) 0
    ∷ eqb (answer (starting None (closed 1_000_000_004))) 16
    -- 98 is fresh at 100: it stays armed, and b stays
    ∷ (resends 98 (resending (after 98)) && is_pair TRIP 98 (known_b (after 98)))
    -- 97 is not: nothing is armed, and b is what was heard
    ∷ (not (resends 97 (resending (after 97))) && is_pair CLOSE 96 (known_b (after 97)))
    ∷ []

abbrev pub all : List Bool → Bool
all [] = true
all (e ∷ es) = e && all es

pub every-edge : all edges ≡ true
unfolding edges refusal size count_below is_in joined within together stepped tests_of effect_of act acted finished combined put_all changed_by stored resend_timed_out given_up earliest qualifies site_sound sets_sound actor_sound node_in_range node_sound store_within breaker_sound changes_sound started started_site senders_of has_place put moved_to turn left_at empty table
every-edge = refl
