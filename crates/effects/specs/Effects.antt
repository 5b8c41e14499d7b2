-- What each step does once its tests are passed: the site and the acting node's record afterwards, and what is sent.
use Rattle.std.specs.Prelude.{ℕ, true, false, cond, Some, None}
use Rattle.time.specs.declared.Dts.{Dts}
use Rattle.time.specs.Fresh.{next}
use Rattle.senders.specs.Masks.{is_in, joined, without}
use Rattle.store.specs.Store.{empty, moved_to}
use Rattle.pairs.specs.declared.Pair.{Pair}
use Rattle.pairs.specs.declared.Pairs.TheVariants.{Zero}
use Rattle.steps.specs.declared.Beginning.{Beginning}
use Rattle.steps.specs.declared.Event.{Event}
use Rattle.steps.specs.declared.Turn.{Turn}
use Rattle.steps.specs.declared.Turn.TheVariants.{Down, Up}
use Rattle.steps.specs.declared.Act.{Act}
use Rattle.steps.specs.declared.Step.{Step}
use Rattle.steps.specs.declared.Step.TheVariants.{Start, Tick, AtNode, Life, AtBreaker}
use Rattle.node.specs.declared.Node.{Node}
use Rattle.node.specs.declared.Acted.{Acted}
use Rattle.combining.specs.Combining.{put_all}
use Rattle.events.specs.Events.{went_down, went_up}
use Rattle.breaker.specs.declared.Breaker.{Breaker}
use Rattle.breaker.specs.Breaker.{started, after_command}
use Rattle.acting.specs.Acting.{acted}
use Rattle.store.specs.declared.Store.{Store}
use Rattle.site.specs.declared.Site.{Site}
use Rattle.site.specs.declared.Sent.{Sent}
use Rattle.site.specs.declared.Out.{Out}
use Rattle.site.specs.Answers.{silence, done}

-- ---- the site with one thing changed

abbrev pub with_made : Site → Store → Site
with_made site made =
    record {
      started = site.started;
      f = site.f;
      k = site.k;
      compromised = site.compromised;
      down = site.down;
      breaker = site.breaker;
      made = made;
    }

abbrev pub with_down : Site → ℕ → Site
with_down site down =
    record {
      started = site.started;
      f = site.f;
      k = site.k;
      compromised = site.compromised;
      down = down;
      breaker = site.breaker;
      made = site.made;
    }

abbrev pub with_breaker : Site → Breaker → Site
with_breaker site breaker =
    record {
      started = site.started;
      f = site.f;
      k = site.k;
      compromised = site.compromised;
      down = site.down;
      breaker = breaker;
      made = site.made;
    }

-- ---- the steps

-- a site that is not started
abbrev pub no_site : Site
no_site =
    record {
      started = false;
      f = 0;
      k = 0;
      compromised = 0;
      down = 0;
      breaker = started 0 (record { 0 = 0 });
      made = empty (record { 0 = 0 });
    }

-- "A later accepted Start replaces everything, as in a new process."
unfoldable pub started_site : Beginning → Site
started_site b =
    record {
      started = true;
      f = b.f;
      k = b.k;
      compromised = b.compromised;
      down = 0;
      breaker = started b.status b.g;
      made = empty b.g;
    }

-- "Correct nodes begin starting up; a compromised node's record is down and stays so."
unfoldable pub first_record : ℕ → ℕ → Node
first_record compromised i = cond (is_in compromised i) went_down went_up

-- "Tick adds 1 to g." The stamps that are no longer fresh are forgotten.
abbrev pub made_later : Store → Store
made_later made = moved_to made (next made.clock)

unfoldable pub ticked : Site → Site
ticked site = with_made site (made_later site.made)

-- the end of an event at node i: what it made of the node, what it sends, and the shares that the site now knows to be made
abbrev pub noted : Site → ℕ → Acted → Out
noted site i end =
    done (record { shares = end.shares; commands = end.commands; ack = None }) (with_made site (put_all site.made i end.shares)) end.node

unfoldable pub act : Site → Node → ℕ → Dts → Event → Out
act site node i t event = noted site i (acted site.breaker node i site.f t event)

-- an ack, and nothing else
abbrev pub only_ack : Pair → Sent
only_ack p = record { shares = Zero; commands = Zero; ack = Some p }

-- A change "sends the ack of that pair"; a repeated command "sends the ack of the breaker's present pair" (§4 of 02). Both are the pair that the
-- breaker then has.
unfoldable pub commanded : Site → Node → Dts → Act → Out
commanded site node t command =
    done (only_ack (after_command site.breaker t command.status command.stamp).pair)
    (with_breaker site (after_command site.breaker t command.status command.stamp)) node

-- the site's own count of correct nodes that are down, and the record, after "Down loses the record. Up makes a down node a starting one"
unfoldable pub turned : Site → ℕ → Turn → Out
turned site i Down = done silence (with_down site (joined site.down i)) went_down
turned site i Up = done silence (with_down site (without site.down i)) went_up

-- what each step does
unfoldable pub effect_of : Site → Node → Step → Out
effect_of site node (Start b) = done silence (started_site b) node
effect_of site node Tick = done silence (ticked site) node
effect_of site node (AtNode i t event) = act site node i t event
effect_of site node (Life i turn) = turned site i turn
effect_of site node (AtBreaker t command) = commanded site node t command
