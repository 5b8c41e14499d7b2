-- "Refusals: those of 01, in its order; 10 and 11 are not given." (§3 of 02.) The rows after 16 are 01's own, for what a step names: a message is tested as a
-- Deliver, with the breaker as receiver, so that 3 and 4, which speak of an acting node, pass it, and 6 goes by the breaker's last clock.
use Rattle.std.specs.Prelude.{ℕ, Bool, ◌&&◌, List, ◌∷◌}
use Rattle.refusals.specs.declared.Refusal.TheVariants.{Unsound}
use Rattle.refusals.specs.Tests.{Test}
use Rattle.steps.specs.Named.{Named, of_named}
use Rattle.site.specs.Site.{actor_sound}
use Rattle.refusing.specs.Tests.{unless_start, rows_for}
use Rattle.arbiter_steps.specs.declared.Step.{Step}
use Rattle.arbiter_steps.specs.Steps.{named}
use Rattle.arbiter_node.specs.declared.Voter.{Voter}
use Rattle.arbiter_node.specs.Voter.{in_peer}
use Rattle.arbiter_site.specs.declared.Arbiter.{Arbiter}
use Rattle.arbiter_site.specs.Site.{arbiter_sound}

-- 16: "any step but Start: no site started yet; a table shorter than n; a site number outside its range [..]; or the record of the acting node, if that node is
-- below n"
abbrev pub are_sound : Arbiter → ℕ → Voter → Named → Bool
are_sound a lent voter the = unless_start the.beginning (arbiter_sound a lent && of_named the.actor (actor_sound a.site (in_peer voter)))

abbrev pub table_for : Arbiter → ℕ → Voter → Named → List Test
table_for a lent voter the = (Unsound, are_sound a lent voter the) ∷ rows_for a.site lent (in_peer voter) the

-- the tests of a step, for a site, a number of lent records and the record of the acting node
unfoldable pub tests_of : Arbiter → ℕ → Voter → Step → List Test
tests_of a lent voter step = table_for a lent voter (named step)
