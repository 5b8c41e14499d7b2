use Rattle.tables.specs.Tables.{table}
use Rattle.arbiter_calls.specs.Runs.{first_run}
use Rattle.arbiter_calls.proofs.begin.Goals as goal

pub returns : goal.returns
unfolding first_run table
returns c = simp (c.of_peer-none.ensures, c.down.ensures, c.no_site.ensures)
