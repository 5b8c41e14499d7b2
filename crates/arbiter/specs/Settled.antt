-- "any two outcomes that satisfy it are shown equal", for the promises of an Arbiter site's functions that speak of more than a result: what comes back together
-- with everything that was lent, as it is afterwards. (A promise `out ≡ definition ..` settles its result by `settled`, crates/refusals/specs/laws/Settled.antt.)
use Rattle.std.specs.Prelude.{ℕ, ◌≡◌, List, get_or, set}
use Rattle.refusals.specs.laws.Settled.{settled, Settles}
use Rattle.site.specs.Answers.{Answer}
use Rattle.arbiter_steps.specs.declared.Step.{Step}
use Rattle.arbiter_node.specs.declared.Voter.{Voter}
use Rattle.arbiter_site.specs.declared.Arbiter.{Arbiter}
use Rattle.arbiter_lent.specs.Lent.{down_voter, made_first, Said}
use Rattle.arbiter_calls.specs.declared.Run.{Run}
use Rattle.arbiter_calls.specs.declared.Ran.{Ran}
use Rattle.arbiter_calls.specs.Runs.{Took}

-- ---- the lent table: `loans::record_at`, `write_at`, `fill`, of the records of an Arbiter site

pub record-settled : (records : List Voter) (i : ℕ) → Settles λ (o : Voter × List Voter). (o.0 ≡ get_or records i down_voter) × (o.1 ≡ records)
record-settled records i x y p q = λ k. (settled p.0 q.0 k, settled p.1 q.1 k)

pub write-settled : (records : List Voter) (i : ℕ) (voter : Voter) → Settles λ (left : List Voter). left ≡ set records i voter
write-settled records i voter x y p q = settled p q

pub fill-settled : (records : List Voter) (n compromised : ℕ) → Settles λ (left : List Voter). left ≡ made_first n compromised records
fill-settled records n compromised x y p q = settled p q

-- ---- a step with its table: `arbiter_lent::step`, and by value `whole::step_in`

pub step-settled : (site : Arbiter) (records : List Voter) (step : Step)
    → Settles λ (o : Answer × (Arbiter × List Voter)). Said site records step o.0 o.1.0 o.1.1
step-settled site records step x y p q = λ k. (settled p.0 q.0 k, (settled p.1.0 q.1.0 k, settled p.1.1 q.1.1 k))

-- ---- bytes: `arbiter_calls::take`

pub take-settled : (run : Run) (call before : List ℕ) → Settles λ (o : Ran × List ℕ). Took run call before o.1 o.0
take-settled run call before x y p q = λ k. (settled p.0 q.0 k, settled p.1 q.1 k)
