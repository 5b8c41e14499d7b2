-- "any two outcomes that satisfy it are shown equal", for the promises that speak of more than a result: what comes back together with everything that was lent, as
-- it is afterwards. (A promise `out ≡ definition ..` settles its result by `settled`, crates/refusals/specs/laws/Settled.antt.)
use Rattle.std.specs.Prelude.{ℕ, ◌≡◌, Bool, List, get_or, set, Result}
use Rattle.refusals.specs.declared.Refusal.{Refusal}
use Rattle.refusals.specs.laws.Settled.{settled, Settles}
use Rattle.node.specs.declared.Node.{Node}
use Rattle.events.specs.Events.{went_down}
use Rattle.steps.specs.Named.{Named}
use Rattle.steps.specs.declared.Step.{Step}
use Rattle.site.specs.declared.Site.{Site}
use Rattle.site.specs.Answers.{Answer}
use Rattle.loans.specs.Loans.{made_first}
use Rattle.lent.specs.declared.kinds.Turned.{Turned}
use Rattle.lent.specs.Lent.{Said, SaidWithin}
use Rattle.lent.specs.laws.InTurn.{Goes, GoesFirst}
use Rattle.writer.specs.Writing.{written, bytes_after}
use Rattle.text.specs.Lines.{line_bytes, line_next}
use Rattle.turns.specs.declared.Run.{Run}
use Rattle.turns.specs.declared.Ran.{Ran}
use Rattle.turns.specs.Blocks.{Block, block_settled}

-- ---- the lent table: `loans::record_at`, `write_at`, `fill`

pub record-settled : (records : List Node) (i : ℕ) → Settles λ (o : Node × List Node). (o.0 ≡ get_or records i went_down) × (o.1 ≡ records)
record-settled records i x y p q = λ k. (settled p.0 q.0 k, settled p.1 q.1 k)

pub write-settled : (records : List Node) (i : ℕ) (node : Node) → Settles λ (left : List Node). left ≡ set records i node
write-settled records i node x y p q = settled p q

pub fill-settled : (records : List Node) (n compromised : ℕ) → Settles λ (left : List Node). left ≡ made_first n compromised records
fill-settled records n compromised x y p q = settled p q

-- ---- a step with its table: `lent::step`, `step_in`, and with the first records alone `step_within`

pub step-settled : (site : Site) (records : List Node) (step : Step) → Settles λ (o : Answer × (Site × List Node)). Said site records step o.0 o.1.0 o.1.1
step-settled site records step x y p q = λ k. (settled p.0 q.0 k, (settled p.1.0 q.1.0 k, settled p.1.1 q.1.1 k))

pub within-settled : (site : Site) (records : List Node) (count : ℕ) (step : Step)
    → Settles λ (o : Answer × (Site × List Node)). SaidWithin site records count step o.0 o.1.0 o.1.1
within-settled site records count step x y p q = λ k. (settled p.0 q.0 k, (settled p.1.0 q.1.0 k, settled p.1.1 q.1.1 k))

-- ---- the same for any kind of site: `lent::kinds::step`, and with the first records alone `step_first`

module _ {S R T : Type 0} (named : T → Named) (stepped : S → ℕ → R → T → Turned S R) (down : R) (rule : ℕ → ℕ → R) where
  pub kind-settled : (site : S) (records : List R) (step : T) → Settles λ (o : Answer × (S × List R)). Goes named stepped down rule site records step o.0 o.1.0 o.1.1
  kind-settled site records step x y p q = λ k. (settled p.0 q.0 k, (settled p.1.0 q.1.0 k, settled p.1.1 q.1.1 k))

  pub first-settled : (site : S) (records : List R) (count : ℕ) (step : T)
      → Settles λ (o : Answer × (S × List R)). GoesFirst named stepped down rule site records count step o.0 o.1.0 o.1.1
  first-settled site records count step x y p q = λ k. (settled p.0 q.0 k, (settled p.1.0 q.1.0 k, settled p.1.1 q.1.1 k))

-- ---- bytes: `writer::write`, `text::line::put_quiet` and `put_loud`, each with its text, `run::run_block`

pub written-settled : (version : ℕ) (step : Step) (log : List ℕ) (at : ℕ) → Settles λ (o : Result ℕ Refusal × List ℕ). (o.0 ≡ written version step log at) × (o.1 ≡ bytes_after version step log at)
written-settled version step log at x y p q = λ k. (settled p.0 q.0 k, settled p.1 q.1 k)

pub line-settled : (out : List ℕ) (at : ℕ) (text : List ℕ) → Settles λ (o : List ℕ × ℕ). (o.0 ≡ line_bytes out at text) × (o.1 ≡ line_next out at text)
line-settled out at text x y p q = λ k. (settled p.0 q.0 k, settled p.1 q.1 k)

pub ran_settled : (run : Run) (log : List ℕ) (last : Bool) (before : List ℕ) → Settles λ (o : Ran × List ℕ). Block run log last before o.1 o.0
ran_settled run log last before x y p q = let same = block_settled run log last before x.1 y.1 x.0 y.0 p q in λ k. (same.0 k, same.1 k)
