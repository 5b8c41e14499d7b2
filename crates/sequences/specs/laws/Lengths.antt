-- A step leaves a table as long as it was.
use Rattle.std.specs.Prelude.{ℕ, min, ◌≤◌, ◌<◌, ◌≡◌, refl, Bool, true, false, List, ◌++◌, leb, length, take, drop}
use Rattle.std.proofs.Common.{ap, ◌∙◌, append-nil, arith, length-set, length-take, drop_of_length-le, take_at, take_all, leb-true, leb-false}
use Rattle.node.specs.declared.Node.{Node}
use Rattle.steps.specs.declared.Turn.TheVariants.{Down, Up}
use Rattle.steps.specs.declared.Step.{Step}
use Rattle.steps.specs.declared.Step.TheVariants.{Start, Tick, AtNode, Life, AtBreaker}
use Rattle.steps.specs.Named.{named}
use Rattle.site.specs.declared.Site.{Site}
use Rattle.site.specs.declared.Out.{Out}
use Rattle.site.specs.Site.{nodes}
use Rattle.effects.specs.Effects.{act, turned, commanded, effect_of}
use Rattle.refusing.specs.laws.Accepted.{Passes, begins}
use Rattle.stepping.specs.laws.StepLaws.{by_tests}
use Rattle.loans.specs.laws.LoanLaws.{begun-length}
use Rattle.lent.specs.Lent.{record_of, out_of, table_after, table_after_answer}

abbrev SameLength : List Node → Step → Out → Type 0
SameLength records step out = length (table_after_answer out.answer step records out.node) ≡ length records

done : (site : Site) (records : List Node) (step : Step) → Passes site (length records) (record_of (named step).actor records) step
    → SameLength records step (effect_of site (record_of (named step).actor records) step)
unfolding effect_of act turned commanded
done site records (Start b) e = begun-length b.compromised records (nodes b.f b.k) (begins site (length records) _ b e).lends
done site records Tick e = refl
done site records (AtNode i t event) e = length-set records i _
done site records (Life i Down) e = length-set records i _
done site records (Life i Up) e = length-set records i _
done site records (AtBreaker t command) e = refl

pub same_length : (site : Site) (records : List Node) (step : Step) → length (table_after site records step) ≡ length records
unfolding out_of table_after
same_length site records step = by_tests (SameLength records step) site (length records) (record_of (named step).actor records) step (done site records step) (λ number. refl)

-- the first records, after a step with them alone
pub take_same : (site : Site) (records : List Node) (count : ℕ) (step : Step)
    → take count (table_after site (take count records) step ++ drop count records) ≡ table_after site (take count records) step
take_same site records count step = go (leb count (length records)) refl
  where
    after : List Node
    after = table_after site (take count records) step

    long : length after ≡ min count (length records)
    long = same_length site (take count records) step ∙ length-take count records

    go : (x : Bool) → leb count (length records) ≡ x → take count (after ++ drop count records) ≡ after
    go true e = let few : count ≤ length records = leb-true _ _ e in take_at after (drop count records) count (let is = long in omega (arith, is, few))
    go false e =
        let many : length records < count = leb-false _ _ e in
        ap (λ (l : List Node). take count (after ++ l)) (drop_of_length-le records {i = count} (omega (arith, many)))
        ∙ ap (take count) (append-nil after)
        ∙ take_all count after (let is = long in omega (arith, is, many))
