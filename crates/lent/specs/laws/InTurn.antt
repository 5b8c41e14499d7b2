-- The step as the code goes, whatever a site, a record and a step are: the record is taken from its place and written back, and then a Start's records are made.
use Rattle.std.specs.Prelude.{ℕ, ◌≡◌, List, ◌++◌, length, get_or, set, take, drop, Option, None, Some, Ok, Err}
use Rattle.steps.specs.declared.Beginning.{Beginning}
use Rattle.steps.specs.Named.{Named}
use Rattle.site.specs.Answers.{Answer}
use Rattle.site.specs.Site.{nodes}
use Rattle.loans.specs.Loans.{made_by}
use Rattle.lent.specs.declared.kinds.Turned.{Turned}

-- where the record stands, past the end where the step names no node
abbrev pub index_of : Option ℕ → ℕ → ℕ
index_of None len = len
index_of (Some i) len = i

-- how many records a Start makes, as it is answered
abbrev pub begins_of : Answer → Beginning → ℕ
begins_of (Ok sent) b = nodes b.f b.k
begins_of (Err refusal) b = 0

-- and how many a step makes, by what it gives if it is a Start
abbrev pub begins_by : Answer → Option Beginning → ℕ
begins_by answer None = 0
begins_by answer (Some b) = begins_of answer b

-- the records once those of a Start are made
abbrev pub begun_in : {R : Type 0} → (ℕ → ℕ → R) → Answer → Option Beginning → List R → List R
begun_in rule answer None records = records
begun_in rule answer (Some b) records = made_by rule (begins_of answer b) b.compromised records

-- what is said of an answer, a site and a list, where the record of an outcome is written to place i
abbrev pub Written : {S R : Type 0} → Turned S R → List R → ℕ → Answer → S → List R → Type 0
Written out records i answer next written = (answer ≡ out.answer) × ((next ≡ out.site) × (written ≡ set records i out.node))

module _ {S R T : Type 0} where
  -- the step with the record at i
  abbrev pub out_at : (S → ℕ → R → T → Turned S R) → R → S → List R → ℕ → T → Turned S R
  out_at stepped down site records i step = stepped site (length records) (get_or records i down) step

  module _ (named : T → Named) (stepped : S → ℕ → R → T → Turned S R) (down : R) (rule : ℕ → ℕ → R) where
    -- the step with the record at its place
    abbrev pub out_in : S → List R → T → Turned S R
    out_in site records step = out_at stepped down site records (index_of (named step).actor (length records)) step

    -- the records after it
    abbrev pub left_in : S → List R → T → List R
    left_in site records step =
        begun_in rule (out_in site records step).answer (named step).beginning (set records (index_of (named step).actor (length records)) (out_in site records step).node)

    -- what is answered, and the site and the records afterwards
    abbrev pub Goes : S → List R → T → Answer → S → List R → Type 0
    Goes site records step answer next left = (answer ≡ (out_in site records step).answer) × ((next ≡ (out_in site records step).site) × (left ≡ left_in site records step))

    -- the same where the first records alone are lent: the others stay
    abbrev pub GoesFirst : S → List R → ℕ → T → Answer → S → List R → Type 0
    GoesFirst site records count step answer next left =
        (answer ≡ (out_in site (take count records) step).answer)
        × ((next ≡ (out_in site (take count records) step).site) × (left ≡ left_in site (take count records) step ++ drop count records))
