-- The step as the code goes, whatever a site, a record and a step are: the record is taken from its place and written back, and then records are made.
-- Laws over plain variables, which each kind of site cites.
use Rattle.std.specs.Prelude.{ℕ, ◌≤◌, ◌≡◌, refl, List, ◌++◌, length, get_or, set, Option, None, Some, Err}
use Rattle.std.proofs.Common.{sym, ap, ap₂, subst, ◌∙◌, arith, append-nil, drop_of_length-le, take_all}
use Rattle.std.proofs.Math.ListN.{get_or-eq_default}
use Rattle.std.proofs.Math.Seq.{set_out}
use Rattle.std.proofs.lemmas.List.{set-get_or}
use Rattle.refusals.specs.declared.Refusal.{Refusal}
use Rattle.steps.specs.declared.Beginning.{Beginning}
use Rattle.steps.specs.Named.{Named}
use Rattle.site.specs.Answers.{Answer}
use Rattle.loans.specs.laws.LoanLaws.{made-no-more}
use Rattle.lent.specs.declared.kinds.Turned.{Turned}
use Rattle.lent.specs.laws.InTurn.{index_of, begins_of, begun_in, out_at, out_in, left_in, Written, Goes, GoesFirst}

-- ---- the record of the node that is named, and where none is named that of a node that is down

module _ {R : Type 0} (down : R) (records : List R) (record_of : Option ℕ → R) (of_none : record_of None ≡ down) (of_some : (i : ℕ) → record_of (Some i) ≡ get_or records i down) where
  -- it is the one that is taken
  pub taken : (named : Option ℕ) → get_or records (index_of named (length records)) down ≡ record_of named
  taken None = get_or-eq_default records down (omega arith) ∙ sym of_none
  taken (Some i) = sym (of_some i)

  -- written back as it was, it changes nothing
  pub put_back : (named : Option ℕ) → set records (index_of named (length records)) (record_of named) ≡ records
  put_back None = set_out records (length records) (record_of None) (omega arith)
  put_back (Some i) = ap (set records i) (of_some i) ∙ set-get_or records i down

-- ---- the records that are made

-- a refused step makes none
pub refused-leaves : {R : Type 0} (rule : ℕ → ℕ → R) (refusal : Refusal) (beginning : Option Beginning) (records : List R) → begun_in rule (Err refusal) beginning records ≡ records
refused-leaves rule refusal None records = refl
refused-leaves rule refusal (Some b) records = sym (made-no-more rule b.compromised records 0 refl)

module _ {S R T : Type 0} (named : T → Named) (stepped : S → ℕ → R → T → Turned S R) (down : R) (rule : ℕ → ℕ → R) (site : S) (records : List R) (step : T) (answer : Answer) (next : S) (left : List R) where
  -- where a Start makes none, what is left is the table with the record of the acting node written back
  pub none-begun : (i : ℕ) → i ≡ index_of (named step).actor (length records) → Written (out_at stepped down site records i step) records i answer next left
      → (begins : Option Beginning) → begins ≡ (named step).beginning → (b : Beginning) → begins ≡ Some b → (n : ℕ) → n ≡ begins_of answer b → n ≡ 0
      → Goes named stepped down rule site records step answer next left
  none-begun i place acted begins same b is n count none = at_place (subst (λ (k : ℕ). Written (out_at stepped down site records k step) records k answer next left) place acted)
    where
      at_place : Written (out_in named stepped down rule site records step) records (index_of (named step).actor (length records)) answer next left
          → Goes named stepped down rule site records step answer next left
      at_place acted =
          let out = out_in named stepped down rule site records step in
          let written = set records (index_of (named step).actor (length records)) out.node in (
            acted.0,
            (
              acted.1.0,
              acted.1.1 ∙ made-no-more rule b.compromised written (begins_of out.answer b) (sym (ap (λ (x : Answer). begins_of x b) acted.0) ∙ sym count ∙ none)
                  ∙ ap (λ (beginning : Option Beginning). begun_in rule out.answer beginning written) (sym is ∙ same),
            ),
          )

-- ---- the first records of a table

module _ {S R T : Type 0} (named : T → Named) (stepped : S → ℕ → R → T → Turned S R) (down : R) (rule : ℕ → ℕ → R) (site : S) (records : List R) (step : T) (answer : Answer) (next : S) (left : List R) where
  -- as many as there are, or more, are all of them
  pub all-go : (count : ℕ) → length records ≤ count → GoesFirst named stepped down rule site records count step answer next left → Goes named stepped down rule site records step answer next left
  all-go count l went =
      let all = take_all count records l in (
        went.0 ∙ ap (λ (rs : List R). (out_in named stepped down rule site rs step).answer) all,
        (
          went.1.0 ∙ ap (λ (rs : List R). (out_in named stepped down rule site rs step).site) all,
          went.1.1 ∙ ap₂ (λ (rs rest : List R). left_in named stepped down rule site rs step ++ rest) all (drop_of_length-le records l) ∙ append-nil _,
        ),
      )
