-- A repeated command, one for the status that the breaker has: it "is now done at any T. It sends the ack of the breaker's present pair and changes
-- nothing but the breaker's clock" (§4 of 02).
use Rattle.std.specs.Prelude.{ℕ, ◌≡◌, refl, Bool, true, ◌∷◌, ◌++◌, eqb, length, Some, Ok}
use Rattle.std.proofs.Common.{sym, ap, subst, ◌∙◌, eq-eqb}
use Rattle.std.proofs.lemmas.Bool.{false≢true}
use Rattle.time.specs.declared.Dts.{Dts}
use Rattle.pairs.specs.declared.Pairs.TheVariants.{Zero}
use Rattle.site.specs.declared.Out.{Out}
use Rattle.site.specs.Answers.{is_done, Answer}
use Rattle.effects.specs.Effects.{only_ack, effect_of}
use Rattle.effects.specs.laws.CommandLaws.{repeat-done}
use Rattle.lent.specs.Lent.{record_of, out_of, table_after, table_after_answer}
use Rattle.steps.specs.Named.{named}
use Rattle.rows.specs.Rows.{commands}
use Rattle.stepping.specs.laws.StepLaws.{by_tests}
use Rattle.sequences.specs.History.{Change, next_number, accepted, unless_had, changes_in}
use Rattle.sequences.specs.Moments.{Moment, Accepts, answer_to, after_step, entry}
use Rattle.sequences.specs.Demand.{Always}
use Rattle.sequences.proofs.laws.Changing.{reached-changing}

-- the breaker's clock at t, and all else as it was: its pair and its changes, the shares made, every record
abbrev pub clock_moved : Moment → Dts → Moment
clock_moved m t =
    record {
      site =
          record {
            started = m.site.started;
            f = m.site.f;
            k = m.site.k;
            compromised = m.site.compromised;
            down = m.site.down;
            breaker = record { pair = m.site.breaker.pair; clock = t; changes = m.site.breaker.changes };
            made = m.site.made;
          };
      records = m.records;
    }

-- Of every accepted command for the status that the breaker has, at any moment: it is answered with the ack of the breaker's present pair, nothing else
-- is sent, and of the site and the table the breaker's clock alone moves.
abbrev pub RepeatAnswered : Type 0
RepeatAnswered =
    (m : Moment) (t : Dts) (A : ℕ) (T : Dts) → A ≡ m.site.breaker.pair.status → Accepts m (commands t A T)
    → (answer_to m (commands t A T) ≡ Ok (record { shares = Zero; commands = Zero; ack = Some m.site.breaker.pair }))
    × (after_step m (commands t A T) ≡ clock_moved m t)

-- "This is not an accepted change in demand 3": in every sequence the changes after it are those before it.
abbrev pub RepeatNoChange : Type 0
RepeatNoChange =
    Always λ h m b.
    (t : Dts) (A : ℕ) (T : Dts) → A ≡ m.site.breaker.pair.status → Accepts m (commands t A T)
    → changes_in b.status (accepted (entry m (commands t A T) ∷ h)) ≡ changes_in b.status (accepted h)

-- ---- proofs

abbrev AnsweredBy : Moment → Dts → ℕ → Dts → Out → Type 0
AnsweredBy m t A T out =
    is_done out.answer ≡ true
    → (out.answer ≡ Ok (only_ack m.site.breaker.pair))
    × (record { site = out.site; records = table_after_answer out.answer (commands t A T) m.records out.node } ≡ clock_moved m t)

pub repeat-answered : RepeatAnswered
unfolding out_of table_after effect_of
repeat-answered m t A T same =
    by_tests (AnsweredBy m t A T) m.site (length m.records) (record_of (named (commands t A T)).actor m.records) (commands t A T)
    (λ e. subst (AnsweredBy m t A T) (sym (repeat-done m.site (record_of (named (commands t A T)).actor m.records) t A T (eq-eqb _ _ same))) (λ done. (refl, refl)))
    (λ number done. absurd (false≢true done))

pub repeat-no-change : RepeatNoChange
repeat-no-change first h m r b q t A T same done =
    ap (λ (answer : Answer). changes_in b.status (accepted (record { step = commands t A T; answer = answer } ∷ h))) (repeat-answered m t A T same done).0
    ∙ ap (λ (had : Bool). unless_had had change ++ changes_in b.status (accepted h))
    (ap (λ (had : ℕ). eqb A had) (sym (reached-changing r b q).status) ∙ eq-eqb _ _ same)
  where
    change : Change
    change = record { number = next_number h; clock = t; action = A; stamp = T; acked = Some m.site.breaker.pair; before = accepted h }
