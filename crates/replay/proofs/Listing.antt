-- The logs of Listing.antt in specs/ print what stands there.
use Rattle.std.specs.Prelude.{ℕ, ◌≡◌, refl, true, List, ◌++◌}
use Rattle.refusals.specs.Tests.{refusal, passed}
use Rattle.tables.specs.Tables.{table}
use Rattle.time.specs.Fresh.{next}
use Rattle.time.specs.Newer.{newer, ahead}
use Rattle.senders.specs.Sets.{count_below}
use Rattle.senders.specs.Masks.{is_in, size, joined, together, within}
use Rattle.store.specs.Store.{empty, put, place_of, moved_to, turn, left_at, has_place, senders_of, store_within}
use Rattle.store.specs.Held.{held}
use Rattle.store.specs.Earliest.{earliest, qualifies}
use Rattle.node.specs.Asked.{node_in_range, node_sound}
use Rattle.node.specs.State.{state}
use Rattle.combining.specs.Combining.{combined, put_all, finished}
use Rattle.events.specs.Events.{begun, reported, report_running, report_starting, report_shares, kept, share_timed_out, resend_timed_out, ack_resend, ack_running, ack_starting, acked, queried, went_down, went_up}
use Rattle.acting.specs.Acting.{changed_by, stored, acted}
use Rattle.breaker.specs.Breaker.{started, answered, changed, after_command, change_at, remembered, changes_sound, breaker_sound}
use Rattle.site.specs.Site.{site_sound, sets_sound, actor_sound}
use Rattle.effects.specs.Effects.{started_site, first_record, ticked, act, commanded, turned, effect_of}
use Rattle.refusing.specs.Tests.{tests_of}
use Rattle.stepping.specs.Steps.{stepped}
use Rattle.loans.specs.Loans.{made_by}
use Rattle.lent.specs.Lent.{out_of, table_after}
use Rattle.steps.specs.declared.Step.{Step}
use Rattle.records.specs.Numbers.{number_at}
use Rattle.records.specs.Kinds.{is_version, kind_in}
use Rattle.records.specs.Records.{field_values}
use Rattle.reader.specs.Reading.{opened_as, read_at}
use Rattle.text.specs.Decimal.{spelled, places_in, decimal}
use Rattle.text.specs.Line.{after_commas, tail_text, line_of}
use Rattle.turns.specs.declared.Next.TheVariants.{Halt}
use Rattle.turns.specs.Turns.{first_run, applied, step_line, over_after, malformed_line, next_turn}
use Rattle.turns.specs.Blocks.{next_in, advanced, ran_of}
use Rattle.replay.specs.Replay.{due_at, Whole}
use Rattle.replay.proofs.laws.Taken.{taken, taken_in, ran-prints}
use Rattle.replay.specs.Listing.{listed, listing, output, of_every_kind, every_kind, every_output, cut_steps, cut, cut_output, before_pair, from_pair, paired, paired_output, unpaired_output}

-- computed in one block, whose buffer has room for every line
abbrev Computes : List ℕ → List Step → List ℕ → Type 0
Computes log steps text =
    (taken_in first_run log true 4096 ≡ steps)
    × ((ran_of first_run log true 4096).text ≡ text)
    × (due_at log true (ran_of first_run log true 4096).run (ran_of first_run log true 4096).read ≡ Halt)

whole : {log : List ℕ} {steps : List Step} {text : List ℕ} → Computes log steps text → Whole log steps text
whole {log} c =
    record {
      end = (ran_of first_run log true 4096).run;
      to = (ran_of first_run log true 4096).read;
      prints = rw (← c.0, ← c.1) (ran-prints first_run log true 4096);
      over = c.2;
    }

-- ---- what they print

computed : Computes listing listed output
    × Computes every_kind of_every_kind every_output
    × Computes cut cut_steps cut_output
    × Computes (paired 2) (before_pair ++ from_pair) paired_output
    × Computes (paired 1) before_pair unpaired_output
unfolding first_run applied step_line over_after malformed_line next_turn next_in advanced ran_of taken taken_in opened_as read_at number_at is_version kind_in field_values out_of table_after stepped tests_of effect_of refusal passed started_site first_record made_by table empty started act finished combined put_all acted changed_by stored reported report_running report_starting report_shares kept queried share_timed_out resend_timed_out acked ack_starting ack_running ack_resend went_down went_up begun ticked turned moved_to turn left_at put place_of held senders_of has_place store_within earliest qualifies next site_sound sets_sound actor_sound node_in_range node_sound breaker_sound changes_sound after_command answered changed change_at remembered commanded newer ahead size count_below is_in joined within together state line_of tail_text after_commas decimal spelled places_in
computed = ((refl, refl, refl), (refl, refl, refl), (refl, refl, refl), (refl, refl, refl), (refl, refl, refl))

pub listing-prints : Whole listing listed output
listing-prints = whole computed.0

pub every-kind-prints : Whole every_kind of_every_kind every_output
every-kind-prints = whole computed.1

pub cut-prints : Whole cut cut_steps cut_output
cut-prints = whole computed.2

pub paired-prints : Whole (paired 2) (before_pair ++ from_pair) paired_output
paired-prints = whole computed.3

pub unpaired-prints : Whole (paired 1) before_pair unpaired_output
unpaired-prints = whole computed.4
