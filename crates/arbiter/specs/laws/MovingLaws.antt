-- Turn after turn.
use Rattle.std.specs.Prelude.{ℕ, ◌+◌, ◌-◌, ◌≤◌, ◌<◌, ◌≡◌, refl, Bool, true, false, List, length, take}
use Rattle.std.proofs.Common.{sym, ◌∙◌, inl, inr, arith, length-take}
use Rattle.std.proofs.Math.Path.{ap}
use Rattle.std.proofs.lemmas.Bool.{false≢true}
use Rattle.arbiter_calls.specs.declared.Ran.{Ran}
use Rattle.arbiter_calls.specs.Calls.{read_as}
use Rattle.arbiter_calls.specs.Runs.{after, ends, ran_of, Took}
use Rattle.arbiter.specs.declared.Progress.{Progress}
use Rattle.arbiter.specs.Moving.{Turned, nothing-came, one-call, most_turns, Came, none_yet, no_more, one_more, Gone}

-- ---- one turn

-- the front of a list is as long as it says
pub as_long : (k : ℕ) (l : List ℕ) → k ≤ length l → k ≡ length (take k l)
as_long k l h = omega (arith, length-take k l, h)

module _ (before : Progress) (call : List ℕ) (count : ℕ) (empty left : List ℕ) (ran : Ran) (took : Took before.run (take count call) empty left ran) where
  same-run : ran.run ≡ after (read_as (take count call)) before.run
  unfolding ran_of
  same-run = ap (λ (r : Ran). r.run) took.0

  same_end : ran.ended ≡ ends (read_as (take count call))
  unfolding ran_of
  same_end = ap (λ (r : Ran). r.ended) took.0

  -- a write that failed, a run that has ended, and one that goes on
  pub failed : Turned before call (record { run = ran.run; going = false; failed = true })
  failed = one-call count same-run (λ e. inl refl)

  pub over : (f : Bool) → ran.ended ≡ true → Turned before call (record { run = ran.run; going = false; failed = f })
  over f e = one-call count same-run (λ g. inr (sym same_end ∙ e))

  pub on : (f : Bool) → before.going ≡ true → Turned before call (record { run = ran.run; going = before.going; failed = f })
  on f e = one-call count same-run (λ g. absurd (false≢true (sym g ∙ e)))

-- ---- turn after turn, so many being left

pub record Went (first : Progress) (turns : ℕ) (next : Progress) : Type 0 where
  pub used : ℕ
  pub together : used + turns ≡ most_turns
  pub calls : List (List ℕ)
  pub came : Came first used calls next

pub not_yet : (first : Progress) → Went first most_turns first
not_yet first = record { used = 0; together = refl; calls = _; came = none_yet }

pub once_more : {first mid next : Progress} {turns : ℕ} {call : List ℕ} → Went first turns mid → 0 < turns → mid.going ≡ true → Turned mid call next → Went first (turns - 1) next
once_more went some going (nothing-came same stops) =
    let all = went.together in
    record { used = went.used + 1; together = omega (arith, all, some); calls = went.calls; came = no_more went.came same stops }
once_more {call = call} went some going (one-call count is why) =
    let all = went.together in
    record { used = went.used + 1; together = omega (arith, all, some); calls = _; came = one_more (take count call) went.came going is why }

pub gone-stopped : {first next : Progress} {turns : ℕ} → Went first turns next → next.going ≡ false → Gone first next
gone-stopped went stops = record { turns = went.used; calls = went.calls; came = went.came; stopped = inl stops }

pub gone-all : {first next : Progress} {turns : ℕ} → Went first turns next → turns ≡ 0 → Gone first next
gone-all went none =
    let all = went.together in
    record { turns = went.used; calls = went.calls; came = went.came; stopped = inr (omega (arith, all, none)) }
