-- The breaker: "Start gives .. breaker status and g .. The breaker's stamp is g, with no change remembered."
use Rattle.std.specs.Prelude.{ℕ, ◌+◌, ◌-◌, Bool, true, ◌&&◌, cond, List, [], ◌∷◌, eqb, leb, ltb, get_or, Option, None, Some}
use Rattle.time.specs.declared.Dts.{Dts}
use Rattle.time.specs.Larger.{larger}
use Rattle.time.specs.Limits.{stamp_sound, clock_sound}
use Rattle.tables.specs.Tables.{table}
use Rattle.pairs.specs.declared.Pair.{Pair}
use Rattle.pairs.specs.Pair.{pair}
use Rattle.breaker.specs.declared.Changes.{Changes}
use Rattle.breaker.specs.declared.Breaker.{Breaker}

-- "of the last eight"
abbrev pub most_changes : ℕ
most_changes = 8

abbrev pub no_change : Pair
no_change = pair 0 (record { 0 = 0 })

-- the change at a place, the newest at 0
abbrev pub pair_at : Changes → ℕ → Pair
pair_at changes i = get_or changes.pairs i no_change

unfoldable pub started : ℕ → Dts → Breaker
started status g =
    record { pair = pair status g; clock = g; changes = record { pairs = table most_changes (λ i. no_change); count = 0 } }

-- the new change in front of the others
unfoldable pub remembered : Changes → Pair → Changes
remembered changes p =
    record {
      pairs = table most_changes (λ i. cond (eqb i 0) p (pair_at changes (i - 1)));
      count = cond (ltb changes.count most_changes) (changes.count + 1) most_changes;
    }

-- ---- an accepted command

-- "A command for the status the breaker has" (§4 of 02)
abbrev pub repeats : Breaker → ℕ → Bool
repeats breaker status = eqb status breaker.pair.status

-- such a command "changes nothing but the breaker's clock" (§4 of 02)
unfoldable pub answered : Breaker → Dts → Breaker
answered breaker t = record { pair = breaker.pair; clock = t; changes = breaker.changes }

-- Any other changes the status: "Accepted, the breaker becomes (A, larger of T and t), sends the ack of that pair and remembers it."
unfoldable pub changed : Breaker → Dts → ℕ → Dts → Breaker
changed breaker t status T =
    record { pair = pair status (larger T t); clock = t; changes = remembered breaker.changes (pair status (larger T t)) }

unfoldable pub after_command : Breaker → Dts → ℕ → Dts → Breaker
after_command breaker t status T = cond (repeats breaker status) (answered breaker t) (changed breaker t status T)

-- "Delivers the breaker's change number `back` from the newest (0), of the last eight."
unfoldable pub change_at : Breaker → ℕ → Option Pair
change_at breaker back =
    cond (ltb back breaker.changes.count && ltb back most_changes) (Some (pair_at breaker.changes back)) None

-- ---- 16: "status as above; .. at most eight changes; stamps and clock to 1,000,000,003"

abbrev pub pair_sound : Pair → Bool
pair_sound p = leb p.status 1 && stamp_sound p.stamp

abbrev pub all_sound : List Pair → Bool
all_sound [] = true
all_sound (p ∷ ps) = pair_sound p && all_sound ps

unfoldable pub changes_sound : Changes → Bool
changes_sound changes = leb changes.count most_changes && all_sound (table most_changes (pair_at changes))

unfoldable pub breaker_sound : Breaker → Bool
breaker_sound breaker = pair_sound breaker.pair && clock_sound breaker.clock && changes_sound breaker.changes
