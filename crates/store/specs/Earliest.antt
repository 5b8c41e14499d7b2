-- "if some fresh stamp above b's stamp is held from at least f+1 senders for A, it takes the earliest such T"
use Rattle.std.specs.Prelude.{ℕ, ◌+◌, ◌-◌, ◌^◌, Bool, ◌&&◌, cond, List, [], ◌∷◌, ltb, Option, None, Some}
use Rattle.time.specs.declared.Dts.{Dts}
use Rattle.time.specs.Fresh.{window}
use Rattle.senders.specs.Masks.{enough}
use Rattle.tables.specs.Tables.{table}
use Rattle.store.specs.declared.Store.{Store}
use Rattle.store.specs.Store.{stamps, senders_of}

abbrev pub dts : ℕ → Dts
dts n = record { 0 = n }

-- the stamps from clock − 2 to clock + 2
abbrev pub fresh_stamp : Dts → ℕ → ℕ
fresh_stamp clock i = clock.0 + i - window

abbrev pub fresh_stamps : Dts → List ℕ
fresh_stamps clock = table stamps (fresh_stamp clock)

-- the stamp is above the bound, is one that 32 bits hold, and is held from at least f + 1 senders
unfoldable pub qualifies : Store → ℕ → Dts → ℕ → ℕ → Bool
qualifies s action above f T = ltb above.0 T && ltb T (2 ^ 32) && enough (senders_of s action (dts T)) f

-- the first of a list that passes a test
abbrev pub first_of : (ℕ → Bool) → List ℕ → Option Dts
first_of test [] = None
first_of test (T ∷ Ts) = cond (test T) (Some (dts T)) (first_of test Ts)

unfoldable pub earliest : Store → ℕ → Dts → ℕ → Option Dts
earliest s action above f = first_of (qualifies s action above f) (fresh_stamps s.clock)
