-- "larger of T and t"
use Rattle.std.specs.Prelude.{cond, nat_le}
use Rattle.time.specs.declared.Dts.{Dts}

abbrev pub larger : Dts → Dts → Dts
larger T t = cond (nat_le T.0 t.0) t T
