use Prim.Native.Nat.{ℕ, ◌+◌, ◌<◌}
use mathlib.Core.Path.{◌≡◌, refl, sym, ap, ◌∙◌}
use native.Mathlib.Omega.{arith}
use lib.ListN.{drop}
use Rattle.std.proofs.Common.{◌∷◌, drop-cons, drop_of_length-le, add-one}
use Rattle.tables.specs.Tables.{table, length-table, get_d-table}
use Rattle.store.specs.Store.{stamps}
use Rattle.store.specs.Earliest.{fresh_stamp}
use Rattle.pooling.specs.Pooling.{added_all, pooled}
use Rattle.pooling.proofs.gather.Goals as goal

pub loop-i-init : goal.loop-i-init
unfolding pooled
loop-i-init c = refl

pub loop-i-preserved : goal.loop-i-preserved
loop-i-preserved c =
    let a = c.args in
    let i = c.loop-i.i in
    let rule = fresh_stamp a.store.clock in
    let l : i < stamps = omega arith in
    let here : drop i (table stamps rule) ≡ rule i ∷ drop (i + 1) (table stamps rule) =
    drop-cons (table stamps rule) i 0 (rw (length-table stamps rule) l)
    ∙ rw (sym (add-one i)) (ap (λ (T : ℕ). T ∷ drop (i + 1) (table stamps rule)) (get_d-table stamps rule i 0 l)) in
    rw c.add-pool.ensures (ap (added_all a.store a.action a.above c.loop-i.pool) (sym here) ∙ c.loop-i.invariant)

pub returns : goal.returns
returns c =
    let a = c.args in
    let rule = fresh_stamp a.store.clock in
    let e : c.loop-i.i ≡ 5 = omega arith in
    ap (added_all a.store a.action a.above c.loop-i.pool) (sym (drop_of_length-le (table stamps rule) {i = c.loop-i.i} (rw (length-table stamps rule) (omega arith))))
    ∙ c.loop-i.invariant
