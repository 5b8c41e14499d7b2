use mathlib.Core.Path.{◌∙◌}
use borrow.Author.Rules.{rules}
use Rattle.store.specs.laws.Places.{places-within}
use Rattle.store.proofs.Store.is_within.Goals as goal

pub returns : goal.returns
returns c =
    let a = c.args in
    c.is_within.ensures ∙ rw c.everybody.ensures (places-within a.self a.n (search rules))
