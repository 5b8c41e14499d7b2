use Rattle.std.proofs.lemmas.Result.{err_from_is_err_and}
use Rattle.refusing.specs.laws.Parts.{stops-at-who, stops-at-when, its-own}
use Rattle.refusing.proofs.refuse_event.Goals as goal

pub returns-in_err-who : goal.returns-in_err-who
returns-in_err-who c =
    let p = err_from_is_err_and c.from_residual-in_err-who.result c.from_residual-in_err-who.ensures.1 in
    rw (p.1, p.2) (stops-at-who _ c.args.site c.args.node _ _ _ _ c.ask-asked.ensures c.in_ok-test.ensures c.in_err-who.ensures)

pub returns-in_err-when : goal.returns-in_err-when
returns-in_err-when c =
    let p = err_from_is_err_and c.from_residual-in_err-when.result c.from_residual-in_err-when.ensures.1 in
    rw (p.1, p.2) (stops-at-when _ c.args.site c.args.node _ _ _ _ c.ask-asked.ensures c.in_ok-test.ensures c.in_ok-who.ensures c.in_err-when.ensures)

pub returns : goal.returns
returns c = its-own _ c.args.site c.args.node _ _ _ _ c.ask-asked.ensures c.in_ok-test.ensures c.in_ok-who.ensures c.in_ok-when.ensures
