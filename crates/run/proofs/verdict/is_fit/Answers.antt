use Rattle.std.proofs.Common.{leb, sym, ◌∙◌}
use Rattle.senders.specs.Masks.{is_in}
use Rattle.node.specs.Asked.{second_sound}
use Rattle.site.specs.Site.{nodes}
use Rattle.run.specs.laws.Arms.{fit-second, fit-past}
use Rattle.run.proofs.verdict.is_fit.Goals as goal

pub returns-then-is_second_sound : goal.returns-then-is_second_sound
returns-then-is_second_sound c =
    let a = c.args in
    fit-second a.whole _ (is_in a.fits a.i) c.is_in-fit.ensures (second_sound a.phase) (leb (nodes a.f a.k) a.i)
    (sym c.is_second_sound.ensures ∙ c.if-is_second_sound.true)

pub returns : goal.returns
returns c =
    let a = c.args in
    fit-past a.whole _ (is_in a.fits a.i) c.is_in-fit.ensures (second_sound a.phase) a.i _ (nodes a.f a.k) c.nodes-n.ensures
    (sym c.is_second_sound.ensures ∙ c.if-is_second_sound.false)
