use mathlib.Core.Path.{◌≡◌, ap, ◌∙◌}
use Rattle.combining.specs.Combining.{put_all}
use Rattle.effects.specs.laws.Parts.{noted_by}
use Rattle.effects.proofs.note.Goals as goal
use Rattle.effects.proofs.note.Goals.{in-Zero, in_default}

pub returns : goal.returns
unfolding put_all
returns c =
    let a = c.args in
    let made : c.match-acted.made ≡ put_all a.site.made a.i c.act-acted.result.shares = elim c.match-acted.branch [ in-Zero w ↦ w.made-is ∙ simp w.in-Zero.is | in_default w ↦ w.made-is ∙ w.put_all-made.ensures ] in
    rw made (ap (noted_by a.site a.i) c.act-acted.ensures)
