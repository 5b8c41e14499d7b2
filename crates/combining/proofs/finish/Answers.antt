use mathlib.Core.Path.{◌≡◌, ◌∙◌}
use Rattle.combining.specs.Combining.{put_all, finished}
use Rattle.combining.proofs.finish.Goals as goal
use Rattle.combining.proofs.finish.Goals.{in-Zero, in_default}

pub returns : goal.returns
unfolding finished put_all
returns c =
    let a = c.args in
    let own : c.match-change.own ≡ put_all a.store a.i a.change.shares = elim c.match-change.branch [ in-Zero w ↦ w.own-is ∙ simp w.in-Zero.is | in_default w ↦ w.own-is ∙ w.put_all-own.ensures ] in
    simp (c.follow.ensures, c.end-at_end.ensures, own)
