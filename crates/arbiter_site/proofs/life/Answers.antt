use Rattle.std.proofs.Common.{sym, ◌∙◌}
use Rattle.arbiter_site.specs.laws.StepLaws.{when-refused, when-done}
use Rattle.arbiter_site.specs.laws.Parts.{turn-refused}
use Rattle.arbiter_site.specs.laws.StepLaws.{turned_as}
use Rattle.arbiter_site.specs.Effects.{effect_of}
use Rattle.arbiter_site.proofs.life.Goals as goal

pub returns-in-Ok : goal.returns-in-Ok
unfolding effect_of
returns-in-Ok c = when-done _ _ _ _ (sym c.in-Ok.is ∙ c.refuse_turn.ensures ∙ turn-refused _ _ _ _ _ c.in_peer_site-node.ensures _ _ c.is_sound_at-sound.ensures) _ (simp (c.done.ensures, c.silence.ensures, c.of_peer-after.ensures, c.turn-turned.ensures) (turned_as _ c.args.voter _ _))

pub returns-in-Err : goal.returns-in-Err
returns-in-Err c = when-refused _ _ _ _ _ (sym c.in-Err.is ∙ c.refuse_turn.ensures ∙ turn-refused _ _ _ _ _ c.in_peer_site-node.ensures _ _ c.is_sound_at-sound.ensures) _ c.refused.ensures
