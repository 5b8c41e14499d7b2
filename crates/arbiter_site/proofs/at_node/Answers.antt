use Rattle.std.proofs.Common.{sym, ◌∙◌}
use Rattle.arbiter_site.specs.laws.StepLaws.{when-refused, when-done}
use Rattle.arbiter_site.specs.laws.Parts.{event-refused}
use Rattle.arbiter_site.specs.Effects.{effect_of}
use Rattle.arbiter_site.proofs.at_node.Goals as goal

pub returns-in-Ok : goal.returns-in-Ok
unfolding effect_of
returns-in-Ok c = when-done _ _ _ _ (sym c.in-Ok.is ∙ c.refuse_event.ensures ∙ event-refused _ _ _ _ _ c.in_peer_site-node.ensures _ _ _ c.in_peer.ensures _ c.is_sound_at-sound.ensures) _ (simp (c.done.ensures, c.put_all-made.ensures, c.shares_of-shares.ensures, c.vote-voted.ensures))

pub returns-in-Err : goal.returns-in-Err
returns-in-Err c = when-refused _ _ _ _ _ (sym c.in-Err.is ∙ c.refuse_event.ensures ∙ event-refused _ _ _ _ _ c.in_peer_site-node.ensures _ _ _ c.in_peer.ensures _ c.is_sound_at-sound.ensures) _ c.refused.ensures
