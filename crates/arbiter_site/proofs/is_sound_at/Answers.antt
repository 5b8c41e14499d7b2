use Rattle.arbiter_site.proofs.is_sound_at.Goals as goal

pub returns : goal.returns
returns c = simp (c.is_actor_sound-actor.ensures, c.is_sound-whole.ensures)
