use Rattle.arbiter_site.specs.Site.{arbiter_sound}
use Rattle.arbiter_site.proofs.is_sound.Goals as goal

pub returns : goal.returns
unfolding arbiter_sound
returns c = simp (c.is_within-places.ensures, c.nodes-n.ensures, c.is_site_sound-whole.ensures)
