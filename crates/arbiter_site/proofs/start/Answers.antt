use Rattle.std.proofs.Common.{sym, ◌∙◌}
use Rattle.arbiter_site.specs.laws.StepLaws.{when-refused, when-done}
use Rattle.arbiter_site.specs.laws.Parts.{start-alone}
use Rattle.arbiter_site.specs.Effects.{effect_of}
use Rattle.arbiter_site.proofs.start.Goals as goal

pub returns-in-Ok : goal.returns-in-Ok
unfolding effect_of
returns-in-Ok c = when-done _ _ _ _ (sym c.in-Ok.is ∙ c.refuse_start.ensures ∙ start-alone _ _ _ _) _ (simp (c.done.ensures, c.silence.ensures, c.fresh_site-site.ensures, c.empty-held.ensures))

pub returns-in-Err : goal.returns-in-Err
returns-in-Err c = when-refused _ _ _ _ _ (sym c.in-Err.is ∙ c.refuse_start.ensures ∙ start-alone _ _ _ _) _ c.refused.ensures
