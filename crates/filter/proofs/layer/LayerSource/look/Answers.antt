use Rattle.std.proofs.Common.{◌∙◌}
use Rattle.filter.proofs.LayerUses.{answered}
use Rattle.filter.proofs.layer.LayerSource.look.Goals as goal

pub returns-clause-answer : goal.returns-clause-answer
returns-clause-answer g c = c.front.ensures ∙ answered g.K.Kind.step_of g.met.K.Kind.lawful_step g.S.Source.model g.met.S.Source.lawful _ _ c.fill.ensures
