use Rattle.filter.proofs.LayerLawful.{layer_law}
use Rattle.filter.proofs.layer.Layer.new.Goals as goal

pub returns-clause-law : goal.returns-clause-law
returns-clause-law g c = layer_law g.K.Kind.step_of g.met.K.Kind.lawful_step g.S.Source.model g.met.S.Source.lawful
