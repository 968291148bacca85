use Rattle.ascii.proofs.Ready4Uses.{others_ready}
use Rattle.ascii.proofs.ready4.Ready4.pop.Goals as goal

pub returns : goal.returns
returns c = others_ready c.args.self.now.place c.saturating_add-self.result c.args.self.now.bytes c.saturating_add-self.ensures
