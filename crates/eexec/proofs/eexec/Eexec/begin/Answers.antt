use Rattle.eexec.specs.Eexec.{eexec_state}
use Rattle.eexec.proofs.EexecUses.{begin_hex, begin_binary}
use Rattle.eexec.proofs.eexec.Eexec.begin.Goals as goal

pub returns-in-Some : goal.returns-in-Some
returns-in-Some g c =
    begin_hex g.met.S.Source.lawful (eexec_state c.args.self.now) _ c.map_err.ensures.cases c.map_err.ensures.variant c.in_ok-head.was c.take_head.ensures
    c.in-Some.ensures c.pass.ensures c.next_hex.ensures

pub returns-in-None : goal.returns-in-None
returns-in-None g c =
    begin_binary g.met.S.Source.lawful (eexec_state c.args.self.now) _ c.map_err.ensures.cases c.map_err.ensures.variant c.in_ok-head.was c.take_head.ensures
    c.in-None.ensures c.pass-in-None.ensures c.next_binary.ensures
