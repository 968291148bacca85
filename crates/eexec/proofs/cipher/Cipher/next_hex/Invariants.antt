use Rattle.std.proofs.Common.{length}
use Rattle.source.proofs.Walk.{Walk}
use Rattle.eexec.specs.declared.cipherbytes.Form.TheVariants.{Hex}
use Rattle.eexec.specs.Eexec.{behind_of}
use Rattle.eexec.proofs.HexUses.{hex_on}
use Rattle.eexec.proofs.cipher.Cipher.next_hex.Given as goal

abbrev pub invariant-loop-b : goal.invariant-loop-b
invariant-loop-b g l =
    Walk g.S.Source.model (g.S.Source.held l.initial.below) (g.S.Source.held l.below)
    (λ r. hex_on l.left l.pending l.self.key r (g.S.Source.model.ending (g.S.Source.held l.initial.below)))
    (behind_of l.initial.left Hex l.initial.self.key (g.S.Source.model.rest (g.S.Source.held l.initial.below)) (g.S.Source.model.ending (g.S.Source.held l.initial.below)))

abbrev pub decreases-loop-b : goal.decreases-loop-b
decreases-loop-b g l = length (g.S.Source.model.rest (g.S.Source.held l.below))
