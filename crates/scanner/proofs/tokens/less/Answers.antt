use Rattle.std.proofs.Common.{Ok, subst, rules}
use Rattle.scanner.specs.declared.kinds.Kind.TheVariants.{HexString}
use Rattle.source.specs.Reads.{Reads}
use Rattle.scanner.specs.Takes.{take_if_of}
use Rattle.scanner.specs.HexStrings.{hex_of}
use Rattle.scanner.proofs.Mapped.{tokened_map, scans_token}
use Rattle.scanner.proofs.TokenUses.{less_hex}
use Rattle.scanner.proofs.tokens.less.Goals as goal

pub returns : goal.returns
returns g c =
    let e = tokened_map HexString c.hex_string.result c.map.result _ (λ n y p. search rules) c.map.ensures.cases in
    less_hex g.S.Source.model g.met.S.Source.lawful _ _ _ _ _ c.map.result
    (subst (λ b. Reads g.S.Source.model (take_if_of 60) (g.S.Source.held c.args.source.now) (Ok b) (g.S.Source.held c.take_if.new.source)) c.if-branch.false c.in_ok-take_if.ensures)
    (scans_token g.S.Source.model hex_of _ _ _ _ c.hex_string.result HexString c.map.result e c.hex_string.ensures)
