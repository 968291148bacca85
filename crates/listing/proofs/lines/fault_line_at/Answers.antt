use Rattle.std.proofs.Common.{arith}
use Rattle.listing.proofs.Lawful.{decimals}
use Rattle.listing.proofs.ShortLines.{prints_ok, fault_short}
use Rattle.listing.proofs.lines.fault_line_at.Goals as goal

pub returns-clause-enough : goal.returns-clause-enough
returns-clause-enough c = λ room.
    prints_ok _ _ _ _ c.print.ensures (omega (arith, fault_short c.number.result c.args.depth (omega arith) (omega arith)))

pub returns-clause-decimals : goal.returns-clause-decimals
returns-clause-decimals c = decimals
