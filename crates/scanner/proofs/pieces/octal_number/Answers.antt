use Rattle.std.proofs.Common.{Some, None}
use Rattle.scanner.proofs.PieceUses.{number_read}
use Rattle.scanner.proofs.pieces.octal_number.Goals as goal

pub returns-in_default-octal : goal.returns-in_default-octal
returns-in_default-octal g c =
    number_read g.S.Source.model g.met.S.Source.lawful _ _ _ c.args.d c.in-Some.second None c.in-Some.ensures.reads c.in_default-octal.ensures.reads

pub returns : goal.returns
returns g c =
    rw (c.from.ensures, c.from-2.ensures, c.from-3.ensures)
    (number_read g.S.Source.model g.met.S.Source.lawful _ _ _ c.args.d c.in-Some.second (Some c.in-Some-octal.third) c.in-Some.ensures.reads c.in-Some-octal.ensures.reads)
