use Rattle.std.proofs.Common.{Ok, refl, ap}
use Rattle.source.proofs.Calls.{reads_then, reads_as}
use Rattle.scanner.specs.declared.pieces.Piece.TheVariants as piece
use Rattle.scanner.specs.declared.pieces.Escape.TheVariants as escape
use Rattle.scanner.specs.Takes.{byte_of}
use Rattle.scanner.specs.Pieces.{number_of, escape_of}
use Rattle.scanner.proofs.PieceUses.{steady_byte, steady_number, escape_at}
use Rattle.scanner.proofs.pieces.escaped.Goals as goal

pub returns-in-Octal : goal.returns-in-Octal
returns-in-Octal g c =
    let m = g.S.Source.model in
    let l = g.met.S.Source.lawful in
    let h = g.S.Source.held c.args.source.now in
    let d = c.in-Octal.d in
    let a = c.in_ok-b.ensures in
    let b = reads_then m l byte_of h _ _ (number_of d) c.octal_number.result _ (steady_byte _ _) (steady_number d) a c.octal_number.ensures in
    reads_as m l _ h _ _ escape_of _ _ b (escape_at (m.rest h) (m.ending h) c.in_ok-b.b (escape.Octal d) a.answer c.in-Octal.ensures.is) (ap (λ v. Ok (piece.Plain v)) b.answer) refl refl
