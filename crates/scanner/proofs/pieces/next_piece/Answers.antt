use Rattle.std.proofs.Common.{refl}
use Rattle.source.proofs.Calls.{reads_then, reads_as}
use Rattle.scanner.specs.declared.pieces.Opening.TheVariants as opening
use Rattle.scanner.specs.Takes.{byte_of}
use Rattle.scanner.specs.Pieces.{escape_of, piece_of}
use Rattle.scanner.proofs.PieceUses.{steady_byte, steady_escape, piece_at}
use Rattle.scanner.proofs.pieces.next_piece.Goals as goal

pub returns-in-Escape : goal.returns-in-Escape
returns-in-Escape g c =
    let m = g.S.Source.model in
    let l = g.met.S.Source.lawful in
    let h = g.S.Source.held c.args.source.now in
    let a = c.in_ok-b.ensures in
    let b = reads_then m l byte_of h _ _ escape_of c.escaped.result _ (steady_byte _ _) steady_escape a c.escaped.ensures in
    reads_as m l _ h _ _ piece_of _ _ b (piece_at (m.rest h) (m.ending h) c.in_ok-b.b opening.Escape a.answer c.in-Escape.ensures) b.answer refl refl
