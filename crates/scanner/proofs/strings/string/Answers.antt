use Rattle.std.proofs.Common.{subst, rules}
use Rattle.std.proofs.lemmas.Result.{MatchResult-weaker}
use Rattle.source.specs.Reads.{Reads}
use Rattle.scanner.specs.Pieces.{piece_of}
use Rattle.scanner.proofs.Mapped.{stopped, given_back}
use Rattle.scanner.proofs.StringUses.{strung_fewer, strung_pass, strung_put, strung_done, strung_full, strung_err}
use Rattle.scanner.proofs.strings.string.Goals as goal

pub returns-in-Done : goal.returns-in-Done
returns-in-Done g c =
    strung_done g.S.Source.model g.met.S.Source.lawful _ _ _ _ _ _ c.loop-piece.depth c.in_ok-piece.piece c.loop-piece.invariant _ _ c.next_piece.ensures c.in_ok-piece.ensures.cases c.in_ok-piece.ensures.variant c.in-Done.ensures.is

pub loop-piece-smaller-in-Pass : goal.loop-piece-smaller-in-Pass
loop-piece-smaller-in-Pass g c =
    strung_fewer g.S.Source.model g.met.S.Source.lawful _ _ _ _ _ _ c.loop-piece.depth c.in_ok-piece.piece c.loop-piece.invariant _ _ c.next_piece.ensures c.in_ok-piece.ensures.cases c.in_ok-piece.ensures.variant

pub loop-piece-preserved-in-Pass : goal.loop-piece-preserved-in-Pass
loop-piece-preserved-in-Pass g c =
    strung_pass g.S.Source.model g.met.S.Source.lawful _ _ _ _ _ _ c.loop-piece.depth c.in_ok-piece.piece c.loop-piece.invariant _ _ c.next_piece.ensures c.in_ok-piece.ensures.cases c.in_ok-piece.ensures.variant c.in-Pass.ensures.is

pub loop-piece-smaller : goal.loop-piece-smaller
loop-piece-smaller g c =
    strung_fewer g.S.Source.model g.met.S.Source.lawful _ _ _ _ _ _ c.loop-piece.depth c.in_ok-piece.piece c.loop-piece.invariant _ _ c.next_piece.ensures c.in_ok-piece.ensures.cases c.in_ok-piece.ensures.variant

pub loop-piece-preserved : goal.loop-piece-preserved
loop-piece-preserved g c =
    strung_put g.S.Source.model g.met.S.Source.lawful _ _ _ _ _ _ c.loop-piece.depth c.in_ok-piece.piece c.loop-piece.invariant _ _ c.next_piece.ensures c.in_ok-piece.ensures.cases c.in_ok-piece.ensures.variant c.in-Put.b c.in-Put.to c.in_ok-n-in-Put.n _ c.in-Put.ensures.is c.loop-piece.auto.area c.in-Put.ensures.level c.in_ok-n-in-Put.ensures

pub returns-in_err-piece : goal.returns-in_err-piece
returns-in_err-piece g c =
    let q = stopped c.loop-piece.n c.next_piece.result c.in_err-piece.field-0.0 (MatchResult-weaker c.next_piece.result c.in_err-piece.ensures.cases (λ x k. k) (λ f k. search rules)) c.in_err-piece.ensures.variant in
    let y = subst (λ r. Reads g.S.Source.model piece_of (g.S.Source.held c.loop-piece.source) r (g.S.Source.held c.next_piece.new.source)) q.1 c.next_piece.ensures in
    rw (given_back c.from_residual.result _ c.from_residual.ensures.1, q.2) (strung_err g.S.Source.model g.met.S.Source.lawful _ _ _ _ _ _ c.loop-piece.depth q.0 c.loop-piece.invariant y)

pub returns-in_err-n-in-Put : goal.returns-in_err-n-in-Put
returns-in_err-n-in-Put g c =
    rw (given_back c.from_residual-in_err-n-in-Put.result _ c.from_residual-in_err-n-in-Put.ensures.1)
    (strung_full g.S.Source.model g.met.S.Source.lawful _ _ _ _ _ _ c.loop-piece.depth c.in_ok-piece.piece c.loop-piece.invariant _ _ c.next_piece.ensures c.in_ok-piece.ensures.cases c.in_ok-piece.ensures.variant c.in-Put.b c.in-Put.to c.in_err-n-in-Put.field-0.0 _ c.in-Put.ensures.is c.loop-piece.auto.area c.in_err-n-in-Put.ensures)
