use Rattle.std.proofs.Common.{◌≡◌, ℕ, List, [], Some, None, Option, sym, refl, ap, ◌∙◌, Ok}
use Rattle.std.specs.Option.{option_to_list}
use Rattle.source.specs.declared.ending.Ending.{Ending}
use Rattle.source.specs.declared.hex.HexTurn.{HexTurn}
use Rattle.source.specs.declared.hex.HexTurn.TheVariants.{Wait}
use Rattle.source.specs.Hex.{hex_byte_of, hex_turn_of}
use Rattle.source.specs.Model.{Model, first}
use Rattle.source.specs.Laws.{Lawful}
use Rattle.source.specs.Reads.{Reads}
use Rattle.source.proofs.Walk.{Walk, walk_took}
use Rattle.source.proofs.Calls.{reads_took}
use Rattle.decoding.specs.Step.{Own, makes}
use Rattle.ascii.specs.declared.made.Made.{Made}
use Rattle.ascii.specs.Made.{own_made}
use Rattle.ascii.specs.AsciiHex.{HexState, hex_turn, hex_at}
use Rattle.ascii.proofs.MadeUses.{own_end}

-- a turn of the loop: x was held at its start, and x' after a take
module _
    {H : Type 0} {m : Model H} (l : Lawful H m) {h x x' : H} {pending : Option ℕ}
    (k : Walk m h x (λ r. hex_at pending r (m.ending h)) (hex_at None (m.rest h) (m.ending h))) (t : x' ≡ m.taken x) {b : ℕ} (p : Ok b ≡ first (m.rest x) (m.ending x)) where
  pub pair_wait : {half : Option ℕ} → Wait half ≡ hex_turn_of pending (hex_byte_of b)
      → Walk m h x' (λ r. hex_at half r (m.ending h)) (hex_at None (m.rest h) (m.ending h))
  pair_wait {half} q =
      walk_took m l h x _ _ x' b (λ r. hex_at half r (m.ending h)) k p t
      (sym (ap (λ u. hex_turn u (m.rest x') (λ v. hex_at v (m.rest x') (m.ending h))) q))

  -- a turn that makes something
  pub pair_stop : {u : HexTurn} {ready : List ℕ} {o : Option Ending} {own : Own HexState} → u ≡ hex_turn_of pending (hex_byte_of b)
      → own ≡ record { ready = ready; compared = []; kind = tt; ended = o }
      → makes tt ready o (m.rest x') ≡ hex_turn u (m.rest x') (λ v. hex_at v (m.rest x') (m.ending h))
      → Reads m (hex_at None) h own x'
  pair_stop {u} {ready} {o} {own} q is e =
      reads_took m l (hex_at None) h x x' _ k t own (makes tt ready o (m.rest x')) is b p
      (e ∙ ap (λ u. hex_turn u (m.rest x') (λ v. hex_at v (m.rest x') (m.ending h))) q) refl refl

  -- a turn that makes an ending and no byte
  pub pair_end : {u : HexTurn} {made : Made (Option ℕ)} {o : Ending} → u ≡ hex_turn_of pending (hex_byte_of b)
      → made.ready ≡ None → made.ended ≡ Some o
      → makes tt [] (Some o) (m.rest x') ≡ hex_turn u (m.rest x') (λ v. hex_at v (m.rest x') (m.ending h))
      → Reads m (hex_at None) h (own_made option_to_list tt made) x'
  pair_end {u} {made} q ready ended e = pair_stop q (own_end option_to_list made (ap option_to_list ready) ended) e
