use Rattle.std.specs.Prelude.{ℕ, true, false, cond, List, [], ◌∷◌, ◌++◌, length, None, Ok, Err, Option, Result, ◌==◌}
use Rattle.source.specs.declared.ending.Ending.{Ending}
use Rattle.source.specs.declared.fault.Fault.TheVariants.{Limit, StrayInHex}
use Rattle.source.specs.Hex.{hex_byte_of, hex_turn_of}
use Rattle.source.specs.Numbers.{unended}
use Rattle.scanner.specs.declared.failure.Failure.{Failure}
use Rattle.source.specs.declared.hex.HexTurn.{HexTurn}
use Rattle.source.specs.declared.hex.HexTurn.TheVariants as turn
use Rattle.scanner.specs.Failures.{broken}
use Rattle.scanner.specs.Scan.{Scan}

-- a hex string behind the content `done`: a full area, or a string that is closed
abbrev pub hex_full : List ℕ → List ℕ → Scan (Result ℕ Failure)
hex_full done left = record { answer = Err (broken Limit done); content = done; left = left; peeked = false }

abbrev pub hex_closed : List ℕ → List ℕ → Scan (Result ℕ Failure)
hex_closed done left = record { answer = Ok (length done); content = done; left = left; peeked = false }

-- what a turn does behind the content `done`, where `left` is left, and `on` says how the string goes on
abbrev pub hex_turn : HexTurn → ℕ → List ℕ → List ℕ → (List ℕ → Option ℕ → Scan (Result ℕ Failure)) → Scan (Result ℕ Failure)
hex_turn (turn.Wait half) room done left on = on done half
hex_turn (turn.Put v) room done left on = cond (length done == room) (hex_full done left) (on (done ++ v ∷ []) None)
hex_turn (turn.Last v) room done left on = cond (length done == room) (hex_full done left) (hex_closed (done ++ v ∷ []) left)
hex_turn turn.Done room done left on = hex_closed done left
hex_turn turn.Stray room done left on = record { answer = Err (broken StrayInHex done); content = done; left = left; peeked = false }

-- a hex string of which the bytes `done` were read, where a first digit is pending or none
abbrev pub hex_at : ℕ → List ℕ → Option ℕ → List ℕ → Ending → Scan (Result ℕ Failure)
hex_at room done pending [] e = record { answer = Err (broken (unended e) done); content = done; left = []; peeked = true }
hex_at room done pending (b ∷ bs) e = hex_turn (hex_turn_of pending (hex_byte_of b)) room done bs (λ done half. hex_at room done half bs e)

abbrev pub hex_of : ℕ → List ℕ → Ending → Scan (Result ℕ Failure)
hex_of room rest e = hex_at room [] None rest e
