use Rattle.std.specs.Prelude.{ℕ, zero, suc, ◌+◌, ◌-◌, ◌≤◌, Bool, true, cond, List, [], ◌∷◌, ◌++◌, length, Ok, Err, Result, ◌==◌}
use Rattle.source.specs.declared.ending.Ending.{Ending}
use Rattle.source.specs.declared.fault.Fault.TheVariants.{Limit}
use Rattle.source.specs.declared.fault.Fault.{Fault}
use Rattle.source.specs.Numbers.{unended}
use Rattle.scanner.specs.declared.failure.Failure.{Failure}
use Rattle.scanner.specs.declared.pieces.Piece.{Piece}
use Rattle.scanner.specs.declared.pieces.Piece.TheVariants.{Open, Close, Plain, Nothing}
use Rattle.scanner.specs.declared.strings.Turn.{Turn}
use Rattle.scanner.specs.declared.strings.Turn.TheVariants.{Put, Pass, Done}
use Rattle.scanner.specs.Failures.{broken}
use Rattle.scanner.specs.Scan.{Scan}
use Rattle.scanner.specs.Pieces.{piece_of}

-- what a piece does where `depth` parentheses are open: those that balance each other are content
abbrev pub turn_of : Piece → ℕ → Turn
turn_of Nothing depth = Pass
turn_of (Plain b) depth = Put b depth
turn_of Open depth = Put 40 (depth + 1)
turn_of Close depth = cond (depth == 0) Done (Put 41 (depth - 1))

-- a turn opens one at most
abbrev pub Level : ℕ → Turn → Type 0
Level depth (Put b to) = to ≤ depth + 1
Level depth Pass = Unit {0}
Level depth Done = Unit {0}

-- what a turn does behind the content `done`, where the piece left this much, and `on` says how the string goes on
abbrev pub string_turn : Turn → ℕ → List ℕ → ℕ → List ℕ → Bool → (List ℕ → ℕ → Scan (Result ℕ Failure)) → Scan (Result ℕ Failure)
string_turn Done room done depth left peeked on = record { answer = Ok (length done); content = done; left = left; peeked = peeked }
string_turn Pass room done depth left peeked on = on done depth
string_turn (Put b to) room done depth left peeked on =
    cond (length done == room) (record { answer = Err (broken Limit done); content = done; left = left; peeked = peeked })
    (on (done ++ b ∷ []) to)

abbrev pub string_piece : Result Piece Fault → ℕ → List ℕ → ℕ → List ℕ → Bool → (List ℕ → ℕ → Scan (Result ℕ Failure)) → Scan (Result ℕ Failure)
string_piece (Err f) room done depth left peeked on = record { answer = Err (broken f done); content = done; left = left; peeked = peeked }
string_piece (Ok p) room done depth left peeked on = string_turn (turn_of p depth) room done depth left peeked on

-- a string of which the bytes `done` were read and `depth` parentheses are open, in fewer pieces than the first number
abbrev pub string_at : ℕ → ℕ → List ℕ → ℕ → List ℕ → Ending → Scan (Result ℕ Failure)
string_at zero room done depth rest e = record { answer = Err (broken (unended e) done); content = done; left = rest; peeked = true }
string_at (suc k) room done depth rest e =
    string_piece (piece_of rest e).answer room done depth (piece_of rest e).left (piece_of rest e).peeked
    (λ done depth. string_at k room done depth (piece_of rest e).left e)

-- each piece but the last has a byte, so there are no more pieces than this
abbrev pub string_of : ℕ → List ℕ → Ending → Scan (Result ℕ Failure)
string_of room rest e = string_at (suc (length rest)) room [] 0 rest e
