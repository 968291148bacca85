use Rattle.std.proofs.Common.{◌≡◌, ℕ, zero, suc, Bool, true, false, cond, eqb, List, [], ◌∷◌, ◌++◌, length, None, Ok, Err, Option, Result, refl}
use Rattle.source.specs.declared.ending.Ending.{Ending}
use Rattle.source.specs.declared.fault.Fault.{Fault}
use Rattle.source.proofs.Calls.{Steady, steady_here, steady_next, steady_then}
use Rattle.scanner.specs.declared.failure.Failure.{Failure}
use Rattle.scanner.specs.declared.failure.Failure.TheVariants as failure
use Rattle.scanner.specs.declared.class.Class.{Class}
use Rattle.scanner.specs.declared.class.Class.TheVariants.{White, Special, Regular}
use Rattle.source.specs.declared.hex.HexTurn.{HexTurn}
use Rattle.source.specs.declared.hex.HexTurn.TheVariants as hexed
use Rattle.scanner.specs.declared.pieces.Piece.{Piece}
use Rattle.scanner.specs.declared.strings.Turn.{Turn}
use Rattle.scanner.specs.declared.strings.Turn.TheVariants.{Put, Pass, Done}
use Rattle.source.specs.Hex.{hex_byte_of, hex_turn_of}
use Rattle.scanner.specs.Classes.{class_of}
use Rattle.scanner.specs.Scan.{Scan}
use Rattle.scanner.specs.Runs.{run_by, run_at}
use Rattle.scanner.specs.Pieces.{piece_of}
use Rattle.scanner.specs.Strings.{turn_of, string_turn, string_piece, string_at, string_of}
use Rattle.scanner.specs.HexStrings.{hex_full, hex_closed, hex_turn, hex_at, hex_of}
use Rattle.scanner.proofs.PieceUses.{steady_piece}

-- how many bytes of content an answer says that there are
abbrev pub count : Result ℕ Failure → ℕ
count (Ok n) = n
count (Err failure.Area) = 0
count (Err (failure.Fault f n)) = n

-- what a run, a string and a hex string keep: what is left stands behind what was taken, and where nothing was taken a
-- look was made; the count is that of the content
pub record Sound (rest : List ℕ) (s : Scan (Result ℕ Failure)) : Type 0 where
  pub steady : Steady rest s.left s.peeked
  pub counted : count s.answer ≡ length s.content

sound_cond : (rest : List ℕ) (b : Bool) (s t : Scan (Result ℕ Failure)) → Sound rest s → Sound rest t → Sound rest (cond b s t)
sound_cond rest true s t x y = x
sound_cond rest false s t x y = y

sound_then : {rest left : List ℕ} {peeked : Bool} {s : Scan (Result ℕ Failure)} → Steady rest left peeked → Sound left s → Sound rest s
sound_then x y = record { steady = steady_then x y.steady; counted = y.counted }

run_step : (k : Class) (done : List ℕ) (b : ℕ) (bs : List ℕ) (on : Scan (Result ℕ Failure)) → Sound bs on → Sound (b ∷ bs) (run_by k done b bs on)
run_step Special done b bs on s = record { steady = steady_here (b ∷ bs); counted = refl }
run_step White done b bs on s = record { steady = steady_next b bs; counted = refl }
run_step Regular done b bs on s =
    sound_cond (b ∷ bs) (eqb (length done) 127) _ on (record { steady = steady_next b bs; counted = refl }) (sound_then (steady_next b bs) s)

pub sound_run : (done rest : List ℕ) → Sound rest (run_at done rest)
sound_run done [] = record { steady = steady_here []; counted = refl }
sound_run done (b ∷ bs) = run_step (class_of b) done b bs (run_at (done ++ b ∷ []) bs) (sound_run (done ++ b ∷ []) bs)

turn_step :
    (t : Turn) (room : ℕ) (done : List ℕ) (depth : ℕ) (rest left : List ℕ) (peeked : Bool) (on : List ℕ → ℕ → Scan (Result ℕ Failure))
    → Steady rest left peeked → ((d : List ℕ) (n : ℕ) → Sound left (on d n)) → Sound rest (string_turn t room done depth left peeked on)
turn_step Done room done depth rest left peeked on s i = record { steady = s; counted = refl }
turn_step Pass room done depth rest left peeked on s i = sound_then s (i done depth)
turn_step (Put b to) room done depth rest left peeked on s i =
    sound_cond rest (eqb (length done) room) _ (on (done ++ b ∷ []) to) (record { steady = s; counted = refl }) (sound_then s (i (done ++ b ∷ []) to))

piece_step :
    (a : Result Piece Fault) (room : ℕ) (done : List ℕ) (depth : ℕ) (rest left : List ℕ) (peeked : Bool) (on : List ℕ → ℕ → Scan (Result ℕ Failure))
    → Steady rest left peeked → ((d : List ℕ) (n : ℕ) → Sound left (on d n)) → Sound rest (string_piece a room done depth left peeked on)
piece_step (Err f) room done depth rest left peeked on s i = record { steady = s; counted = refl }
piece_step (Ok p) room done depth rest left peeked on s i = turn_step (turn_of p depth) room done depth rest left peeked on s i

sound_string_at : (k room : ℕ) (done : List ℕ) (depth : ℕ) (rest : List ℕ) (e : Ending) → Sound rest (string_at k room done depth rest e)
sound_string_at zero room done depth rest e = record { steady = steady_here rest; counted = refl }
sound_string_at (suc k) room done depth rest e =
    piece_step (piece_of rest e).answer room done depth rest (piece_of rest e).left (piece_of rest e).peeked
    (λ d n. string_at k room d n (piece_of rest e).left e) (steady_piece rest e) (λ d n. sound_string_at k room d n (piece_of rest e).left e)

pub sound_string : (room : ℕ) (rest : List ℕ) (e : Ending) → Sound rest (string_of room rest e)
sound_string room rest e = sound_string_at (suc (length rest)) room [] 0 rest e

hex_step :
    (t : HexTurn) (room : ℕ) (done : List ℕ) (b : ℕ) (bs : List ℕ) (on : List ℕ → Option ℕ → Scan (Result ℕ Failure))
    → ((d : List ℕ) (half : Option ℕ) → Sound bs (on d half)) → Sound (b ∷ bs) (hex_turn t room done bs on)
hex_step (hexed.Wait half) room done b bs on i = sound_then (steady_next b bs) (i done half)
hex_step (hexed.Put v) room done b bs on i =
    sound_cond (b ∷ bs) (eqb (length done) room) (hex_full done bs) (on (done ++ v ∷ []) None)
    (record { steady = steady_next b bs; counted = refl }) (sound_then (steady_next b bs) (i (done ++ v ∷ []) None))
hex_step (hexed.Last v) room done b bs on i =
    sound_cond (b ∷ bs) (eqb (length done) room) (hex_full done bs) (hex_closed (done ++ v ∷ []) bs)
    (record { steady = steady_next b bs; counted = refl }) (record { steady = steady_next b bs; counted = refl })
hex_step hexed.Done room done b bs on i = record { steady = steady_next b bs; counted = refl }
hex_step hexed.Stray room done b bs on i = record { steady = steady_next b bs; counted = refl }

sound_hex_at : (room : ℕ) (done : List ℕ) (pending : Option ℕ) (rest : List ℕ) (e : Ending) → Sound rest (hex_at room done pending rest e)
sound_hex_at room done pending [] e = record { steady = steady_here []; counted = refl }
sound_hex_at room done pending (b ∷ bs) e =
    hex_step (hex_turn_of pending (hex_byte_of b)) room done b bs (λ done half. hex_at room done half bs e) (λ d half. sound_hex_at room d half bs e)

pub sound_hex : (room : ℕ) (rest : List ℕ) (e : Ending) → Sound rest (hex_of room rest e)
sound_hex room rest e = sound_hex_at room [] None rest e
