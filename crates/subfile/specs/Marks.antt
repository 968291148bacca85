use Rattle.std.specs.Prelude.{ℕ, cond, List, length, take, Ok, Err, Result, nat_le}
use Rattle.subfile.specs.declared.mark.Mark.{Mark}
use Rattle.subfile.specs.declared.mark.MarkTooLong.{MarkTooLong}

-- the bytes of a mark
unfoldable pub mark_of : Mark → List ℕ
mark_of m = take m.len m.bytes

abbrev pub refusal_number : MarkTooLong → ℕ
refusal_number r = 3

-- the bytes of the mark that was made, or the refusal
abbrev pub marked : Result Mark MarkTooLong → Result (List ℕ) MarkTooLong
marked (Ok m) = Ok (mark_of m)
marked (Err r) = Err r

-- a mark has exactly the bytes that it is made of, 16 at the most
abbrev pub mark_for : List ℕ → Result (List ℕ) MarkTooLong
mark_for bytes = cond (nat_le (length bytes) 16) (Ok bytes) (Err (record {}))
