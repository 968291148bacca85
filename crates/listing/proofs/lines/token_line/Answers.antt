use Rattle.std.proofs.Common.{◌+◌, ◌*◌, ◌≤◌, length, arith}
use Rattle.listing.specs.Texts.{text_of}
use Rattle.listing.proofs.ShortLines.{prints_ok, token_short}
use Rattle.listing.proofs.lines.token_line.Goals as goal
use Rattle.listing.proofs.lines.token_line.Goals.{Joined-word_of, in-None, in-Some, then-line-lt32+in_ok-count, else-line-lt32+else-content-line}

-- the line is no longer than what is enough for it
short : (c : Joined-word_of) → length (text_of c.match-word_of.text) ≤ 4 * length c.args.content.now + 32
short c = elim c.match-word_of.branch [
  | in-None w ↦ rw w.text-is (omega arith)
  | in-Some w ↦ rw w.text-is (token_short c.args.token.kind _ _ _ _ w.in-Some.ensures (omega arith) c.form_of-form.ensures.small)
]

pub write-requires : goal.write-requires
write-requires c = elim c.if-line-lt32.branch [
  | then-line-lt32+in_ok-count w ↦ w.in_ok-count.ensures
  | else-line-lt32+else-content-line w ↦
      omega (arith, short (goal.at.write-requires c).Joined-word_of, w.if-line-lt32.false, w.if-content-line.false)
]

pub returns-clause-enough : goal.returns-clause-enough
returns-clause-enough c = λ room. prints_ok _ _ _ _ c.write.ensures (omega (arith, short (goal.at.returns-clause-enough c).Joined-word_of))
