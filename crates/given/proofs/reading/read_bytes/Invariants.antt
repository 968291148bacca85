use Rattle.std.proofs.Common.{length, drop}
use Rattle.given.specs.declared.reading.ReadError.{ReadError}
use Rattle.given.specs.Texts.{parts_of, FirstBad}
use Rattle.given.proofs.Texts.{ReadUpTo}
use Rattle.given.proofs.reading.read_bytes.Given as goal

abbrev pub invariant-loop-part : goal.invariant-loop-part
invariant-loop-part l = record {
  read : ReadUpTo (parts_of l.fn.text) (length l.yielded) l.bytes.items;
  bad : (e : ReadError) → FirstBad (drop (length l.yielded) (parts_of l.fn.text)) e → FirstBad (parts_of l.fn.text) e;
}
