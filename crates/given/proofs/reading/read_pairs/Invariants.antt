use Rattle.std.proofs.Common.{◌≡◌}
use Rattle.std.specs.Slice.Iter.{chunks_rest, chunks_size}
use Rattle.given.proofs.Pairs.{told, put}
use Rattle.given.proofs.reading.read_pairs.Given as goal

-- what the rest tells behind the bytes so far is what the whole text tells behind those that were there
abbrev pub invariant-loop-pair : goal.invariant-loop-pair
invariant-loop-pair l = record {
  by_twos : chunks_size l.pair-iterator ≡ 2;
  tells : put l.bytes.items (told (chunks_rest l.pair-iterator)) ≡ put l.fn.bytes.items (told l.fn.digits);
}
