use Rattle.std.proofs.Common.{refl}
use Rattle.decoding.specs.Decoding.{decode}
use Rattle.subfile.specs.SubFileExamples.{SubFileExamples}

pub sub_examples : SubFileExamples
unfolding decode
sub_examples = record {
  dropped = refl;
  again = refl;
  nearly = refl;
  apart = refl;
  whole = refl;
  cut = refl;
  all = refl;
  short = refl;
  two = refl;
  deep = refl;
  step = refl;
}
