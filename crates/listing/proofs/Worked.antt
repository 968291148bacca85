use Rattle.std.proofs.Common.{refl}
use Rattle.std.specs.Fmt.{digits}
use Rattle.listing.specs.Examples.{Examples}

pub examples : Examples
unfolding digits
examples = record {
  literal = refl;
  empty_literal = refl;
  name = refl;
  immediate = refl;
  integer = refl;
  zero = refl;
  least = refl;
  real = refl;
  string = refl;
  hexstring = refl;
  empty_string = refl;
  bracket = refl;
  brace = refl;
  angles = refl;
  end = refl;
  clean = refl;
  cut_short = refl;
  fault = refl;
  limit = refl;
}
