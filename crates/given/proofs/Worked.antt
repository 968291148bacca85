use Rattle.std.proofs.Common.{refl, inl, inr, lit<, arith}
use Rattle.hex.specs.Hex.{decode_pairs}
use Rattle.std.specs.declared.num.IntErrorKind.TheVariants.{Empty, InvalidDigit, PosOverflow}
use Rattle.given.specs.Examples.{Examples}

pub worked : Examples
unfolding decode_pairs
worked = record {
  clean = refl;
  cut_short = refl;
  deepest = refl;
  too_deep = refl;
  no_damage = refl;
  signed = refl;
  no_bytes = refl;
  parts = refl;
  never = refl;
  lone_digit = refl;
  no_slash = refl;
  damage_first = refl;
  depth_too_large = (PosOverflow, refl, inr (lit< tt, inr refl));
  odd_digits = refl;
  bad_digit = refl;
  bad_before_lone = refl;
  any_byte_alone = refl;
  count_first = (Empty, refl, inl (refl, refl));
  bad_count = (InvalidDigit, refl, inr (lit< tt, inl (refl, λ numeral. omega (arith, numeral.1.0))));
  first_bad_part = refl;
  no_later_part = λ same. cc;
}
