use Rattle.std.specs.Prelude.{◌≡◌, [], ◌∷◌, Some, None, codes}
use Rattle.source.specs.declared.ending.Damage.TheVariants.{CutShort, LoneDigit}
use Rattle.source.specs.declared.ending.Ending.TheVariants.{Clean, Damaged}
use Rattle.std.specs.declared.num.IntErrorKind.TheVariants.{Empty, InvalidDigit, PosOverflow}
use Rattle.given.specs.declared.reading.ReadError.TheVariants as reason
use Rattle.given.specs.Texts.{ending_of, bytes_of, why_no_pairs, WhyNoEnding, WhyNoBytes}

-- worked texts of a case
pub record Examples : Type 0 where
  pub clean : ending_of (codes "clean") ≡ Some Clean
  pub cut_short : ending_of (codes "22/1") ≡ Some (Damaged CutShort 1)
  pub deepest : ending_of (codes "24/255") ≡ Some (Damaged LoneDigit 255)
  pub too_deep : ending_of (codes "22/256") ≡ None
  pub no_damage : ending_of (codes "20/1") ≡ None
  pub signed : ending_of (codes "+22/1") ≡ None
  pub no_bytes : bytes_of (codes "-") ≡ Some []
  pub parts : bytes_of (codes "2F.6a6Bx2.20") ≡ Some (47 ∷ 106 ∷ 107 ∷ 106 ∷ 107 ∷ 32 ∷ [])
  pub never : bytes_of (codes "6gx0") ≡ Some []
  pub lone_digit : bytes_of (codes "6") ≡ None
  -- and why others say nothing
  pub no_slash : WhyNoEnding (codes "22") reason.NoEnding
  pub damage_first : WhyNoEnding (codes "20/256") reason.NoDamage
  pub depth_too_large : WhyNoEnding (codes "22/256") (reason.NoNumber PosOverflow)
  pub odd_digits : why_no_pairs (codes "616") ≡ reason.LoneDigit
  pub bad_digit : why_no_pairs (codes "6g") ≡ reason.NoDigit
  pub bad_before_lone : why_no_pairs (codes "6g6") ≡ reason.NoDigit
  pub any_byte_alone : why_no_pairs (codes "61g") ≡ reason.LoneDigit
  pub count_first : WhyNoBytes (codes "6gx") (reason.NoNumber Empty)
  pub bad_count : WhyNoBytes (codes "61x-1") (reason.NoNumber InvalidDigit)
  pub first_bad_part : WhyNoBytes (codes "61.6g.6") reason.NoDigit
  pub no_later_part : ¬ WhyNoBytes (codes "61.6g.6") reason.LoneDigit
