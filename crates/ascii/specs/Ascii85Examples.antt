use Rattle.std.specs.Prelude.{◌≡◌, ℕ, true, false, List, [], ◌∷◌, codes}
use Rattle.source.specs.declared.ending.Damage.TheVariants as damage
use Rattle.source.specs.declared.ending.Ending.{Ending}
use Rattle.source.specs.declared.ending.Ending.TheVariants.{Clean, Damaged}
use Rattle.decoding.specs.Decoding.{Decoding, gives, decode}
use Rattle.ascii.specs.Ascii85.{a85_step}

-- all that is decoded of a text, with an ending behind it
abbrev pub a85 : List ℕ → Ending → Decoding
a85 text e = decode a85_step tt [] text e

-- worked examples of ASCII85Decode
pub record Ascii85Examples : Type 0 where
  pub group : a85 (codes "9jqo^~>B") Clean ≡ gives (codes "Man ") Clean (codes "B") false
  pub groups : a85 (codes "9jqo^9jqo^~>") Clean ≡ gives (codes "Man Man ") Clean [] false
  pub white : a85 (codes "9j\nqo ^ ~ >\n") Clean ≡ gives (codes "Man ") Clean (codes "\n") false
  pub empty : a85 (codes "~>") Clean ≡ gives [] Clean [] false
  pub zeros : a85 (codes "z~>") Clean ≡ gives (0 ∷ 0 ∷ 0 ∷ 0 ∷ []) Clean [] false
  pub zeros_inside : a85 (codes "!z") Clean ≡ gives [] (Damaged damage.Stray 0) [] false
  pub largest : a85 (codes "s8W-!~>") Clean ≡ gives (255 ∷ 255 ∷ 255 ∷ 255 ∷ []) Clean [] false
  pub beyond : a85 (codes "s8W-\"~>") Clean ≡ gives [] (Damaged damage.Overflow 0) (codes "~>") false
  pub one_byte : a85 (codes "9j~>Z") Clean ≡ gives (codes "M") Clean (codes "Z") false
  pub two_bytes : a85 (codes "9jn~>Z") Clean ≡ gives (codes "Ma") Clean (codes "Z") false
  pub three_bytes : a85 (codes "9jqo~>Z") Clean ≡ gives (codes "Man") Clean (codes "Z") false
  pub largest_short : a85 (codes "s8W*~>") Clean ≡ gives (255 ∷ 255 ∷ 255 ∷ []) Clean [] false
  pub beyond_short : a85 (codes "s8W-~>Q") Clean ≡ gives [] (Damaged damage.Overflow 0) (codes "Q") false
  pub lone_digit : a85 (codes "!~>") Clean ≡ gives [] (Damaged damage.LoneDigit 0) [] false
  pub lone_digit_spaced : a85 (codes "9 ~ >") Clean ≡ gives [] (Damaged damage.LoneDigit 0) [] false
  pub group_then_lone : a85 (codes "9jqo^!~>Z") Clean ≡ gives (codes "Man ") (Damaged damage.LoneDigit 0) (codes "Z") false
  pub stray_behind_tilde : a85 (codes "9~x>") Clean ≡ gives [] (Damaged damage.Stray 0) (codes ">") false
  pub end_behind_tilde : a85 (codes "9~") Clean ≡ gives [] (Damaged damage.CutShort 0) [] true
  pub end_in_group : a85 (codes "9jqo^9j") Clean ≡ gives (codes "Man ") (Damaged damage.CutShort 0) [] true
  pub nothing : a85 [] Clean ≡ gives [] (Damaged damage.CutShort 0) [] true
  pub beyond_u : a85 (codes "v~>") Clean ≡ gives [] (Damaged damage.Stray 0) (codes "~>") false
  pub highest_digits : a85 (codes "uuuuu~>") Clean ≡ gives [] (Damaged damage.Overflow 0) (codes "~>") false
  pub no_white : a85 (11 ∷ codes "9jqo^~>") Clean ≡ gives [] (Damaged damage.Stray 0) (codes "9jqo^~>") false
  pub opening : a85 (codes "<~9jqo^~>") Clean ≡ gives [] (Damaged damage.Stray 0) (codes "jqo^~>") false
  pub damage_below : a85 (codes "9j") (Damaged damage.CutShort 4) ≡ gives [] (Damaged damage.CutShort 5) [] true
  pub deepest_below : a85 (codes "9j") (Damaged damage.Stray 255) ≡ gives [] (Damaged damage.Stray 255) [] true
  pub unread_damage : a85 (codes "9j~>Z") (Damaged damage.CutShort 4) ≡ gives (codes "M") Clean (codes "Z") false
