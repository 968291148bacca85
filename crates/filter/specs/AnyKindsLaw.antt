use Rattle.std.specs.Prelude.{◌≡◌, ℕ, List}
use Rattle.source.specs.declared.ending.Ending.{Ending}
use Rattle.decoding.specs.Decoding.{decode}
use Rattle.ascii.specs.AsciiHex.{HexState, hex_step}
use Rattle.ascii.specs.Ascii85.{A85State, a85_step}
use Rattle.subfile.specs.SubFile.{SubState, sub_step}
use Rattle.eexec.specs.Eexec.{EexecState, eexec_step}
use Rattle.filter.specs.AnyKinds.{in_hex, in_groups, in_part, in_cipher, any_step}

-- a filter of one of the four kinds decodes as that kind does, so that the laws of the kind hold of it
pub record AnyKindsLaw : Type 0 where
  pub hex : (k : HexState) (c bs : List ℕ) (e : Ending) → decode any_step (in_hex k) c bs e ≡ decode hex_step k c bs e
  pub groups : (k : A85State) (c bs : List ℕ) (e : Ending) → decode any_step (in_groups k) c bs e ≡ decode a85_step k c bs e
  pub part : (k : SubState) (c bs : List ℕ) (e : Ending) → decode any_step (in_part k) c bs e ≡ decode sub_step k c bs e
  pub cipher : (k : EexecState) (c bs : List ℕ) (e : Ending) → decode any_step (in_cipher k) c bs e ≡ decode eexec_step k c bs e
