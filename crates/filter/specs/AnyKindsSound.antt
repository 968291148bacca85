use Rattle.std.specs.Prelude.{ℕ, ◌+◌, ◌≤◌, List, length}
use Rattle.std.proofs.Common.{arith}
use Rattle.source.specs.Reads.{Read}
use Rattle.filter.specs.declared.any.AnyKind.{AnyKind}
use Rattle.filter.specs.declared.any.AnyKind.TheVariants.{AsciiHex, Ascii85, SubFile, Eexec}
use Rattle.decoding.specs.Step.{Own, Sound, LawfulStep}
use Rattle.ascii.specs.AsciiHexSound.{hex_lawful, hex_within}
use Rattle.ascii.specs.Ascii85Sound.{a85_lawful, a85_within}
use Rattle.eexec.specs.EexecSound.{eexec_lawful, eexec_within}
use Rattle.subfile.specs.SubFileSound.{sub_lawful, sub_within}
use Rattle.filter.specs.AnyKinds.{AnyState, in_hex, in_groups, in_part, in_cipher, step_as, any_holds, any_step}

sound_as : {K L : Type 0} (f : K → L) {n : ℕ} {bs : List ℕ} {s : Read (Own K)} → Sound n bs s → Sound n bs (step_as f s)
sound_as f q = record { behind = q.behind; met_end = q.met_end; fills = q.fills; falls = q.falls; ends = q.ends }

pub any_lawful : LawfulStep AnyState any_step
any_lawful (in_hex k) c bs e = sound_as in_hex (hex_lawful k c bs e)
any_lawful (in_groups k) c bs e = sound_as in_groups (a85_lawful k c bs e)
any_lawful (in_part k) c bs e = sound_as in_part (sub_lawful k c bs e)
any_lawful (in_cipher k) c bs e = sound_as in_cipher (eexec_lawful k c bs e)

-- none holds more than SubFile may
pub any_within : (k : AnyKind) → length (any_holds k).ready + length (any_holds k).compared ≤ 16
any_within (AsciiHex k) = omega (arith, hex_within k)
any_within (Ascii85 k) = omega (arith, a85_within k)
any_within (SubFile k) = sub_within k
any_within (Eexec k) = omega (arith, eexec_within k)
