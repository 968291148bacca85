use Rattle.std.specs.Prelude.{ℕ, cond, List, [], length, nat_le}
use Rattle.source.specs.declared.ending.Ending.TheVariants.{Clean}
use Rattle.decoding.specs.Decoding.{Decoding, decode}
use Rattle.decoding.specs.Step.{StepOf}
use Rattle.ascii.specs.AsciiHex.{hex_step}
use Rattle.ascii.specs.Ascii85.{a85_step}
use Rattle.subfile.specs.SubFile.{sub_step}
use Rattle.eexec.specs.Eexec.{eexec_start, eexec_step}

-- nothing, where the mark is longer than a mark may be
abbrev pub with_mark : List ℕ → List ℕ → List ℕ
with_mark mark bytes = cond (nat_le (length mark) 16) bytes []

-- what stands before the mark
abbrev pub part : List ℕ → List ℕ → List ℕ
part mark bytes = with_mark mark (decode sub_step (record { count = 0; mark = mark }) [] bytes Clean).bytes

-- a filter over what another one makes
abbrev pub over : {K : Type 0} → StepOf K → K → Decoding → Decoding
over step k d = decode step k [] d.bytes d.ending

-- hexadecimal data; what stands in it before the mark; that in base 85; and that enciphered
abbrev pub four_deep : List ℕ → List ℕ → List ℕ
four_deep mark bytes =
    with_mark mark (over eexec_step eexec_start (over a85_step tt (over sub_step (record { count = 0; mark = mark }) (decode hex_step tt [] bytes Clean)))).bytes
