use Rattle.std.specs.Prelude.{[]}
use Rattle.source.specs.Reads.{Read}
use Rattle.filter.specs.declared.any.AnyKind.{AnyKind}
use Rattle.filter.specs.declared.any.AnyKind.TheVariants.{AsciiHex, Ascii85, SubFile, Eexec}
use Rattle.decoding.specs.Step.{Holds, Own, StepOf}
use Rattle.ascii.specs.AsciiHex.{HexState, hex_holds, hex_step}
use Rattle.ascii.specs.Ascii85.{A85State, a85_holds, a85_step}
use Rattle.eexec.specs.Eexec.{EexecState, eexec_holds, eexec_step}
use Rattle.subfile.specs.SubFile.{SubState, sub_holds, sub_step}

-- what is held by one kind, and a step of one kind, as those of another
abbrev pub holds_as : {K L : Type 0} → (K → L) → Holds K → Holds L
holds_as f h = record { ready = h.ready; compared = h.compared; kind = f h.kind }

abbrev pub step_as : {K L : Type 0} → (K → L) → Read (Own K) → Read (Own L)
step_as f s = record {
  answer = record { ready = s.answer.ready; compared = s.answer.compared; kind = f s.answer.kind; ended = s.answer.ended };
  left = s.left;
  peeked = s.peeked;
}

-- nothing is ready and nothing compared
abbrev pub at_start : {K : Type 0} → K → Holds K
at_start k = record { ready = []; compared = []; kind = k }

-- the state of a filter of any kind
pub data AnyState : Type 0 where
  in_hex : HexState → AnyState
  in_groups : A85State → AnyState
  in_part : SubState → AnyState
  in_cipher : EexecState → AnyState

abbrev pub any_holds : AnyKind → Holds AnyState
any_holds (AsciiHex k) = holds_as in_hex (hex_holds k)
any_holds (Ascii85 k) = holds_as in_groups (a85_holds k)
any_holds (SubFile k) = holds_as in_part (sub_holds k)
any_holds (Eexec k) = holds_as in_cipher (eexec_holds k)

-- each kind makes its own step
abbrev pub any_step : StepOf AnyState
any_step (in_hex k) c bs e = step_as in_hex (hex_step k c bs e)
any_step (in_groups k) c bs e = step_as in_groups (a85_step k c bs e)
any_step (in_part k) c bs e = step_as in_part (sub_step k c bs e)
any_step (in_cipher k) c bs e = step_as in_cipher (eexec_step k c bs e)
