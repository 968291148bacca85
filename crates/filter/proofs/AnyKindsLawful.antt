use Rattle.std.proofs.Common.{◌≡◌, ℕ, zero, suc, ◌+◌, List, length, Some, None, Option, refl, ap, ◌∙◌}
use Rattle.source.specs.declared.ending.Ending.{Ending}
use Rattle.source.specs.Reads.{Read}
use Rattle.decoding.specs.Decoding.{Decoding, then, decoding, decode}
use Rattle.decoding.specs.Step.{Own, StepOf}
use Rattle.ascii.specs.AsciiHex.{hex_step}
use Rattle.ascii.specs.Ascii85.{a85_step}
use Rattle.subfile.specs.SubFile.{sub_step}
use Rattle.eexec.specs.Eexec.{eexec_step}
use Rattle.filter.specs.AnyKinds.{in_hex, in_groups, in_part, in_cipher, step_as, any_step}
use Rattle.filter.specs.AnyKindsLaw.{AnyKindsLaw}

-- a kind whose steps are those of another under the name f
module _ {K L : Type 0} (f : K → L) (step : StepOf K) (named : StepOf L)
    (same : (k : K) (c bs : List ℕ) (e : Ending) → named (f k) c bs e ≡ step_as f (step k c bs e)) where
  then_as : (o : Option Ending) (s : Read (Own K)) (d : Decoding) → then o (step_as f s) d ≡ then o s d
  then_as None s d = refl
  then_as (Some x) s d = refl

  decoding_as : (n : ℕ) (k : K) (c bs : List ℕ) (e : Ending) → decoding named n (f k) c bs e ≡ decoding step n k c bs e
  decoding_as zero k c bs e = refl
  decoding_as (suc n) k c bs e =
      let s = step k c bs e in
      ap (λ (t : Read (Own L)). then t.answer.ended t (decoding named n t.answer.kind t.answer.compared t.left e)) (same k c bs e)
      ∙ (then_as s.answer.ended s (decoding named n (f s.answer.kind) s.answer.compared s.left e)
      ∙ ap (then s.answer.ended s) (decoding_as n s.answer.kind s.answer.compared s.left e))

  decode_as : (k : K) (c bs : List ℕ) (e : Ending) → decode named (f k) c bs e ≡ decode step k c bs e
  unfolding decode
  decode_as k c bs e = decoding_as (suc (length c + length bs)) k c bs e

pub any_kinds_law : AnyKindsLaw
any_kinds_law = record {
  hex = decode_as in_hex hex_step any_step (λ k c bs e. refl);
  groups = decode_as in_groups a85_step any_step (λ k c bs e. refl);
  part = decode_as in_part sub_step any_step (λ k c bs e. refl);
  cipher = decode_as in_cipher eexec_step any_step (λ k c bs e. refl);
}
