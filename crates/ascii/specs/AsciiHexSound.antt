use Rattle.std.specs.Prelude.{ℕ, suc, ◌+◌, ◌≤◌, List, [], ◌∷◌, length, Some, None, Option}
use Rattle.std.proofs.Common.{arith}
use Rattle.std.specs.Option.{option_to_list}
use Rattle.source.specs.declared.ending.Damage.TheVariants as damage
use Rattle.source.specs.declared.ending.Ending.{Ending}
use Rattle.source.specs.declared.ending.Ending.TheVariants.{Clean, Damaged}
use Rattle.source.specs.declared.hex.HexTurn.{HexTurn}
use Rattle.source.specs.declared.hex.HexTurn.TheVariants.{Wait, Put, Last, Done, Stray}
use Rattle.source.specs.Hex.{hex_byte_of, hex_turn_of}
use Rattle.source.specs.Reads.{Read}
use Rattle.source.proofs.Going.{behind_self}
use Rattle.ascii.specs.declared.asciihex.AsciiHex.{AsciiHex}
use Rattle.decoding.specs.Ends.{above}
use Rattle.decoding.specs.Step.{Own, Sound, LawfulStep}
use Rattle.decoding.specs.SoundSteps.{sound_byte, sound_last, sound_stop, sound_behind, sound_on}
use Rattle.ascii.specs.AsciiHex.{HexState, hex_holds, hex_turn, hex_at, hex_step}

turn_sound :
    (t : HexTurn) (b : ℕ) (bs : List ℕ) (on : Option ℕ → Read (Own HexState))
    → ((half : Option ℕ) → Sound (length bs) bs (on half)) → Sound (suc (length bs)) (b ∷ bs) (hex_turn t bs on)
turn_sound (Wait half) b bs on q = sound_on b (omega arith) (q half)
turn_sound (Put v) b bs on q = sound_byte tt (suc (length bs)) b bs v [] None (omega arith)
turn_sound (Last v) b bs on q = sound_last tt (suc (length bs)) b bs (v ∷ []) Clean
turn_sound Done b bs on q = sound_last tt (suc (length bs)) b bs [] Clean
turn_sound Stray b bs on q = sound_last tt (suc (length bs)) b bs [] (Damaged damage.Stray 0)

at_sound : (pending : Option ℕ) (bs : List ℕ) (e : Ending) → Sound (length bs) bs (hex_at pending bs e)
at_sound pending [] e = sound_stop tt 0 (above e)
at_sound pending (b ∷ bs) e = turn_sound (hex_turn_of pending (hex_byte_of b)) b bs (λ half. hex_at half bs e) (λ half. at_sound half bs e)

pub hex_lawful : LawfulStep HexState hex_step
hex_lawful k c bs e = sound_behind (behind_self bs) (omega arith) (at_sound None bs e)

-- one byte at the most
pub hex_within : (f : AsciiHex) → length (hex_holds f).ready + 0 ≤ 1
hex_within f = by f.ready
  where
    by : (o : Option ℕ) → length (option_to_list o) + 0 ≤ 1
    by None = omega arith
    by (Some b) = omega arith
