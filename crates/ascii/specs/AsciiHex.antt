use Rattle.std.specs.Prelude.{ℕ, List, [], ◌∷◌, Some, None, Option}
use Rattle.std.specs.Option.{option_to_list}
use Rattle.source.specs.declared.ending.Damage.TheVariants as damage
use Rattle.source.specs.declared.ending.Ending.{Ending}
use Rattle.source.specs.declared.ending.Ending.TheVariants.{Clean, Damaged}
use Rattle.source.specs.declared.hex.HexTurn.{HexTurn}
use Rattle.source.specs.declared.hex.HexTurn.TheVariants.{Wait, Put, Last, Done, Stray}
use Rattle.source.specs.Hex.{hex_byte_of, hex_turn_of}
use Rattle.source.specs.Reads.{Read}
use Rattle.ascii.specs.declared.asciihex.AsciiHex.{AsciiHex}
use Rattle.decoding.specs.Ends.{above}
use Rattle.decoding.specs.Step.{Holds, Own, StepOf, makes, stops}

-- ASCIIHexDecode keeps nothing from step to step
abbrev pub HexState : Type 0
HexState = Unit {0}

abbrev pub hex_holds : AsciiHex → Holds HexState
hex_holds f = record { ready = option_to_list f.ready; compared = []; kind = tt }

-- what a byte does, where `left` is left behind it and `on` says how the step goes on: a white byte is passed over and a
-- first digit waits; two digits are a byte; > ends the filter, and a lone digit is then the last byte
abbrev pub hex_turn : HexTurn → List ℕ → (Option ℕ → Read (Own HexState)) → Read (Own HexState)
hex_turn (Wait half) left on = on half
hex_turn (Put v) left on = makes tt (v ∷ []) None left
hex_turn (Last v) left on = makes tt (v ∷ []) (Some Clean) left
hex_turn Done left on = makes tt [] (Some Clean) left
hex_turn Stray left on = makes tt [] (Some (Damaged damage.Stray 0)) left

-- a step where a first digit is pending, or none
abbrev pub hex_at : Option ℕ → List ℕ → Ending → Read (Own HexState)
hex_at pending [] e = stops tt (above e)
hex_at pending (b ∷ bs) e = hex_turn (hex_turn_of pending (hex_byte_of b)) bs (λ half. hex_at half bs e)

abbrev pub hex_step : StepOf HexState
hex_step k c bs e = hex_at None bs e
