use Rattle.std.specs.Prelude.{◌≡◌, ℕ, true, false, List, [], ◌∷◌, ◌++◌, Some, None, codes}
use Rattle.source.specs.declared.ending.Damage.TheVariants.{Stray, CutShort}
use Rattle.source.specs.declared.ending.Ending.{Ending}
use Rattle.source.specs.declared.ending.Ending.TheVariants.{Clean, Damaged}
use Rattle.eexec.specs.declared.cipherbytes.Form.TheVariants.{Hex}
use Rattle.decoding.specs.Decoding.{Decoding, decode}
use Rattle.decoding.specs.Step.{makes}
use Rattle.eexec.specs.Eexec.{eexec_start, eexec_step}

-- the whole decoding of some bytes and an ending
abbrev pub opened : List ℕ → Ending → Decoding
opened bytes e = decode eexec_step eexec_start [] bytes e

-- ended at the end below, with all taken
abbrev pub to_the_end : List ℕ → Ending → Decoding
to_the_end bytes e = record { bytes = bytes; ending = e; left = []; peeked = true }

-- ended at a stray byte
abbrev pub stray_before : List ℕ → List ℕ → Decoding
stray_before bytes left = record { bytes = bytes; ending = Damaged Stray 0; left = left; peeked = false }

-- worked examples: D9 D6 6F 63 are four zeros enciphered, and 1E behind them is an A
pub record EexecExamples : Type 0 where
  pub binary : opened (0xD9 ∷ 0xD6 ∷ 0x6F ∷ 0x63 ∷ 0x1E ∷ []) Clean ≡ to_the_end (codes "A") Clean
  pub hex : opened (codes "D9D66F631E") Clean ≡ to_the_end (codes "A") Clean
  pub small_letters : opened (codes "d9d66f631e") Clean ≡ to_the_end (codes "A") Clean
  pub line_end_behind : opened (codes "D9D66F631E\r\n") Clean ≡ to_the_end (codes "A") Clean
  pub blanks_before : opened (codes " \tD9D66F631E") Clean ≡ to_the_end (codes "A") Clean
  pub blanks_between : opened (codes "D9D6 6\n F631 E") Clean ≡ to_the_end (codes "A") Clean
  -- nothing but what is dropped
  pub empty : opened (codes "D9D66F63") Clean ≡ to_the_end [] Clean
  pub empty_binary : opened (0xD9 ∷ 0xD6 ∷ 0x6F ∷ 0x63 ∷ []) Clean ≡ to_the_end [] Clean
  -- cut short: before four bytes, before four plain bytes, and behind a first digit
  pub only_blanks : opened (codes " \n") Clean ≡ to_the_end [] (Damaged CutShort 0)
  pub three_bytes : opened (0xD9 ∷ 0xD6 ∷ 0x6F ∷ []) Clean ≡ to_the_end [] (Damaged CutShort 0)
  pub three_plain : opened (codes "D9D66F") Clean ≡ to_the_end [] (Damaged CutShort 0)
  pub half_a_byte : opened (codes "D9D66F631E4") Clean ≡ to_the_end (codes "A") (Damaged CutShort 0)
  -- a damage below
  pub damage_below : opened (codes "D9D66F631E") (Damaged Stray 0) ≡ to_the_end (codes "A") (Damaged Stray 1)
  -- stray bytes, and what is left behind them; a form feed is no blank
  pub stray : opened (codes "d9d6zzzz") Clean ≡ stray_before [] (codes "zzz")
  pub form_feed : opened (codes "D9D66F63" ++ 12 ∷ codes "1E") Clean ≡ stray_before [] (codes "1E")
  pub stray_behind_digit : opened (codes "D9D66F631E4z41") Clean ≡ stray_before (codes "A") (codes "41")
  -- a blank among the first four bytes makes them binary
  pub blank_among_four : opened (codes "D9 D66") Clean ≡ to_the_end (191 ∷ 55 ∷ []) Clean
  -- the first step hands up one byte, and leaves the rest
  pub first_step :
      eexec_step eexec_start [] (codes "D9D66F631E41") Clean ≡ makes (record { form = Some Hex; key = 36567 }) (codes "A") None (codes "41")
