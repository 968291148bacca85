use Rattle.std.proofs.Common.{◌≡◌, ℕ, ◌+◌, ◌*◌, ◌/◌, ◌%◌, ◌<◌, Bool, true, false, cond, ◌||◌, ltb, List, [], ◌∷◌, ◌++◌, map, IfSome, Some, None, Option, sym, refl, ap, ◌∙◌, ap₂, arith}
use Rattle.std.specs.List.{flat_map}
use Rattle.std.specs.Option.{option_to_list}
use Rattle.std.proofs.lemmas.Bool.{cond-true, ltb-true}
use Rattle.std.proofs.lemmas.Bool.Decides.{nat_tests}
use Rattle.source.specs.declared.ending.Ending.{Ending}
use Rattle.source.specs.declared.ending.Ending.TheVariants.{Clean}
use Rattle.source.specs.declared.hex.HexByte.{HexByte}
use Rattle.source.specs.declared.hex.HexByte.TheVariants as byte
use Rattle.source.specs.Bytes.{white, unspaced, digit_value, halves, Bytes}
use Rattle.source.specs.Hex.{hex_byte_of, hex_turn_of, paired}
use Rattle.source.specs.Reads.{Read}
use Rattle.decoding.specs.Decoding.{Decoding, gives, then, decode}
use Rattle.decoding.specs.Step.{Own}
use Rattle.decoding.specs.DecodeSteps.{decode_step}
use Rattle.ascii.specs.AsciiHex.{HexState, hex_turn, hex_at, hex_step}
use Rattle.ascii.specs.AsciiHexSound.{hex_lawful}
use Rattle.ascii.specs.AsciiHexLaw.{Digital, shown, pairs, AsciiHexLaw}
use Rattle.ascii.specs.AsciiHexExamples.{AsciiHexExamples}

-- a white byte is no digit, and a digit is not white
white_tells : (b : ℕ) → white b ≡ true → hex_byte_of b ≡ byte.White
white_tells b h = grind (arith, nat_tests)

digit_tells : (b : ℕ) → white b || ltb (digit_value b) 16 ≡ true → white b ≡ false → (hex_byte_of b ≡ byte.Digit (digit_value b)) × (digit_value b < 16)
digit_tells b h w =
    let t : ltb (digit_value b) 16 ≡ true = sym (ap (λ x. x || ltb (digit_value b) 16) w) ∙ h in
    (cond-true (ltb (digit_value b) 16) _ _ t, ltb-true (digit_value b) 16 t)

module _ (behind : List ℕ) (e : Ending) where
  -- a decoding from inside a step
  abbrev on : Read (Own HexState) → Decoding
  on s = then s.answer.ended s (decode hex_step s.answer.kind s.answer.compared s.left e)

  -- what the byte b does
  turned :
      (b : ℕ) (k : HexByte) (rest : List ℕ) (pending : Option ℕ) → hex_byte_of b ≡ k
      → on (hex_at pending (b ∷ rest) e) ≡ on (hex_turn (hex_turn_of pending k) rest (λ half. hex_at half rest e))
  turned b k rest pending q = ap (λ k. on (hex_turn (hex_turn_of pending k) rest (λ half. hex_at half rest e))) q

  spelled :
      (text : List ℕ) → Digital text → (pending : Option ℕ) → IfSome pending (λ d. d < 16)
      → on (hex_at pending (text ++ 62 ∷ behind) e) ≡ gives (pairs (option_to_list pending ++ shown text)) Clean behind false
  spelled [] d None f = refl
  spelled [] d (Some high) f = let z : 16 * (high % 16) + 0 ≡ 16 * high = omega arith in ap (λ v. gives (v ∷ []) Clean behind false) z
  spelled (b ∷ text) d pending f = by (white b) refl pending f (spelled text d.1)
    where
      shows : (w : Bool) (pending : Option ℕ) → white b ≡ w
          → gives (pairs (option_to_list pending ++ map digit_value (cond w (unspaced text) (b ∷ unspaced text)))) Clean behind false ≡ gives (pairs (option_to_list pending ++ shown (b ∷ text))) Clean behind false
      shows w pending q = ap (λ w. gives (pairs (option_to_list pending ++ map digit_value (cond w (unspaced text) (b ∷ unspaced text)))) Clean behind false) (sym q)

      by :
          (w : Bool) → white b ≡ w → (pending : Option ℕ) → IfSome pending (λ d. d < 16)
          → ((pending : Option ℕ) → IfSome pending (λ d. d < 16) → on (hex_at pending (text ++ 62 ∷ behind) e) ≡ gives (pairs (option_to_list pending ++ shown text)) Clean behind false)
          → on (hex_at pending (b ∷ text ++ 62 ∷ behind) e) ≡ gives (pairs (option_to_list pending ++ shown (b ∷ text))) Clean behind false
      by true w pending f ih = turned b byte.White (text ++ 62 ∷ behind) pending (white_tells b w) ∙ (ih pending f ∙ shows true pending w)
      by false w None f ih =
          let t = digit_tells b d.0 w in
          turned b (byte.Digit (digit_value b)) (text ++ 62 ∷ behind) None t.0 ∙ (ih (Some (digit_value b)) t.1 ∙ shows false None w)
      by false w (Some high) f ih =
          let t = digit_tells b d.0 w in
          let small : digit_value b < 16 = t.1 in
          let v : paired high (digit_value b) ≡ 16 * high + digit_value b = omega arith in
          let next : decode hex_step tt [] (text ++ 62 ∷ behind) e ≡ gives (pairs (shown text)) Clean behind false
          = decode_step hex_step hex_lawful tt [] (text ++ 62 ∷ behind) e ∙ ih None tt in
          turned b (byte.Digit (digit_value b)) (text ++ 62 ∷ behind) (Some high) t.0
          ∙ (ap₂ (λ (v : ℕ) (d : Decoding). let x : Decoding = record { bytes = v ∷ d.bytes; ending = d.ending; left = d.left; peeked = d.peeked } in x) v next
          ∙ shows false (Some high) w)

-- a byte is its two halves
halved : (bs : List ℕ) → Bytes bs → pairs (flat_map halves bs) ≡ bs
halved [] f = refl
halved (b ∷ bs) f = let z : 16 * (b / 16) + b % 16 ≡ b = omega arith in ap₂ (λ v vs. v ∷ vs) z (halved bs f.1)

digits_law : (text behind : List ℕ) (e : Ending) → Digital text → decode hex_step tt [] (text ++ 62 ∷ behind) e ≡ gives (pairs (shown text)) Clean behind false
digits_law text behind e d = decode_step hex_step hex_lawful tt [] (text ++ 62 ∷ behind) e ∙ spelled behind e text d None tt

pub ascii_hex_law : AsciiHexLaw
ascii_hex_law = record {
  bytes = λ bs text behind e f d q. digits_law text behind e d ∙ ap (λ b. gives b Clean behind false) (ap pairs q ∙ halved bs f);
  digits = digits_law;
}

pub worked_hex : AsciiHexExamples
unfolding decode
worked_hex = record {
  spaced = refl;
  lone = refl;
  empty = refl;
  both_cases = refl;
  all_white = refl;
  stray = refl;
  beyond_nine = refl;
  beyond_f = refl;
  beyond_capital_f = refl;
  tab_of_lines = refl;
  cut_short = refl;
  damage_below = refl;
  deepest = refl;
  one_step = refl;
  last_step = refl;
}
