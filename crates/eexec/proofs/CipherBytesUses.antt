use Rattle.std.proofs.Common.{◌≡◌, ℕ, ◌<◌, true, false, ltb, List, [], ◌∷◌, None, Option, ap, ◌∙◌, arith}
use Rattle.std.proofs.lemmas.Bool.{cond-true, cond-false, lt-ltb}
use Rattle.std.proofs.lemmas.Bool.Decides.{nat_tests}
use Rattle.source.specs.declared.ending.Ending.{Ending}
use Rattle.source.specs.Bytes.{digit_value}
use Rattle.source.specs.Reads.{Read}
use Rattle.source.proofs.Calls.{Steady, steady_here, steady_next, steady_then}
use Rattle.eexec.specs.declared.cipherbytes.Form.{Form}
use Rattle.eexec.specs.declared.cipherbytes.Form.TheVariants.{Hex, Binary}
use Rattle.eexec.specs.CipherBytes.{CipherByte, CipherTurn, Wait, Put, Stray, blank, digit_turn, turn_of, cipher_turn, hex_cipher, cipher_read_of}

steady_turn :
    (u : CipherTurn) (b : ℕ) (bs : List ℕ) (on : Option ℕ → Read CipherByte) → ((half : Option ℕ) → Steady bs (on half).left (on half).peeked)
    → Steady (b ∷ bs) (cipher_turn u bs on).left (cipher_turn u bs on).peeked
steady_turn (Wait half) b bs on q = steady_then (steady_next b bs) (q half)
steady_turn (Put c) b bs on q = steady_next b bs
steady_turn Stray b bs on q = steady_next b bs

steady_hex : (pending : Option ℕ) (rest : List ℕ) (e : Ending) → Steady rest (hex_cipher pending rest e).left (hex_cipher pending rest e).peeked
steady_hex pending [] e = steady_here []
steady_hex pending (b ∷ bs) e = steady_turn (turn_of pending b) b bs (λ half. hex_cipher half bs e) (λ half. steady_hex half bs e)

pub steady_cipher : (form : Form) (rest : List ℕ) (e : Ending) → Steady rest (cipher_read_of form rest e).left (cipher_read_of form rest e).peeked
steady_cipher Hex rest e = steady_hex None rest e
steady_cipher Binary [] e = steady_here []
steady_cipher Binary (b ∷ bs) e = steady_next b bs

-- a blank is passed over; a digit has its value
pub blank_turn : (pending : Option ℕ) (b : ℕ) → blank b ≡ true → turn_of pending b ≡ Wait pending
blank_turn pending b p =
    let h : ltb (digit_value b) 16 ≡ false = grind (arith, nat_tests) in
    cond-false (ltb (digit_value b) 16) _ _ h ∙ cond-true (blank b) _ _ p

pub value_turn : (pending : Option ℕ) (b d : ℕ) → digit_value b ≡ d → d < 16 → turn_of pending b ≡ digit_turn pending d
value_turn pending b d p h =
    cond-true (ltb (digit_value b) 16) _ _ (lt-ltb (digit_value b) 16 (omega arith)) ∙ ap (digit_turn pending) p
