use Rattle.std.proofs.Common.{◌≡◌, ℕ, suc, ◌/◌, ◌%◌, ◌<◌, Bool, true, false, cond, ◌&&◌, List, [], ◌∷◌, ◌++◌, length, Some, None, Ok, Option, Result, sym, refl, ap, ◌∙◌, subst, ap₂, arith}
use lib.Bits.{bit_xor, xor_assoc, xor_self, xor_zero_r, xor_lt}
use Rattle.std.proofs.lemmas.Bool.{cond-true, cond-false, lt-ltb, and_from}
use Rattle.std.proofs.lemmas.Bool.Decides.{nat_tests}
use Rattle.source.specs.declared.ending.Ending.{Ending}
use Rattle.std.specs.List.{flat_map, list_all}
use Rattle.source.specs.Bytes.{digit_value, halves, Bytes}
use Rattle.source.specs.Hex.{paired}
use Rattle.source.specs.Reads.{Read}
use Rattle.eexec.specs.declared.cipherbytes.Form.{Form}
use Rattle.eexec.specs.declared.cipherbytes.Form.TheVariants.{Hex, Binary}
use Rattle.eexec.specs.Cipher.{plain_of, key_after, cipher_of, enciphered}
use Rattle.eexec.specs.CipherBytes.{CipherByte, Whole, Missing, blank, cipher_turn, hex_cipher}
use Rattle.decoding.specs.Ends.{passed}
use Rattle.decoding.specs.Step.{Own, makes}
use Rattle.decoding.specs.Decoding.{Decoding, then, decode}
use Rattle.decoding.specs.DecodeSteps.{decode_step}
use Rattle.eexec.specs.Eexec.{EexecState, hexadecimal, form_of, key_behind, still, lead_of, head_by, with_answer, plain_by, drop_by, behind_of, begin_by, eexec_start, eexec_step}
use Rattle.eexec.specs.EexecSound.{eexec_lawful}
use Rattle.eexec.proofs.CipherBytesUses.{blank_turn, value_turn}
use Rattle.eexec.specs.EexecLaw.{Blanks, values, EexecLaw}
use Rattle.eexec.specs.EexecExamples.{EexecExamples}

pub eexec_worked : EexecExamples
unfolding decode
eexec_worked = record {
  binary = refl;
  hex = refl;
  small_letters = refl;
  line_end_behind = refl;
  blanks_before = refl;
  blanks_between = refl;
  empty = refl;
  empty_binary = refl;
  only_blanks = refl;
  three_bytes = refl;
  three_plain = refl;
  half_a_byte = refl;
  damage_below = refl;
  stray = refl;
  form_feed = refl;
  stray_behind_digit = refl;
  blank_among_four = refl;
  first_step = refl;
}

-- deciphering undoes enciphering
unciphered : (key p : ℕ) → plain_of key (cipher_of key p) ≡ p
unciphered key p = xor_assoc p (key / 256) (key / 256) ∙ (ap (bit_xor p) (xor_self (key / 256)) ∙ xor_zero_r p)

cipher_byte : (key p : ℕ) → key < 65536 → p < 256 → cipher_of key p < 256
cipher_byte key p h q = let k : key / 256 < 256 = omega arith in xor_lt 8 p (key / 256) q k

key_small : (key c : ℕ) → key_after key c < 65536
key_small key c = omega arith

-- all the plain bytes, up to the end below
abbrev whole : List ℕ → Ending → Decoding
whole plain e = record { bytes = plain; ending = passed e; left = []; peeked = true }

-- what comes after a step
abbrev after : Ending → Read (Own EexecState) → Decoding
after e s = then s.answer.ended s (decode eexec_step s.answer.kind s.answer.compared s.left e)

decoded : (k : EexecState) (bs : List ℕ) (e : Ending) (s : Read (Own EexecState)) → eexec_step k [] bs e ≡ s → decode eexec_step k [] bs e ≡ after e s
decoded k bs e s p = decode_step eexec_step eexec_lawful k [] bs e ∙ ap (after e) p

-- one more plain byte
decoded_byte :
    (k k' : EexecState) (bs left : List ℕ) (e : Ending) (x p : ℕ) (plain : List ℕ) → eexec_step k [] bs e ≡ makes k' (x ∷ []) None left → x ≡ p
    → decode eexec_step k' [] left e ≡ whole plain e → decode eexec_step k [] bs e ≡ whole (p ∷ plain) e
decoded_byte k k' bs left e x p plain s q d =
    decoded k bs e _ s
    ∙ ap₂ (λ x (d : Decoding). let w : Decoding = record { bytes = x ∷ d.bytes; ending = d.ending; left = d.left; peeked = d.peeked } in w) q d

-- a step that does what another one does
decoded_as : (k k' : EexecState) (bs left : List ℕ) (e : Ending) → eexec_step k [] bs e ≡ eexec_step k' [] left e → decode eexec_step k [] bs e ≡ decode eexec_step k' [] left e
decoded_as k k' bs left e p = decoded k bs e _ p ∙ sym (decode_step eexec_step eexec_lawful k' [] left e)

-- the plain bytes behind the dropped ones, in the binary form
binary_plain : (plain : List ℕ) (key : ℕ) (e : Ending) → decode eexec_step (record { form = Some Binary; key = key }) [] (enciphered key plain) e ≡ whole plain e
binary_plain [] key e = decoded (record { form = Some Binary; key = key }) [] e _ refl
binary_plain (p ∷ plain) key e =
    decoded_byte (record { form = Some Binary; key = key }) (record { form = Some Binary; key = key_after key (cipher_of key p) })
    (enciphered key (p ∷ plain)) (enciphered (key_after key (cipher_of key p)) plain) e (plain_of key (cipher_of key p)) p plain refl (unciphered key p)
    (binary_plain plain (key_after key (cipher_of key p)) e)

no_blank : (b : ℕ) → digit_value b < 16 → blank b ≡ false
no_blank b h = grind (arith, nat_tests)

-- a cipher byte is spelled first, and the values vs behind it
record Spelled (pending : Option ℕ) (rest : List ℕ) (e : Ending) (c : ℕ) (vs : List ℕ) : Type 0 where
  left : List ℕ
  is : hex_cipher pending rest e ≡ record { answer = Whole c; left = left; peeked = false }
  more : values left ≡ vs

spelled_blank : (pending : Option ℕ) (b : ℕ) (bs : List ℕ) (e : Ending) (c : ℕ) (vs : List ℕ) → blank b ≡ true → Spelled pending bs e c vs → Spelled pending (b ∷ bs) e c vs
spelled_blank pending b bs e c vs q z = record {
  left = z.left;
  is = ap (λ u. cipher_turn u bs (λ half. hex_cipher half bs e)) (blank_turn pending b q) ∙ z.is;
  more = z.more;
}

-- its second digit
spelled_low : (rest : List ℕ) (e : Ending) (high low : ℕ) (vs : List ℕ) → low < 16 → values rest ≡ low ∷ vs → Spelled (Some high) rest e (paired high low) vs
spelled_low [] e high low vs h p = let z : ◌≡◌ {A = ℕ} 0 1 = cc in let no_way : ⊥ = omega arith in absurd no_way
spelled_low (b ∷ bs) e high low vs h p = by (blank b) refl p (spelled_low bs e high low vs h)
  where
    by :
        (t : Bool) → blank b ≡ t → cond t (values bs) (digit_value b ∷ values bs) ≡ low ∷ vs → (values bs ≡ low ∷ vs → Spelled (Some high) bs e (paired high low) vs)
        → Spelled (Some high) (b ∷ bs) e (paired high low) vs
    by true q p on = spelled_blank (Some high) b bs e (paired high low) vs q (on p)
    by false q p on =
        let v : digit_value b ≡ low = cc in
        record {
          left = bs;
          is = ap (λ u. cipher_turn u bs (λ half. hex_cipher half bs e)) (value_turn (Some high) b low v h);
          more = cc;
        }

-- both digits
spelled_both :
    (rest : List ℕ) (e : Ending) (high low : ℕ) (vs : List ℕ) → high < 16 → low < 16 → values rest ≡ high ∷ low ∷ vs → Spelled None rest e (paired high low) vs
spelled_both [] e high low vs h l p = let z : ◌≡◌ {A = ℕ} 0 1 = cc in let no_way : ⊥ = omega arith in absurd no_way
spelled_both (b ∷ bs) e high low vs h l p = by (blank b) refl p (spelled_both bs e high low vs h l)
  where
    by :
        (t : Bool) → blank b ≡ t → cond t (values bs) (digit_value b ∷ values bs) ≡ high ∷ low ∷ vs → (values bs ≡ high ∷ low ∷ vs → Spelled None bs e (paired high low) vs)
        → Spelled None (b ∷ bs) e (paired high low) vs
    by true q p on = spelled_blank None b bs e (paired high low) vs q (on p)
    by false q p on =
        let v : digit_value b ≡ high = cc in
        let w : values bs ≡ low ∷ vs = cc in
        let z = spelled_low bs e high low vs l w in
        record {
          left = z.left;
          is = ap (λ u. cipher_turn u bs (λ half. hex_cipher half bs e)) (value_turn None b high v h) ∙ z.is;
          more = z.more;
        }

pair_whole : (c : ℕ) → c < 256 → paired (c / 16) (c % 16) ≡ c
pair_whole c h = omega arith

spelled_byte : (rest : List ℕ) (e : Ending) (c : ℕ) (cs : List ℕ) → c < 256 → values rest ≡ flat_map halves (c ∷ cs) → Spelled None rest e c (flat_map halves cs)
spelled_byte rest e c cs h p =
    let a : c / 16 < 16 = omega arith in
    let b : c % 16 < 16 = omega arith in
    subst (λ x. Spelled None rest e x (flat_map halves cs)) (pair_whole c h) (spelled_both rest e (c / 16) (c % 16) (flat_map halves cs) a b p)

-- nothing but blanks
spelled_none : (rest : List ℕ) (e : Ending) → values rest ≡ [] → hex_cipher None rest e ≡ record { answer = Missing e; left = []; peeked = true }
spelled_none [] e p = refl
spelled_none (b ∷ bs) e p = by (blank b) refl p (spelled_none bs e)
  where
    by :
        (t : Bool) → blank b ≡ t → cond t (values bs) (digit_value b ∷ values bs) ≡ []
        → (values bs ≡ [] → hex_cipher None bs e ≡ record { answer = Missing e; left = []; peeked = true })
        → hex_cipher None (b ∷ bs) e ≡ record { answer = Missing e; left = []; peeked = true }
    by true q p on = ap (λ u. cipher_turn u bs (λ half. hex_cipher half bs e)) (blank_turn None b q) ∙ on p
    by false q p on = let z : ◌≡◌ {A = ℕ} 0 1 = cc in let no_way : ⊥ = omega arith in absurd no_way

-- the plain bytes behind the dropped ones, in the hexadecimal form
hex_plain :
    (plain : List ℕ) (key : ℕ) (rest : List ℕ) (e : Ending) → Bytes plain → key < 65536 → values rest ≡ flat_map halves (enciphered key plain)
    → decode eexec_step (record { form = Some Hex; key = key }) [] rest e ≡ whole plain e
hex_plain [] key rest e f h p =
    decoded (record { form = Some Hex; key = key }) rest e _ (ap (λ (r : Read CipherByte). with_answer (plain_by Hex key r.answer) r) (spelled_none rest e p))
hex_plain (p ∷ plain) key rest e f h q =
    let z = spelled_byte rest e (cipher_of key p) (enciphered (key_after key (cipher_of key p)) plain) (cipher_byte key p h f.0) q in
    decoded_byte (record { form = Some Hex; key = key }) (record { form = Some Hex; key = key_after key (cipher_of key p) })
    rest z.left e (plain_of key (cipher_of key p)) p plain
    (ap (λ (r : Read CipherByte). with_answer (plain_by Hex key r.answer) r) z.is) (unciphered key p)
    (hex_plain plain (key_after key (cipher_of key p)) z.left e f.1 (key_small key (cipher_of key p)) z.more)

-- the first byte behind blanks, and the first four
lead_passed :
    (lead : List ℕ) (a : ℕ) (rest : List ℕ) (e : Ending) → Blanks lead → blank a ≡ false
    → lead_of (lead ++ a ∷ rest) e ≡ record { answer = Ok a; left = rest; peeked = false }
lead_passed [] a rest e f p = cond-false (blank a) _ _ p
lead_passed (b ∷ lead) a rest e f p = cond-true (blank b) _ _ f.0 ∙ lead_passed lead a rest e f.1 p

-- the first step behind them
begun :
    (lead : List ℕ) (a b c d : ℕ) (rest : List ℕ) (e : Ending) (form : Form) → Blanks lead → blank a ≡ false
    → form_of (a ∷ b ∷ c ∷ d ∷ []) ≡ form
    → eexec_step eexec_start [] (lead ++ a ∷ b ∷ c ∷ d ∷ rest) e
    ≡ behind_of (still form) form (key_behind form (a ∷ b ∷ c ∷ d ∷ []) 55665) rest e
begun lead a b c d rest e form f p q =
    ap (λ (r : Read (Result ℕ Ending)). begin_by eexec_start (head_by r.answer r e).answer (head_by r.answer r e) e) (lead_passed lead a (b ∷ c ∷ d ∷ rest) e f p)
    ∙ ap (λ form. behind_of (still form) form (key_behind form (a ∷ b ∷ c ∷ d ∷ []) 55665) rest e) q

-- the key behind four plain bytes
abbrev key_four : ℕ → ℕ → ℕ → ℕ → ℕ
key_four a b c d = key_after (key_after (key_after (key_after 55665 a) b) c) d

-- four bytes of digits
four_digits : (a b c d : ℕ) → list_all hexadecimal (a ∷ b ∷ c ∷ d ∷ []) ≡ (hexadecimal a && (hexadecimal b && (hexadecimal c && hexadecimal d)))
four_digits a b c d = ap (λ t. hexadecimal a && (hexadecimal b && (hexadecimal c && t))) (by (hexadecimal d))
  where
    by : (t : Bool) → (t && true) ≡ t
    by true = refl
    by false = refl

binary_begun :
    (a b c d : ℕ) (rest : List ℕ) (e : Ending) → blank a ≡ false → (hexadecimal a && (hexadecimal b && (hexadecimal c && hexadecimal d))) ≡ false
    → decode eexec_step eexec_start [] (a ∷ b ∷ c ∷ d ∷ rest) e ≡ decode eexec_step (record { form = Some Binary; key = key_four a b c d }) [] rest e
binary_begun a b c d rest e p q =
    decoded_as eexec_start (record { form = Some Binary; key = key_four a b c d }) (a ∷ b ∷ c ∷ d ∷ rest) rest e
    (begun [] a b c d rest e Binary tt p (cond-false (list_all hexadecimal (a ∷ b ∷ c ∷ d ∷ [])) _ _ (four_digits a b c d ∙ q)))

-- a list of four
of_four : (P : List ℕ → Type 0) → ((s t u v : ℕ) → P (s ∷ t ∷ u ∷ v ∷ [])) → (salt : List ℕ) → length salt ≡ 4 → P salt
of_four P f [] h = let no_way : ⊥ = omega arith in absurd no_way
of_four P f (s ∷ []) h = let no_way : ⊥ = omega arith in absurd no_way
of_four P f (s ∷ t ∷ []) h = let no_way : ⊥ = omega arith in absurd no_way
of_four P f (s ∷ t ∷ u ∷ []) h = let no_way : ⊥ = omega arith in absurd no_way
of_four P f (s ∷ t ∷ u ∷ v ∷ []) h = f s t u v
of_four P f (s ∷ t ∷ u ∷ v ∷ w ∷ ws) h = let no_way : ⊥ = omega arith in absurd no_way

-- the key behind the four cipher bytes of s t u v
abbrev second : ℕ → ℕ
second s = key_after 55665 (cipher_of 55665 s)

abbrev third : ℕ → ℕ → ℕ
third s t = key_after (second s) (cipher_of (second s) t)

abbrev fourth : ℕ → ℕ → ℕ → ℕ
fourth s t u = key_after (third s t) (cipher_of (third s t) u)

abbrev fifth : ℕ → ℕ → ℕ → ℕ → ℕ
fifth s t u v = key_after (fourth s t u) (cipher_of (fourth s t u) v)

binary_law :
    (s t u v : ℕ) (plain : List ℕ) (a b c d : ℕ) (rest : List ℕ) (e : Ending)
    → enciphered 55665 (s ∷ t ∷ u ∷ v ∷ plain) ≡ a ∷ b ∷ c ∷ d ∷ rest → blank a ≡ false
    → (hexadecimal a && (hexadecimal b && (hexadecimal c && hexadecimal d))) ≡ false
    → decode eexec_step eexec_start [] (a ∷ b ∷ c ∷ d ∷ rest) e ≡ whole plain e
binary_law s t u v plain a b c d rest e p q r =
    let one : cipher_of 55665 s ≡ a = cc in
    let two : cipher_of (second s) t ≡ b = cc in
    let three : cipher_of (third s t) u ≡ c = cc in
    let four : cipher_of (fourth s t u) v ≡ d = cc in
    let more : enciphered (fifth s t u v) plain ≡ rest = cc in
    let key : key_four (cipher_of 55665 s) (cipher_of (second s) t) (cipher_of (third s t) u) (cipher_of (fourth s t u) v) ≡ key_four a b c d =
    ap₂ (λ a b. key_four a b (cipher_of (third s t) u) (cipher_of (fourth s t u) v)) one two ∙ ap₂ (λ c d. key_four a b c d) three four in
    binary_begun a b c d rest e q r
    ∙ (sym (ap₂ (λ key rest. decode eexec_step (record { form = Some Binary; key = key }) [] rest e) key more) ∙ binary_plain plain (fifth s t u v) e)

-- a cipher byte whose plain byte is dropped
dropped :
    (n key : ℕ) (rest : List ℕ) (e : Ending) (c : ℕ) (vs : List ℕ) (z : Spelled None rest e c vs)
    → behind_of (suc n) Hex key rest e ≡ behind_of n Hex (key_after key c) z.left e
dropped n key rest e c vs z = ap (λ (r : Read CipherByte). drop_by Hex key r.answer r (λ key'. behind_of n Hex key' r.left e)) z.is

-- four digits begin the hexadecimal form
hex_form :
    (a b c d : ℕ) → digit_value a < 16 → digit_value b < 16 → digit_value c < 16 → digit_value d < 16
    → form_of (a ∷ b ∷ c ∷ d ∷ []) ≡ Hex
hex_form a b c d p q r s =
    cond-true (list_all hexadecimal (a ∷ b ∷ c ∷ d ∷ [])) _ _
    (four_digits a b c d
    ∙ and_from (hexadecimal a) _ (lt-ltb (digit_value a) 16 p)
    (and_from (hexadecimal b) _ (lt-ltb (digit_value b) 16 q)
    (and_from (hexadecimal c) (hexadecimal d) (lt-ltb (digit_value c) 16 r) (lt-ltb (digit_value d) 16 s))))

-- the first step, over the cipher bytes w x y z, and then the plain bytes
hex_whole :
    (lead : List ℕ) (a b c d : ℕ) (rest : List ℕ) (e : Ending) (w x y z : ℕ) (plain : List ℕ)
    → Blanks lead → Bytes plain → w < 256 → x < 256 → y < 256 → z < 256
    → digit_value a ≡ w / 16 → digit_value b ≡ w % 16 → digit_value c ≡ x / 16 → digit_value d ≡ x % 16
    → values rest ≡ flat_map halves (y ∷ z ∷ enciphered (key_four w x y z) plain)
    → decode eexec_step eexec_start [] (lead ++ a ∷ b ∷ c ∷ d ∷ rest) e ≡ whole plain e
hex_whole lead a b c d rest e w x y z plain f g hw hx hy hz p q r s t =
    let third = spelled_byte rest e y (z ∷ enciphered (key_four w x y z) plain) hy t in
    let fourth = spelled_byte third.left e z (enciphered (key_four w x y z) plain) hz third.more in
    let ha : digit_value a < 16 = omega arith in
    let hb : digit_value b < 16 = omega arith in
    let hc : digit_value c < 16 = omega arith in
    let hd : digit_value d < 16 = omega arith in
    let one : paired (digit_value a) (digit_value b) ≡ w = ap₂ paired p q ∙ pair_whole w hw in
    let two : paired (digit_value c) (digit_value d) ≡ x = ap₂ paired r s ∙ pair_whole x hx in
    decoded_as eexec_start (record { form = Some Hex; key = key_four w x y z }) (lead ++ a ∷ b ∷ c ∷ d ∷ rest) fourth.left e
    (begun lead a b c d rest e Hex f (no_blank a ha) (hex_form a b c d ha hb hc hd)
    ∙ (ap₂ (λ v w. behind_of 2 Hex (key_after (key_after 55665 v) w) rest e) one two
    ∙ (dropped 1 (key_after (key_after 55665 w) x) rest e y _ third
    ∙ dropped 0 (key_after (key_after (key_after 55665 w) x) y) third.left e z _ fourth)))
    ∙ hex_plain plain (key_four w x y z) fourth.left e g (key_small (key_after (key_after (key_after 55665 w) x) y) z) fourth.more

hex_law :
    (s t u v : ℕ) (plain lead : List ℕ) (a b c d : ℕ) (rest : List ℕ) (e : Ending) → Bytes (s ∷ t ∷ u ∷ v ∷ plain) → Blanks lead
    → digit_value a ∷ digit_value b ∷ digit_value c ∷ digit_value d ∷ values rest ≡ flat_map halves (enciphered 55665 (s ∷ t ∷ u ∷ v ∷ plain))
    → decode eexec_step eexec_start [] (lead ++ a ∷ b ∷ c ∷ d ∷ rest) e ≡ whole plain e
hex_law s t u v plain lead a b c d rest e f g p =
    let start : 55665 < 65536 = omega arith in
    let one : digit_value a ≡ cipher_of 55665 s / 16 = cc in
    let two : digit_value b ≡ cipher_of 55665 s % 16 = cc in
    let three : digit_value c ≡ cipher_of (second s) t / 16 = cc in
    let four : digit_value d ≡ cipher_of (second s) t % 16 = cc in
    let more : values rest ≡ flat_map halves (cipher_of (third s t) u ∷ cipher_of (fourth s t u) v ∷ enciphered (fifth s t u v) plain) = cc in
    hex_whole lead a b c d rest e (cipher_of 55665 s) (cipher_of (second s) t) (cipher_of (third s t) u) (cipher_of (fourth s t u) v) plain g f.1.1.1.1
    (cipher_byte 55665 s start f.0)
    (cipher_byte (second s) t (key_small 55665 (cipher_of 55665 s)) f.1.0)
    (cipher_byte (third s t) u (key_small (second s) (cipher_of (second s) t)) f.1.1.0)
    (cipher_byte (fourth s t u) v (key_small (third s t) (cipher_of (third s t) u)) f.1.1.1.0)
    one two three four more

pub eexec_law : EexecLaw
eexec_law = record {
  binary = λ salt plain a b c d rest e h.
      of_four
      (λ salt. enciphered 55665 (salt ++ plain) ≡ a ∷ b ∷ c ∷ d ∷ rest → blank a ≡ false
      → (hexadecimal a && (hexadecimal b && (hexadecimal c && hexadecimal d))) ≡ false
      → decode eexec_step eexec_start [] (a ∷ b ∷ c ∷ d ∷ rest) e ≡ whole plain e)
      (λ s t u v. binary_law s t u v plain a b c d rest e) salt h;
  hex = λ salt plain lead a b c d rest e h.
      of_four
      (λ salt. Bytes (salt ++ plain) → Blanks lead
      → digit_value a ∷ digit_value b ∷ digit_value c ∷ digit_value d ∷ values rest ≡ flat_map halves (enciphered 55665 (salt ++ plain))
      → decode eexec_step eexec_start [] (lead ++ a ∷ b ∷ c ∷ d ∷ rest) e ≡ whole plain e)
      (λ s t u v. hex_law s t u v plain lead a b c d rest e) salt h;
}
