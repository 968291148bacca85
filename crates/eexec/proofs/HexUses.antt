use Rattle.std.proofs.Common.{◌≡◌, ℕ, zero, suc, ◌-◌, ◌<◌, Bool, true, false, cond, ltb, List, [], ◌∷◌, Some, None, Ok, Err, Result, Option, sym, refl, ap, ◌∙◌, ap₂, arith}
use Rattle.std.specs.Result.{MatchResult, is_ok}
use Rattle.source.specs.declared.ending.Damage.TheVariants as damage
use Rattle.source.specs.declared.ending.Ending.{Ending}
use Rattle.source.specs.declared.ending.Ending.TheVariants.{Damaged}
use Rattle.source.specs.Bytes.{digit_value, digit_of}
use Rattle.source.specs.Hex.{paired}
use Rattle.source.specs.Model.{Model, first}
use Rattle.source.specs.Laws.{Lawful}
use Rattle.source.specs.Reads.{Read, Reads}
use Rattle.source.proofs.Walk.{Walk, walk_took}
use Rattle.source.proofs.Calls.{reads_took}
use Rattle.decoding.specs.Step.{Own}
use Rattle.eexec.specs.declared.cipherbytes.Form.TheVariants.{Hex}
use Rattle.eexec.specs.Cipher.{plain_of, key_after}
use Rattle.eexec.specs.CipherBytes.{CipherByte, Broken, CipherTurn, Wait, Put, Stray, blank, digit_turn, turn_of, cipher_turn, hex_cipher}
use Rattle.eexec.specs.Eexec.{EexecState, answered, known, with_answer, plain_by, drop_by, behind_of}
use Rattle.eexec.proofs.Errors.{was_ok}

-- what a byte does that is a digit, or none
digit_turns : (pending : Option ℕ) (b d : ℕ) → Some d ≡ digit_of 16 b → turn_of pending b ≡ digit_turn pending d
digit_turns pending b d q = by (ltb (digit_value b) 16) q
  where
    by :
        (t : Bool) → Some d ≡ cond t (Some (digit_value b)) None
        → cond t (digit_turn pending (digit_value b)) (cond (blank b) (Wait pending) Stray) ≡ digit_turn pending d
    by true q = let e : d ≡ digit_value b = cc in ap (digit_turn pending) (sym e)
    by false q = cc

other_turns : (pending : Option ℕ) (b : ℕ) (t : Bool) → None ≡ digit_of 16 b → t ≡ blank b → turn_of pending b ≡ cond t (Wait pending) Stray
other_turns pending b t q r = by (ltb (digit_value b) 16) q
  where
    by :
        (u : Bool) → None ≡ cond u (Some (digit_value b)) None
        → cond u (digit_turn pending (digit_value b)) (cond (blank b) (Wait pending) Stray) ≡ cond t (Wait pending) Stray
    by true q = cc
    by false q = ap (λ t. cond t (Wait pending) Stray) (sym r)

-- n plain bytes are dropped and then comes the next one, where r is the reading of a cipher byte
abbrev hex_by : ℕ → ℕ → Read CipherByte → Ending → Read (Own EexecState)
hex_by zero key r e = with_answer (plain_by Hex key r.answer) r
hex_by (suc n) key r e = drop_by Hex key r.answer r (λ key'. behind_of n Hex key' r.left e)

-- the same over what is left, where a first digit is pending or none
abbrev pub hex_on : ℕ → Option ℕ → ℕ → List ℕ → Ending → Read (Own EexecState)
hex_on n pending key rest e = hex_by n key (hex_cipher pending rest e) e

hex_none : (n key : ℕ) (rest : List ℕ) (e : Ending) → behind_of n Hex key rest e ≡ hex_on n None key rest e
hex_none zero key rest e = refl
hex_none (suc n) key rest e = refl

-- at a stray byte
hex_broken : (n key : ℕ) (rest : List ℕ) (z e : Ending)
    → record { answer = known Hex key [] (Some z); left = rest; peeked = false } ≡ hex_by n key (record { answer = Broken z; left = rest; peeked = false }) e
hex_broken zero key rest z e = refl
hex_broken (suc n) key rest z e = refl

-- a turn of the loop: x was held at its start, and x' after a take, whose answer is `changed` where its ending was changed
module _
    {H : Type 0} {m : Model H} (l : Lawful H m) {h x x' : H} (n : ℕ) (pending : Option ℕ) (all first_key key : ℕ)
    (k : Walk m h x (λ r. hex_on n pending key r (m.ending h)) (behind_of all Hex first_key (m.rest h) (m.ending h))) (t : x' ≡ m.taken x) where
  module _
      {b : ℕ} {taken changed : Result ℕ Ending} (Q : Ending → Type 0)
      (cases : MatchResult taken (λ y. changed ≡ Ok y) Q) (variant : is_ok changed ≡ is_ok taken) (was : changed ≡ Ok b)
      (answer : taken ≡ first (m.rest x) (m.ending x)) where
    p : Ok b ≡ first (m.rest x) (m.ending x)
    p = was_ok Q cases variant was ∙ answer

    turn : (u : CipherTurn) → turn_of pending b ≡ u
        → hex_on n pending key (b ∷ m.rest x') (m.ending h) ≡ hex_by n key (cipher_turn u (m.rest x') (λ v. hex_cipher v (m.rest x') (m.ending h))) (m.ending h)
    turn u q = ap (λ u. hex_by n key (cipher_turn u (m.rest x') (λ v. hex_cipher v (m.rest x') (m.ending h))) (m.ending h)) q

    wait : (half : Option ℕ) → turn_of pending b ≡ Wait half
        → Walk m h x' (λ r. hex_on n half key r (m.ending h)) (behind_of all Hex first_key (m.rest h) (m.ending h))
    wait half q = walk_took m l h x _ _ x' b (λ r. hex_on n half key r (m.ending h)) k p t (turn (Wait half) q)

    -- no digit
    module _ {half : Option ℕ} (none : half ≡ None) (told : half ≡ digit_of 16 b) where
      -- a blank
      pub hex_blank : true ≡ blank b → Walk m h x' (λ r. hex_on n pending key r (m.ending h)) (behind_of all Hex first_key (m.rest h) (m.ending h))
      hex_blank r = wait pending (other_turns pending b true (sym none ∙ told) r)

      pub hex_stray : false ≡ blank b → Reads m (behind_of all Hex first_key) h (answered Hex key (Err (Damaged damage.Stray 0))) x'
      hex_stray r =
          reads_took m l (behind_of all Hex first_key) h x x' _ k t (answered Hex key (Err (Damaged damage.Stray 0)))
          (record { answer = known Hex key [] (Some (Damaged damage.Stray 0)); left = m.rest x'; peeked = false }) refl b p
          (hex_broken n key (m.rest x') (Damaged damage.Stray 0) (m.ending h) ∙ sym (turn Stray (other_turns pending b false (sym none ∙ told) r))) refl refl

    module _ {d : ℕ} (q : Some d ≡ digit_of 16 b) where
      -- a first digit
      pub hex_first : pending ≡ None → Walk m h x' (λ r. hex_on n (Some d) key r (m.ending h)) (behind_of all Hex first_key (m.rest h) (m.ending h))
      hex_first f = wait (Some d) (digit_turns pending b d q ∙ ap (λ v. digit_turn v d) f)

      -- a second one
      module _ {high c key' : ℕ} (f : pending ≡ Some high) (is : c ≡ paired high d) (next : key' ≡ key_after key c) where
        put : turn_of pending b ≡ Put c
        put = digit_turns pending b d q ∙ (ap (λ v. digit_turn v d) f ∙ ap Put (sym is))

        -- whose plain byte is dropped
        pub hex_drop : 0 < n → Walk m h x' (λ r. hex_on (n - 1) None key' r (m.ending h)) (behind_of all Hex first_key (m.rest h) (m.ending h))
        hex_drop pos =
            let i : n ≡ suc (n - 1) = omega arith in
            walk_took m l h x _ _ x' b (λ r. hex_on (n - 1) None key' r (m.ending h)) k p t
            (turn (Put c) put
            ∙ (ap (λ n. hex_by n key (cipher_turn (Put c) (m.rest x') (λ v. hex_cipher v (m.rest x') (m.ending h))) (m.ending h)) i
            ∙ (hex_none (n - 1) (key_after key c) (m.rest x') (m.ending h)
            ∙ ap (λ y. hex_on (n - 1) None y (m.rest x') (m.ending h)) (sym next))))

        -- whose plain byte is handed up
        pub hex_kept : {y : ℕ} → y ≡ plain_of key c → n ≡ 0 → Reads m (behind_of all Hex first_key) h (answered Hex key' (Ok y)) x'
        hex_kept {y} z i =
            reads_took m l (behind_of all Hex first_key) h x x' _ k t (answered Hex key' (Ok y))
            (record { answer = known Hex (key_after key c) (plain_of key c ∷ []) None; left = m.rest x'; peeked = false })
            (ap₂ (λ key' y. answered Hex key' (Ok y)) next z) b p
            (sym (turn (Put c) put ∙ ap (λ n. hex_by n key (cipher_turn (Put c) (m.rest x') (λ v. hex_cipher v (m.rest x') (m.ending h))) (m.ending h)) i)) refl refl
