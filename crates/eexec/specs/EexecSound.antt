use Rattle.std.specs.Prelude.{◌≡◌, ℕ, zero, suc, ◌+◌, ◌<◌, ◌≤◌, Bool, true, false, cond, List, [], ◌∷◌, length, Some, None, Ok, Err, Option, Result, ◌≢◌, refl}
use Rattle.std.proofs.Common.{sym, arith}
use Rattle.std.specs.Option.{option_to_list}
use Rattle.source.specs.declared.ending.Ending.{Ending}
use Rattle.source.specs.Gone.{Behind}
use Rattle.source.specs.Reads.{Read}
use Rattle.source.proofs.Going.{behind_self, behind_trans, behind_fewer}
use Rattle.eexec.specs.declared.cipherbytes.Form.{Form}
use Rattle.eexec.specs.declared.cipherbytes.Form.TheVariants.{Hex, Binary}
use Rattle.eexec.specs.declared.eexec.Eexec.{Eexec}
use Rattle.eexec.specs.Cipher.{plain_of, key_after}
use Rattle.eexec.specs.CipherBytes.{CipherByte, Whole, Missing, Broken, CipherTurn, Wait, Put, Stray, blank, turn_of, cipher_turn, hex_cipher, cipher_read_of}
use Rattle.decoding.specs.Step.{Own, Sound, LawfulStep}
use Rattle.decoding.specs.SoundSteps.{none_some, false_true, sound_behind}
use Rattle.eexec.specs.Eexec.{EexecState, eexec_holds, form_of, key_behind, still, lead_of, four_of, head_by, head_of, with_answer, plain_by, plain_read_of, drop_by, behind_of, begin_by, begin_of, eexec_by, eexec_step}

-- a reading goes on behind what it took, and met the end only where nothing is left
record Fair {A : Type 0} (bs : List ℕ) (r : Read A) : Type 0 where
  behind : Behind r.left bs
  met_end : r.peeked ≡ true → r.left ≡ []

-- and takes something for a cipher byte
record Taking (bs : List ℕ) (r : Read CipherByte) : Type 0 where
  fair : Fair bs r
  moved : (c : ℕ) → r.answer ≡ Whole c → length r.left < length bs

fair_on : {A : Type 0} (b : ℕ) (bs : List ℕ) (r : Read A) → Fair bs r → Fair (b ∷ bs) r
fair_on b bs r q = record { behind = behind_trans q.behind (record { front = b ∷ []; joined = refl }); met_end = q.met_end }

fair_next : {A : Type 0} (b : ℕ) (bs : List ℕ) (x : A) → Fair (b ∷ bs) (record { answer = x; left = bs; peeked = false })
fair_next b bs x = record { behind = record { front = b ∷ []; joined = refl }; met_end = λ e. false_true e }

fair_end : {A : Type 0} (x : A) → Fair [] (record { answer = x; left = []; peeked = true })
fair_end x = record { behind = behind_self []; met_end = λ e. refl }

next_taking : (b : ℕ) (bs : List ℕ) (x : CipherByte) → Taking (b ∷ bs) (record { answer = x; left = bs; peeked = false })
next_taking b bs x = record { fair = fair_next b bs x; moved = λ c p. omega arith }

turn_taking :
    (u : CipherTurn) (b : ℕ) (bs : List ℕ) (on : Option ℕ → Read CipherByte) → ((half : Option ℕ) → Taking bs (on half)) → Taking (b ∷ bs) (cipher_turn u bs on)
turn_taking (Wait half) b bs on q = record { fair = fair_on b bs (on half) (q half).fair; moved = λ c p. omega (arith, (q half).moved c p) }
turn_taking (Put c) b bs on q = next_taking b bs (Whole c)
turn_taking Stray b bs on q = next_taking b bs _

-- no cipher byte came at the end
none_whole : (pending : Option ℕ) (e : Ending) (c : ℕ) → (hex_cipher pending [] e).answer ≢ Whole c
none_whole None e c p = let z : ◌≡◌ {A = ℕ} 0 1 = cc in omega arith
none_whole (Some d) e c p = let z : ◌≡◌ {A = ℕ} 0 1 = cc in omega arith

hex_taking : (pending : Option ℕ) (bs : List ℕ) (e : Ending) → Taking bs (hex_cipher pending bs e)
hex_taking pending [] e = record { fair = fair_end _; moved = λ c p. absurd (none_whole pending e c p) }
hex_taking pending (b ∷ bs) e = turn_taking (turn_of pending b) b bs (λ half. hex_cipher half bs e) (λ half. hex_taking half bs e)

cipher_taking : (form : Form) (bs : List ℕ) (e : Ending) → Taking bs (cipher_read_of form bs e)
cipher_taking Hex bs e = hex_taking None bs e
cipher_taking Binary [] e = record { fair = fair_end _; moved = λ c p. absurd (none_whole None e c p) }
cipher_taking Binary (b ∷ bs) e = next_taking b bs (Whole b)

-- a step that ended where a reading did
ended_sound :
    {A : Type 0} (n : ℕ) (bs : List ℕ) (r : Read A) (k : EexecState) (x : Ending) → Fair bs r
    → Sound n bs (with_answer (record { ready = []; compared = []; kind = k; ended = Some x }) r)
ended_sound n bs r k x q = record {
  behind = q.behind;
  met_end = q.met_end;
  fills = λ e. none_some x (sym e);
  falls = λ e. none_some x (sym e);
  ends = λ z e. refl;
}

plain_sound : (form : Form) (key : ℕ) (bs : List ℕ) (e : Ending) → Sound (length bs) bs (plain_read_of form key bs e)
plain_sound form key bs e = at (cipher_read_of form bs e) (cipher_taking form bs e) (cipher_read_of form bs e).answer refl
  where
    at : (r : Read CipherByte) → Taking bs r → (q : CipherByte) → r.answer ≡ q → Sound (length bs) bs (with_answer (plain_by form key q) r)
    at r t (Whole c) p = record {
      behind = t.fair.behind;
      met_end = t.fair.met_end;
      fills = λ z. (plain_of key c, [], refl);
      falls = λ z. let h : 0 + length r.left < length bs = omega (arith, t.moved c p) in h;
      ends = λ z e. refl;
    }
    at r t (Missing z) p = ended_sound (length bs) bs r _ _ t.fair
    at r t (Broken z) p = ended_sound (length bs) bs r _ z t.fair

behind_sound : (n : ℕ) (form : Form) (key : ℕ) (bs : List ℕ) (e : Ending) → Sound (length bs) bs (behind_of n form key bs e)
behind_sound zero form key bs e = plain_sound form key bs e
behind_sound (suc n) form key bs e =
    at (cipher_read_of form bs e) (cipher_taking form bs e).fair (cipher_read_of form bs e).answer (λ key'. behind_of n form key' (cipher_read_of form bs e).left e)
    (λ key'. behind_sound n form key' (cipher_read_of form bs e).left e)
  where
    at :
        (r : Read CipherByte) → Fair bs r → (q : CipherByte) (on : ℕ → Read (Own EexecState)) → ((key' : ℕ) → Sound (length r.left) r.left (on key'))
        → Sound (length bs) bs (drop_by form key q r on)
    at r t (Whole c) on f = sound_behind t.behind (behind_fewer t.behind) (f (key_after key c))
    at r t (Missing z) on f = ended_sound (length bs) bs r _ _ t
    at r t (Broken z) on f = ended_sound (length bs) bs r _ z t

lead_fair : (bs : List ℕ) (e : Ending) → Fair bs (lead_of bs e)
lead_fair [] e = fair_end _
lead_fair (b ∷ bs) e = at (lead_fair bs e) (blank b)
  where
    at : Fair bs (lead_of bs e) → (t : Bool) → Fair (b ∷ bs) (cond t (lead_of bs e) (record { answer = Ok b; left = bs; peeked = false }))
    at q true = fair_on b bs _ q
    at q false = fair_next b bs _

-- three bytes behind the first
four_fair : (a : ℕ) (bs : List ℕ) (e : Ending) → Fair bs (four_of (a ∷ bs) e)
four_fair a [] e = fair_end _
four_fair a (b ∷ []) e = fair_on b [] _ (fair_end _)
four_fair a (b ∷ c ∷ []) e = fair_on b (c ∷ []) _ (fair_on c [] _ (fair_end _))
four_fair a (b ∷ c ∷ d ∷ bs) e = fair_on b (c ∷ d ∷ bs) _ (fair_on c (d ∷ bs) _ (fair_next d bs _))

head_fair : (bs : List ℕ) (e : Ending) → Fair bs (head_of bs e)
head_fair bs e = at (lead_of bs e) (lead_fair bs e) (lead_of bs e).answer
  where
    at : (r : Read (Result ℕ Ending)) → Fair bs r → (x : Result ℕ Ending) → Fair bs (head_by x r e)
    at r q (Err z) = record { behind = q.behind; met_end = q.met_end }
    at r q (Ok b) =
        let f = four_fair b r.left e in
        record { behind = behind_trans f.behind q.behind; met_end = f.met_end }

begin_sound : (k : EexecState) (bs : List ℕ) (e : Ending) → Sound (length bs) bs (begin_of k bs e)
begin_sound k bs e = at (head_of bs e) (head_fair bs e) (head_of bs e).answer
  where
    at : (r : Read (Result (List ℕ) Ending)) → Fair bs r → (x : Result (List ℕ) Ending) → Sound (length bs) bs (begin_by k x r e)
    at r q (Err z) = ended_sound (length bs) bs r _ _ q
    at r q (Ok f) =
        sound_behind q.behind (behind_fewer q.behind) (behind_sound (still (form_of f)) (form_of f) (key_behind (form_of f) f k.key) r.left e)

eexec_sound : (o : Option Form) (k : EexecState) (bs : List ℕ) (e : Ending) → Sound (length bs) bs (eexec_by o k bs e)
eexec_sound None k bs e = begin_sound k bs e
eexec_sound (Some form) k bs e = plain_sound form k.key bs e

pub eexec_lawful : LawfulStep EexecState eexec_step
eexec_lawful k c bs e = sound_behind (behind_self bs) (omega arith) (eexec_sound k.form k bs e)

-- one byte at the most
pub eexec_within : (f : Eexec) → length (eexec_holds f).ready + 0 ≤ 1
eexec_within f = by f.ready
  where
    by : (o : Option ℕ) → length (option_to_list o) + 0 ≤ 1
    by None = omega arith
    by (Some b) = omega arith
