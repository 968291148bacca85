use Rattle.std.specs.Prelude.{ℕ, zero, suc, Bool, true, false, cond, List, [], ◌∷◌, Some, None, Ok, Err, Option, Result, nat_lt}
use Rattle.std.specs.List.{list_all}
use Rattle.std.specs.Option.{option_to_list}
use Rattle.source.specs.declared.ending.Ending.{Ending}
use Rattle.source.specs.Bytes.{digit_value}
use Rattle.source.specs.Hex.{paired}
use Rattle.source.specs.Reads.{Read}
use Rattle.eexec.specs.declared.cipherbytes.Form.{Form}
use Rattle.eexec.specs.declared.cipherbytes.Form.TheVariants.{Hex, Binary}
use Rattle.eexec.specs.declared.eexec.Eexec.{Eexec}
use Rattle.eexec.specs.Cipher.{plain_of, key_after, keys_after}
use Rattle.eexec.specs.CipherBytes.{CipherByte, Whole, Missing, Broken, blank, cipher_read_of}
use Rattle.decoding.specs.Ends.{above, passed}
use Rattle.decoding.specs.Step.{Holds, Own, StepOf}

-- from step to step: the form, once it is known, and the key
pub record EexecState : Type 0 where
  pub form : Option Form
  pub key : ℕ

abbrev pub eexec_state : Eexec → EexecState
eexec_state f = record { form = f.form; key = f.cipher.key }

abbrev pub eexec_holds : Eexec → Holds EexecState
eexec_holds f = record { ready = option_to_list f.ready; compared = []; kind = eexec_state f }

-- where decryption starts
abbrev pub eexec_start : EexecState
eexec_start = record { form = None; key = 55665 }

-- a hexadecimal digit, of either case
abbrev pub hexadecimal : ℕ → Bool
hexadecimal b = nat_lt (digit_value b) 16

-- the cipher bytes of hexadecimal digits, two to a byte
abbrev pub digits_paired : List ℕ → List ℕ
digits_paired [] = []
digits_paired (a ∷ []) = []
digits_paired (a ∷ b ∷ bs) = paired (digit_value a) (digit_value b) ∷ digits_paired bs

-- the first four bytes: four hexadecimal digits begin the hexadecimal form, anything else the binary one
abbrev pub form_of : List ℕ → Form
form_of head = cond (list_all hexadecimal head) Hex Binary

-- the cipher bytes that they are in the hexadecimal form, if that is their form
abbrev pub hex_bytes_of : List ℕ → Option (List ℕ)
hex_bytes_of head = cond (list_all hexadecimal head) (Some (digits_paired head)) None

-- the key behind the first four bytes, which are two cipher bytes or four
abbrev pub key_behind : Form → List ℕ → ℕ → ℕ
key_behind Hex head key = keys_after key (digits_paired head)
key_behind Binary head key = keys_after key head

-- how many plain bytes are still to be dropped then
abbrev pub still : Form → ℕ
still Hex = 2
still Binary = 0

-- the same with another answer
abbrev pub with_answer : {A B : Type 0} → B → Read A → Read B
with_answer x r = record { answer = x; left = r.left; peeked = r.peeked }

-- the byte behind blanks
abbrev pub lead_of : List ℕ → Ending → Read (Result ℕ Ending)
lead_of [] e = record { answer = Err e; left = []; peeked = true }
lead_of (b ∷ bs) e = cond (blank b) (lead_of bs e) (record { answer = Ok b; left = bs; peeked = false })

abbrev pub cut : Ending → Read (Result (List ℕ) Ending)
cut e = record { answer = Err e; left = []; peeked = true }

-- four bytes
abbrev pub four_of : List ℕ → Ending → Read (Result (List ℕ) Ending)
four_of [] e = cut e
four_of (a ∷ []) e = cut e
four_of (a ∷ b ∷ []) e = cut e
four_of (a ∷ b ∷ c ∷ []) e = cut e
four_of (a ∷ b ∷ c ∷ d ∷ bs) e = record { answer = Ok (a ∷ b ∷ c ∷ d ∷ []); left = bs; peeked = false }

-- four bytes behind blanks
abbrev pub head_by : Result ℕ Ending → Read (Result ℕ Ending) → Ending → Read (Result (List ℕ) Ending)
head_by (Err x) r e = with_answer (Err x) r
head_by (Ok b) r e = four_of (b ∷ r.left) e

abbrev pub head_of : List ℕ → Ending → Read (Result (List ℕ) Ending)
head_of rest e = head_by (lead_of rest e).answer (lead_of rest e) e

-- what is held where the form is known
abbrev pub known : Form → ℕ → List ℕ → Option Ending → Own EexecState
known form key ready o = record { ready = ready; compared = []; kind = record { form = Some form; key = key }; ended = o }

-- the same by what a step answered: a plain byte, which is ready then, or how it ended
abbrev pub answer_of : EexecState → Result ℕ Ending → Own EexecState
answer_of k (Ok b) = record { ready = b ∷ []; compared = []; kind = k; ended = None }
answer_of k (Err e) = record { ready = []; compared = []; kind = k; ended = Some e }

abbrev pub answered : Form → ℕ → Result ℕ Ending → Own EexecState
answered form key r = answer_of (record { form = Some form; key = key }) r

-- a cipher byte is a plain byte; where it would begin, the end below is the end
abbrev pub plain_by : Form → ℕ → CipherByte → Own EexecState
plain_by form key (Whole c) = known form (key_after key c) (plain_of key c ∷ []) None
plain_by form key (Missing e) = known form key [] (Some (passed e))
plain_by form key (Broken e) = known form key [] (Some e)

-- the next plain byte
abbrev pub plain_read_of : Form → ℕ → List ℕ → Ending → Read (Own EexecState)
plain_read_of form key rest e = with_answer (plain_by form key (cipher_read_of form rest e).answer) (cipher_read_of form rest e)

-- a cipher byte whose plain byte is dropped; `on` says how it goes on behind
abbrev pub drop_by : Form → ℕ → CipherByte → Read CipherByte → (ℕ → Read (Own EexecState)) → Read (Own EexecState)
drop_by form key (Whole c) r on = on (key_after key c)
drop_by form key (Missing e) r on = with_answer (known form key [] (Some (above e))) r
drop_by form key (Broken e) r on = with_answer (known form key [] (Some e)) r

-- n plain bytes are dropped, then comes the next one
abbrev pub behind_of : ℕ → Form → ℕ → List ℕ → Ending → Read (Own EexecState)
behind_of zero form key rest e = plain_read_of form key rest e
behind_of (suc n) form key rest e =
    drop_by form key (cipher_read_of form rest e).answer (cipher_read_of form rest e) (λ key'. behind_of n form key' (cipher_read_of form rest e).left e)

-- the first step: the first four bytes tell the form, and four plain bytes are dropped
abbrev pub begin_by : EexecState → Result (List ℕ) Ending → Read (Result (List ℕ) Ending) → Ending → Read (Own EexecState)
begin_by k (Err x) r e = with_answer (record { ready = []; compared = []; kind = k; ended = Some (above x) }) r
begin_by k (Ok head) r e = behind_of (still (form_of head)) (form_of head) (key_behind (form_of head) head k.key) r.left e

abbrev pub begin_of : EexecState → List ℕ → Ending → Read (Own EexecState)
begin_of k rest e = begin_by k (head_of rest e).answer (head_of rest e) e

-- a step, by whether the form is known
abbrev pub eexec_by : Option Form → EexecState → List ℕ → Ending → Read (Own EexecState)
eexec_by None k rest e = begin_of k rest e
eexec_by (Some form) k rest e = plain_read_of form k.key rest e

abbrev pub eexec_step : StepOf EexecState
eexec_step k c bs e = eexec_by k.form k bs e
