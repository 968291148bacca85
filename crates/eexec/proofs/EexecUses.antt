use Rattle.std.proofs.Common.{◌≡◌, ℕ, zero, suc, Bool, true, false, cond, List, [], ◌∷◌, Some, None, Ok, Err, Result, sym, subst, refl, ap, ◌∙◌}
use Rattle.std.specs.List.{list_all}
use Rattle.std.specs.Result.{MatchResult, IsErrAnd, is_ok}
use Rattle.std.proofs.lemmas.Result.{err_from_is_err_and}
use Rattle.source.specs.declared.ending.Ending.{Ending}
use Rattle.source.specs.Model.{Model, first}
use Rattle.source.specs.Laws.{Lawful}
use Rattle.source.specs.Reads.{Read, Reads}
use Rattle.source.proofs.Walk.{Walk, walk_start, walk_took, walk_stop_ended}
use Rattle.source.proofs.Calls.{Steady, steady_here, steady_next, steady_then, reads_then, reads_as, reads_took, reads_ended, walk_on}
use Rattle.eexec.specs.declared.cipherbytes.Form.{Form}
use Rattle.eexec.specs.declared.cipherbytes.Form.TheVariants.{Hex, Binary}
use Rattle.eexec.specs.Cipher.{key_after, keys_after}
use Rattle.eexec.specs.CipherBytes.{CipherByte, Whole, Missing, Broken, blank, cipher_read_of}
use Rattle.decoding.specs.Step.{Own}
use Rattle.eexec.specs.Eexec.{EexecState, hexadecimal, digits_paired, hex_bytes_of, lead_of, cut, four_of, head_by, head_of, form_of, key_behind, still, plain_read_of, drop_by, behind_of, begin_by, begin_of}
use Rattle.eexec.proofs.CipherBytesUses.{steady_cipher}
use Rattle.eexec.proofs.Errors.{was_ok}

pub steady_lead : (rest : List ℕ) (e : Ending) → Steady rest (lead_of rest e).left (lead_of rest e).peeked
steady_lead [] e = steady_here []
steady_lead (b ∷ bs) e = at (steady_lead bs e) (blank b)
  where
    at :
        Steady bs (lead_of bs e).left (lead_of bs e).peeked → (t : Bool)
        → Steady (b ∷ bs) (cond t (lead_of bs e) (record { answer = Ok b; left = bs; peeked = false })).left (cond t (lead_of bs e) (record { answer = Ok b; left = bs; peeked = false })).peeked
    at q true = steady_then (steady_next b bs) q
    at q false = steady_next b bs

-- a turn of the loop over blanks: x was held at its start, and x' after a take
module _
    {H : Type 0} {m : Model H} (l : Lawful H m) {h x x' : H}
    (k : Walk m h x (λ r. lead_of r (m.ending h)) (lead_of (m.rest h) (m.ending h))) (t : x' ≡ m.taken x) {b : ℕ} (p : Ok b ≡ first (m.rest x) (m.ending x)) where
  pub lead_on : true ≡ blank b → Walk m h x' (λ r. lead_of r (m.ending h)) (lead_of (m.rest h) (m.ending h))
  lead_on q =
      walk_took m l h x _ _ x' b (λ r. lead_of r (m.ending h)) k p t
      (sym (ap (λ t. cond t (lead_of (m.rest x') (m.ending h)) (record { answer = Ok b; left = m.rest x'; peeked = false })) q))

  pub lead_stop : false ≡ blank b → Reads m lead_of h (Ok b) x'
  lead_stop q =
      reads_took m l lead_of h x x' _ k t (Ok b) (record { answer = Ok b; left = m.rest x'; peeked = false }) refl b p
      (ap (λ t. cond t (lead_of (m.rest x') (m.ending h)) (record { answer = Ok b; left = m.rest x'; peeked = false })) q) refl refl

-- the first four bytes
module _ {H : Type 0} {m : Model H} (l : Lawful H m) {h : H} where
  -- it ends behind those that `go` has
  head_cut :
      {x x' : H} (go : List ℕ → Read (Result (List ℕ) Ending)) {z : Ending} (r : Result (List ℕ) Ending) → Walk m h x go (head_of (m.rest h) (m.ending h)) → x' ≡ m.taken x
      → Err z ≡ first (m.rest x) (m.ending x) → IsErrAnd r (λ e. e ≡ z) → cut (m.ending h) ≡ go [] → Reads m head_of h r x'
  head_cut {x} {x'} go {z} r k t p q e =
      let is = err_from_is_err_and r q in
      reads_ended m l head_of h x x' go k t r (cut (m.ending h))
      (is.1 ∙ (ap Err is.2 ∙ ap Err (walk_stop_ended m l h x go _ x' z k p t).2)) z p e refl refl

  -- x is what is held behind the first
  module _ {x : H} {a : ℕ} (y : Reads m lead_of h (Ok a) x) where
    one : Walk m h x (λ r. four_of (a ∷ r) (m.ending h)) (head_of (m.rest h) (m.ending h))
    one =
        walk_on m l lead_of h h (Ok a) x (λ r. head_of r (m.ending h)) _ steady_lead (walk_start m l h (λ r. head_of r (m.ending h))) y
        (λ r. four_of (a ∷ r) (m.ending h))
        (sym (ap (λ a. head_by a (lead_of (m.rest h) (m.ending h)) (m.ending h)) y.answer))

    -- only one
    pub head_one : {x' : H} {z : Ending} (r : Result (List ℕ) Ending) → x' ≡ m.taken x → Err z ≡ first (m.rest x) (m.ending x) → IsErrAnd r (λ e. e ≡ z) → Reads m head_of h r x'
    head_one r t p q = head_cut (λ r. four_of (a ∷ r) (m.ending h)) r one t p q refl

    module _ {x₂ : H} {b : ℕ} (t₂ : x₂ ≡ m.taken x) (p₂ : Ok b ≡ first (m.rest x) (m.ending x)) where
      two : Walk m h x₂ (λ r. four_of (a ∷ b ∷ r) (m.ending h)) (head_of (m.rest h) (m.ending h))
      two = walk_took m l h x (λ r. four_of (a ∷ r) (m.ending h)) _ x₂ b (λ r. four_of (a ∷ b ∷ r) (m.ending h)) one p₂ t₂ refl

      -- only two
      pub head_two : {x' : H} {z : Ending} (r : Result (List ℕ) Ending) → x' ≡ m.taken x₂ → Err z ≡ first (m.rest x₂) (m.ending x₂) → IsErrAnd r (λ e. e ≡ z) → Reads m head_of h r x'
      head_two r t p q = head_cut (λ r. four_of (a ∷ b ∷ r) (m.ending h)) r two t p q refl

      module _ {x₃ : H} {c : ℕ} (t₃ : x₃ ≡ m.taken x₂) (p₃ : Ok c ≡ first (m.rest x₂) (m.ending x₂)) where
        three : Walk m h x₃ (λ r. four_of (a ∷ b ∷ c ∷ r) (m.ending h)) (head_of (m.rest h) (m.ending h))
        three = walk_took m l h x₂ (λ r. four_of (a ∷ b ∷ r) (m.ending h)) _ x₃ c (λ r. four_of (a ∷ b ∷ c ∷ r) (m.ending h)) two p₃ t₃ refl

        -- only three
        pub head_three : {x' : H} {z : Ending} (r : Result (List ℕ) Ending) → x' ≡ m.taken x₃ → Err z ≡ first (m.rest x₃) (m.ending x₃) → IsErrAnd r (λ e. e ≡ z) → Reads m head_of h r x'
        head_three r t p q = head_cut (λ r. four_of (a ∷ b ∷ c ∷ r) (m.ending h)) r three t p q refl

        -- all four
        pub head_four :
            {x' : H} {d : ℕ} → x' ≡ m.taken x₃ → Ok d ≡ first (m.rest x₃) (m.ending x₃)
            → Reads m head_of h (Ok (a ∷ b ∷ c ∷ d ∷ [])) x'
        head_four {x'} {d} t p =
            reads_took m l head_of h x₃ x' (λ r. four_of (a ∷ b ∷ c ∷ r) (m.ending h)) three t _ _ refl d p refl refl refl

pub steady_plain : (form : Form) (key : ℕ) (rest : List ℕ) (e : Ending) → Steady rest (plain_read_of form key rest e).left (plain_read_of form key rest e).peeked
steady_plain form key rest e = steady_cipher form rest e

steady_four : (a : ℕ) (rest : List ℕ) (e : Ending) → Steady rest (four_of (a ∷ rest) e).left (four_of (a ∷ rest) e).peeked
steady_four a [] e = steady_here []
steady_four a (b ∷ []) e = steady_then (steady_next b []) (steady_here [])
steady_four a (b ∷ c ∷ []) e = steady_then (steady_next b (c ∷ [])) (steady_then (steady_next c []) (steady_here []))
steady_four a (b ∷ c ∷ d ∷ bs) e = steady_then (steady_next b (c ∷ d ∷ bs)) (steady_then (steady_next c (d ∷ bs)) (steady_next d bs))

steady_head : (rest : List ℕ) (e : Ending) → Steady rest (head_of rest e).left (head_of rest e).peeked
steady_head rest e = at (lead_of rest e) (steady_lead rest e) (lead_of rest e).answer
  where
    at : (r : Read (Result ℕ Ending)) → Steady rest r.left r.peeked → (x : Result ℕ Ending) → Steady rest (head_by x r e).left (head_by x r e).peeked
    at r q (Err z) = q
    at r q (Ok b) = steady_then q (steady_four b r.left e)

steady_behind : (n : ℕ) (form : Form) (key : ℕ) (rest : List ℕ) (e : Ending) → Steady rest (behind_of n form key rest e).left (behind_of n form key rest e).peeked
steady_behind zero form key rest e = steady_plain form key rest e
steady_behind (suc n) form key rest e =
    at (cipher_read_of form rest e) (steady_cipher form rest e) (cipher_read_of form rest e).answer (λ key'. behind_of n form key' (cipher_read_of form rest e).left e)
    (λ key'. steady_behind n form key' (cipher_read_of form rest e).left e)
  where
    at :
        (r : Read CipherByte) → Steady rest r.left r.peeked → (q : CipherByte) (on : ℕ → Read (Own EexecState))
        → ((key' : ℕ) → Steady r.left (on key').left (on key').peeked) → Steady rest (drop_by form key q r on).left (drop_by form key q r on).peeked
    at r s (Whole c) on f = steady_then s (f (key_after key c))
    at r s (Missing z) on f = s
    at r s (Broken z) on f = s

-- what the first four bytes say, by whether they are cipher bytes in the hexadecimal form
hex_head : (head bytes : List ℕ) → Some bytes ≡ hex_bytes_of head → (Hex ≡ form_of head) × (bytes ≡ digits_paired head)
hex_head head bytes p = by (list_all hexadecimal head) p
  where
    by : (t : Bool) → Some bytes ≡ cond t (Some (digits_paired head)) None → (Hex ≡ cond t Hex Binary) × (bytes ≡ digits_paired head)
    by true p = (refl, cc)
    by false p = cc

binary_head : (head : List ℕ) → None ≡ hex_bytes_of head → Binary ≡ form_of head
binary_head head p = by (list_all hexadecimal head) p
  where
    by : (t : Bool) → None ≡ cond t (Some (digits_paired head)) None → Binary ≡ cond t Hex Binary
    by true p = cc
    by false p = refl

-- the first step
module _ {H : Type 0} {m : Model H} (l : Lawful H m) {h x : H} (k : EexecState) where
  pub begin_whole :
      (head : List ℕ) (form : Form) (key : ℕ) (r : Own EexecState) (x' : H) → Reads m head_of h (Ok head) x → form ≡ form_of head → key ≡ key_behind form head k.key
      → Reads m (behind_of (still form) form key) x r x' → Reads m (begin_of k) h r x'
  begin_whole head form key r x' y p t z =
      let w = reads_then m l head_of h (Ok head) x (behind_of (still form) form key) r x' (steady_head (m.rest h) (m.ending h)) (steady_behind (still form) form key) y z in
      reads_as m l _ h r x' (begin_of k) r (behind_of (still form) form key (head_of (m.rest h) (m.ending h)).left (m.ending h)) w
      (ap (λ key. behind_of (still form) form key (head_of (m.rest h) (m.ending h)).left (m.ending h)) t
      ∙ (ap (λ f. behind_of (still f) f (key_behind f head k.key) (head_of (m.rest h) (m.ending h)).left (m.ending h)) p
      ∙ ap (λ a. begin_by k a (head_of (m.rest h) (m.ending h)) (m.ending h)) y.answer)) w.answer refl refl

  -- in either form: the ending of what takes the first four bytes was changed
  module _
      {head : List ℕ} {taken changed : Result (List ℕ) Ending} (Q : Ending → Type 0)
      (cases : MatchResult taken (λ y. changed ≡ Ok y) Q) (variant : is_ok changed ≡ is_ok taken) (was : changed ≡ Ok head)
      (reads : Reads m head_of h taken x) where
    reads_head : Reads m head_of h (Ok head) x
    reads_head = subst (λ r. Reads m head_of h r x) (sym (was_ok Q cases variant was)) reads

    pub begin_hex : {bytes : List ℕ} {key : ℕ} {r : Own EexecState} {x' : H} → Some bytes ≡ hex_bytes_of head → key ≡ keys_after k.key bytes → Reads m (behind_of 2 Hex key) x r x' → Reads m (begin_of k) h r x'
    begin_hex {bytes} {key} {r} {x'} p q z =
        let e = hex_head head bytes p in
        begin_whole head Hex key r x' reads_head e.0 (q ∙ ap (keys_after k.key) e.1) z

    pub begin_binary : {key : ℕ} {r : Own EexecState} {x' : H} → None ≡ hex_bytes_of head → key ≡ keys_after k.key head → Reads m (behind_of 0 Binary key) x r x' → Reads m (begin_of k) h r x'
    begin_binary {key} {r} {x'} p q z = begin_whole head Binary key r x' reads_head (binary_head head p) q z
