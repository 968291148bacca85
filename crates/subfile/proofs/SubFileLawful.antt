use Rattle.std.proofs.Common.{◌≡◌, ℕ, zero, suc, ◌+◌, ◌-◌, ◌<◌, ◌≤◌, Bool, true, false, cond, eqb, List, [], ◌∷◌, ◌++◌, length, take, drop, Some, None, Option, sym, refl, ap, ◌∙◌, subst, ap₂, append_assoc, append-nil, arith, length-append}
use Rattle.std.proofs.lemmas.List.{append_cancel_left}
use Rattle.std.proofs.lemmas.Bool.{ne_eqb, eqb-true, eqb-false}
use Rattle.source.specs.declared.ending.Ending.{Ending}
use Rattle.source.specs.declared.ending.Ending.TheVariants.{Clean}
use Rattle.source.specs.Reads.{Read}
use Rattle.subfile.specs.declared.subfile.Match.{Match}
use Rattle.subfile.specs.declared.subfile.Match.TheVariants.{Starts, Equals, Fails}
use Rattle.decoding.specs.Decoding.{Decoding, then, decode}
use Rattle.decoding.specs.Ends.{passed, above}
use Rattle.decoding.specs.DecodeSteps.{decode_step}
use Rattle.decoding.specs.Step.{Own, makes, stops}
use Rattle.subfile.specs.SubFile.{SubState, judged, last_ends, counts, instance_at, first_at, cut_at, mark_turn, mark_at, sub_step, sub_of}
use Rattle.subfile.specs.SubFileLaw.{Nowhere, FirstPlace, led, SubFileLaw}
use Rattle.subfile.specs.SubFileSound.{sub_lawful}
use Rattle.subfile.proofs.SubFileUses.{at_judged, starts_shorter}
use Rattle.subfile.proofs.SubFilePlaces.{place_tail, nowhere_tail, placed_or_not}

tail_same : {x y : ℕ} {s t : List ℕ} → x ∷ s ≡ y ∷ t → s ≡ t
tail_same e = cc

head_same : {x y : ℕ} {s t : List ℕ} → x ∷ s ≡ y ∷ t → x ≡ y
head_same e = cc

-- a step and what comes after
abbrev followed : Ending → Read (Own SubState) → Decoding
followed e r = then r.answer.ended r (decode sub_step r.answer.kind r.answer.compared r.left e)

-- all bytes, and a byte was needed behind them
abbrev ends_with : Ending → List ℕ → Decoding
ends_with e bytes = record { bytes = bytes; ending = above e; left = []; peeked = true }

-- a decoding is what its first step says
decode_by :
    (k : SubState) (c rest : List ℕ) (e : Ending) (r : Read (Own SubState)) → sub_step k c rest e ≡ r
    → decode sub_step k c rest e ≡ followed e r
decode_by k c rest e r q = decode_step sub_step sub_lawful k c rest e ∙ ap (followed e) q

abbrev state : ℕ → List ℕ → SubState
state n mark = record { count = n; mark = mark }

-- what counts as one where n more are to be counted behind it
counts_one : (n : ℕ) (mark bytes left : List ℕ) → counts (state (suc n) mark) bytes left ≡ makes (state n mark) bytes (last_ends (suc n)) left
counts_one n mark bytes left =
    let e : suc n - 1 ≡ n = omega arith in
    ap (λ (j : ℕ). let r : Read (Own SubState) = makes (state j mark) bytes (last_ends (suc n)) left in r) e

no_zero : (n : ℕ) → eqb (suc n) 0 ≡ false
no_zero n = ne_eqb (suc n) 0 (λ e. omega arith)

more_follow : (n : ℕ) → last_ends (suc (suc n)) ≡ None
more_follow n = ap (λ t. let o : Option Ending = cond t (Some Clean) None in o) (ne_eqb (suc (suc n)) 1 (λ e. omega arith))

counts_more : (n : ℕ) (mark bytes left : List ℕ) → counts (state (suc (suc n)) mark) bytes left ≡ makes (state (suc n) mark) bytes None left
counts_more n mark bytes left = counts_one (suc n) mark bytes left ∙ ap (λ o. makes (state (suc n) mark) bytes o left) (more_follow n)

-- no mark
all_bytes : (rest : List ℕ) (e : Ending) → sub_of 0 [] rest e ≡ record { bytes = rest; ending = passed e; left = []; peeked = true }
all_bytes [] e = decode_step sub_step sub_lawful (state 0 []) [] [] e
all_bytes (b ∷ rest) e = decode_step sub_step sub_lawful (state 0 []) [] (b ∷ rest) e ∙ ap (led (b ∷ [])) (all_bytes rest e)

byte_now : (n b : ℕ) (left : List ℕ) (e : Ending) → sub_step (state (suc n) []) [] (b ∷ left) e ≡ counts (state (suc n) []) (b ∷ []) left
byte_now n b left e =
    ap (λ t. cond t (makes (state (suc n) []) (b ∷ []) None left) (counts (state (suc n) []) (b ∷ []) left)) (no_zero n)

byte_more : (n b : ℕ) (left : List ℕ) (e : Ending) → sub_of (suc (suc n)) [] (b ∷ left) e ≡ led (b ∷ []) (sub_of (suc n) [] left e)
byte_more n b left e =
    decode_by (state (suc (suc n)) []) [] (b ∷ left) e (makes (state (suc n) []) (b ∷ []) None left) (byte_now (suc n) b left e ∙ counts_more n [] (b ∷ []) left)

so_many :
    (n : ℕ) (rest : List ℕ) (e : Ending) → suc n ≤ length rest
    → sub_of (suc n) [] rest e ≡ record { bytes = take (suc n) rest; ending = Clean; left = drop (suc n) rest; peeked = false }
so_many n [] e h = let no_way : ⊥ = omega arith in absurd no_way
so_many zero (b ∷ rest) e h = decode_by (state 1 []) [] (b ∷ rest) e (makes (state 0 []) (b ∷ []) (Some Clean) rest) (byte_now 0 b rest e)
so_many (suc n) (b ∷ rest) e h = byte_more n b rest e ∙ ap (led (b ∷ [])) (so_many n rest e (omega arith))

end_short : (n : ℕ) (e : Ending) → sub_of (suc n) [] [] e ≡ record { bytes = []; ending = above e; left = []; peeked = true }
end_short n e =
    decode_by (state (suc n) []) [] [] e (stops (state (suc n) []) (above e)) (ap (λ t. stops (state (suc n) []) (cond t (passed e) (above e))) (no_zero n))

not_so_many : (n : ℕ) (rest : List ℕ) (e : Ending) → length rest < suc n → sub_of (suc n) [] rest e ≡ record { bytes = rest; ending = above e; left = []; peeked = true }
not_so_many n [] e h = end_short n e
not_so_many zero (b ∷ rest) e h = let no_way : ⊥ = omega arith in absurd no_way
not_so_many (suc n) (b ∷ rest) e h = byte_more n b rest e ∙ ap (led (b ∷ [])) (not_so_many n rest e (omega arith))

-- what a step over the mark does, by the bytes held and the rest taken together
data Outcome (k : SubState) (s : List ℕ) (e : Ending) (r : Read (Own SubState)) : Type 0 where
  found : (b : List ℕ) → s ≡ k.mark ++ b → r ≡ instance_at k k.mark b → Outcome k s e r
  other :
      (x : ℕ) (c left : List ℕ) → s ≡ x ∷ (c ++ left) → length c < length k.mark → ((b : List ℕ) → s ≡ k.mark ++ b → ⊥)
      → r ≡ first_at k (x ∷ c) left → Outcome k s e r
  short : length s < length k.mark → r ≡ cut_at k s e → Outcome k s e r

equals_same : (mark c : List ℕ) → Equals ≡ judged mark c → c ≡ mark
equals_same [] [] q = refl
equals_same [] (x ∷ c) q = let z : ◌≡◌ {A = ℕ} 0 1 = cc in let no_way : ⊥ = omega arith in absurd no_way
equals_same (m ∷ mark) [] q = let z : ◌≡◌ {A = ℕ} 0 1 = cc in let no_way : ⊥ = omega arith in absurd no_way
equals_same (m ∷ mark) (x ∷ c) q = by (eqb m x) refl (λ w. equals_same mark c w) q
  where
    by : (t : Bool) → eqb m x ≡ t → (Equals ≡ judged mark c → c ≡ mark) → Equals ≡ cond t (judged mark c) Fails → x ∷ c ≡ m ∷ mark
    by true w f q = ap₂ (λ (x : ℕ) (c : List ℕ). x ∷ c) (sym (eqb-true m x w)) (f q)
    by false w f q = let z : ◌≡◌ {A = ℕ} 0 1 = cc in let no_way : ⊥ = omega arith in absurd no_way

-- bytes that are neither, and no more than the mark has, differ from it
fails_apart : (mark c rest b : List ℕ) → length c ≤ length mark → Fails ≡ judged mark c → c ++ rest ≡ mark ++ b → ⊥
fails_apart [] [] rest b h q e = let z : ◌≡◌ {A = ℕ} 0 1 = cc in omega arith
fails_apart [] (x ∷ c) rest b h q e = omega arith
fails_apart (m ∷ mark) [] rest b h q e = let z : ◌≡◌ {A = ℕ} 0 1 = cc in omega arith
fails_apart (m ∷ mark) (x ∷ c) rest b h q e = by (eqb m x) refl (λ w. fails_apart mark c rest b (omega arith) w (cc)) q
  where
    by : (t : Bool) → eqb m x ≡ t → (Fails ≡ judged mark c → ⊥) → Fails ≡ cond t (judged mark c) Fails → ⊥
    by true w f q = f q
    by false w f q = eqb-false m x w (cc)

fails_some : (m : ℕ) (mark c : List ℕ) → Fails ≡ judged (m ∷ mark) c → (x : ℕ) × (xs : List ℕ) × (c ≡ x ∷ xs)
fails_some m mark [] q = let z : ◌≡◌ {A = ℕ} 0 1 = cc in let no_way : ⊥ = omega arith in absurd no_way
fails_some m mark (x ∷ c) q = (x, c, refl)

module _ (n m : ℕ) (ms : List ℕ) (e : Ending) where
  on_equals : (c rest : List ℕ) → Equals ≡ judged (m ∷ ms) c → Outcome (state n (m ∷ ms)) (c ++ rest) e (mark_at (state n (m ∷ ms)) c rest e)
  on_equals c rest q =
      let w : c ≡ m ∷ ms = equals_same (m ∷ ms) c q in
      found rest (ap (λ c. c ++ rest) w)
      (sym (at_judged (state n (m ∷ ms)) c rest e Equals q (λ on. refl)) ∙ ap (λ c. instance_at (state n (m ∷ ms)) c rest) w)

  on_fails :
      (c rest : List ℕ) → length c ≤ suc (length ms) → Fails ≡ judged (m ∷ ms) c
      → Outcome (state n (m ∷ ms)) (c ++ rest) e (mark_at (state n (m ∷ ms)) c rest e)
  on_fails c rest h q =
      let w = fails_some m ms c q in
      let i : length c ≡ suc (length w.1) = ap length w.2 in
      other w.0 w.1 rest (ap (λ c. c ++ rest) w.2) (omega arith) (λ b z. fails_apart (m ∷ ms) c rest b h q z)
      (sym (at_judged (state n (m ∷ ms)) c rest e Fails q (λ on. refl)) ∙ ap (λ c. first_at (state n (m ∷ ms)) c rest) w.2)

  outcome : (c rest : List ℕ) → length c ≤ suc (length ms) → Outcome (state n (m ∷ ms)) (c ++ rest) e (mark_at (state n (m ∷ ms)) c rest e)
  outcome c [] h = by (judged (m ∷ ms) c) refl
    where
      by : (t : Match) → t ≡ judged (m ∷ ms) c → Outcome (state n (m ∷ ms)) (c ++ []) e (mark_at (state n (m ∷ ms)) c [] e)
      by Starts q =
          short (let w : length (c ++ []) < suc (length ms) = omega (arith, starts_shorter (m ∷ ms) c q, ap length (append-nil c)) in w)
          (sym (ap (λ t. mark_turn t (state n (m ∷ ms)) c [] (cut_at (state n (m ∷ ms)) c e)) q) ∙ ap (λ c. cut_at (state n (m ∷ ms)) c e) (sym (append-nil c)))
      by Equals q = on_equals c [] q
      by Fails q = on_fails c [] h q
  outcome c (b ∷ bs) h = by (judged (m ∷ ms) c) refl (λ i. outcome (c ++ b ∷ []) bs i)
    where
      by :
          (t : Match) → t ≡ judged (m ∷ ms) c
          → (length (c ++ b ∷ []) ≤ suc (length ms) → Outcome (state n (m ∷ ms)) ((c ++ b ∷ []) ++ bs) e (mark_at (state n (m ∷ ms)) (c ++ b ∷ []) bs e))
          → Outcome (state n (m ∷ ms)) (c ++ (b ∷ bs)) e (mark_at (state n (m ∷ ms)) c (b ∷ bs) e)
      by Starts q f =
          let w : length (c ++ b ∷ []) ≤ suc (length ms) = omega (arith, length-append c (b ∷ []), starts_shorter (m ∷ ms) c q) in
          let r : mark_at (state n (m ∷ ms)) (c ++ b ∷ []) bs e ≡ mark_at (state n (m ∷ ms)) c (b ∷ bs) e
          = ap (λ t. mark_turn t (state n (m ∷ ms)) c (b ∷ bs) (mark_at (state n (m ∷ ms)) (c ++ b ∷ []) bs e)) q in
          subst (λ s. Outcome (state n (m ∷ ms)) s e (mark_at (state n (m ∷ ms)) c (b ∷ bs) e)) (append_assoc c (b ∷ []) bs)
          (subst (Outcome (state n (m ∷ ms)) ((c ++ b ∷ []) ++ bs) e) r (f w))
      by Equals q f = on_equals c (b ∷ bs) q
      by Fails q f = on_fails c (b ∷ bs) h q

  none_long : {C : Type 0} (s front behind : List ℕ) → length s < suc (length ms) → s ≡ front ++ ((m ∷ ms) ++ behind) → C
  none_long s front behind h q =
      let no_way : ⊥ = omega (arith, ap length q, length-append front ((m ∷ ms) ++ behind), length-append (m ∷ ms) behind) in absurd no_way

  -- up to the first place of the mark bytes are handed up one by one
  to_mark :
      (front behind c rest : List ℕ) → length c ≤ suc (length ms) → c ++ rest ≡ front ++ ((m ∷ ms) ++ behind) → FirstPlace (m ∷ ms) front behind
      → decode sub_step (state n (m ∷ ms)) c rest e ≡ led front (followed e (instance_at (state n (m ∷ ms)) (m ∷ ms) behind))
  to_mark [] behind c rest h q p = by (outcome c rest h)
    where
      by :
          Outcome (state n (m ∷ ms)) (c ++ rest) e (mark_at (state n (m ∷ ms)) c rest e)
          → decode sub_step (state n (m ∷ ms)) c rest e ≡ led [] (followed e (instance_at (state n (m ∷ ms)) (m ∷ ms) behind))
      by (found b w r) =
          let z : b ≡ behind = append_cancel_left (m ∷ ms) b behind (sym w ∙ q) in
          decode_by (state n (m ∷ ms)) c rest e (instance_at (state n (m ∷ ms)) (m ∷ ms) behind) (r ∙ ap (instance_at (state n (m ∷ ms)) (m ∷ ms)) z)
      by (other x c' left w i d r) = absurd (d behind q)
      by (short i r) = none_long (c ++ rest) [] behind i q
  to_mark (y ∷ front) behind c rest h q p = by (λ c' left i z. to_mark front behind c' left i z (place_tail y (m ∷ ms) front behind p)) (outcome c rest h)
    where
      by :
          ((c' left : List ℕ) → length c' ≤ suc (length ms) → c' ++ left ≡ front ++ ((m ∷ ms) ++ behind)
          → decode sub_step (state n (m ∷ ms)) c' left e ≡ led front (followed e (instance_at (state n (m ∷ ms)) (m ∷ ms) behind)))
          → Outcome (state n (m ∷ ms)) (c ++ rest) e (mark_at (state n (m ∷ ms)) c rest e)
          → decode sub_step (state n (m ∷ ms)) c rest e ≡ led (y ∷ front) (followed e (instance_at (state n (m ∷ ms)) (m ∷ ms) behind))
      by f (found b w r) = let z : suc (length front) ≤ 0 = p [] b (sym q ∙ w) in let no_way : ⊥ = omega arith in absurd no_way
      by f (other x c' left w i d r) =
          let z : x ∷ (c' ++ left) ≡ y ∷ (front ++ ((m ∷ ms) ++ behind)) = sym w ∙ q in
          decode_by (state n (m ∷ ms)) c rest e (first_at (state n (m ∷ ms)) (x ∷ c') left) r
          ∙ (ap (led (x ∷ [])) (f c' left (omega arith) (tail_same z))
          ∙ ap (λ x. led (x ∷ front) (followed e (instance_at (state n (m ∷ ms)) (m ∷ ms) behind))) (head_same z))
      by f (short i r) = none_long (c ++ rest) (y ∷ front) behind i q

  -- where it stands nowhere all are
  to_end :
      (s c rest : List ℕ) → length c ≤ suc (length ms) → c ++ rest ≡ s → Nowhere (m ∷ ms) s
      → decode sub_step (state n (m ∷ ms)) c rest e ≡ record { bytes = s; ending = above e; left = []; peeked = true }
  to_end [] c rest h q p = by (outcome c rest h)
    where
      by :
          Outcome (state n (m ∷ ms)) (c ++ rest) e (mark_at (state n (m ∷ ms)) c rest e)
          → decode sub_step (state n (m ∷ ms)) c rest e ≡ record { bytes = []; ending = above e; left = []; peeked = true }
      by (found b w r) = absurd (p [] b (sym q ∙ w))
      by (other x c' left w i d r) =
          let z : x ∷ (c' ++ left) ≡ [] = sym w ∙ q in let y : ◌≡◌ {A = ℕ} 0 1 = cc in let no_way : ⊥ = omega arith in absurd no_way
      by (short i r) = decode_by (state n (m ∷ ms)) c rest e (cut_at (state n (m ∷ ms)) (c ++ rest) e) r ∙ ap (ends_with e) q
  to_end (y ∷ s) c rest h q p = by (λ c' left i z. to_end s c' left i z (nowhere_tail y (m ∷ ms) s p)) (outcome c rest h)
    where
      by :
          ((c' left : List ℕ) → length c' ≤ suc (length ms) → c' ++ left ≡ s
          → decode sub_step (state n (m ∷ ms)) c' left e ≡ record { bytes = s; ending = above e; left = []; peeked = true })
          → Outcome (state n (m ∷ ms)) (c ++ rest) e (mark_at (state n (m ∷ ms)) c rest e)
          → decode sub_step (state n (m ∷ ms)) c rest e ≡ record { bytes = y ∷ s; ending = above e; left = []; peeked = true }
      by f (found b w r) = absurd (p [] b (sym q ∙ w))
      by f (other x c' left w i d r) =
          let z : x ∷ (c' ++ left) ≡ y ∷ s = sym w ∙ q in
          decode_by (state n (m ∷ ms)) c rest e (first_at (state n (m ∷ ms)) (x ∷ c') left) r
          ∙ (ap (led (x ∷ [])) (f c' left (omega arith) (tail_same z)) ∙ ap (λ x. ends_with e (x ∷ s)) (head_same z))
      by f (short i r) = decode_by (state n (m ∷ ms)) c rest e (cut_at (state n (m ∷ ms)) (c ++ rest) e) r ∙ ap (ends_with e) q

instance_counts : (n : ℕ) (mark behind : List ℕ) → instance_at (state (suc n) mark) mark behind ≡ counts (state (suc n) mark) mark behind
instance_counts n mark behind =
    ap (λ t. cond t (makes (state (suc n) mark) [] (Some Clean) behind) (counts (state (suc n) mark) mark behind)) (no_zero n)

led_led : (a b : List ℕ) (d : Decoding) → led a (led b d) ≡ led (a ++ b) d
led_led a b d = ap (λ (bytes : List ℕ). let r : Decoding = record { bytes = bytes; ending = d.ending; left = d.left; peeked = d.peeked } in r) (sym (append_assoc a b d.bytes))

missing_law :
    (n : ℕ) (mark rest : List ℕ) (e : Ending) → 0 < length mark → Nowhere mark rest
    → sub_of n mark rest e ≡ record { bytes = rest; ending = above e; left = []; peeked = true }
missing_law n [] rest e h p = let no_way : ⊥ = omega arith in absurd no_way
missing_law n (m ∷ ms) rest e h p = to_end n m ms e rest [] rest (omega arith) refl p

before_law :
    (mark front behind : List ℕ) (e : Ending) → 0 < length mark → FirstPlace mark front behind
    → sub_of 0 mark (front ++ (mark ++ behind)) e ≡ record { bytes = front; ending = Clean; left = behind; peeked = false }
before_law [] front behind e h p = let no_way : ⊥ = omega arith in absurd no_way
before_law (m ∷ ms) front behind e h p =
    to_mark 0 m ms e front behind [] (front ++ ((m ∷ ms) ++ behind)) (omega arith) refl p
    ∙ ap (λ (bytes : List ℕ). let r : Decoding = record { bytes = bytes; ending = Clean; left = behind; peeked = false } in r) (append-nil front)

last_law :
    (mark front behind : List ℕ) (e : Ending) → 0 < length mark → FirstPlace mark front behind
    → sub_of 1 mark (front ++ (mark ++ behind)) e ≡ record { bytes = front ++ mark; ending = Clean; left = behind; peeked = false }
last_law [] front behind e h p = let no_way : ⊥ = omega arith in absurd no_way
last_law (m ∷ ms) front behind e h p = to_mark 1 m ms e front behind [] (front ++ ((m ∷ ms) ++ behind)) (omega arith) refl p

next_law :
    (n : ℕ) (mark front behind : List ℕ) (e : Ending) → 0 < n → 0 < length mark → FirstPlace mark front behind
    → sub_of (n + 1) mark (front ++ (mark ++ behind)) e ≡ led (front ++ mark) (sub_of n mark behind e)
next_law n [] front behind e i h p = let no_way : ⊥ = omega arith in absurd no_way
next_law zero (m ∷ ms) front behind e i h p = let no_way : ⊥ = omega arith in absurd no_way
next_law (suc n) (m ∷ ms) front behind e i h p =
    let q : suc n + 1 ≡ suc (suc n) = omega arith in
    ap (λ j. sub_of j (m ∷ ms) (front ++ ((m ∷ ms) ++ behind)) e) q
    ∙ (to_mark (suc (suc n)) m ms e front behind [] (front ++ ((m ∷ ms) ++ behind)) (omega arith) refl p
    ∙ (ap (λ r. led front (followed e r)) (instance_counts (suc n) (m ∷ ms) behind ∙ counts_more n (m ∷ ms) (m ∷ ms) behind)
    ∙ led_led front (m ∷ ms) (sub_of (suc n) (m ∷ ms) behind e)))

enough_law :
    (n : ℕ) (rest : List ℕ) (e : Ending) → 0 < n → n ≤ length rest
    → sub_of n [] rest e ≡ record { bytes = take n rest; ending = Clean; left = drop n rest; peeked = false }
enough_law zero rest e i h = let no_way : ⊥ = omega arith in absurd no_way
enough_law (suc n) rest e i h = so_many n rest e h

few_law : (n : ℕ) (rest : List ℕ) (e : Ending) → length rest < n → sub_of n [] rest e ≡ record { bytes = rest; ending = above e; left = []; peeked = true }
few_law zero rest e h = let no_way : ⊥ = omega arith in absurd no_way
few_law (suc n) rest e h = not_so_many n rest e h

pub sub_laws : SubFileLaw
sub_laws = record {
  all = all_bytes;
  enough = enough_law;
  too_few = few_law;
  either = placed_or_not;
  missing = missing_law;
  before = before_law;
  last = last_law;
  next = next_law;
}
