-- Reading pairs of hexadecimal digits from the left, and bytes that come again.
use Rattle.std.proofs.Common.{◌≡◌, ℕ, ◌+◌, ◌-◌, ◌*◌, ◌%◌, ◌<◌, ◌≤◌, length-append, length-drop, get_or, Bool, true, false, List, [], ◌∷◌, ◌++◌, length, take, drop, zero, suc, Option, Some, None, Result, Ok, Err, append_assoc, append-nil, option_map, is_some, MatchResult, min, if◌then◌else◌, cond, refl, sym, ap, ◌∙◌, nat_eq, ◌⊎◌, inr, arith}
use Rattle.std.specs.Result.{result_ok, IsErrAnd, IfErr}
use Rattle.std.specs.List.{repeat}
use Rattle.std.specs.Option.{SomeIff}
use Rattle.std.proofs.Math.Nat.{suc-mul, zero-mul, mul_comm}
use Rattle.std.proofs.Math.Seq.{drop-append_seam}
use Rattle.std.proofs.lemmas.Bool.{eqb-true}
use Rattle.std.proofs.lemmas.List.{get_or_append_left, get_or-append-add, take-append-drop, length-take-le, take_more, take_all}
use Rattle.hex.specs.Hex.{decode_pairs, decode_sized, digit_or_error, hex_digit_value, pair_value, ◌>>=◌}
use Rattle.hex.specs.declared.error.FromHexError.{FromHexError}
use Rattle.hex.specs.declared.error.FromHexError.TheVariants.{OddLength}
use Rattle.given.specs.declared.reading.ReadError.{ReadError}
use Rattle.given.specs.declared.reading.ReadError.TheVariants.{LoneDigit, NoDigit, OutOfMemory}
use Rattle.given.specs.Texts.{pairs_of, whole_pairs, why_no_pairs, why_no_hex, Adds}

-- a byte before those of the rest, where it is one
abbrev pub before_rest : Result ℕ FromHexError → Result (List ℕ) ReadError → Result (List ℕ) ReadError
before_rest (Ok b) (Ok bs) = Ok (b ∷ bs)
before_rest (Ok b) (Err e) = Err e
before_rest (Err e) rest = Err NoDigit

-- what reading pairs from the left gives: their bytes, or the first error
abbrev pub told : List ℕ → Result (List ℕ) ReadError
told [] = Ok []
told (digit ∷ []) = Err LoneDigit
told (high ∷ low ∷ rest) = before_rest (pair_value high low 0) (told rest)

-- bytes before those of a result
abbrev pub put : List ℕ → Result (List ℕ) ReadError → Result (List ℕ) ReadError
put front (Ok bs) = Ok (front ++ bs)
put front (Err e) = Err e

-- the byte of two digits is the same at any index
same_pair : (a b : Option ℕ) (h l i j : ℕ) → result_ok (digit_or_error h i a >>= (λ x. digit_or_error l (i + 1) b >>= (λ y. Ok (x * 16 + y)))) ≡ result_ok (digit_or_error h j a >>= (λ x. digit_or_error l (j + 1) b >>= (λ y. Ok (x * 16 + y))))
same_pair None b h l i j = refl
same_pair (Some x) None h l i j = refl
same_pair (Some x) (Some y) h l i j = refl

-- a bad pair is one with a byte that is no digit
abbrev pub IsNoDigit : Result ℕ FromHexError → Type 0
IsNoDigit r = MatchResult r (λ b. Unit {0}) (λ e. why_no_hex e ≡ NoDigit)

no_digit : (a b : Option ℕ) (h l i : ℕ) → IsNoDigit (digit_or_error h i a >>= (λ x. digit_or_error l (i + 1) b >>= (λ y. Ok (x * 16 + y))))
no_digit None b h l i = refl
no_digit (Some x) None h l i = refl
no_digit (Some x) (Some y) h l i = tt

-- the bytes of a pair and of the rest, both ways
ok_before : (r s : Result ℕ FromHexError) (t : Result (List ℕ) FromHexError) (u : Result (List ℕ) ReadError) → result_ok r ≡ result_ok s → result_ok t ≡ result_ok u → result_ok (r >>= (λ b. t >>= (λ bs. Ok (b ∷ bs)))) ≡ result_ok (before_rest s u)
ok_before (Ok x) (Ok y) (Ok xs) (Ok ys) e f = cc
ok_before (Ok x) (Ok y) (Err d) (Err c) e f = refl
ok_before (Err x) (Err y) t u e f = refl
ok_before (Ok x) (Ok y) (Ok xs) (Err c) e f = cc
ok_before (Ok x) (Ok y) (Err d) (Ok ys) e f = cc
ok_before (Ok x) (Err y) t u e f = cc
ok_before (Err x) (Ok y) t u e f = cc

-- the library's pairs are those read from the left
decoded : (i : ℕ) (text : List ℕ) → result_ok (decode_pairs i text) ≡ result_ok (told text)
unfolding decode_pairs
decoded i [] = refl
decoded i (digit ∷ []) = refl
decoded i (high ∷ low ∷ rest) =
    ok_before (pair_value high low i) (pair_value high low 0) (decode_pairs (i + 2) rest) (told rest)
    (same_pair (hex_digit_value high) (hex_digit_value low) high low i 0) (decoded (i + 2) rest)

-- an odd number of bytes is no pairs
none_before : (r : Result ℕ FromHexError) (u : Result (List ℕ) ReadError) → result_ok u ≡ None → result_ok (before_rest r u) ≡ None
none_before (Ok b) (Ok bs) e = cc
none_before (Ok b) (Err d) e = refl
none_before (Err d) u e = refl

odd : (text : List ℕ) → length text % 2 ≡ 1 → result_ok (told text) ≡ None
odd [] e = absurd (omega (arith, e))
odd (digit ∷ []) e = refl
odd (high ∷ low ∷ rest) e = none_before (pair_value high low 0) (told rest) (odd rest (omega (arith, e)))

tested : (test : Bool) (r : Result (List ℕ) FromHexError) (o : Option (List ℕ)) → result_ok r ≡ o → (test ≡ true → o ≡ None) → result_ok (cond test (Err OddLength) r) ≡ o
tested true r o e none = sym (none refl)
tested false r o e none = e

all_told : (text : List ℕ) → pairs_of text ≡ result_ok (told text)
all_told text =
    tested (nat_eq (length text % 2) 1) (decode_pairs 0 text) (result_ok (told text)) (decoded 0 text)
    (λ t. odd text (eqb-true (length text % 2) 1 t))

-- the whole pairs of a text whose first pair is whole
whole_behind : (high low : ℕ) (rest : List ℕ) → whole_pairs (high ∷ low ∷ rest) ≡ high ∷ low ∷ whole_pairs rest
whole_behind high low rest =
    let n : length (high ∷ low ∷ rest) - length (high ∷ low ∷ rest) % 2 ≡ suc (suc (length rest - length rest % 2)) = omega arith in
    ap (λ k. take k (high ∷ low ∷ rest)) n

-- the error found from the left is the reason
blamed_before : (r : Result ℕ FromHexError) (whole u : Result (List ℕ) ReadError) (e : ReadError) → before_rest r u ≡ Err e → (u ≡ Err e → e ≡ (if is_some (result_ok whole) then LoneDigit else NoDigit)) → e ≡ (if is_some (result_ok (before_rest r whole)) then LoneDigit else NoDigit)
blamed_before (Ok b) (Ok w) (Ok u) e h f = cc
blamed_before (Ok b) (Err w) (Ok u) e h f = cc
blamed_before (Ok b) (Ok w) (Err u) e h f = f (cc)
blamed_before (Ok b) (Err w) (Err u) e h f = f (cc)
blamed_before (Err d) w u e h f = cc

blamed : (text : List ℕ) (e : ReadError) → told text ≡ Err e → e ≡ (if is_some (result_ok (told (whole_pairs text))) then LoneDigit else NoDigit)
blamed [] e h = cc
blamed (digit ∷ []) e h = cc
blamed (high ∷ low ∷ rest) e h =
    rw whole_behind (blamed_before (pair_value high low 0) (told (whole_pairs rest)) (told rest) e h (blamed rest e))

pub told_all : (text bs : List ℕ) → told text ≡ Ok bs → pairs_of text ≡ Some bs
told_all text bs h = all_told text ∙ ap result_ok h

pub told_why : (text : List ℕ) (e : ReadError) → told text ≡ Err e → (pairs_of text ≡ None) × (e ≡ why_no_pairs text)
told_why text e h = (
  all_told text ∙ ap result_ok h,
  blamed text e h ∙ ap (λ o. if is_some o then LoneDigit else NoDigit) (sym (all_told (whole_pairs text))),
)

one_before : (b : ℕ) (r : Result (List ℕ) ReadError) → before_rest (Ok b) r ≡ put (b ∷ []) r
one_before b (Ok bs) = refl
one_before b (Err e) = refl

-- a pair and what is behind it
behind_pair : (r : Result ℕ FromHexError) (more : List ℕ) → IsNoDigit r → MatchResult (r >>= (λ b. Ok (b ∷ []))) (λ bs. before_rest r (told more) ≡ put bs (told more)) (λ e. before_rest r (told more) ≡ Err (why_no_hex e))
behind_pair (Ok b) more h = one_before b (told more)
behind_pair (Err e) more h = ap Err (sym h)

-- the first two bytes of a text, or its only one, and what is behind them
one_more : (x more : List ℕ) → 0 < length (x ++ more) → length x ≡ min 2 (length (x ++ more)) → MatchResult (decode_sized x 1) (λ bs. told (x ++ more) ≡ put bs (told more)) (λ e. told (x ++ more) ≡ Err (why_no_hex e))
unfolding decode_pairs
one_more [] more some len = absurd (omega (arith, len, some))
one_more (a ∷ []) [] some len = refl
one_more (a ∷ []) (b ∷ more) some len = absurd (omega (arith, len))
one_more (a ∷ b ∷ []) more some len = behind_pair (pair_value a b 0) more (no_digit (hex_digit_value a) (hex_digit_value b) a b 0)
one_more (a ∷ b ∷ c ∷ x) more some len = absurd (omega (arith, len))

-- what the next chunk of a text tells
chunk_told : (rest x more : List ℕ) (size : ℕ) (r : Result (List ℕ) FromHexError) → size ≡ 2 → (rest ≡ x ++ more) × (length x ≡ min size (length rest)) × (0 < length rest) → r ≡ decode_sized x 1 → MatchResult r (λ bs. told rest ≡ put bs (told more)) (λ e. told rest ≡ Err (why_no_hex e))
chunk_told rest x more size r two chunk is =
    let len : length x ≡ min 2 (length (x ++ more)) = chunk.1 ∙ ap (λ n. min n (length rest)) two ∙ ap (λ l. min 2 (length l)) chunk.0 in
    let some : 0 < length (x ++ more) = omega (arith, ap length chunk.0) in
    rw (is, chunk.0) (one_more x more some len)

pub chunk_good : (rest x more : List ℕ) (size : ℕ) (r : Result (List ℕ) FromHexError) (bs : List ℕ) → size ≡ 2 → (rest ≡ x ++ more) × (length x ≡ min size (length rest)) × (0 < length rest) → r ≡ decode_sized x 1 → r ≡ Ok bs → told rest ≡ put bs (told more)
chunk_good rest x more size r bs two chunk is was = rw was at (chunk_told rest x more size r two chunk is)

chunk_bad : (rest x more : List ℕ) (size : ℕ) (r : Result (List ℕ) FromHexError) (e : FromHexError) → size ≡ 2 → (rest ≡ x ++ more) × (length x ≡ min size (length rest)) × (0 < length rest) → r ≡ decode_sized x 1 → r ≡ Err e → told rest ≡ Err (why_no_hex e)
chunk_bad rest x more size r e two chunk is was = rw was at (chunk_told rest x more size r two chunk is)

put_both : (front more : List ℕ) (r : Result (List ℕ) ReadError) → put (front ++ more) r ≡ put front (put more r)
put_both front more (Ok bs) = ap Ok (append_assoc front more bs)
put_both front more (Err e) = refl

-- the loop's turn: a byte more stands behind the others
pub told_more : (front more rest behind longer : List ℕ) (all : Result (List ℕ) ReadError) → put front (told rest) ≡ all → told rest ≡ put more (told behind) → longer ≡ front ++ more → put longer (told behind) ≡ all
told_more front more rest behind longer all read turn joins =
    ap (λ l. put l (told behind)) joins ∙ put_both front more (told behind) ∙ sym (ap (put front) turn) ∙ read

-- its end: nothing is left
put_all : (front before rest : List ℕ) (r : Result (List ℕ) ReadError) → length rest ≡ 0 → put front (told rest) ≡ put before r → Adds (result_ok r) before front
put_all front before [] (Ok bs) none read = let e = append-nil front in cc
put_all front before [] (Err e) none read = cc
put_all front before (x ∷ rest) r none read = absurd (omega (arith, none))

pub told_end : (front before rest text : List ℕ) → length rest ≡ 0 → put front (told rest) ≡ put before (told text) → Adds (pairs_of text) before front
told_end front before rest text none read =
    ap (λ o. option_map (λ back. before ++ back) o) (all_told text) ∙ put_all front before rest (told text) none read

-- a bad pair refuses the text
put_err : (front : List ℕ) (r : Result (List ℕ) ReadError) (e : ReadError) → put front r ≡ Err e → r ≡ Err e
put_err front (Ok bs) e h = cc
put_err front (Err d) e h = h

pub told_bad : {T : Type 0} (answer : Result T ReadError) (front before text rest x more : List ℕ) (size : ℕ) (r : Result (List ℕ) FromHexError) (hex : FromHexError) → IsErrAnd answer (λ e. e ≡ why_no_hex hex) → put front (told rest) ≡ put before (told text)
    → size ≡ 2 → (rest ≡ x ++ more) × (length x ≡ min size (length rest)) × (0 < length rest) → r ≡ decode_sized x 1 → r ≡ Err hex
    → IfErr answer (λ e. (e ≡ OutOfMemory) ⊎ ((pairs_of text ≡ None) × (e ≡ why_no_pairs text)))
told_bad (Ok x) _ _ _ _ _ _ _ _ _ _ _ _ _ _ _ = tt
told_bad (Err e) front before text rest x more size r hex says read two chunk is was =
    let bad : told rest ≡ Err e = chunk_bad rest x more size r hex two chunk is was ∙ ap Err (sym says) in
    inr (told_why text e (put_err before (told text) e (sym read ∙ ap (put front) bad)))

-- once more behind is once more in front
repeat_more : (n : ℕ) (xs : List ℕ) → repeat n xs ++ xs ≡ repeat (suc n) xs
repeat_more zero xs = sym (append-nil xs)
repeat_more (suc n) xs = append_assoc xs (repeat n xs) xs ∙ ap (λ l. xs ++ l) (repeat_more n xs)

pos_left : (a b : ℕ) → 0 < a * b → 0 < a
pos_left zero b h = absurd (omega (arith, h, zero-mul b))
pos_left (suc a) b h = omega arith

length-repeat : (n : ℕ) (xs : List ℕ) → length (repeat n xs) ≡ n * length xs
length-repeat zero xs = sym (zero-mul (length xs))
length-repeat (suc n) xs = length-append xs (repeat n xs) ∙ ap (λ k. length xs + k) (length-repeat n xs) ∙ omega (arith, suc-mul n (length xs))

-- a byte of the copies is the one that stands a whole copy before it
same_before : (once : List ℕ) (n i d : ℕ) → 0 < length once → i < length (repeat n once) → get_or (once ++ take i (repeat n once)) i d ≡ get_or (repeat n once) i d
same_before once n i d some more =
    let all : List ℕ = repeat n once in
    let len : length (once ++ take i all) ≡ length once + i = length-append once (take i all) ∙ ap (λ k. length once + k) (length-take-le i all (omega arith)) in
    sym (get_or_append_left (once ++ take i all) (drop i all) d i (omega arith))
    ∙ ap (λ l. get_or l i d) (append_assoc once (take i all) (drop i all) ∙ ap (λ l. once ++ l) (take-append-drop i all) ∙ sym (repeat_more n once))
    ∙ get_or_append_left all once d i more

-- a product that fits
pub product : (o : Option ℕ) (P : Type 0) (v n : ℕ) → SomeIff o P v → o ≡ Some n → n ≡ v
product None P v n h is = cc
product (Some x) P v n h is = let e = h.1 in cc

-- where a byte of the copies is still to come, there are bytes to copy, and it is one of theirs
pub within : (old : List ℕ) (start n i : ℕ) → start ≤ length old → i < (length old - start) * n → (start < length old) × (i < length (repeat n (drop start old)))
within old start n i fits more =
    let some : 0 < length old - start = pos_left (length old - start) n (omega arith) in
    (omega arith, omega (arith, length-repeat n (drop start old), ap (λ k. n * k) (length-drop start old), mul_comm n (length old - start)))

-- and it is found a whole copy before its place
pub in_bounds : (old now : List ℕ) (start n i : ℕ) → start < length old → i < length (repeat n (drop start old)) → now ≡ old ++ take i (repeat n (drop start old)) → start + i < length now
in_bounds old now start n i fits more so_far =
    omega (arith, ap length so_far, length-append old (take i (repeat n (drop start old))), length-take-le i (repeat n (drop start old)) (omega arith))

-- the loop's turn: a byte of the copies more
pub again_more : (old now longer : List ℕ) (start n i b : ℕ) → start < length old → i < length (repeat n (drop start old)) → now ≡ old ++ take i (repeat n (drop start old)) → b ≡ get_or now (start + i) b → longer ≡ now ++ b ∷ [] → longer ≡ old ++ take (i + 1) (repeat n (drop start old))
again_more old now longer start n i b fits more so_far is joins =
    let once : List ℕ = drop start old in
    let all : List ℕ = repeat n once in
    let front : List ℕ = take start old in
    let some : 0 < length once = omega (arith, length-drop start old) in
    let at_front : length front ≡ start = length-take-le start old (omega arith) in
    let same : b ≡ get_or all i b =
    is
    ∙ ap (λ l. get_or l (start + i) b) (so_far ∙ ap (λ l. l ++ take i all) (sym (take-append-drop start old)) ∙ append_assoc front once (take i all))
    ∙ ap (λ k. get_or (front ++ (once ++ take i all)) (k + i) b) (sym at_front)
    ∙ get_or-append-add front (once ++ take i all) i b
    ∙ same_before once n i b some more in
    joins
    ∙ ap (λ l. l ++ b ∷ []) so_far
    ∙ append_assoc old (take i all) (b ∷ [])
    ∙ ap (λ x. old ++ (take i all ++ x ∷ [])) same
    ∙ ap (λ l. old ++ l) (sym (take_more all i b more))

-- its end: no byte of the copies is left
pub again_all : (old now : List ℕ) (start n i : ℕ) → now ≡ old ++ take i (repeat n (drop start old)) → (length old - start) * n ≤ i → now ≡ old ++ repeat n (drop start old)
again_all old now start n i so_far end =
    let len : length (repeat n (drop start old)) ≤ i = omega (arith, length-repeat n (drop start old), length-drop start old, ap (λ k. n * k) (length-drop start old), mul_comm n (length old - start)) in
    so_far ∙ ap (λ l. old ++ l) (take_all i (repeat n (drop start old)) len)

-- bytes that came once and then come again so many times less one
pub repeated : (old once_more all : List ℕ) (o : Option (List ℕ)) (start n m : ℕ) → Adds o old once_more → start ≡ length old → all ≡ once_more ++ repeat m (drop start once_more) → suc m ≡ n → Adds (option_map (λ once. repeat n once) o) old all
repeated old once_more all None start n m adds is joins next = cc
repeated old once_more all (Some once) start n m adds is joins next =
    let mid : once_more ≡ old ++ once = cc in
    let last : drop start once_more ≡ once = ap (λ k. drop k once_more) is ∙ ap (drop (length old)) mid ∙ drop-append_seam old once in
    ap Some (ap (λ k. old ++ repeat k once) (sym next) ∙ sym (append_assoc old once (repeat m once))
    ∙ ap (λ l. l ++ repeat m once) (sym mid) ∙ ap (λ l. once_more ++ repeat m l) (sym last) ∙ sym joins)
