-- What the library's readers say of a text, in the words of `specs/Texts`.
use Rattle.std.proofs.Common.{◌≡◌, ℕ, ◌<◌, ◌^◌, if◌then◌else◌, Bool, true, false, cond, ◌&&◌, List, [], ◌∷◌, ◌++◌, length, Option, Some, None, Result, Ok, Err, Bor, lit<, map, drop, get_or, ◌+◌, append_assoc, append-nil, nat_lt, ◌⊎◌, inl, inr, codes, bytes_eq, arith, option_map, option_and_then, nat_eq, ◌≢◌, subst, sym, ◌∙◌, refl, ap}
use Rattle.std.specs.Bool.{Decides}
use Rattle.std.specs.Result.{result_ok, OkIff, IsErrAnd, IfErr}
use Rattle.std.specs.declared.num.ParseIntError.{ParseIntError}
use Rattle.std.specs.declared.num.IntErrorKind.TheVariants.{PosOverflow}
use Rattle.std.specs.Str.{all_ascii_digits}
use Rattle.std.specs.Str.Parse.{ParsesUnsigned, IsNumeral, IsParseIntError, digits_value, error_kind, without_leading_plus}
use Rattle.std.specs.List.{repeat, position_or_len}
use Rattle.std.specs.Option.{option_map_or, MatchOption}
use Rattle.std.proofs.lemmas.Str.Pattern.{IsSplitOnceResult, split_once_first}
use Rattle.std.specs.declared.str.Split.{Split}
use Rattle.std.specs.Str.Iter.{split_steps, split_text, split_has_more, split_pattern}
use Rattle.std.specs.Str.Pattern.{FindsChar}
use Rattle.std.proofs.lemmas.Iterator.{YieldsList}
use Rattle.std.proofs.lemmas.Iterator.Splits.{YieldsList-from_str_split}
use Rattle.std.proofs.lemmas.List.{at_drop_more, drop_all}
use Rattle.std.proofs.lemmas.Str.Parse.{IsNumeralModel, numerals_by_value, tells_all_ascii_digits}
use Rattle.std.proofs.lemmas.Bool.Decides.{nat_tests, Decides-and, Decides-ltb, Decides-like}
use Rattle.given.specs.declared.reading.ReadError.{ReadError}
use Rattle.given.specs.declared.reading.ReadError.TheVariants.{NoNumber, OutOfMemory}
use Rattle.given.specs.Texts.{number_of, part_of, pairs_of, repeated_of, sides, joined, parts_of, bytes_of, why_no_pairs, WhyNoNumber, WhyNotRepeated, WhyNoPart, FirstBad, Adds}

digits : IsNumeralModel (λ ds. all_ascii_digits ds ≡ true) (digits_value 10)
digits = numerals_by_value _ tells_all_ascii_digits

-- the test of a numeral
numeral_tested : (limit : ℕ) (ds : List ℕ) → Decides (nat_lt 0 (length ds) && (all_ascii_digits ds && nat_lt (digits_value 10 ds) limit)) (IsNumeral 10 ds × (digits_value 10 ds < limit))
numeral_tested limit ds =
    Decides-like _ (λ h. ((h.0, digits.to ds h.1.0), h.1.1)) (λ h. (h.0.0, (digits.from ds h.0.1, h.1)))
    (Decides-and _ _ (Decides-ltb 0 (length ds)) (Decides-and _ _ ((λ h. h), (λ h. h)) (Decides-ltb (digits_value 10 ds) limit)))

-- what is Ok just where a fact holds, that a test decides
ok_tested : {T E P : Type 0} (test : Bool) (v : T) (r : Result T E) → OkIff r P v → Decides test P → result_ok r ≡ cond test (Some v) None
ok_tested true v (Ok x) h d = ap Some h.1
ok_tested true v (Err e) h d = absurd (h (d.0 refl))
ok_tested false v (Ok x) h d = let e : false ≡ true = d.1 h.0 in cc
ok_tested false v (Err e) h d = refl

-- a parsed number is the number of the text, and where none is parsed the text has none
pub parsed : {E : Type 0} (k : ℕ) (bs : List ℕ) (r : Result ℕ E) → ParsesUnsigned k 10 bs r → result_ok r ≡ number_of (2 ^ k) bs
parsed k bs r h = ok_tested _ _ r h (numeral_tested (2 ^ k) (without_leading_plus bs))

-- a part whose bytes come as often as the number behind its x says
pub counted : (part pairs times : List ℕ) (o : Option ℕ) → sides 120 part ≡ Some (pairs, times) → number_of (2 ^ 32) times ≡ o → part_of part ≡ option_and_then (λ n. if nat_eq n 0 then Some [] else option_map (λ once. repeat n once) (pairs_of pairs)) o
counted part pairs times o s n =
    ap (λ p. option_map_or repeated_of p (pairs_of part)) s
    ∙ ap (λ m. option_and_then (λ n. if nat_eq n 0 then Some [] else option_map (λ once. repeat n once) (pairs_of pairs)) m) n

-- none where they never come
pub never : (part pairs times : List ℕ) (n : ℕ) → sides 120 part ≡ Some (pairs, times) → number_of (2 ^ 32) times ≡ Some n → n ≡ 0 → part_of part ≡ Some []
never part pairs times n s number none = counted part pairs times (Some 0) s (number ∙ ap Some none)

-- and else those of the pairs so many times
pub often : (part pairs times : List ℕ) (n : ℕ) → sides 120 part ≡ Some (pairs, times) → number_of (2 ^ 32) times ≡ Some n → n ≢ 0 → part_of part ≡ option_map (λ once. repeat n once) (pairs_of pairs)
often part pairs times n s number some =
    let test : nat_eq n 0 ≡ false = grind (arith, nat_tests) in
    counted part pairs times (Some n) s number ∙ ap (λ t. if t then Some [] else option_map (λ once. repeat n once) (pairs_of pairs)) test

-- where `split_once` cuts
pub cut : (c : ℕ) (bs : List ℕ) (r : Option (Bor (List ℕ) × Bor (List ℕ))) → IsSplitOnceResult c bs r → c < 128 → sides c bs ≡ option_map (λ x. (x.0.now, x.1.now)) r
cut c bs None h ascii =
    let first = split_once_first c bs None h ascii in grind (arith, nat_tests)
cut c bs (Some x) h ascii =
    let first = split_once_first c bs (Some x) h ascii in
    let lt = first.0 in
    let test : nat_eq (position_or_len (λ b. nat_eq b c) bs) (length bs) ≡ false = grind (arith, nat_tests) in
    rw test (cc)

at_some : {A : Type 0} (P : Type 0) (Q : A → Type 0) (o : Option A) (x : A) → o ≡ Some x → Q x → MatchOption o P Q
at_some P Q o x e q = subst (λ p. MatchOption p P Q) (sym e) q

at_none : {A : Type 0} (P : Type 0) (Q : A → Type 0) (o : Option A) → o ≡ None → P → MatchOption o P Q
at_none P Q o e p = subst (λ p. MatchOption p P Q) (sym e) p

-- an error that says that no number stands behind the x of a part, where none does
pub uncounted : {T : Type 0} (r : Result T ReadError) (part pairs times : List ℕ) (number : ParseIntError) → IsErrAnd r (λ e. e ≡ NoNumber (error_kind number)) → sides 120 part ≡ Some (pairs, times) → number_of (2 ^ 32) times ≡ None
    → IsParseIntError 10 times (without_leading_plus times) PosOverflow (error_kind number) → IfErr r (λ e. (e ≡ OutOfMemory) ⊎ ((part_of part ≡ None) × WhyNoPart part e))
uncounted (Ok x) part pairs times number says s n why = tt
uncounted (Err e) part pairs times number says s n why =
    let none : WhyNotRepeated (pairs, times) e = at_none (WhyNoNumber times e) _ (number_of (2 ^ 32) times) n (error_kind number, says, why) in
    inr (counted part pairs times None s n, at_some _ (λ p. WhyNotRepeated p e) (sides 120 part) (pairs, times) s none)

-- an error that is passed on, with what it says
pub passed_on : {T P : Type 0} (Q : ReadError → Type 0) (r : Result T ReadError) (e : ReadError) → IsErrAnd r (λ d. d ≡ e) → (e ≡ OutOfMemory) ⊎ P → (P → Q e) → IfErr r (λ d. (d ≡ OutOfMemory) ⊎ Q d)
passed_on Q (Ok x) e says why f = tt
passed_on Q (Err d) e says (inl memory) f = inl (says ∙ memory)
passed_on Q (Err d) e says (inr bad) f = inr (subst Q (sym says) (f bad))

-- bad digits of a part that come as often as a number says, and so once or more
pub misread : (part pairs times : List ℕ) (n : ℕ) (e : ReadError) → sides 120 part ≡ Some (pairs, times) → number_of (2 ^ 32) times ≡ Some n → n ≢ 0 → (pairs_of pairs ≡ None) × (e ≡ why_no_pairs pairs) → (part_of part ≡ None) × WhyNoPart part e
misread part pairs times n e s number some bad =
    let why : WhyNotRepeated (pairs, times) e = at_some (WhyNoNumber times e) (λ n. e ≡ why_no_pairs pairs) (number_of (2 ^ 32) times) n number bad.1 in (
      often part pairs times n s number some ∙ ap (option_map (λ once. repeat n once)) bad.0,
      at_some _ (λ p. WhyNotRepeated p e) (sides 120 part) (pairs, times) s why,
    )

-- what was put behind other bytes
pub added : (o : Option (List ℕ)) (before after : List ℕ) → Adds o before after → (more : List ℕ) × (o ≡ Some more) × (after ≡ before ++ more)
added None before after adds = cc
added (Some more) before after adds = (more, refl, cc)

-- the first n parts gave `front`: what the rest gives behind it is what they all give
abbrev pub ReadUpTo : List (List ℕ) → ℕ → List ℕ → Type 0
ReadUpTo parts n front = option_map (λ back. front ++ back) (joined (map part_of (drop n parts))) ≡ joined (map part_of parts)

-- what the parts from the n-th on give, which is x
from_turn : (parts : List (List ℕ)) (n : ℕ) (x : List ℕ) (o : Option (List ℕ)) → (n < length parts) × (x ≡ get_or parts n x) → part_of x ≡ o → joined (map part_of (drop n parts)) ≡ option_and_then (λ more. option_map (λ back. more ++ back) (joined (map part_of (drop (n + 1) parts)))) o
from_turn parts n x o turn is =
    at_drop_more (λ xs. joined (map part_of xs)) parts n x turn.0
    ∙ ap (λ y. option_and_then (λ more. option_map (λ back. more ++ back) (joined (map part_of (drop (n + 1) parts)))) (part_of y)) (sym turn.1)
    ∙ ap (λ y. option_and_then (λ more. option_map (λ back. more ++ back) (joined (map part_of (drop (n + 1) parts)))) y) is

put_behind_none : (o : Option (List ℕ)) → option_map (λ back. [] ++ back) o ≡ o
put_behind_none None = refl
put_behind_none (Some x) = refl

pub read-none : (parts : List (List ℕ)) (front : List ℕ) → front ≡ [] → ReadUpTo parts 0 front
read-none parts front e =
    ap (λ f. option_map (λ back. f ++ back) (joined (map part_of parts))) e ∙ put_behind_none _

put_behind_both : (front more : List ℕ) (o : Option (List ℕ)) → option_map (λ back. (front ++ more) ++ back) o ≡ option_map (λ back. front ++ back) (option_map (λ back. more ++ back) o)
put_behind_both front more None = refl
put_behind_both front more (Some x) = ap Some (append_assoc front more x)

pub read-more : (parts : List (List ℕ)) (n : ℕ) (front x more : List ℕ) → ReadUpTo parts n front → (n < length parts) × (x ≡ get_or parts n x) → part_of x ≡ Some more
    → (m : ℕ) (longer : List ℕ) → m ≡ n + 1 → longer ≡ front ++ more → ReadUpTo parts m longer
read-more parts n front x more read turn is m longer next joins =
    ap (λ f. option_map (λ back. f ++ back) (joined (map part_of (drop m parts)))) joins
    ∙ ap (λ k. option_map (λ back. (front ++ more) ++ back) (joined (map part_of (drop k parts)))) next
    ∙ put_behind_both front more _
    ∙ sym (ap (λ o. option_map (λ back. front ++ back) o) (from_turn parts n x (Some more) turn is))
    ∙ read

pub read-bad : (parts : List (List ℕ)) (n : ℕ) (front x : List ℕ) → ReadUpTo parts n front → (n < length parts) × (x ≡ get_or parts n x) → part_of x ≡ None → joined (map part_of parts) ≡ None
read-bad parts n front x read turn is =
    sym read ∙ ap (λ o. option_map (λ back. front ++ back) o) (from_turn parts n x None turn is)

-- the parts from the n-th on, which is x
at_turn : (parts : List (List ℕ)) (n : ℕ) (x : List ℕ) → (n < length parts) × (x ≡ get_or parts n x) → drop n parts ≡ x ∷ drop (n + 1) parts
at_turn parts n x turn = at_drop_more (λ xs. xs) parts n x turn.0 ∙ ap (λ y. y ∷ drop (n + 1) parts) (sym turn.1)

-- the first bad part behind a good one
pub bad-more : (parts : List (List ℕ)) (n : ℕ) (x more : List ℕ) (e : ReadError) → (n < length parts) × (x ≡ get_or parts n x) → part_of x ≡ Some more → FirstBad (drop (n + 1) parts) e → FirstBad (drop n parts) e
bad-more parts n x more e turn is bad =
    subst (λ xs. FirstBad xs e) (sym (at_turn parts n x turn)) (at_some (WhyNoPart x e) (λ _. FirstBad (drop (n + 1) parts) e) (part_of x) more is bad)

-- a bad part is the first of those from it on
pub bad-first : (parts : List (List ℕ)) (n : ℕ) (x : List ℕ) (e : ReadError) → (n < length parts) × (x ≡ get_or parts n x) → part_of x ≡ None → WhyNoPart x e → FirstBad (drop n parts) e
bad-first parts n x e turn is why =
    subst (λ xs. FirstBad xs e) (sym (at_turn parts n x turn)) (at_none (WhyNoPart x e) (λ _. FirstBad (drop (n + 1) parts) e) (part_of x) is why)

pub read-all : (parts : List (List ℕ)) (n : ℕ) (front : List ℕ) → ReadUpTo parts n front → n ≡ length parts → joined (map part_of parts) ≡ Some front
read-all parts n front read end =
    sym read ∙ ap (λ xs. option_map (λ back. front ++ back) (joined (map part_of xs))) (drop_all n parts (omega arith)) ∙ ap Some (append-nil front)

-- a `for` over the parts of a text yields them in order
pub parts_in_order : (text : List ℕ) (s t : Split ℕ) → s ≡ t → split_text t ≡ text → split_has_more t ≡ true → split_pattern t ≡ 46 → YieldsList (split_steps FindsChar (λ a b. b ≡ a)) (λ x. x.now) s (parts_of text)
parts_in_order text s t e whole more point =
    YieldsList-from_str_split 46 text (lit< tt) (ap split_text e ∙ whole) (ap split_has_more e ∙ more) (ap split_pattern e ∙ point)

-- the bytes of a text that is no `-`
pub no_dash : (text : List ℕ) (o : Option (List ℕ)) → bytes_eq text (codes "-") ≡ false → joined (map part_of (parts_of text)) ≡ o → bytes_of text ≡ o
no_dash text o other all =
    ap (λ t. cond t (Some []) (joined (map part_of (parts_of text)))) other ∙ all
