use Rattle.std.proofs.Common.{◌≡◌, ℕ, zero, suc, ◌-◌, ◌<◌, ◌≤◌, Bool, true, false, cond, ◌&&◌, ◌||◌, eqb, leb, List, [], ◌∷◌, length, get_or, take, drop, ℤ, pos, neg_ℤ, Some, None, Ok, Err, Option, Result, refl, ap, ◌∙◌, arith}
use Rattle.std.proofs.lemmas.Bool.{cond_both, leb-true, leb-false}
use Rattle.std.proofs.lemmas.Bool.Decides.{nat_tests}
use Rattle.source.specs.declared.ending.Ending.{Ending}
use Rattle.source.specs.declared.ending.Ending.TheVariants.{Clean, Damaged}
use Rattle.source.specs.declared.fault.Fault.{Fault}
use Rattle.source.specs.declared.fault.Fault.TheVariants.{RadixRange}
use Rattle.source.specs.Gone.{Behind}
use Rattle.source.proofs.Going.{behind_self, behind_trans, behind_fewer}
use Rattle.scanner.specs.declared.failure.Failure.{Failure}
use Rattle.scanner.specs.declared.failure.Failure.TheVariants as failure
use Rattle.scanner.specs.declared.class.Class.{Class}
use Rattle.scanner.specs.declared.class.Class.TheVariants.{White, Special, Regular}
use Rattle.scanner.specs.declared.kinds.Kind.{Kind}
use Rattle.scanner.specs.declared.kinds.Kind.TheVariants as kind
use Rattle.scanner.specs.declared.kinds.Token.{Token}
use Rattle.scanner.specs.declared.tokens.Start.{Start}
use Rattle.scanner.specs.declared.tokens.Start.TheVariants as start
use Rattle.scanner.specs.Classes.{class_of}
use Rattle.scanner.specs.Digits.{digits_of}
use Rattle.scanner.specs.Kinds.{value_of}
use Rattle.scanner.specs.HexStrings.{hex_at}
use Rattle.scanner.specs.Numbers.{signed, signed_value, behind_sign, negative, integer_of, integer_or, twos_of, radix_value, radix_in, radix_of, radix_or, real_of, word_of}
use Rattle.scanner.specs.Runs.{run_by, run_at}
use Rattle.scanner.specs.Scan.{Scan}
use Rattle.scanner.specs.Spaces.{skipped}
use Rattle.scanner.specs.Strings.{string_of}
use Rattle.scanner.specs.Takes.{take_if_of}
use Rattle.scanner.specs.Tokens.{start_of, ended_token, judged_by, worded, tokened, as_token, slash, less_by, less_of, hex_token_of, greater_by, unfit, next_by, next_of, token_of}
use Rattle.scanner.specs.AnswerLaw.{said, InRange, KindValue, Valued, AnswerLaw}
use Rattle.scanner.proofs.PieceUses.{steady_take_if}
use Rattle.scanner.proofs.Sound.{count, sound_run, sound_string, sound_hex}
use Rattle.scanner.proofs.TokenUses.{fit_token}
use Rattle.scanner.proofs.Steadiness.{steady_skip, steady_string, steady_name, steady_less, steady_next_token}

-- the count of an answer

tokened_said : (k : Kind) (r : Result ℕ Failure) → said (tokened k r) ≡ count r
tokened_said k (Ok n) = refl
tokened_said k (Err failure.Area) = refl
tokened_said k (Err (failure.Fault f n)) = refl

judged_said : (w : Result Kind Fault) (s : List ℕ) → said (judged_by w s) ≡ length s
judged_said (Ok k) s = refl
judged_said (Err f) s = refl

worded_said : (r : Result ℕ Failure) (s : List ℕ) → count r ≡ length s → said (worded r s) ≡ length s
worded_said (Ok n) s e = judged_said (word_of s) s
worded_said (Err failure.Area) s e = e
worded_said (Err (failure.Fault f n)) s e = e

abbrev Said : Scan (Result Token Failure) → Type 0
Said s = said s.answer ≡ length s.content

token_said : (k : Kind) (s : Scan (Result ℕ Failure)) → count s.answer ≡ length s.content → Said (as_token k s)
token_said k s e = tokened_said k s.answer ∙ e

less_said : (room : ℕ) (rest : List ℕ) (e : Ending) → Said (less_of room rest e)
less_said room rest e = at (take_if_of 60 rest e).answer
  where
    at : (a : Result Bool Ending) → Said (less_by a (take_if_of 60 rest e).left (take_if_of 60 rest e).peeked (hex_token_of room (take_if_of 60 rest e).left e))
    at (Err f) = refl
    at (Ok true) = refl
    at (Ok false) = token_said kind.HexString (hex_at room [] None (take_if_of 60 rest e).left e) (sound_hex room (take_if_of 60 rest e).left e).counted

greater_said : (a : Result Bool Ending) → said (greater_by a) ≡ 0
greater_said (Err f) = refl
greater_said (Ok true) = refl
greater_said (Ok false) = refl

next_said : (k : Option Start) (room b : ℕ) (bs : List ℕ) (e : Ending) → Said (next_by k room b bs e)
next_said None room b bs e = worded_said (run_at [] (b ∷ bs)).answer (run_at [] (b ∷ bs)).content (sound_run [] (b ∷ bs)).counted
next_said (Some start.String) room b bs e = token_said kind.String (string_of room bs e) (sound_string room bs e).counted
next_said (Some start.Slash) room b bs e = token_said (slash (take_if_of 47 bs e).answer) (run_at [] (take_if_of 47 bs e).left) (sound_run [] (take_if_of 47 bs e).left).counted
next_said (Some start.Less) room b bs e = less_said room bs e
next_said (Some start.Greater) room b bs e = greater_said (take_if_of 62 bs e).answer
next_said (Some (start.Bracket k)) room b bs e = refl
next_said (Some start.Stray) room b bs e = refl

ended_said : (e : Ending) → said (ended_token e) ≡ 0
ended_said Clean = refl
ended_said (Damaged d n) = refl

all_said : (room : ℕ) (rest : List ℕ) (e : Ending) → Said (next_of room rest e)
all_said room [] e = ended_said e
all_said room (b ∷ bs) e = next_said (start_of b) room b bs e

said_cond : (b : Bool) (s t : Scan (Result Token Failure)) → Said s → Said t → Said (cond b s t)
said_cond true s t x y = x
said_cond false s t x y = y

behind_cond : (rest : List ℕ) (b : Bool) (s t : Scan (Result Token Failure)) → Behind s.left rest → Behind t.left rest → Behind (cond b s t).left rest
behind_cond rest true s t x y = x
behind_cond rest false s t x y = y

-- the value of an answer

negated : (v : ℕ) → v ≤ 2147483648 → InRange (neg_ℤ (pos v))
negated zero h = omega arith
negated (suc v) h = omega arith

abbrev OptionValued : Option ℤ → Type 0
OptionValued None = Unit {0}
OptionValued (Some v) = InRange v

signed_valued : (minus : Bool) (v : ℕ) → OptionValued (signed minus v)
signed_valued true v = cond_both (leb v 2147483648) (Some (neg_ℤ (pos v))) None OptionValued (λ e. negated v (leb-true v 2147483648 e)) (λ e. tt)
signed_valued false v = cond_both (leb v 2147483647) (Some (pos v)) None OptionValued (λ e. leb-true v 2147483647 e) (λ e. tt)

integer_valued : (minus : Bool) (o : Option ℕ) → OptionValued (signed_value minus o)
integer_valued minus None = tt
integer_valued minus (Some v) = signed_valued minus v

abbrev WordValued : Result Kind Fault → Type 0
WordValued (Ok k) = KindValue k (value_of k)
WordValued (Err f) = Unit {0}

twos_valued : (v : ℕ) → WordValued (twos_of v)
twos_valued v =
    cond_both (leb v 2147483647) (Ok (kind.Integer (pos v))) _ WordValued (λ e. leb-true v 2147483647 e)
    (λ e. cond_both (leb v 4294967295) (Ok (kind.Integer (neg_ℤ (pos (4294967296 - v))))) (Err RadixRange) WordValued
    (λ f. negated (4294967296 - v) (let k : 2147483647 < v = leb-false v 2147483647 e in omega arith)) (λ f. tt))

abbrev OptionWord : Option (Result Kind Fault) → Type 0
OptionWord None = Unit {0}
OptionWord (Some w) = WordValued w

radix_valued : (base : Option ℕ) (s : List ℕ) → OptionWord (radix_in base s)
radix_valued None s = tt
radix_valued (Some base) s = cond_both (leb 2 base && leb base 36) (radix_value (digits_of base s)) None OptionWord (λ e. at (digits_of base s)) (λ e. tt)
  where
    at : (o : Option ℕ) → OptionWord (radix_value o)
    at None = tt
    at (Some v) = twos_valued v

word_valued : (s : List ℕ) → WordValued (word_of s)
word_valued s = whole (integer_of s) (integer_valued (negative s) (digits_of 10 (behind_sign s)))
  where
    last : WordValued (cond (real_of s) (Ok kind.Real) (Ok kind.Name))
    last = cond_both (real_of s) (Ok kind.Real) (Ok kind.Name) WordValued (λ e. refl) (λ e. refl)

    based : (o : Option (Result Kind Fault)) → OptionWord o → WordValued (radix_or o (cond (real_of s) (Ok kind.Real) (Ok kind.Name)))
    based None h = last
    based (Some w) h = h

    of_radix : OptionWord (radix_of s)
    of_radix =
        cond_both (eqb (get_or s 1 0) 35) (radix_in (digits_of 10 (take 1 s)) (drop 2 s)) _ OptionWord (λ e. radix_valued (digits_of 10 (take 1 s)) (drop 2 s))
        (λ e. cond_both (eqb (get_or s 2 0) 35) (radix_in (digits_of 10 (take 2 s)) (drop 3 s)) None OptionWord (λ f. radix_valued (digits_of 10 (take 2 s)) (drop 3 s)) (λ f. tt))

    whole : (o : Option ℤ) → OptionValued o → WordValued (integer_or o (radix_or (radix_of s) (cond (real_of s) (Ok kind.Real) (Ok kind.Name))))
    whole None h = based (radix_of s) of_radix
    whole (Some v) h = h

judged_valued : (w : Result Kind Fault) (s : List ℕ) → WordValued w → Valued (judged_by w s)
judged_valued (Ok k) s h = h
judged_valued (Err f) s h = tt

worded_valued : (r : Result ℕ Failure) (s : List ℕ) → Valued (worded r s)
worded_valued (Ok n) s = judged_valued (word_of s) s (word_valued s)
worded_valued (Err f) s = tt

tokened_valued : (k : Kind) (r : Result ℕ Failure) → KindValue k (value_of k) → Valued (tokened k r)
tokened_valued k (Ok n) h = h
tokened_valued k (Err f) h = tt

slash_valued : (a : Result Bool Ending) → KindValue (slash a) (value_of (slash a))
slash_valued (Ok true) = refl
slash_valued (Ok false) = refl
slash_valued (Err e) = refl

less_valued : (a : Result Bool Ending) (left : List ℕ) (peeked : Bool) (s : Scan (Result ℕ Failure)) → Valued (less_by a left peeked (as_token kind.HexString s)).answer
less_valued (Err f) left peeked s = tt
less_valued (Ok true) left peeked s = refl
less_valued (Ok false) left peeked s = tokened_valued kind.HexString s.answer refl

greater_valued : (a : Result Bool Ending) → Valued (greater_by a)
greater_valued (Err f) = tt
greater_valued (Ok true) = refl
greater_valued (Ok false) = tt

-- what begins a token is no integer
abbrev StartValued : Option Start → Type 0
StartValued (Some (start.Bracket k)) = KindValue k (value_of k)
StartValued (Some start.String) = Unit {0}
StartValued (Some start.Slash) = Unit {0}
StartValued (Some start.Less) = Unit {0}
StartValued (Some start.Greater) = Unit {0}
StartValued (Some start.Stray) = Unit {0}
StartValued None = Unit {0}

either_start : (t : Bool) (x y : Option Start) → StartValued x → StartValued y → StartValued (cond t x y)
either_start true x y p q = p
either_start false x y p q = q

start_valued : (b : ℕ) → StartValued (start_of b)
start_valued b =
    either_start (eqb b 40) (Some start.String) _ tt (either_start (eqb b 47) (Some start.Slash) _ tt
    (either_start (eqb b 60) (Some start.Less) _ tt (either_start (eqb b 62) (Some start.Greater) _ tt
    (either_start (eqb b 91) (Some (start.Bracket kind.OpenArray)) _ refl (either_start (eqb b 93) (Some (start.Bracket kind.CloseArray)) _ refl
    (either_start (eqb b 123) (Some (start.Bracket kind.OpenProcedure)) _ refl (either_start (eqb b 125) (Some (start.Bracket kind.CloseProcedure)) _ refl
    (either_start (eqb b 41 || eqb b 37) (Some start.Stray) None tt tt))))))))

next_valued : (k : Option Start) → StartValued k → (room b : ℕ) (bs : List ℕ) (e : Ending) → Valued (next_by k room b bs e).answer
next_valued None h room b bs e = worded_valued (run_at [] (b ∷ bs)).answer (run_at [] (b ∷ bs)).content
next_valued (Some start.String) h room b bs e = tokened_valued kind.String (string_of room bs e).answer refl
next_valued (Some start.Slash) h room b bs e =
    tokened_valued (slash (take_if_of 47 bs e).answer) (run_at [] (take_if_of 47 bs e).left).answer (slash_valued (take_if_of 47 bs e).answer)
next_valued (Some start.Less) h room b bs e =
    less_valued (take_if_of 60 bs e).answer (take_if_of 60 bs e).left (take_if_of 60 bs e).peeked (hex_at room [] None (take_if_of 60 bs e).left e)
next_valued (Some start.Greater) h room b bs e = greater_valued (take_if_of 62 bs e).answer
next_valued (Some (start.Bracket k)) h room b bs e = h
next_valued (Some start.Stray) h room b bs e = tt

ended_valued : (e : Ending) → Valued (ended_token e)
ended_valued Clean = refl
ended_valued (Damaged d n) = tt

all_valued : (room : ℕ) (rest : List ℕ) (e : Ending) → Valued (next_of room rest e).answer
all_valued room [] e = ended_valued e
all_valued room (b ∷ bs) e = next_valued (start_of b) (start_valued b) room b bs e

valued_cond : (b : Bool) (s t : Scan (Result Token Failure)) → Valued s.answer → Valued t.answer → Valued (cond b s t).answer
valued_cond true s t x y = x
valued_cond false s t x y = y

-- a token takes a byte

-- a byte that begins a run is not special
run_regular : (b : ℕ) → None ≡ start_of b → class_of b ≡ Special → ⊥
run_regular b p q = grind (arith, nat_tests)

run_takes : (k : Class) (b : ℕ) (bs : List ℕ) → (k ≡ Special → ⊥) → length (run_by k [] b bs (run_at (b ∷ []) bs)).left ≤ length bs
run_takes Special b bs no_way = absurd (no_way refl)
run_takes White b bs no_way = omega arith
run_takes Regular b bs no_way = behind_fewer (sound_run (b ∷ []) bs).steady.behind

next_takes : (k : Option Start) (room b : ℕ) (bs : List ℕ) (e : Ending) → k ≡ start_of b → length (next_by k room b bs e).left ≤ length bs
next_takes None room b bs e q = run_takes (class_of b) b bs (run_regular b q)
next_takes (Some start.String) room b bs e q = behind_fewer (steady_string room bs e).behind
next_takes (Some start.Slash) room b bs e q = behind_fewer (steady_name room bs e).behind
next_takes (Some start.Less) room b bs e q = behind_fewer (steady_less room bs e).behind
next_takes (Some start.Greater) room b bs e q = behind_fewer (steady_take_if 62 bs e).behind
next_takes (Some (start.Bracket k)) room b bs e q = omega arith
next_takes (Some start.Stray) room b bs e q = omega arith

next_falls : (room : ℕ) (rest : List ℕ) (e : Ending) → 0 < length rest → length (next_of room rest e).left < length rest
next_falls room [] e h = let no_way : ⊥ = omega arith in absurd no_way
next_falls room (b ∷ bs) e h = omega (arith, next_takes (start_of b) room b bs e refl)

pub answer_law : AnswerLaw
answer_law = record {
  counts = λ room rest e. said_cond (unfit room) _ (next_of room (skipped false rest) e) refl (all_said room (skipped false rest) e);
  values = λ room rest e. valued_cond (unfit room) _ (next_of room (skipped false rest) e) tt (all_valued room (skipped false rest) e);
  behind = λ room rest e. behind_cond rest (unfit room) _ (next_of room (skipped false rest) e) (behind_self rest)
      (behind_trans (steady_next_token room (skipped false rest) e).behind (steady_skip false rest).behind);
  ends = λ room rest e fit none. fit_token room rest e fit ∙ ap (λ r. next_of room r e) none;
  moves = λ room rest e fit some.
      let falls : length (next_of room (skipped false rest) e).left < length (skipped false rest) = next_falls room (skipped false rest) e some in
      let same : length (token_of room rest e).left ≡ length (next_of room (skipped false rest) e).left = ap (λ (s : Scan _). length s.left) (fit_token room rest e fit) in
      omega (arith, behind_fewer (steady_skip false rest).behind);
}
