use Rattle.std.proofs.Common.{◌≡◌, ℕ, ◌+◌, ◌/◌, ◌%◌, ◌<◌, ◌≤◌, false, cond, List, [], ◌∷◌, ◌++◌, take, Some, None, Option, refl, ap, ◌∙◌, ap₂, lit<, lit≤}
use Rattle.std.proofs.lemmas.Bool.{le-leb}
use Rattle.source.specs.Bytes.{unspaced, Bytes}
use Rattle.source.specs.declared.ending.Damage.TheVariants as damage
use Rattle.source.specs.declared.ending.Ending.{Ending}
use Rattle.source.specs.declared.ending.Ending.TheVariants.{Clean, Damaged}
use Rattle.source.specs.Reads.{Read}
use Rattle.decoding.specs.Step.{Own}
use Rattle.decoding.specs.Decoding.{then, decode}
use Rattle.decoding.specs.DecodeSteps.{decode_step}
use Rattle.ascii.specs.Ready4.{bytes4}
use Rattle.ascii.specs.Ascii85.{A85State, value85, holding, a85_group, stopped, a85_turn, a85_at, a85_step}
use Rattle.ascii.specs.Ascii85Sound.{a85_lawful}
use Rattle.ascii.specs.Ascii85Law.{number4, digits85, figures, Encoded, none, one, two, three, four, zeros, Ascii85Law}
use Rattle.ascii.specs.Ascii85Examples.{Ascii85Examples}
use Rattle.ascii.proofs.Ascii85Numbers.{number_small, digits_below, digits_worth, number_bytes, short_one, short_two, short_three}
use Rattle.ascii.proofs.Ascii85Spaced.{figure_is, passed, gone, ended}

pub a85_worked : Ascii85Examples
unfolding decode
a85_worked = record {
  group = refl;
  groups = refl;
  white = refl;
  empty = refl;
  zeros = refl;
  zeros_inside = refl;
  largest = refl;
  beyond = refl;
  one_byte = refl;
  two_bytes = refl;
  three_bytes = refl;
  largest_short = refl;
  beyond_short = refl;
  lone_digit = refl;
  lone_digit_spaced = refl;
  group_then_lone = refl;
  stray_behind_tilde = refl;
  end_behind_tilde = refl;
  end_in_group = refl;
  nothing = refl;
  beyond_u = refl;
  highest_digits = refl;
  no_white = refl;
  opening = refl;
  damage_below = refl;
  deepest_below = refl;
  unread_damage = refl;
}

-- a number that fits gives its bytes
group_is : (n v : ℕ) (o : Option Ending) (bs : List ℕ) → v ≤ 4294967295 → take n (bytes4 v) ≡ bs → a85_group n v o ≡ holding bs o
group_is n v o bs h e =
    ap (λ t. cond t (holding (take n (bytes4 v)) o) (holding [] (Some (Damaged damage.Overflow 0)))) (le-leb v 4294967295 h)
    ∙ ap (λ bs. holding bs o) e

-- a step over a whole group
record Stepped (s : List ℕ) (ready t : List ℕ) : Type 0 where
  behind : List ℕ
  spaced : unspaced behind ≡ t
  is : (r : List ℕ) (e : Ending) → a85_at [] (s ++ r) e ≡ stopped (holding ready None) (behind ++ r)

step_four :
    (s t : List ℕ) (a b c d : ℕ) → a < 256 → b < 256 → c < 256 → d < 256
    → unspaced s ≡ figures (digits85 (number4 a b c d)) ++ t → Stepped s (a ∷ b ∷ c ∷ d ∷ []) t
step_four s t a b c d ha hb hc hd q =
    let v = number4 a b c d in
    let small = number_small a b c d ha hb hc hd in
    let low = digits_below v small in
    let front : List ℕ = v / 52200625 ∷ v / 614125 % 85 ∷ v / 7225 % 85 ∷ v / 85 % 85 ∷ [] in
    let g = gone front [] s ((33 + v % 85) ∷ t) (low.0, (low.1.0, (low.1.1.0, (low.1.1.1.0, tt)))) (lit≤ tt) q in
    let k = passed g.behind (33 + v % 85) t g.spaced in
    record {
      behind = k.behind;
      spaced = k.spaced;
      is = λ r e.
          g.on r e
          ∙ (k.on front r e
          ∙ (ap (λ u. a85_turn u front (k.behind ++ r) e (λ ds. a85_at ds (k.behind ++ r) e)) (figure_is (v % 85) low.1.1.1.1.0)
          ∙ ap (λ own. stopped own (k.behind ++ r))
          (ap (λ v. a85_group 4 v None) (digits_worth v) ∙ group_is 4 v None (a ∷ b ∷ c ∷ d ∷ []) small (number_bytes a b c d ha hb hc hd))));
    }

step_zeros : (s t : List ℕ) → unspaced s ≡ 122 ∷ t → Stepped s (0 ∷ 0 ∷ 0 ∷ 0 ∷ []) t
step_zeros s t q = let k = passed s 122 t q in record { behind = k.behind; spaced = k.spaced; is = λ r e. k.on [] r e }

-- the last step
last_one : (s r : List ℕ) (e : Ending) (a : ℕ) → a < 256 → unspaced s ≡ figures (take 2 (digits85 (number4 a 0 0 0))) ++ 126 ∷ []
    → a85_at [] (s ++ 62 ∷ r) e ≡ stopped (holding (a ∷ []) (Some Clean)) r
last_one s r e a ha q =
    let v = number4 a 0 0 0 in
    let low = digits_below v (number_small a 0 0 0 ha (lit< tt) (lit< tt) (lit< tt)) in
    let ds : List ℕ = v / 52200625 ∷ v / 614125 % 85 ∷ [] in
    let g = gone ds [] s (126 ∷ []) (low.0, (low.1.0, tt)) (lit≤ tt) q in
    let w = short_one a ha in
    g.on (62 ∷ r) e
    ∙ (ended ds g.behind r e g.spaced
    ∙ ap (λ own. stopped own r) (group_is 1 (value85 (ds ++ 84 ∷ 84 ∷ 84 ∷ [])) (Some Clean) (a ∷ []) w.0 (ap (λ x. x ∷ []) w.1)))

last_two : (s r : List ℕ) (e : Ending) (a b : ℕ) → a < 256 → b < 256 → unspaced s ≡ figures (take 3 (digits85 (number4 a b 0 0))) ++ 126 ∷ []
    → a85_at [] (s ++ 62 ∷ r) e ≡ stopped (holding (a ∷ b ∷ []) (Some Clean)) r
last_two s r e a b ha hb q =
    let v = number4 a b 0 0 in
    let low = digits_below v (number_small a b 0 0 ha hb (lit< tt) (lit< tt)) in
    let ds : List ℕ = v / 52200625 ∷ v / 614125 % 85 ∷ v / 7225 % 85 ∷ [] in
    let g = gone ds [] s (126 ∷ []) (low.0, (low.1.0, (low.1.1.0, tt))) (lit≤ tt) q in
    let w = short_two a b ha hb in
    g.on (62 ∷ r) e
    ∙ (ended ds g.behind r e g.spaced
    ∙ ap (λ own. stopped own r) (group_is 2 (value85 (ds ++ 84 ∷ 84 ∷ [])) (Some Clean) (a ∷ b ∷ []) w.0 (ap₂ (λ x y. x ∷ y ∷ []) w.1 w.2)))

last_three : (s r : List ℕ) (e : Ending) (a b c : ℕ) → a < 256 → b < 256 → c < 256 → unspaced s ≡ figures (take 4 (digits85 (number4 a b c 0))) ++ 126 ∷ []
    → a85_at [] (s ++ 62 ∷ r) e ≡ stopped (holding (a ∷ b ∷ c ∷ []) (Some Clean)) r
last_three s r e a b c ha hb hc q =
    let v = number4 a b c 0 in
    let low = digits_below v (number_small a b c 0 ha hb hc (lit< tt)) in
    let ds : List ℕ = v / 52200625 ∷ v / 614125 % 85 ∷ v / 7225 % 85 ∷ v / 85 % 85 ∷ [] in
    let g = gone ds [] s (126 ∷ []) (low.0, (low.1.0, (low.1.1.0, (low.1.1.1.0, tt)))) (lit≤ tt) q in
    let w = short_three a b c ha hb hc in
    g.on (62 ∷ r) e
    ∙ (ended ds g.behind r e g.spaced
    ∙ ap (λ own. stopped own r)
    (group_is 3 (value85 (ds ++ 84 ∷ [])) (Some Clean) (a ∷ b ∷ c ∷ []) w.0 (ap₂ (λ x ys. x ∷ ys) w.1 (ap₂ (λ x y. x ∷ y ∷ []) w.2 w.3))))

-- a decoding by its first step
decoded : (bs : List ℕ) (e : Ending) (own : Own A85State) (left : List ℕ) → a85_at [] bs e ≡ stopped own left
    → decode a85_step tt [] bs e ≡ then own.ended (stopped own left) (decode a85_step own.kind own.compared left e)
decoded bs e own left q =
    decode_step a85_step a85_lawful tt [] bs e
    ∙ ap (λ (s : Read (Own A85State)). then s.answer.ended s (decode a85_step s.answer.kind s.answer.compared s.left e)) q

decodes :
    (bytes text spaced behind : List ℕ) (e : Ending) → Encoded bytes text → unspaced spaced ≡ text ++ 126 ∷ []
    → decode a85_step tt [] (spaced ++ 62 ∷ behind) e ≡ record { bytes = bytes; ending = Clean; left = behind; peeked = false }
decodes bytes text spaced behind e none q = decoded (spaced ++ 62 ∷ behind) e (holding [] (Some Clean)) behind (ended [] spaced behind e q)
decodes bytes text spaced behind e (one a ha) q =
    decoded (spaced ++ 62 ∷ behind) e (holding (a ∷ []) (Some Clean)) behind (last_one spaced behind e a ha q)
decodes bytes text spaced behind e (two a b ha hb) q =
    decoded (spaced ++ 62 ∷ behind) e (holding (a ∷ b ∷ []) (Some Clean)) behind (last_two spaced behind e a b ha hb q)
decodes bytes text spaced behind e (three a b c ha hb hc) q =
    decoded (spaced ++ 62 ∷ behind) e (holding (a ∷ b ∷ c ∷ []) (Some Clean)) behind (last_three spaced behind e a b c ha hb hc q)
decodes bytes text spaced behind e (four a b c d more rest ha hb hc hd x) q =
    let k = step_four spaced (rest ++ 126 ∷ []) a b c d ha hb hc hd q in
    decoded (spaced ++ 62 ∷ behind) e (holding (a ∷ b ∷ c ∷ d ∷ []) None) (k.behind ++ 62 ∷ behind) (k.is (62 ∷ behind) e)
    ∙ ap (then None (stopped (holding (a ∷ b ∷ c ∷ d ∷ []) None) (k.behind ++ 62 ∷ behind))) (decodes more rest k.behind behind e x k.spaced)
decodes bytes text spaced behind e (zeros more rest x) q =
    let k = step_zeros spaced (rest ++ 126 ∷ []) q in
    decoded (spaced ++ 62 ∷ behind) e (holding (0 ∷ 0 ∷ 0 ∷ 0 ∷ []) None) (k.behind ++ 62 ∷ behind) (k.is (62 ∷ behind) e)
    ∙ ap (then None (stopped (holding (0 ∷ 0 ∷ 0 ∷ 0 ∷ []) None) (k.behind ++ 62 ∷ behind))) (decodes more rest k.behind behind e x k.spaced)

encodes : (bytes : List ℕ) → Bytes bytes → (text : List ℕ) × Encoded bytes text
encodes [] h = ([], none)
encodes (a ∷ []) h = (_, one a h.0)
encodes (a ∷ b ∷ []) h = (_, two a b h.0 h.1.0)
encodes (a ∷ b ∷ c ∷ []) h = (_, three a b c h.0 h.1.0 h.1.1.0)
encodes (a ∷ b ∷ c ∷ d ∷ more) h =
    let k = encodes more h.1.1.1.1 in
    (_, four a b c d more k.0 h.0 h.1.0 h.1.1.0 h.1.1.1.0 k.1)

pub a85_law : Ascii85Law
a85_law = record { encodes = encodes; decodes = decodes }
