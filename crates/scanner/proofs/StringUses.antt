use Rattle.std.proofs.Common.{◌≡◌, ℕ, zero, suc, ◌+◌, ◌<◌, ◌≤◌, Bool, eqb, List, [], ◌∷◌, ◌++◌, length, take, set, Ok, Err, Result, true, is_ok, MatchResult, sym, refl, ap, ◌∙◌, arith}
use Rattle.std.proofs.lemmas.List.{take_more_set}
use Rattle.std.proofs.lemmas.Bool.{cond-true, cond-false, eq-eqb, ne_eqb}
use Rattle.source.specs.declared.ending.Ending.{Ending}
use Rattle.source.specs.Model.{Model}
use Rattle.source.specs.Laws.{Lawful}
use Rattle.source.specs.Gone.{gone_to}
use Rattle.source.proofs.Walk.{Walk}
use Rattle.source.specs.Reads.{Reads}
use Rattle.source.proofs.Calls.{walk_answer, walk_gone, walk_left, walk_on}
use Rattle.source.proofs.Going.{behind_fewer}
use Rattle.source.specs.declared.fault.Fault.TheVariants.{Limit}
use Rattle.source.specs.declared.fault.Fault.{Fault}
use Rattle.scanner.specs.declared.failure.Failure.{Failure}
use Rattle.scanner.specs.declared.failure.Failure.TheVariants as failure
use Rattle.scanner.specs.declared.pieces.Opening.{Opening}
use Rattle.scanner.specs.declared.pieces.Opening.TheVariants as opening
use Rattle.scanner.specs.declared.pieces.Piece.{Piece}
use Rattle.scanner.specs.declared.strings.Turn.{Turn}
use Rattle.scanner.specs.declared.strings.Turn.TheVariants.{Put, Pass, Done}
use Rattle.scanner.specs.Failures.{broken}
use Rattle.scanner.specs.Puts.{Puts}
use Rattle.scanner.specs.Scan.{Scan, Scans}
use Rattle.scanner.specs.Pieces.{opening_of, piece_by, piece_of}
use Rattle.scanner.specs.Strings.{turn_of, string_turn, string_piece, string_at, string_of}
use Rattle.scanner.proofs.Area.{Written, written_more, written_count, scans_at}
use Rattle.scanner.proofs.Mapped.{reads_passed}
use Rattle.scanner.proofs.PieceUses.{steady_take_if, steady_escape, steady_piece}

-- the invariant: fuel is left for what is left
pub record Strung {H : Type 0} (m : Model H) (h x : H) (old new : List ℕ) (n depth : ℕ) : Type 0 where
  pub fuel : ℕ
  pub enough : length (m.rest x) < fuel
  pub walk : Walk m h x (λ r. string_at fuel (length old) (take n new) depth r (m.ending h)) (string_of (length old) (m.rest h) (m.ending h))
  pub written : Written old new n
  pub level : depth ≤ n

no_ok : {C : Type 0} {p : Piece} {f : Fault} → Ok p ≡ Err f → C
no_ok e = let z : ◌≡◌ {A = ℕ} 0 1 = cc in let no_way : ⊥ = omega arith in absurd no_way

-- a piece takes a byte
pub piece_fewer : (b : ℕ) (bs : List ℕ) (e : Ending) → length (piece_of (b ∷ bs) e).left ≤ length bs
piece_fewer b bs e = at (opening_of b)
  where
    at : (k : Opening) → length (piece_by k b bs e).left ≤ length bs
    at opening.Open = omega arith
    at opening.Close = omega arith
    at opening.Plain = omega arith
    at opening.Escape = behind_fewer (steady_escape bs e).behind
    at opening.Return = behind_fewer (steady_take_if 10 bs e).behind

-- fuel is left
string_now :
    (k : ℕ) (rest : List ℕ) (e : Ending) (r : Result Piece Fault) (room : ℕ) (done : List ℕ) (depth : ℕ)
    → length rest < k → r ≡ (piece_of rest e).answer
    → (j : ℕ) × (length rest ≤ j)
    × (string_piece r room done depth (piece_of rest e).left (piece_of rest e).peeked (λ done depth. string_at j room done depth (piece_of rest e).left e)
    ≡ string_at k room done depth rest e)
string_now zero rest e r room done depth h q = let no_way : ⊥ = omega arith in absurd no_way
string_now (suc j) rest e r room done depth h q = (
  j,
  omega arith,
  ap (λ a. string_piece a room done depth (piece_of rest e).left (piece_of rest e).peeked (λ done depth. string_at j room done depth (piece_of rest e).left e)) q,
)

-- what a turn does
pub put_full :
    (b to room : ℕ) (done : List ℕ) (depth : ℕ) (left : List ℕ) (peeked : Bool) (on : List ℕ → ℕ → Scan _) → length done ≡ room
    → record { answer = Err (broken Limit done); content = done; left = left; peeked = peeked } ≡ string_turn (Put b to) room done depth left peeked on
put_full b to room done depth left peeked on e = sym (cond-true (eqb (length done) room) _ _ (eq-eqb (length done) room e))

pub put_more :
    (b to room : ℕ) (done : List ℕ) (depth : ℕ) (left : List ℕ) (peeked : Bool) (on : List ℕ → ℕ → Scan _) → (length done ≡ room → ⊥)
    → on (done ++ b ∷ []) to ≡ string_turn (Put b to) room done depth left peeked on
put_more b to room done depth left peeked on e = sym (cond-false (eqb (length done) room) _ _ (ne_eqb (length done) room e))

-- a turn that got a piece
module _
    {H : Type 0} (m : Model H) (l : Lawful H m) (h x x' : H) (old new : List ℕ) (n depth : ℕ) (p : Piece)
    (k : Strung m h x old new n depth) (Q : Fault → Type 0) (r : Result Piece Fault) (z : Reads m piece_of x r x')
    (c : MatchResult r (λ y. ◌≡◌ {A = Result Piece Failure} (Ok p) (Ok y)) Q) (v : true ≡ is_ok r) where
  y : Reads m piece_of x (Ok p) x'
  y = reads_passed Failure Q m piece_of x x' r p z c v

  ok :
      (j : ℕ) × (length (m.rest x) ≤ j)
      × (string_turn (turn_of p depth) (length old) (take n new) depth (piece_of (m.rest x) (m.ending h)).left (piece_of (m.rest x) (m.ending h)).peeked (λ done depth. string_at j (length old) done depth (piece_of (m.rest x) (m.ending h)).left (m.ending h))
      ≡ string_at k.fuel (length old) (take n new) depth (m.rest x) (m.ending h))
  ok = string_now k.fuel (m.rest x) (m.ending h) (Ok p) (length old) (take n new) depth k.enough (walk_answer m l piece_of h x (Ok p) x' _ _ steady_piece k.walk y)

  left : m.rest x' ≡ (piece_of (m.rest x) (m.ending h)).left
  left = walk_left m l piece_of h x (Ok p) x' _ _ steady_piece k.walk y

  now_turn : (t : Turn) → t ≡ turn_of p depth
      → string_turn t (length old) (take n new) depth (piece_of (m.rest x) (m.ending h)).left (piece_of (m.rest x) (m.ending h)).peeked (λ done depth. string_at ok.0 (length old) done depth (piece_of (m.rest x) (m.ending h)).left (m.ending h))
      ≡ string_at k.fuel (length old) (take n new) depth (m.rest x) (m.ending h)
  now_turn t q =
      ap (λ t. string_turn t (length old) (take n new) depth (piece_of (m.rest x) (m.ending h)).left (piece_of (m.rest x) (m.ending h)).peeked (λ done depth. string_at ok.0 (length old) done depth (piece_of (m.rest x) (m.ending h)).left (m.ending h))) q
      ∙ ok.2

  gone : x' ≡ gone_to m h (piece_of (m.rest x) (m.ending h)).left (piece_of (m.rest x) (m.ending h)).peeked
  gone = walk_gone m l piece_of h x (Ok p) x' _ _ steady_piece k.walk y

  pub strung_fewer : length (m.rest x') < length (m.rest x)
  strung_fewer = at (m.rest x) (walk_answer m l piece_of h x (Ok p) x' _ _ steady_piece k.walk y) left
    where
      at : (r : List ℕ) → Ok p ≡ (piece_of r (m.ending h)).answer → m.rest x' ≡ (piece_of r (m.ending h)).left → length (m.rest x') < length r
      at [] q e = no_ok q
      at (b ∷ bs) q e = omega (arith, piece_fewer b bs (m.ending h), ap length e)

  pub strung_pass : Pass ≡ turn_of p depth → Strung m h x' old new n depth
  strung_pass q = record {
    fuel = ok.0;
    enough = omega (arith, ok.1, strung_fewer);
    walk = walk_on m l piece_of h x (Ok p) x' _ _ steady_piece k.walk y (λ r. string_at ok.0 (length old) (take n new) depth r (m.ending h)) (sym (now_turn Pass q));
    written = k.written;
    level = k.level;
  }

  strung_more : (b to : ℕ) → Put b to ≡ turn_of p depth → n < length new → (n ≡ length old → ⊥) → to ≤ depth + 1 → Strung m h x' old (set new n b) (n + 1) to
  strung_more b to q lt ne lv = record {
    fuel = ok.0;
    enough = omega (arith, ok.1, strung_fewer);
    walk = walk_on m l piece_of h x (Ok p) x' _ _ steady_piece k.walk y (λ r. string_at ok.0 (length old) (take (n + 1) (set new n b)) to r (m.ending h))
        (sym (now_turn (Put b to) q)
        ∙ (sym (put_more b to (length old) (take n new) depth _ (piece_of (m.rest x) (m.ending h)).peeked (λ done depth. string_at ok.0 (length old) done depth (piece_of (m.rest x) (m.ending h)).left (m.ending h)) (λ e. ne (sym (written_count old new n k.written) ∙ e)))
        ∙ ap (λ d. string_at ok.0 (length old) d to (piece_of (m.rest x) (m.ending h)).left (m.ending h)) (sym (take_more_set new n b lt))));
    written = written_more old new n b k.written lt;
    level = omega (arith, k.level);
  }

  pub strung_put :
      (b to i : ℕ) (new' : List ℕ) → Put b to ≡ turn_of p depth → length new ≡ length old → to ≤ depth + 1 → Puts new n b (Ok i) new' → Strung m h x' old new' i to
  strung_put b to i new' q same lv w = rw (w.1, w.2) (strung_more b to q w.0 (λ e. omega (arith, same, w.0)) lv)

  pub strung_done : Done ≡ turn_of p depth → Scans m string_of h old (Ok n) x' new
  strung_done q = scans_at m string_of h old (Ok n) x' new n _ (now_turn Done q ∙ k.walk.on) k.written refl (ap Ok (sym (written_count old new n k.written))) gone

  strung_all : (b to : ℕ) → Put b to ≡ turn_of p depth → n ≡ length old → Scans m string_of h old (Err (failure.Fault Limit n)) x' new
  strung_all b to q e =
      scans_at m string_of h old (Err (failure.Fault Limit n)) x' new n _
      (put_full b to (length old) (take n new) depth _ _ (λ done depth. string_at ok.0 (length old) done depth (piece_of (m.rest x) (m.ending h)).left (m.ending h)) (written_count old new n k.written ∙ e) ∙ (now_turn (Put b to) q ∙ k.walk.on))
      k.written refl (ap (λ c. Err (failure.Fault Limit c)) (sym (written_count old new n k.written))) gone

  pub strung_full :
      (b to : ℕ) (f : Failure) (new' : List ℕ) → Put b to ≡ turn_of p depth → length new ≡ length old → Puts new n b (Err f) new' → Scans m string_of h old (Err f) x' new'
  strung_full b to f new' q same w = rw (w.1, w.2) (strung_all b to q (omega (arith, k.written.within, same, w.0)))

pub strung_err :
    {H : Type 0} (m : Model H) (l : Lawful H m) (h x x' : H) (old new : List ℕ) (n depth : ℕ) (f : Fault)
    → Strung m h x old new n depth → Reads m piece_of x (Err f) x' → Scans m string_of h old (Err (failure.Fault f n)) x' new
strung_err m l h x x' old new n depth f k y =
    scans_at m string_of h old (Err (failure.Fault f n)) x' new n _
    ((string_now k.fuel (m.rest x) (m.ending h) (Err f) (length old) (take n new) depth k.enough (walk_answer m l piece_of h x (Err f) x' _ _ steady_piece k.walk y)).2 ∙ k.walk.on)
    k.written refl (ap (λ c. Err (failure.Fault f c)) (sym (written_count old new n k.written))) (walk_gone m l piece_of h x (Err f) x' _ _ steady_piece k.walk y)
