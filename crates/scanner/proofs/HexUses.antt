use Rattle.std.proofs.Common.{◌≡◌, ℕ, ◌+◌, ◌<◌, ◌≤◌, false, eqb, List, [], ◌∷◌, length, take, set, None, Ok, Err, Option, Result, true, is_ok, MatchResult, sym, refl, ap, ◌∙◌, arith}
use Rattle.std.proofs.lemmas.List.{take_more_set}
use Rattle.std.proofs.lemmas.Bool.{cond-true, cond-false, eq-eqb, ne_eqb}
use Rattle.source.specs.declared.ending.Ending.{Ending}
use Rattle.source.specs.declared.fault.Fault.{Fault}
use Rattle.source.specs.declared.fault.Fault.TheVariants.{Limit, StrayInHex}
use Rattle.source.specs.Model.{Model}
use Rattle.source.specs.Laws.{Lawful}
use Rattle.source.specs.Gone.{gone_to}
use Rattle.source.specs.Reads.{Reads}
use Rattle.source.proofs.Walk.{Walk}
use Rattle.source.proofs.Calls.{walk_answer, walk_gone, walk_left, walk_on}
use Rattle.scanner.specs.declared.failure.Failure.{Failure}
use Rattle.scanner.specs.declared.failure.Failure.TheVariants as failure
use Rattle.source.specs.declared.hex.HexTurn.{HexTurn}
use Rattle.source.specs.declared.hex.HexTurn.TheVariants as turn
use Rattle.source.specs.Hex.{hex_byte_of, hex_turn_of}
use Rattle.scanner.specs.Scan.{Scan, Scans}
use Rattle.scanner.specs.Puts.{Puts}
use Rattle.scanner.specs.Takes.{byte_of}
use Rattle.scanner.specs.HexStrings.{hex_full, hex_turn, hex_at, hex_of}
use Rattle.scanner.proofs.Area.{Written, written_more, written_count, scans_at}
use Rattle.scanner.proofs.Mapped.{reads_passed}
use Rattle.scanner.proofs.PieceUses.{steady_byte, byte_first}

-- the invariant of the loop
pub record Hexed {H : Type 0} (m : Model H) (h x : H) (old new : List ℕ) (n : ℕ) (pending : Option ℕ) : Type 0 where
  pub walk : Walk m h x (λ r. hex_at (length old) (take n new) pending r (m.ending h)) (hex_of (length old) (m.rest h) (m.ending h))
  pub written : Written old new n

peek_not : (rest : List ℕ) (e : Ending) (b : ℕ) → Ok b ≡ (byte_of rest e).answer → (byte_of rest e).peeked ≡ false
peek_not [] e b q = let z : ◌≡◌ {A = ℕ} 0 1 = cc in let no_way : ⊥ = omega arith in absurd no_way
peek_not (x ∷ rest) e b q = refl

-- a turn that got a byte
module _
    {H : Type 0} (m : Model H) (l : Lawful H m) (h x x' : H) (old new : List ℕ) (n : ℕ) (pending : Option ℕ) (b : ℕ)
    (k : Hexed m h x old new n pending) (Q : Fault → Type 0) (r : Result ℕ Fault) (z : Reads m byte_of x r x')
    (c : MatchResult r (λ y. ◌≡◌ {A = Result ℕ Failure} (Ok b) (Ok y)) Q) (v : true ≡ is_ok r) where
  y : Reads m byte_of x (Ok b) x'
  y = reads_passed Failure Q m byte_of x x' r b z c v

  came : Ok b ≡ (byte_of (m.rest x) (m.ending h)).answer
  came = walk_answer m l byte_of h x (Ok b) x' _ _ steady_byte k.walk y

  left : m.rest x' ≡ (byte_of (m.rest x) (m.ending h)).left
  left = walk_left m l byte_of h x (Ok b) x' _ _ steady_byte k.walk y

  rest_was : m.rest x ≡ b ∷ m.rest x'
  rest_was = byte_first (m.rest x) (m.ending h) b came ∙ ap (λ r. b ∷ r) (sym left)

  gone : x' ≡ gone_to m h (m.rest x') false
  gone =
      walk_gone m l byte_of h x (Ok b) x' _ _ steady_byte k.walk y
      ∙ (ap (gone_to m h (byte_of (m.rest x) (m.ending h)).left) (peek_not (m.rest x) (m.ending h) b came) ∙ ap (λ r. gone_to m h r false) (sym left))

  turned : (t : HexTurn) → t ≡ hex_turn_of pending (hex_byte_of b)
      → hex_turn t (length old) (take n new) (m.rest x') (λ done half. hex_at (length old) done half (m.rest x') (m.ending h))
      ≡ hex_at (length old) (take n new) pending (m.rest x) (m.ending h)
  turned t q =
      ap (λ t. hex_turn t (length old) (take n new) (m.rest x') (λ done half. hex_at (length old) done half (m.rest x') (m.ending h))) q
      ∙ sym (ap (λ r. hex_at (length old) (take n new) pending r (m.ending h)) rest_was)

  stopped : (t : HexTurn) → t ≡ hex_turn_of pending (hex_byte_of b)
      → hex_turn t (length old) (take n new) (m.rest x') (λ done half. hex_at (length old) done half (m.rest x') (m.ending h))
      ≡ hex_of (length old) (m.rest h) (m.ending h)
  stopped t q = turned t q ∙ k.walk.on

  count : length (take n new) ≡ n
  count = written_count old new n k.written

  on_by : (next : List ℕ → Scan (Result ℕ Failure)) → next (m.rest x') ≡ hex_at (length old) (take n new) pending (m.rest x) (m.ending h)
      → Walk m h x' next (hex_of (length old) (m.rest h) (m.ending h))
  on_by next e = walk_on m l byte_of h x (Ok b) x' _ _ steady_byte k.walk y next (sym e ∙ ap next left)

  pub hexed_wait : (half : Option ℕ) → turn.Wait half ≡ hex_turn_of pending (hex_byte_of b) → Hexed m h x' old new n half
  hexed_wait half q = record {
    walk = on_by (λ r. hex_at (length old) (take n new) half r (m.ending h)) (turned (turn.Wait half) q);
    written = k.written;
  }

  hexed_more : (v : ℕ) → turn.Put v ≡ hex_turn_of pending (hex_byte_of b) → n < length new → (n ≡ length old → ⊥) → Hexed m h x' old (set new n v) (n + 1) None
  hexed_more v q lt ne = record {
    walk = on_by (λ r. hex_at (length old) (take (n + 1) (set new n v)) None r (m.ending h))
        (ap (λ d. hex_at (length old) d None (m.rest x') (m.ending h)) (take_more_set new n v lt)
        ∙ (sym (cond-false (eqb (length (take n new)) (length old)) _ _ (ne_eqb (length (take n new)) (length old) (λ e. ne (sym count ∙ e))))
        ∙ turned (turn.Put v) q));
    written = written_more old new n v k.written lt;
  }

  pub hexed_put : (v to : ℕ) (new' : List ℕ) → turn.Put v ≡ hex_turn_of pending (hex_byte_of b) → length new ≡ length old → Puts new n v (Ok to) new' → Hexed m h x' old new' to None
  hexed_put v to new' q same p = rw (p.1, p.2) (hexed_more v q p.0 (λ e. omega (arith, same, p.0)))

  pub hexed_done : turn.Done ≡ hex_turn_of pending (hex_byte_of b) → Scans m hex_of h old (Ok n) x' new
  hexed_done q = scans_at m hex_of h old (Ok n) x' new n _ (stopped turn.Done q) k.written refl (ap Ok (sym count)) gone

  pub hexed_stray : turn.Stray ≡ hex_turn_of pending (hex_byte_of b) → Scans m hex_of h old (Err (failure.Fault StrayInHex n)) x' new
  hexed_stray q =
      scans_at m hex_of h old _ x' new n _ (stopped turn.Stray q) k.written refl (ap (λ c. Err (failure.Fault StrayInHex c)) (sym count)) gone

  all : length new ≡ length old → length new ≤ n → n ≡ length old
  all same le = omega (arith, k.written.within, same)

  full : hex_full (take n new) (m.rest x') ≡ hex_of (length old) (m.rest h) (m.ending h) → Scans m hex_of h old (Err (failure.Fault Limit n)) x' new
  full e = scans_at m hex_of h old _ x' new n _ e k.written refl (ap (λ c. Err (failure.Fault Limit c)) (sym count)) gone

  pub hexed_put_full :
      (v : ℕ) (f : Failure) (new' : List ℕ) → turn.Put v ≡ hex_turn_of pending (hex_byte_of b) → length new ≡ length old → Puts new n v (Err f) new'
      → Scans m hex_of h old (Err f) x' new'
  hexed_put_full v f new' q same p =
      rw (p.1, p.2) (full (sym (cond-true (eqb (length (take n new)) (length old)) _ _ (eq-eqb _ _ (count ∙ all same p.0))) ∙ stopped (turn.Put v) q))

  pub hexed_last_full : (v : ℕ) → turn.Last v ≡ hex_turn_of pending (hex_byte_of b) → n ≡ length old → Scans m hex_of h old (Err (failure.Fault Limit n)) x' new
  hexed_last_full v q e = full (sym (cond-true (eqb (length (take n new)) (length old)) _ _ (eq-eqb _ _ (count ∙ e))) ∙ stopped (turn.Last v) q)

  hexed_last_put : (v : ℕ) → turn.Last v ≡ hex_turn_of pending (hex_byte_of b) → n < length new → (n ≡ length old → ⊥) → Scans m hex_of h old (Ok (n + 1)) x' (set new n v)
  hexed_last_put v q lt ne =
      let w = written_more old new n v k.written lt in
      scans_at m hex_of h old (Ok (n + 1)) x' (set new n v) (n + 1) _
      (sym (cond-false (eqb (length (take n new)) (length old)) _ _ (ne_eqb (length (take n new)) (length old) (λ e. ne (sym count ∙ e)))) ∙ stopped (turn.Last v) q)
      w (sym (take_more_set new n v lt)) (ap Ok (sym (written_count old (set new n v) (n + 1) w) ∙ ap length (take_more_set new n v lt))) gone

  pub hexed_last :
      (v : ℕ) (r : Result ℕ Failure) (new' : List ℕ) → turn.Last v ≡ hex_turn_of pending (hex_byte_of b) → length new ≡ length old → Puts new n v r new'
      → Scans m hex_of h old r x' new'
  hexed_last v (Ok to) new' q same p = rw (p.1, p.2) (hexed_last_put v q p.0 (λ e. omega (arith, same, p.0)))
  hexed_last v (Err f) new' q same p = rw (p.1, p.2) (hexed_last_full v q (all same p.0))
