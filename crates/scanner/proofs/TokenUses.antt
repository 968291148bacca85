use Rattle.std.proofs.Common.{◌≡◌, ℕ, ◌≤◌, Bool, true, false, ltb, List, [], ◌∷◌, length, take, drop, Some, None, Ok, Err, Option, Result, sym, refl, ap, ◌∙◌, ap₂, arith}
use Rattle.std.proofs.lemmas.List.{length-append, take_at}
use Rattle.std.proofs.lemmas.Bool.{cond-false, or_parts, ltb-false}
use Rattle.source.specs.declared.ending.Ending.{Ending}
use Rattle.source.specs.Model.{Model, first}
use Rattle.source.specs.Laws.{Lawful}
use Rattle.source.specs.Gone.{gone_to}
use Rattle.source.specs.Reads.{Read, Reads}
use Rattle.source.proofs.Calls.{steady_here, steady_take, take_of, look_of, take_first, reads_take, reads_look}
use Rattle.scanner.specs.declared.failure.Failure.{Failure}
use Rattle.scanner.specs.declared.kinds.Token.{Token}
use Rattle.scanner.specs.declared.tokens.Start.{Start}
use Rattle.scanner.specs.Scan.{Scans}
use Rattle.scanner.specs.Spaces.{skipped}
use Rattle.scanner.specs.Runs.{run_at, run_of}
use Rattle.scanner.specs.Takes.{take_if_of}
use Rattle.scanner.specs.Tokens.{start_of, judged_of, tokened, slash, worded, word_token_of, name_of, hex_token_of, bare, less_by, less_of, unfit, next_by, next_of, token_of}
use Rattle.scanner.proofs.PieceUses.{steady_take_if}
use Rattle.scanner.proofs.Scanning.{scans_then, scans_as}
use Rattle.scanner.proofs.Sound.{count, sound_run}
use Rattle.scanner.proofs.Steadiness.{SteadyScan, steady_skip, steady_run, steady_hex, steady_next_token}

-- the bounds of a fit area
pub fit_bounds : (room : ℕ) → unfit room ≡ false → (128 ≤ room) × (room ≤ 65535)
fit_bounds room fit = let p = or_parts (ltb room 128) (ltb 65535 room) fit in (ltb-false room 128 p.0, ltb-false 65535 room p.1)

-- a token with a fit area
pub fit_token : (room : ℕ) (rest : List ℕ) (e : Ending) → unfit room ≡ false → token_of room rest e ≡ next_of room (skipped false rest) e
fit_token room rest e fit = cond-false (unfit room) _ _ fit

abbrev skip_of : List ℕ → Ending → Read (Unit {0})
skip_of rest e = record { answer = tt; left = skipped false rest; peeked = true }

first_take : (rest : List ℕ) (e : Ending) → first rest e ≡ (take_of rest e).answer
first_take [] e = refl
first_take (b ∷ bs) e = refl

next_at : (room : ℕ) (rest : List ℕ) (e : Ending) (b : ℕ) (k : Option Start) → Ok b ≡ first rest e → k ≡ start_of b → next_by k room b (take_of rest e).left e ≡ next_of room rest e
next_at room rest e b k p q =
    ap (λ k. next_by k room b (take_of rest e).left e) q
    ∙ sym (ap (λ r. next_of room r e) (take_first rest e b (p ∙ first_take rest e)))

-- a call that reads and writes nothing to the area
pub scans_bare :
    {H : Type 0} (m : Model H) (f : List ℕ → Ending → Read (Result Token Failure)) (h : H) (old : List ℕ) (r : Result Token Failure) (h' : H)
    → Reads m f h r h' → Scans m (λ room rest e. bare (f rest e).answer (f rest e).left (f rest e).peeked) h old r h' old
scans_bare m f h old r h' x = record { answer = x.answer; filled = refl; after = x.after }

module _ {H : Type 0} (m : Model H) (l : Lawful H m) (h h₁ h₂ : H) (old new : List ℕ) where
  -- behind one / or two
  pub name_run :
      (b : Result Bool Ending) (r : Result ℕ Failure) (r₂ : Result Token Failure) → Reads m (take_if_of 47) h b h₁ → Scans m run_of h₁ old r h₂ new → r₂ ≡ tokened (slash b) r
      → Scans m name_of h old r₂ h₂ new
  name_run b r r₂ x y is =
      let z = scans_then m l (take_if_of 47) h b h₁ run_of old r h₂ new (steady_take_if 47 _ _) steady_run x y in
      scans_as m l (λ room rest e. run_of room (take_if_of 47 rest e).left e) h old r h₂ new name_of r₂
      (name_of (length old) (m.rest h) (m.ending h)) z refl
      (is ∙ ap₂ (λ b r. tokened (slash b) r) x.answer z.answer) refl refl refl

  -- a < with no < behind it
  pub less_hex : (r : Result Token Failure) → Reads m (take_if_of 60) h (Ok false) h₁ → Scans m hex_token_of h₁ old r h₂ new → Scans m less_of h old r h₂ new
  less_hex r x y =
      let rest = m.rest h in
      let e = m.ending h in
      let z = scans_then m l (take_if_of 60) h (Ok false) h₁ hex_token_of old r h₂ new (steady_take_if 60 _ _) steady_hex x y in
      scans_as m l (λ room rest e. hex_token_of room (take_if_of 60 rest e).left e) h old r h₂ new less_of r
      (hex_token_of (length old) (take_if_of 60 rest e).left e) z
      (ap (λ a. less_by a (take_if_of 60 rest e).left (take_if_of 60 rest e).peeked (hex_token_of (length old) (take_if_of 60 rest e).left e)) x.answer)
      z.answer refl refl refl

  -- behind white bytes and comments
  pub token_next :
      (r : Result Token Failure) → h₁ ≡ gone_to m h (skipped false (m.rest h)) true → Scans m next_of h₁ old r h₂ new
      → unfit (length old) ≡ false → Scans m token_of h old r h₂ new
  token_next r x y fit =
      let z = scans_then m l skip_of h tt h₁ next_of old r h₂ new (steady_skip false (m.rest h)) steady_next_token (record { answer = refl; after = x }) y in
      scans_as m l (λ room rest e. next_of room (skipped false rest) e) h old r h₂ new token_of r (next_of (length old) (skipped false (m.rest h)) (m.ending h)) z
      (sym (cond-false (unfit (length old)) _ _ fit))
      z.answer refl refl refl

  module _ (b : ℕ) (p : Ok b ≡ first (m.rest h) (m.ending h)) (t : h₁ ≡ m.looked h) where
    pub next_run : (r : Result Token Failure) → None ≡ start_of b → Scans m word_token_of h₁ old r h₂ new → Scans m next_of h old r h₂ new
    next_run r q y =
        let z = scans_then m l look_of h (Ok b) h₁ word_token_of old r h₂ new (steady_here _) steady_run (reads_look m l h (Ok b) h₁ p t) y in
        let e : word_token_of (length old) (m.rest h) (m.ending h) ≡ word_token_of (length old) (b ∷ (take_of (m.rest h) (m.ending h)).left) (m.ending h)
        = ap (λ r. word_token_of (length old) r (m.ending h)) (take_first (m.rest h) (m.ending h) b (p ∙ first_take (m.rest h) (m.ending h))) in
        scans_as m l (λ room rest e. word_token_of room rest e) h old r h₂ new next_of r (word_token_of (length old) (m.rest h) (m.ending h))
        z (e ∙ next_at (length old) (m.rest h) (m.ending h) b None p q) z.answer refl refl refl

    -- a start whose byte is taken, and then a call
    pub next_behind :
        (h₃ : H) → h₂ ≡ m.taken h₁ → (s k : Start) → Some s ≡ start_of b → s ≡ k
        → ((room : ℕ) (rest : List ℕ) (e : Ending) → SteadyScan rest (next_by (Some k) room b rest e))
        → (r : Result Token Failure) → Scans m (λ room rest e. next_by (Some k) room b rest e) h₂ old r h₃ new → Scans m next_of h old r h₃ new
    next_behind h₃ u s k q is steady r y =
        let two = reads_take m l h (Ok b) h₂ p (u ∙ (ap m.taken t ∙ l.looked_taken h)) in
        let z = scans_then m l take_of h (Ok b) h₂ (λ room rest e. next_by (Some k) room b rest e) old r h₃ new (steady_take _ _) steady two y in
        scans_as m l (λ room rest e. next_by (Some k) room b (take_of rest e).left e) h old r h₃ new next_of r
        (next_by (Some k) (length old) b (take_of (m.rest h) (m.ending h)).left (m.ending h)) z
        (next_at (length old) (m.rest h) (m.ending h) b (Some k) p (ap Some (sym is) ∙ q))
        z.answer refl refl refl

-- a run that is read says how long it is
run_counts : (rest : List ℕ) (n : ℕ) → Ok n ≡ (run_at [] rest).answer → n ≡ length (run_at [] rest).content
run_counts rest n e = ap count e ∙ (sound_run [] rest).counted

module _ {H : Type 0} (m : Model H) (h h₁ : H) (old new : List ℕ) (n : ℕ) (y : Scans m run_of h old (Ok n) h₁ new) where
  counted : n ≡ length (run_at [] (m.rest h)).content
  counted = run_counts (m.rest h) n y.answer

  pub word_within : n ≤ length new
  word_within = omega (arith, counted, ap length y.filled, length-append (run_at [] (m.rest h)).content (drop (length (run_at [] (m.rest h)).content) old))

  pub word_content : take n new ≡ (run_at [] (m.rest h)).content
  word_content = ap (take n) y.filled ∙ take_at (run_at [] (m.rest h)).content _ n (sym counted)

  -- the token of a run is that of its content
  pub word_judged : (l : Lawful H m) (r : Result Token Failure) → r ≡ judged_of (take n new) → Scans m word_token_of h old r h₁ new
  word_judged l r e =
      scans_as m l run_of h old (Ok n) h₁ new word_token_of r (word_token_of (length old) (m.rest h) (m.ending h)) y refl
      (e ∙ (ap judged_of word_content ∙ ap (λ a. worded a (run_at [] (m.rest h)).content) y.answer)) refl refl refl

-- a run that is too long is no token
pub word_stopped :
    {H : Type 0} (m : Model H) (h h₁ : H) (old new : List ℕ) (f : Failure) → Scans m run_of h old (Err f) h₁ new → Scans m word_token_of h old (Err f) h₁ new
word_stopped m h h₁ old new f y = record { answer = ap (λ r. worded r (run_at [] (m.rest h)).content) y.answer; filled = y.filled; after = y.after }
