use Rattle.std.proofs.Common.{◌≡◌, ℕ, List, ◌++◌, length, drop, ap, ◌∙◌, ap₂}
use Rattle.source.specs.declared.ending.Ending.{Ending}
use Rattle.source.specs.Model.{Model}
use Rattle.source.specs.Laws.{Lawful}
use Rattle.source.specs.Gone.{gone_to}
use Rattle.source.proofs.Walk.{gone_on}
use Rattle.source.specs.Reads.{Read, Reads}
use Rattle.source.proofs.Calls.{Steady, reads_rest, reads_ending}
use Rattle.scanner.specs.Scan.{Scan, Scans}

module _ {H : Type 0} (m : Model H) (l : Lawful H m) where
  -- a call that scans after one that reads
  pub scans_then :
      {A B : Type 0} (f : List ℕ → Ending → Read A) (h : H) (r : A) (h' : H) (g : ℕ → List ℕ → Ending → Scan B) (old : List ℕ) (r₂ : B) (h₂ : H) (new : List ℕ)
      → Steady (m.rest h) (f (m.rest h) (m.ending h)).left (f (m.rest h) (m.ending h)).peeked
      → ((room : ℕ) (rest : List ℕ) (e : Ending) → Steady rest (g room rest e).left (g room rest e).peeked)
      → Reads m f h r h' → Scans m g h' old r₂ h₂ new → Scans m (λ room rest e. g room (f rest e).left e) h old r₂ h₂ new
  scans_then f h r h' g old r₂ h₂ new s t x y =
      let a = m.ending h in
      let b = (f (m.rest h) (m.ending h)).left in
      let p : m.rest h' ≡ (f (m.rest h) (m.ending h)).left = reads_rest m l f h r h' x s in
      let q : m.ending h' ≡ m.ending h = reads_ending m l f h r h' x in
      record {
        answer = y.answer ∙ ap₂ (λ r e. (g (length old) r e).answer) p q;
        filled = y.filled ∙ ap₂ (λ r e. (g (length old) r e).content ++ drop (length (g (length old) r e).content) old) p q;
        after =
            y.after
            ∙ (ap₂ (λ r e. gone_to m h' (g (length old) r e).left (g (length old) r e).peeked) p q
            ∙ (ap (λ z. gone_to m z (g (length old) b a).left (g (length old) b a).peeked) x.after
            ∙ gone_on m l h b (g (length old) b a).left (f (m.rest h) a).peeked (g (length old) b a).peeked s.behind (t (length old) b a).behind (t (length old) b a).moved));
      }

  -- another definition that says the same
  pub scans_as :
      {A B : Type 0} (f : ℕ → List ℕ → Ending → Scan A) (h : H) (old : List ℕ) (r : A) (h' : H) (new : List ℕ) (g : ℕ → List ℕ → Ending → Scan B) (r₂ : B) (s : Scan B)
      → Scans m f h old r h' new → s ≡ g (length old) (m.rest h) (m.ending h) → r₂ ≡ s.answer
      → (f (length old) (m.rest h) (m.ending h)).content ≡ s.content
      → (f (length old) (m.rest h) (m.ending h)).left ≡ s.left
      → (f (length old) (m.rest h) (m.ending h)).peeked ≡ s.peeked
      → Scans m g h old r₂ h' new
  scans_as f h old r h' new g r₂ s k e a b c d = record {
    answer = a ∙ ap (λ (s : Scan _). s.answer) e;
    filled = k.filled ∙ ap (λ x. x ++ drop (length x) old) (b ∙ ap (λ (s : Scan _). s.content) e);
    after = k.after ∙ (ap₂ (gone_to m h) c d ∙ ap (λ (s : Scan _). gone_to m h s.left s.peeked) e);
  }
