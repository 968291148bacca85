use Rattle.std.proofs.Common.{◌≡◌, ℕ, ◌+◌, ◌<◌, ◌≤◌, cond, eqb, List, length, get_or, drop, sym, ap, ◌∙◌, ap₂, arith}
use Rattle.std.proofs.lemmas.List.{drop_all, drop_more}
use Rattle.std.proofs.lemmas.Bool.{eq-eqb, ne_eqb}
use Rattle.subfile.specs.declared.subfile.Match.TheVariants.{Starts, Equals, Fails}
use Rattle.subfile.specs.SubFile.{judged}

-- the first i bytes agree, so that what stands behind them decides
abbrev pub Agree : List ℕ → List ℕ → ℕ → Type 0
Agree mark held i = (i ≤ length mark) × (judged (drop i mark) (drop i held) ≡ judged mark held)

module _ (mark held : List ℕ) (i : ℕ) (k : Agree mark held i) where
  judge_more :
      i < length mark → i < length held
      → cond (eqb (get_or mark i 0) (get_or held i 0)) (judged (drop (i + 1) mark) (drop (i + 1) held)) Fails ≡ judged mark held
  judge_more p q = sym (ap₂ judged (drop_more mark i 0 p) (drop_more held i 0 q)) ∙ k.1

  pub judge_same : i < length mark → i < length held → get_or mark i 0 ≡ get_or held i 0 → Agree mark held (i + 1)
  judge_same p q e = (
    omega arith,
    sym (ap (λ t. cond t (judged (drop (i + 1) mark) (drop (i + 1) held)) Fails) (eq-eqb (get_or mark i 0) (get_or held i 0) e)) ∙ judge_more p q,
  )

  pub judge_other : i < length mark → i < length held → (get_or mark i 0 ≡ get_or held i 0 → ⊥) → Fails ≡ judged mark held
  judge_other p q e =
      sym (ap (λ t. cond t (judged (drop (i + 1) mark) (drop (i + 1) held)) Fails) (ne_eqb (get_or mark i 0) (get_or held i 0) e)) ∙ judge_more p q

  pub judge_longer : length mark ≤ i → i < length held → Fails ≡ judged mark held
  judge_longer p q = sym (ap₂ judged (drop_all i mark p) (drop_more held i 0 q)) ∙ k.1

  pub judge_starts : i < length mark → length held ≤ i → Starts ≡ judged mark held
  judge_starts p q = sym (ap₂ judged (drop_more mark i 0 p) (drop_all i held q)) ∙ k.1

  pub judge_equals : length mark ≤ i → length held ≤ i → Equals ≡ judged mark held
  judge_equals p q = sym (ap₂ judged (drop_all i mark p) (drop_all i held q)) ∙ k.1
