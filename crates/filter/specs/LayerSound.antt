use Rattle.std.specs.Prelude.{◌≡◌, ℕ, List, [], ◌∷◌, ◌++◌, Some, None, Option, refl}
use Rattle.std.proofs.Common.{sym, ◌∙◌, ap, ap₂, append-nil, arith}
use Rattle.source.specs.declared.ending.Ending.{Ending}
use Rattle.source.specs.Model.{Model, tail}
use Rattle.source.specs.Laws.{Lawful}
use Rattle.source.specs.Reads.{Read}
use Rattle.source.proofs.Going.{gone_rest, gone_ending}
use Rattle.decoding.specs.Step.{StepOf, LawfulStep, Own, Filled}
use Rattle.decoding.specs.SoundSteps.{none_some}
use Rattle.decoding.specs.Decoding.{Decoding, then, decode}
use Rattle.decoding.specs.DecodeSteps.{decode_step}
use Rattle.filter.specs.Layers.{step_at, stepped, bytes_ahead, ending_ahead, ahead, layer_rest, layer_ending, looked_by, layer_looked, handed, layer_model}

-- a filter that was looked at has a byte ready or has ended
abbrev pub Settled : {K H : Type 0} → Own K × H → Type 0
Settled x = x.0.ended ≡ None → Filled x.0.ready

module _ {K : Type 0} (step : StepOf K) (law : LawfulStep K step) where
  then_bytes : (o : Option Ending) (s : Read (Own K)) (d : Decoding) → s.answer.ready ++ bytes_ahead o d ≡ (then o s d).bytes
  then_bytes None s d = refl
  then_bytes (Some x) s d = append-nil s.answer.ready

  then_ending : (o : Option Ending) (s : Read (Own K)) (d : Decoding) → ending_ahead o d ≡ (then o s d).ending
  then_ending None s d = refl
  then_ending (Some x) s d = refl

  module _ {H : Type 0} (m : Model H) (l : Lawful H m) where
    -- what is ahead after a step
    pub ahead_stepped :
        (x : Own K × H)
        → ahead step m (stepped step m x)
        ≡ decode step (step_at step m x).answer.kind (step_at step m x).answer.compared (step_at step m x).left (m.ending x.1)
    ahead_stepped x =
        ap₂ (decode step (step_at step m x).answer.kind (step_at step m x).answer.compared)
        (gone_rest m l x.1 (step_at step m x).left (step_at step m x).peeked (law x.0.kind x.0.compared (m.rest x.1) (m.ending x.1)).behind)
        (gone_ending m l x.1 (step_at step m x).left (step_at step m x).peeked)

    pub ahead_step :
        (x : Own K × H) → ahead step m x ≡ then (step_at step m x).answer.ended (step_at step m x) (ahead step m (stepped step m x))
    ahead_step x =
        decode_step step law x.0.kind x.0.compared (m.rest x.1) (m.ending x.1)
        ∙ ap (then (step_at step m x).answer.ended (step_at step m x)) (sym (ahead_stepped x))

    looked_keeps : (r : List ℕ) (o : Option Ending) (x : Own K × H) → (o ≡ None → Filled r) → looked_by step m r o x ≡ x
    looked_keeps [] None x f =
        let g : Filled [] = f refl in
        let e : ◌≡◌ {A = List ℕ} [] (g.0 ∷ g.1) = g.2 in
        let z : ◌≡◌ {A = ℕ} 0 1 = cc in let no_way : ⊥ = omega arith in absurd no_way
    looked_keeps [] (Some e) x f = refl
    looked_keeps (b ∷ bs) None x f = refl
    looked_keeps (b ∷ bs) (Some e) x f = refl

    pub looked_settled : (x : Own K × H) → Settled x → layer_looked step m x ≡ x
    looked_settled x f = looked_keeps x.0.ready x.0.ended x f

    pub settled_looked : (x : Own K × H) → Settled (layer_looked step m x)
    settled_looked x = by x.0.ready x.0.ended refl refl
      where
        by :
            (r : List ℕ) (o : Option Ending) → x.0.ready ≡ r → x.0.ended ≡ o
            → (looked_by step m r o x).0.ended ≡ None → Filled (looked_by step m r o x).0.ready
        by [] None p q w = (law x.0.kind x.0.compared (m.rest x.1) (m.ending x.1)).fills w
        by [] (Some e) p q w = none_some e (sym w ∙ q)
        by (b ∷ bs) None p q w = (b, bs, p)
        by (b ∷ bs) (Some e) p q w = (b, bs, p)

    pub look_rest : (x : Own K × H) → layer_rest step m (layer_looked step m x) ≡ layer_rest step m x
    look_rest x = by x.0.ready x.0.ended refl refl
      where
        by :
            (r : List ℕ) (o : Option Ending) → x.0.ready ≡ r → x.0.ended ≡ o
            → layer_rest step m (looked_by step m r o x) ≡ layer_rest step m x
        by [] None p q =
            then_bytes (step_at step m x).answer.ended (step_at step m x) (ahead step m (stepped step m x))
            ∙ (ap (λ (d : Decoding). d.bytes) (sym (ahead_step x))
            ∙ sym (ap₂ (λ r o. r ++ bytes_ahead o (ahead step m x)) p q))
        by [] (Some e) p q = refl
        by (b ∷ bs) None p q = refl
        by (b ∷ bs) (Some e) p q = refl

    pub look_ending : (x : Own K × H) → layer_ending step m (layer_looked step m x) ≡ layer_ending step m x
    look_ending x = by x.0.ready x.0.ended refl refl
      where
        by :
            (r : List ℕ) (o : Option Ending) → x.0.ready ≡ r → x.0.ended ≡ o
            → layer_ending step m (looked_by step m r o x) ≡ layer_ending step m x
        by [] None p q =
            then_ending (step_at step m x).answer.ended (step_at step m x) (ahead step m (stepped step m x))
            ∙ (ap (λ (d : Decoding). d.ending) (sym (ahead_step x))
            ∙ sym (ap (λ o. ending_ahead o (ahead step m x)) q))
        by [] (Some e) p q = refl
        by (b ∷ bs) None p q = refl
        by (b ∷ bs) (Some e) p q = refl

    pop_tail :
        (r : List ℕ) (o : Option Ending) (d : Decoding) → (o ≡ None → Filled r)
        → tail r ++ bytes_ahead o d ≡ tail (r ++ bytes_ahead o d)
    pop_tail [] None d f =
        let g : Filled [] = f refl in
        let e : ◌≡◌ {A = List ℕ} [] (g.0 ∷ g.1) = g.2 in
        let z : ◌≡◌ {A = ℕ} 0 1 = cc in let no_way : ⊥ = omega arith in absurd no_way
    pop_tail [] (Some e) d f = refl
    pop_tail (b ∷ bs) None d f = refl
    pop_tail (b ∷ bs) (Some e) d f = refl

    pop_rest : (x : Own K × H) → Settled x → layer_rest step m (handed step m x) ≡ tail (layer_rest step m x)
    pop_rest x f = pop_tail x.0.ready x.0.ended (ahead step m x) f

    front_nil : (r t : List ℕ) → r ++ t ≡ [] → tail r ≡ r
    front_nil [] t e = refl
    front_nil (b ∷ bs) t e = let z : ◌≡◌ {A = ℕ} 0 1 = cc in let no_way : ⊥ = omega arith in absurd no_way

    pub pop_nil : (x : Own K × H) → layer_rest step m x ≡ [] → handed step m x ≡ x
    pop_nil x e =
        ap (λ (r : List ℕ). let o : Own K = record { ready = r; compared = x.0.compared; kind = x.0.kind; ended = x.0.ended } in let z : Own K × H = (o, x.1) in z)
        (front_nil x.0.ready (bytes_ahead x.0.ended (ahead step m x)) e)

    pub layer_lawful : Lawful (Own K × H) (layer_model step m)
    layer_lawful = record {
      looked_rest = look_rest;
      looked_ending = look_ending;
      taken_rest = λ x. pop_rest (layer_looked step m x) (settled_looked x) ∙ ap tail (look_rest x);
      taken_ending = λ x. look_ending x;
      looked_twice = λ x. looked_settled (layer_looked step m x) (settled_looked x);
      looked_taken = λ x. ap (handed step m) (looked_settled (layer_looked step m x) (settled_looked x));
      taken_empty = λ x e. pop_nil (layer_looked step m x) (look_rest x ∙ e);
    }
