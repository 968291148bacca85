use Rattle.std.proofs.Common.{◌≡◌, ℕ, zero, suc, Bool, true, false, ◌||◌, List, [], ◌∷◌, ◌++◌, drop, Some, None, Option, sym, refl, ap, ◌∙◌, subst, ap₂, append_assoc}
use Rattle.source.specs.declared.ending.Ending.{Ending}
use Rattle.source.specs.Model.{Model, first, tail}
use Rattle.source.specs.Laws.{Lawful}
use Rattle.source.specs.Gone.{gone_to, Behind}
use Rattle.source.proofs.Going.{behind_self, behind_nil, behind_trans, gone_gone, gone_rest}
use Rattle.source.proofs.Walk.{gone_here}
use Rattle.decoding.specs.Step.{StepOf, LawfulStep, Own, fresh}
use Rattle.decoding.specs.Decoding.{Decoding, then, decode}
use Rattle.filter.specs.Layers.{step_at, stepped, ahead, layer_rest, layer_ending, looked_by, layer_looked, handed, layer_model}
use Rattle.filter.specs.LayerSound.{ahead_step, layer_lawful}
use Rattle.decoding.specs.SoundSteps.{false_true}
use Rattle.filter.specs.LayerLaw.{Ask, look, take, byte_in, counted, after, got, made, steps, less, LayerLaw}

or_assoc : (a b c : Bool) → a || (b || c) ≡ (a || b) || c
or_assoc true b c = refl
or_assoc false b c = refl

tail_drop : (n : ℕ) (xs : List ℕ) → tail (drop n xs) ≡ drop (suc n) xs
tail_drop zero [] = refl
tail_drop zero (x ∷ xs) = refl
tail_drop (suc n) [] = refl
tail_drop (suc n) (x ∷ xs) = tail_drop n xs

-- what is answered and what is left then
first_tail : (r : List ℕ) (e : Ending) → byte_in (first r e) ++ tail r ≡ r
first_tail [] e = refl
first_tail (b ∷ bs) e = refl

module _ {K H : Type 0} (step : StepOf K) (law : LawfulStep K step) (m : Model H) (l : Lawful H m) where
  lawful : Lawful (Own K × H) (layer_model step m)
  lawful = layer_lawful step law m l

  -- takes answer the rest in its order
  got_whole : (asks : List Ask) (x : Own K × H) → layer_rest step m x ≡ got step m asks x ++ layer_rest step m (after step m asks x)
  got_whole [] x = refl
  got_whole (look ∷ asks) x = sym (lawful.looked_rest x) ∙ got_whole asks (layer_looked step m x)
  got_whole (take ∷ asks) x =
      let y = handed step m (layer_looked step m x) in
      let one = byte_in (first (layer_rest step m x) (layer_ending step m x)) in
      sym (first_tail (layer_rest step m x) (layer_ending step m x))
      ∙ (ap (λ r. one ++ r) (sym (lawful.taken_rest x) ∙ got_whole asks y)
      ∙ sym (append_assoc one (got step m asks y) (layer_rest step m (after step m asks y))))

  ending_same : (asks : List Ask) (x : Own K × H) → layer_ending step m (after step m asks x) ≡ layer_ending step m x
  ending_same [] x = refl
  ending_same (look ∷ asks) x = ending_same asks (layer_looked step m x) ∙ lawful.looked_ending x
  ending_same (take ∷ asks) x = ending_same asks (handed step m (layer_looked step m x)) ∙ lawful.taken_ending x

  module _ (k : K) (h : H) where
    -- where what stands below is while the filter has not ended
    record Going (x : Own K × H) : Type 0 where
      peeked : Bool
      there : x.1 ≡ gone_to m h (m.rest x.1) peeked
      behind : Behind (m.rest x.1) (m.rest h)
      empty : peeked ≡ true → m.rest x.1 ≡ []
      left : (decode step k [] (m.rest h) (m.ending h)).left ≡ (ahead step m x).left
      met : (decode step k [] (m.rest h) (m.ending h)).peeked ≡ peeked || (ahead step m x).peeked

    abbrev Point : Option Ending → Own K × H → Type 0
    Point None x = Going x
    Point (Some e) x = x.1 ≡ gone_to m h (decode step k [] (m.rest h) (m.ending h)).left (decode step k [] (m.rest h) (m.ending h)).peeked

    -- a step goes on
    point_stepped : (x : Own K × H) → Going x → (o : Option Ending) → (step_at step m x).answer.ended ≡ o → Point o (stepped step m x)
    point_stepped x g o e = by o (ahead_step step law m l x ∙ ap (λ o. then o (step_at step m x) (ahead step m (stepped step m x))) e)
      where
        behinds : Behind (step_at step m x).left (m.rest x.1)
        behinds = (law x.0.kind x.0.compared (m.rest x.1) (m.ending x.1)).behind

        reached : (stepped step m x).1 ≡ gone_to m h (step_at step m x).left (g.peeked || (step_at step m x).peeked)
        reached =
            ap (λ y. gone_to m y (step_at step m x).left (step_at step m x).peeked) g.there
            ∙ gone_gone m l h (m.rest x.1) (step_at step m x).left g.peeked (step_at step m x).peeked g.behind behinds g.empty

        here : m.rest (stepped step m x).1 ≡ (step_at step m x).left
        here = gone_rest m l x.1 (step_at step m x).left (step_at step m x).peeked behinds

        empties :
            (p q : Bool) → (p ≡ true → m.rest x.1 ≡ []) → (q ≡ true → (step_at step m x).left ≡ []) → p || q ≡ true
            → (step_at step m x).left ≡ []
        empties true q f w e = behind_nil (subst (λ w. Behind (step_at step m x).left w) (f refl) behinds)
        empties false q f w e = w e

        by : (o : Option Ending) → ahead step m x ≡ then o (step_at step m x) (ahead step m (stepped step m x)) → Point o (stepped step m x)
        by None a = record {
          peeked = g.peeked || (step_at step m x).peeked;
          there = reached ∙ ap (λ r. gone_to m h r (g.peeked || (step_at step m x).peeked)) (sym here);
          behind = subst (λ r. Behind r (m.rest h)) (sym here) (behind_trans behinds g.behind);
          empty = λ p. here ∙ empties g.peeked (step_at step m x).peeked g.empty (law x.0.kind x.0.compared (m.rest x.1) (m.ending x.1)).met_end p;
          left = g.left ∙ ap (λ (d : Decoding). d.left) a;
          met =
              g.met
              ∙ (ap (λ (d : Decoding). g.peeked || d.peeked) a
              ∙ or_assoc g.peeked (step_at step m x).peeked (ahead step m (stepped step m x)).peeked);
        }
        by (Some e) a =
            reached
            ∙ ap₂ (gone_to m h) (sym (g.left ∙ ap (λ (d : Decoding). d.left) a)) (sym (g.met ∙ ap (λ (d : Decoding). g.peeked || d.peeked) a))

    -- where a filter stands after n steps
    record Kept (n : ℕ) (x : Own K × H) : Type 0 where
      gave : ℕ
      exactly : x ≡ less gave (steps step m n (fresh k, h))
      point : Point x.0.ended x

    kept_looked : (n : ℕ) (x : Own K × H) → Kept n x → Kept (counted x.0.ready x.0.ended n) (layer_looked step m x)
    kept_looked n x q = by x.0.ready x.0.ended refl refl
      where
        by :
            (r : List ℕ) (o : Option Ending) → x.0.ready ≡ r → x.0.ended ≡ o
            → Kept (counted r o n) (looked_by step m r o x)
        by [] None p e = record {
          gave = 0;
          exactly = ap (stepped step m) q.exactly;
          point = point_stepped x (subst (λ o. Point o x) e q.point) (step_at step m x).answer.ended refl;
        }
        by [] (Some z) p e = q
        by (y ∷ ys) None p e = q
        by (y ∷ ys) (Some z) p e = q

    point_handed : (o : Option Ending) (x : Own K × H) → Point o x → Point o (handed step m x)
    point_handed None x g = record { peeked = g.peeked; there = g.there; behind = g.behind; empty = g.empty; left = g.left; met = g.met }
    point_handed (Some e) x g = g

    kept_handed : (n : ℕ) (x : Own K × H) → Kept n x → Kept n (handed step m x)
    kept_handed n x q =
        let z = steps step m n (fresh k, h) in
        record {
          gave = suc q.gave;
          exactly =
              ap (handed step m) q.exactly
              ∙ ap (λ (r : List ℕ).
              let o : Own K = record { ready = r; compared = z.0.compared; kind = z.0.kind; ended = z.0.ended } in
              let v : Own K × H = (o, z.1) in v)
              (tail_drop q.gave z.0.ready);
          point = point_handed x.0.ended x q.point;
        }

    kept_asked : (asks : List Ask) (n : ℕ) (x : Own K × H) → Kept n x → Kept (made step m n asks x) (after step m asks x)
    kept_asked [] n x q = q
    kept_asked (look ∷ asks) n x q = kept_asked asks (counted x.0.ready x.0.ended n) (layer_looked step m x) (kept_looked n x q)
    kept_asked (take ∷ asks) n x q =
        kept_asked asks (counted x.0.ready x.0.ended n) (handed step m (layer_looked step m x)) (kept_handed (counted x.0.ready x.0.ended n) (layer_looked step m x) (kept_looked n x q))

    kept_fresh : Kept 0 (fresh k, h)
    kept_fresh = record {
      gave = 0;
      exactly = refl;
      point = record {
        peeked = false;
        there = gone_here m l h;
        behind = behind_self (m.rest h);
        empty = λ e. false_true e;
        left = refl;
        met = refl;
      };
    }

  pub layer_law : LayerLaw step m
  layer_law k h asks =
      let q = kept_asked k h asks 0 (fresh k, h) (kept_fresh k h) in
      record {
        whole = got_whole asks (fresh k, h);
        ending = ending_same asks (fresh k, h);
        gave = q.gave;
        exactly = q.exactly;
        finished = λ x e. subst (λ o. Point k h o (after step m asks (fresh k, h))) e q.point;
      }
