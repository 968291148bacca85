use Rattle.std.proofs.Common.{◌≡◌, [], ◌∷◌, pos, nat_abs, ◌<ℤ◌, decimal, sym, ap, ◌∙◌, subst, arith, w32}
use Rattle.std.specs.Fmt.{signed_decimal}
use Rattle.std.proofs.lemmas.Int.{ints, to_z-of_z}
use Rattle.listing.specs.Puts.{Taken}
use Rattle.listing.proofs.DecimalUses.{signed_negative, signed_other}
use Rattle.listing.proofs.PutUses.{taken_none, puts_last}
use Rattle.listing.proofs.decimals.put_integer.Goals as goal
use Rattle.listing.proofs.decimals.put_integer.Goals.{then-value-lt0+in_ok-put, else-value-lt0}

pub returns : goal.returns
returns g c =
    let size : c.unsigned_abs.result ≡ nat_abs c.args.value = c.unsigned_abs.ensures.value ∙ ap nat_abs (to_z-of_z w32 c.args.value c.ranges.value) in
    elim c.if-value-lt0.branch [
      | then-value-lt0+in_ok-put w ↦
          puts_last (decimal c.unsigned_abs.result) (signed_decimal c.args.value) c.put_number.result c.put_number.new.out
          (subst (λ s. Taken g.S.Sink.room g.S.Sink.takes c.args.out.now (45 ∷ []) s) (sym w.out-is) w.in_ok-put.ensures)
          c.put_number.ensures
          (let below : c.args.value <ℤ pos 0 = grind (arith, ints, w.if-value-lt0.true) in ap (λ n. 45 ∷ decimal n) size ∙ signed_negative c.args.value below)
      | else-value-lt0 w ↦
          puts_last (decimal c.unsigned_abs.result) (signed_decimal c.args.value) c.put_number.result c.put_number.new.out
          (subst (λ s. Taken g.S.Sink.room g.S.Sink.takes c.args.out.now [] s) (sym w.out-is) (taken_none c.args.out.now))
          c.put_number.ensures
          (ap decimal size ∙ signed_other c.args.value (λ below. let no : ⊥ = grind (arith, ints, w.if-value-lt0.false) in no))
    ]
