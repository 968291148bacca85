use Rattle.std.proofs.Common.{◌≡◌, ◌+◌, ◌%◌, [], ◌∷◌, decimal, sym, ap, ◌∙◌, subst, arith}
use Rattle.std.proofs.lemmas.Fmt.{decimal_digit, decimal_step}
use Rattle.std.proofs.lemmas.Result.{err_from_is_err_and}
use Rattle.listing.specs.Puts.{Taken}
use Rattle.listing.proofs.PutUses.{taken_none, full_before, full_as, puts_last}
use Rattle.listing.proofs.decimals.+put_number.Goals as goal
use Rattle.listing.proofs.decimals.+put_number.Goals.{then-n-ge10+in_ok-put_number, else-n-ge10}

pub returns-in_err-put_number : goal.returns-in_err-put_number
returns-in_err-put_number g t c =
    let p = err_from_is_err_and c.from_residual.result c.from_residual.ensures.1 in
    rw (p.1, p.2) (full_as (full_before _ c.in_err-put_number.ensures) (sym (decimal_step c.args.n c.if-n-ge10.true (omega arith))))

pub returns : goal.returns
returns g t c =
    let last = (48 + c.args.n % 10) ∷ [] in
    elim c.if-n-ge10.branch [
      | then-n-ge10+in_ok-put_number w ↦
          puts_last last (decimal c.args.n) c.put.result c.put.new.self
          (subst (λ s. Taken g.S.Sink.room g.S.Sink.takes c.args.out.now _ s) (sym w.out-is) w.in_ok-put_number.ensures)
          c.put.ensures
          (sym (decimal_step c.args.n w.if-n-ge10.true (omega arith)))
      | else-n-ge10 w ↦
          let same : c.args.n % 10 ≡ c.args.n = omega (arith, w.if-n-ge10.false) in
          puts_last last (decimal c.args.n) c.put.result c.put.new.self
          (subst (λ s. Taken g.S.Sink.room g.S.Sink.takes c.args.out.now [] s) (sym w.out-is) (taken_none c.args.out.now))
          c.put.ensures
          (ap (λ d. (48 + d) ∷ []) same ∙ sym (decimal_digit c.args.n w.if-n-ge10.false))
    ]
