use Rattle.std.proofs.Common.{ap₂, Some}
use Rattle.listing.specs.Lines.{newline, token_by}
use Rattle.listing.specs.Shown.{shown_by}
use Rattle.listing.proofs.PutUses.{taken_then, puts_last}
use Rattle.listing.proofs.text.put_token.Goals as goal

pub returns : goal.returns
returns g c =
    let content = shown_by c.args.form c.args.content.now in
    puts_last newline (token_by (Some c.args.word.now) c.args.level content) c.put-2.result c.put-2.new.self
    (taken_then (taken_then (taken_then c.in_ok-put_number.ensures c.in_ok-put.ensures) c.in_ok-put_all.ensures) c.in_ok-put_content.ensures)
    c.put-2.ensures
    (ap₂ (λ n w. token_by (Some w) n content) c.from.ensures c.as_bytes.ensures.value)
