use Rattle.std.proofs.Common.{rules}
use Rattle.listing.specs.Lines.{spaced}
use Rattle.listing.specs.Shown.{shown_by}
use Rattle.listing.proofs.PutUses.{puts_last}
use Rattle.listing.proofs.contents.put_content.Goals as goal

pub returns : goal.returns
returns g c =
    puts_last (shown_by c.args.form c.args.content.now) (spaced (shown_by c.args.form c.args.content.now)) c.put_shown.result c.put_shown.new.out
    c.in_ok-put.ensures c.put_shown.ensures (search rules)
