use Rattle.std.proofs.Common.{refl, rules}
use Rattle.listing.proofs.AreaUses.{area_prints}
use Rattle.listing.proofs.text.Text.write.Goals as goal

pub returns : goal.returns
returns c = area_prints _ _ _ _ refl c.in_ok-put.ensures.bytes (λ e. search rules)
