use Rattle.std.proofs.Common.{[], ◌∷◌, ap₂}
use Rattle.source.specs.Bytes.{hex_pair_of}
use Rattle.listing.proofs.JoinedUses.{placed_more}
use Rattle.listing.proofs.strings.write_pairs.Goals as goal

pub loop-i-preserved : goal.loop-i-preserved
loop-i-preserved c =
    placed_more hex_pair_of c.args.content.now c.loop-i.i _ _ c.loop-i-test.true c.requires
    (ap₂ (λ h l. h ∷ l ∷ []) c.hex_digit.ensures c.hex_digit-in-loop-i.ensures) c.loop-i.invariant
