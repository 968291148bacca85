use Rattle.std.proofs.Common.{ℕ, List, [], ◌∷◌, Some, Option, ◌∙◌, ap₂, arith}
use Rattle.eexec.proofs.HeadUses.{four_hex}
use Rattle.eexec.proofs.head.hex_bytes.Goals as goal

pub returns : goal.returns
returns c =
    ap₂ (λ (p q : ℕ). let o : Option (List ℕ) = Some (p ∷ q ∷ []) in o) c.hex_pair.ensures c.hex_pair-2.ensures
    ∙ four_hex c.args.head _ _ _ _ (omega arith) c.in_ok-digit.ensures c.in_ok-digit-2.ensures c.in_ok-digit-3.ensures c.in_ok-digit-4.ensures
