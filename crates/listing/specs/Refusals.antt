use Rattle.std.specs.Prelude.{ℕ}
use Rattle.listing.specs.declared.refusal.Refusal.{Refusal}
use Rattle.listing.specs.declared.refusal.Refusal.TheVariants.{Line}

abbrev pub refusal_number : Refusal → ℕ
refusal_number Line = 7
