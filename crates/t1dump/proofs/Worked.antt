use Rattle.std.proofs.Common.{refl}
use Rattle.std.specs.Fmt.{digits}
use Rattle.t1dump.specs.Examples.{Examples}

pub worked : Examples
unfolding digits
worked = record { text = refl; nothing = refl; names = refl; numbers = refl; angles = refl; fault = refl; unended = refl }
