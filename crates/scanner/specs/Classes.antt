use Rattle.std.specs.Prelude.{ℕ, Bool, cond, ◌||◌, ◌==◌}
use Rattle.source.specs.Bytes.{white}
use Rattle.scanner.specs.declared.class.Class.{Class}
use Rattle.scanner.specs.declared.class.Class.TheVariants.{White, Special, Regular}

-- ( ) < > [ ] { } / %
abbrev pub special : ℕ → Bool
special b =
    (b == 40) || (b == 41 || (b == 60 || (b == 62 || (b == 91 || (b == 93 || (b == 123 || (b == 125 || (b == 47 || b == 37))))))))

-- what a byte is to the scanner
abbrev pub class_of : ℕ → Class
class_of b = cond (white b) White (cond (special b) Special Regular)
