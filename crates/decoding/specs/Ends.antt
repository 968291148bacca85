use Rattle.std.specs.Prelude.{ℕ, ◌+◌, cond, nat_lt}
use Rattle.source.specs.declared.ending.Damage.TheVariants.{CutShort}
use Rattle.source.specs.declared.ending.Ending.{Ending}
use Rattle.source.specs.declared.ending.Ending.TheVariants.{Clean, Damaged}

-- a damage that passes a filter is one deeper, 255 at most
abbrev pub deeper : ℕ → ℕ
deeper d = cond (nat_lt d 255) (d + 1) 255

-- how a filter ends that ends with what stands below: cleanly, or by the damage there
abbrev pub passed : Ending → Ending
passed Clean = Clean
passed (Damaged x d) = Damaged x (deeper d)

-- how a filter ends that needs a byte where what stands below has ended
abbrev pub above : Ending → Ending
above Clean = Damaged CutShort 0
above (Damaged x d) = Damaged x (deeper d)
