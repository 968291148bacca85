use Rattle.std.proofs.Common.{◌≡◌, ◌++◌, take, drop}
use Rattle.std.specs.List.{repeat}
use Rattle.given.proofs.reading.repeat_behind.Given as goal

-- the first bytes of the copies stand behind those that were there
abbrev pub invariant-loop-i : goal.invariant-loop-i
invariant-loop-i l = l.bytes.items ≡ l.fn.bytes.items ++ take l.i (repeat l.fn.times (drop l.start l.fn.bytes.items))
