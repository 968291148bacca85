use Rattle.std.proofs.Common.{◌≡◌, drop}
use Rattle.eexec.specs.Cipher.{keys_after}
use Rattle.eexec.proofs.cipher.Cipher.pass.Given as goal

abbrev pub invariant-loop-c : goal.invariant-loop-c
invariant-loop-c l = keys_after l.self.key (drop l.c-index l.bytes) ≡ keys_after l.fn.self.key l.bytes
