-- `cmac::xor_padded` meets its contract: after i turns the first i bytes of the string are xored in, and then 80.
-- Assumes nothing.
use Rattle.std.proofs.Common.{◌≡◌, take}
use Rattle.octets.specs.Octets.{xors}
use Rattle.cmac.proofs.xor_padded.Given as goal

abbrev pub invariant-loop-i : goal.invariant-loop-i
invariant-loop-i l = l.r ≡ xors l.initial.r (take l.i l.s)
