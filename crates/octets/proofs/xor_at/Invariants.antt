-- `octets::xor_at` meets its contract: after i turns the first i bytes of the xor are written.
-- Assumes nothing.
use Rattle.octets.specs.Octets.{xors}
use Rattle.octets.proofs.Strings.{Written}
use Rattle.octets.proofs.xor_at.Given as goal

abbrev pub invariant-loop-i : goal.invariant-loop-i
invariant-loop-i l = Written l.initial.dst l.at (xors l.src l.mask) l.dst l.i
