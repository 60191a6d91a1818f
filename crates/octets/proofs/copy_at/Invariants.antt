-- `octets::copy_at` meets its contract: after i turns the first i bytes of `src` are written.
-- Assumes nothing.
use Rattle.octets.proofs.Strings.{Written}
use Rattle.octets.proofs.copy_at.Given as goal

abbrev pub invariant-loop-i : goal.invariant-loop-i
invariant-loop-i l = Written l.initial.dst l.at l.src l.dst l.i
