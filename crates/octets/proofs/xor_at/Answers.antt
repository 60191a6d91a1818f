-- `octets::xor_at` meets its contract: after i turns the first i bytes of the xor are written.
-- Assumes nothing.
use native.Mathlib.Omega.{arith}
use Rattle.octets.proofs.Strings.{written_more, written_all, length-xors, get_d_xors}
use Rattle.octets.proofs.xor_at.Goals as goal

pub loop-i-preserved : goal.loop-i-preserved
loop-i-preserved c =
    written_more _ _ _ _ _ _ (simp length-xors (omega arith)) c.loop-i.invariant (simp length-xors (omega arith))
    (get_d_xors _ _ c.loop-i.i (omega arith))

pub returns : goal.returns
returns c = written_all _ _ _ _ _ c.loop-i.invariant (simp length-xors (omega arith))
