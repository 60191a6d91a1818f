-- `octets::copy_at` meets its contract: after i turns the first i bytes of `src` are written.
-- Assumes nothing.
use mathlib.Core.Path.{refl}
use native.Mathlib.Omega.{arith}
use Rattle.octets.proofs.Strings.{written_more, written_all}
use Rattle.octets.proofs.copy_at.Goals as goal

pub loop-i-preserved : goal.loop-i-preserved
loop-i-preserved c = written_more _ _ _ _ _ _ (omega arith) c.loop-i.invariant (omega arith) refl

pub returns : goal.returns
returns c = written_all _ _ _ _ _ c.loop-i.invariant (omega arith)
