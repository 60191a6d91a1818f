-- `aes::schedule::Schedule::of` meets its contract: before turn i the first i words are written and the rest is zero.
-- Assumes nothing.
use native.Mathlib.Omega.{arith}
use Rattle.aes.proofs.KeyWords.{scheduled_key, scheduled_more, scheduled_all}
use Rattle.aes.proofs.schedule.Schedule.of.Goals as goal

pub loop-i-init : goal.loop-i-init
loop-i-init c = scheduled_key _ _ _ (omega arith) c.copy_at.ensures

pub loop-i-preserved : goal.loop-i-preserved
loop-i-preserved c = scheduled_more _ _ _ _ _ (omega arith) (omega arith) (omega arith) c.loop-i.invariant c.extend.ensures

pub returns : goal.returns
returns c = scheduled_all _ _ _ c.loop-i.i (omega arith) (omega arith) c.loop-i.invariant
