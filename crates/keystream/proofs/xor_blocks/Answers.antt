-- `keystream::xor_blocks` meets its contract: after j turns the first j blocks are written, and counted.
-- Assumes nothing.
use mathlib.Core.Logic.{inl}
use mathlib.Core.Path.{refl}
use native.Mathlib.Omega.{arith}
use Rattle.aes.proofs.Widths.{length-cipher}
use Rattle.keystream.proofs.Laws.{stream_work_lem}
use Rattle.keystream.proofs.Writing.{reached_none, reached_more, reached_all}
use Rattle.keystream.proofs.xor_blocks.Goals as goal

pub loop-j-init : goal.loop-j-init
loop-j-init c =
    let blocks = c.chunks_exact.ensures in
    let counted = c.enumerate-j-items.ensures in
    rw (c.into_iter-j-iterator.ensures.into_iter_gives, counted.source, counted.count, blocks.rest, blocks.size)
    ((omega arith, tt, inl (omega arith)), tt, refl, reached_none _ (length-cipher _ _) _ _ _ _ _ refl refl, refl)

pub loop-j-preserved : goal.loop-j-preserved
loop-j-preserved c =
    let next = c.in-Some.ensures in
    let piece = c.xor_with_block-work.ensures in (
      next.goes.keeps,
      tt,
      omega arith,
      reached_more _ (length-cipher _ _) _ _ _ _ _ _ c.loop-j.invariant.3 piece.text next.steps.0.1.0 (omega arith) (omega arith) (omega arith) (omega arith) (omega arith),
      omega arith,
    )

pub returns : goal.returns
returns c =
    let size = c.loop-j.invariant.2 in
    let all = reached_all _ (length-cipher _ _) _ _ _ _ _ c.loop-j.invariant.3 (omega (arith, c.in-None.ensures.steps.0.1.0)) in
    record { work = omega (arith, stream_work_lem); text = all.1 }
