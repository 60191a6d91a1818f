-- `gcm_ctr::xor_stream` meets its contract: after j turns the first j blocks are written, and the rest is to come.
-- Assumes nothing.
use mathlib.Core.Logic.{inl}
use Rattle.std.proofs.Common.{refl, arith}
use Rattle.aes.proofs.Widths.{length-cipher}
use Rattle.gcm_ctr.proofs.Laws.{aes_ctr_work_lem, coming_all, coming_more, coming_none}
use Rattle.gcm_ctr.proofs.xor_stream.Goals as goal

pub loop-j-init : goal.loop-j-init
loop-j-init c =
    let pieces = c.chunks.ensures in
    let counted = c.enumerate-j-items.ensures in
    rw (c.into_iter-j-iterator.ensures.into_iter_gives, counted.source, counted.count, pieces.rest, pieces.size)
    ((omega arith, tt, inl (omega arith)), tt, refl, coming_all _ (length-cipher _ _) _ _ _ (omega arith), refl)

pub loop-j-preserved : goal.loop-j-preserved
loop-j-preserved c =
    let next = c.in-Some.ensures in
    let piece = c.xor_block-work.ensures in (
      next.goes.keeps,
      tt,
      omega arith,
      coming_more _ (length-cipher _ _) _ _ _ _ c.loop-j.invariant.3 piece.text c.next_block-next.ensures next.steps.0.1.0 (omega arith) (omega arith) (omega arith) (omega arith) (omega arith),
      omega arith,
    )

pub returns : goal.returns
returns c =
    let all = coming_none _ (length-cipher _ _) _ _ _ c.loop-j.invariant.3 (c.in-None.ensures.steps.0.1.0) in
    record { work = omega (arith, aes_ctr_work_lem); text = all.1 }
