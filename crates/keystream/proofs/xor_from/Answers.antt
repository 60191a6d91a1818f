-- `keystream::xor_from` meets its contract: whole blocks, then the short end, which begins the block that is kept.
-- Assumes nothing.
use mathlib.Core.Path.{◌∙◌}
use native.Mathlib.Omega.{arith}
use Rattle.aes.proofs.Widths.{length-cipher}
use Rattle.keystream.proofs.Laws.{stream_work_lem, begun_block_whole, begun_block_short}
use Rattle.keystream.proofs.Writing.{xor_stream_all, xor_stream_joined, fresh_piece}
use Rattle.keystream.proofs.xor_from.Goals as goal

pub returns-then-src-eq0 : goal.returns-then-src-eq0
returns-then-src-eq0 c =
    let none = c.if-src-eq0.true in
    let whole = c.xor_blocks-work.ensures in
    fresh_piece _ (length-cipher _ _) _ _ _ _ _
    (xor_stream_all _ _ _ _ _ _ _ (omega (arith, none)) whole.text)
    (begun_block_whole _ _ _ _ none)
    (whole.work ∙ stream_work_lem _ ∙ omega (arith, none))

pub returns : goal.returns
returns c =
    let some = c.if-src-eq0.false in
    let whole = c.xor_blocks-work.ensures in
    let end = c.xor_with_block-end.ensures in
    fresh_piece _ (length-cipher _ _) _ _ _ _ _
    (xor_stream_joined _ (length-cipher _ _) _ _ _ _ _ _ (omega arith) (omega arith) (omega arith) whole.text end.text)
    (begun_block_short _ _ _ _ some end.block.block)
    (omega (arith, some, end.block.work, whole.work ∙ stream_work_lem _))
