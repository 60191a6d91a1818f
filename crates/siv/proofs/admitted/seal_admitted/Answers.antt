-- `siv::admitted::seal_admitted` meets its contract.
-- Assumes nothing.
use Rattle.std.proofs.Common.{◌≡◌, ◌+◌, ap₂, ◌∙◌, arith, rules, length}
use Rattle.header.proofs.Laws.{blocks_most}
use Rattle.whole.specs.Siv.{sealed_work}
use Rattle.whole.proofs.Laws.{sealed_written}
use Rattle.whole.proofs.Lengths.{tag_of_lengths, streamed_lengths}
use Rattle.siv.proofs.admitted.seal_admitted.Goals as goal

pub overflow_add-result : goal.overflow_add-result
overflow_add-result c =
    let header = c.args.header in
    let text = c.xor_key_stream.ensures.work ∙ streamed_lengths c.args.input.now in
    let tag = c.tag_of-tag.ensures.work ∙ tag_of_lengths _ _ _ _ header.walkable.0 in
    omega (arith, text, tag, blocks_most header.lens.now, header.walkable.1)

pub returns : goal.returns
unfolding sealed_work
returns c =
    let tag-length : length c.tag_of-tag.result.block ≡ 16 = search rules in
    let text = c.xor_key_stream.ensures in
    let tag = c.tag_of-tag.ensures in
    record { work = ap₂ ◌+◌ tag.work text.work; sealed = sealed_written _ _ _ _ tag.block tag-length c.requires c.store.ensures text.text }
