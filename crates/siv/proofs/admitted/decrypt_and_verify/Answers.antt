-- `siv::admitted::decrypt_and_verify` meets its contract.
-- Assumes nothing.
use Rattle.std.proofs.Common.{◌+◌, ◌-◌, ◌<◌, ◌^◌, ap, ap₂, ◌∙◌, arith, rules, length, length-take, length-drop}
use Rattle.octets.specs.Octets.{put, same}
use Rattle.std.proofs.lemmas.List.{take_rest}
use Rattle.header.proofs.Laws.{blocks_most}
use Rattle.whole.specs.Siv.{tag_of, tag_of_work, streamed_work, opened, genuine, genuine_work}
use Rattle.whole.proofs.Laws.{length-opened, opened_by, text_read}
use Rattle.whole.proofs.Lengths.{tag_of_lengths, streamed_lengths}
use Rattle.siv.proofs.admitted.decrypt_and_verify.Goals as goal

pub overflow_add-result : goal.overflow_add-result
overflow_add-result c =
    let header = c.args.header in
    let short : length c.args.sealed.now < 2 ^ 64 = search rules in
    let text = simp (length-take, length-drop) at (c.xor_key_stream-work.ensures.work ∙ streamed_lengths _) in
    let tag = simp length-take at (c.tag_of-tag.ensures.work ∙ tag_of_lengths _ _ _ _ header.walkable.0) in
    omega (arith, text, tag, blocks_most header.lens.now, header.walkable.1)

pub returns : goal.returns
unfolding genuine genuine_work
returns c =
    let key = c.args.key.bytes.now in
    let y = c.args.sealed.now in
    let long = length-opened key y in
    let written = c.xor_key_stream-work.ensures.text ∙ ap (put c.args.scratch.now 0) (opened_by key y c.load-v.ensures (take_rest y 16)) in
    let read = text_read (opened key y) c.args.scratch.now {n = length y - 16} written (omega (arith, long)) (omega (arith, long)) in
    let tag = c.tag_of-tag.ensures in
    record {
      judged = c.same_block.ensures ∙ ap₂ same (tag.block ∙ ap (tag_of key _) read) c.load-v.ensures;
      work = ap₂ ◌+◌ (c.xor_key_stream-work.ensures.work ∙ ap streamed_work (take_rest y 16)) (tag.work ∙ ap (tag_of_work key _) read);
      text = written;
    }
