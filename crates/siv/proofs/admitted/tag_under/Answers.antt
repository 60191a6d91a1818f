-- `siv::admitted::tag_under` meets its contract.
-- Assumes nothing.
use Rattle.std.proofs.Common.{◌≡◌, ◌<◌, ◌^◌, refl, ◌∙◌, arith, rules, length}
use Rattle.header.proofs.Laws.{blocks_most}
use Rattle.s2v.specs.S2v.{s2v, s2v_work}
use Rattle.whole.proofs.Lengths.{header_lengths, tag_lengths}
use Rattle.siv.proofs.admitted.tag_under.Goals as goal

pub overflow_add-result : goal.overflow_add-result
overflow_add-result c =
    let header = c.args.header in
    omega (arith, c.make_header_result-head.ensures.work ∙ header_lengths _ _ header.walkable.0, blocks_most header.lens.now, header.walkable.1)

pub overflow_add-result-2 : goal.overflow_add-result-2
overflow_add-result-2 c =
    let header = c.args.header in
    let d : length c.make_header_result-head.result.block ≡ 16 = search rules in
    let short : length c.args.p.now < 2 ^ 64 = search rules in
    let text = c.tag-tag.ensures.work ∙ tag_lengths _ _ d in
    omega (arith, c.make_header_result-head.ensures.work ∙ header_lengths _ _ header.walkable.0, text, blocks_most header.lens.now, header.walkable.1)

pub returns : goal.returns
unfolding s2v s2v_work
returns c =
    let zero = c.zero_cipher-zero.ensures in
    let head = c.make_header_result-head.ensures in
    let tag = c.tag-tag.ensures in
    record {
      block = simp (tag.block, head.block, c.of.ensures, zero.block) refl;
      work = simp (tag.work, head.work, head.block, c.of.ensures, zero.block, zero.work) refl;
    }
