-- `s2v::tag` meets its contract.
-- Assumes nothing.
use Rattle.std.proofs.Common.{◌≡◌, ◌-◌, ◌<◌, ◌^◌, refl, sym, arith, rules, length, length-take, length-drop}
use Rattle.std.proofs.lemmas.List.{take_rest}
use Rattle.s2v.specs.S2v.{tail_length}
use Rattle.s2v.proofs.Laws.{tail, tag_work, tag_tail, tag_tail_work}
use Rattle.s2v.proofs.tag.Goals as goal

pub overflow_sub-at : goal.overflow_sub-at
overflow_sub-at c = omega (arith, tail (length c.args.p.now))

pub tag_from-end-requires : goal.tag_from-end-requires
tag_from-end-requires c = let t = tail (length c.args.p.now) in simp (length-take, length-drop) (omega arith)

pub overflow_add-result : goal.overflow_add-result
overflow_add-result c =
    let d = c.args.d in
    let p = c.args.p.now in
    let d-length : length d ≡ 16 = search rules in
    let short : length p < 2 ^ 64 = search rules in
    simp (c.tag_from-end.ensures.work, c.chain_blocks-before.ensures.work, c.tail_len.ensures, take_rest)
    (omega (arith, tag_tail_work d p (length p - tail_length (length p)) d-length refl, tag_work d p d-length, short))

pub returns : goal.returns
returns c =
    let d-length : length c.args.d ≡ 16 = search rules in
    record {
      block = simp (c.tag_from-end.ensures.block, c.chain_blocks-before.ensures.block, c.tail_len.ensures, take_rest) (sym (tag_tail _ _ _ _ _ refl));
      work = simp (c.tag_from-end.ensures.work, c.chain_blocks-before.ensures.work, c.tail_len.ensures, take_rest) (tag_tail_work _ _ _ d-length refl);
    }
