-- `head::admitted::head_of` meets its contract.
-- Assumes nothing.
use Rattle.std.proofs.Common.{refl, ◌∙◌, arith}
use Rattle.std.proofs.lemmas.List.{take_rest}
use Rattle.header.proofs.Laws.{blocks_most, length-strings}
use Rattle.whole.proofs.Lengths.{header_lengths}
use Rattle.head.specs.Head.{head_of, head_of_work}
use Rattle.head.proofs.admitted.head_of.Goals as goal

pub overflow_add-result : goal.overflow_add-result
overflow_add-result c =
    let header = c.args.header in
    omega (arith, c.make_header_result-all.ensures.work ∙ header_lengths _ _ header.walkable.0, blocks_most header.lens.now, header.walkable.1)

pub returns : goal.returns
unfolding head_of head_of_work
returns c =
    let zero = c.zero_cipher-zero.ensures in
    let all = c.make_header_result-all.ensures in
    record {
      outcome = simp (zero.work, all.work) refl;
      head = simp (all.block, c.of.ensures, zero.block, c.round_keys-mac_keys.ensures, c.round_keys-ctr_keys.ensures, take_rest, length-strings) refl;
    }
