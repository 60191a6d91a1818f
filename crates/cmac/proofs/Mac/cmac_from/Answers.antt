-- `cmac::Mac::cmac_from` meets its contract.
-- Assumes nothing.
use Rattle.std.proofs.Common.{◌<◌, ◌^◌, refl, ◌∙◌, arith, rules, length}
use Rattle.std.proofs.lemmas.List.{take_rest}
use Rattle.cmac.specs.Cmac.{cmac_from}
use Rattle.cmac.proofs.Laws.{chain_work_lem, cmac_work_lem}
use Rattle.cmac.proofs.Mac.cmac_from.Goals as goal

pub overflow_add-result : goal.overflow_add-result
overflow_add-result c =
    let short : length c.args.s.now < 2 ^ 64 = search rules in
    omega (arith, c.chain_before-before.ensures.work ∙ chain_work_lem _, short)

pub returns : goal.returns
unfolding cmac_from
returns c =
    let s = c.args.s.now in
    record {
      block = simp (c.encrypt-end.ensures.block, c.xor_last-last.ensures, c.chain_before-before.ensures.block, c.blocks_before-n.ensures, take_rest) refl;
      work = omega (arith, c.chain_before-before.ensures.work ∙ chain_work_lem _, cmac_work_lem s);
    }
