-- `s2v::make_header_result` meets its contract.
-- Assumes nothing.
use Rattle.std.proofs.Common.{◌∙◌, arith}
use Rattle.cmac.proofs.Laws.{cmac_work_lem}
use Rattle.s2v.specs.S2v.{header_result, header_work}
use Rattle.s2v.proofs.make_header_result.Goals as goal

pub absorb_strings-requires : goal.absorb_strings-requires
absorb_strings-requires c =
    let walkable = c.args.header.walkable in
    (walkable.0, omega (arith, c.cmac_from.ensures.work ∙ cmac_work_lem _, walkable.1))

pub returns : goal.returns
unfolding header_result header_work
returns c = rw (c.cmac_from.ensures.block, c.cmac_from.ensures.work) at c.absorb_strings.ensures
