-- `header::blocks::of_all` meets its contract.
-- Assumes nothing.
use Rattle.std.proofs.Common.{◌≡◌, ◌∙◌, arith, rules}
use Rattle.std.specs.List.{sum_by}
use Rattle.header.specs.Blocks.{blocks_of}
use Rattle.header.proofs.Laws.{blocks_sum, blocks_small}
use Rattle.header.proofs.blocks.of_all.Goals as goal

pub returns-clause-all : goal.returns-clause-all
returns-clause-all c =
    let e : c.sum.result ≡ sum_by blocks_of c.args.lens.now = search rules in
    e ∙ blocks_sum c.args.lens.now

pub returns-clause-small : goal.returns-clause-small
returns-clause-small c =
    let e : c.sum.result ≡ sum_by blocks_of c.args.lens.now = search rules in
    omega (arith, e, blocks_sum c.args.lens.now, blocks_small c.args.lens.now (λ i. (c.type_inv.lens i).fits))
