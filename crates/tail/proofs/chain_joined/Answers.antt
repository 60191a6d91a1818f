-- `tail::chain_joined` meets its contract: the first two blocks, and then the second string's own.
-- Assumes nothing.
use Rattle.std.proofs.Common.{arith, ◌∙◌}
use Rattle.cmac.proofs.Laws.{chain_work_lem}
use Rattle.tail.proofs.Laws.{chain_behind}
use Rattle.tail.proofs.chain_joined.Goals as goal

pub returns : goal.returns
returns c =
    let more = c.if-n-le2.false in
    let args = c.args in
    let first = c.chain_front-front.ensures in
    let rest = c.chain_blocks-rest.ensures in
    record {
      block = rest.block ∙ chain_behind _ _ args.a.now args.b.now args.n c.requires.0 (omega (arith, more)) first.block;
      work = omega (arith, more, first.work ∙ chain_work_lem _, rest.work ∙ chain_work_lem _, chain_work_lem args.n);
    }
