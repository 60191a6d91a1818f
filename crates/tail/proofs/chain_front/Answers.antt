-- `tail::chain_front` meets its contract: the blocks are chained where they were copied to.
-- Assumes nothing.
use Rattle.std.proofs.Common.{◌++◌, ◌∙◌, arith, length-append}
use Rattle.tail.proofs.Laws.{chain_copied}
use Rattle.tail.proofs.chain_front.Goals as goal

pub returns : goal.returns
returns c =
    let chained = c.chain_blocks.ensures in
    record {
      block = chained.block ∙ chain_copied _ _ _ (c.args.a.now ++ c.args.b.now) _ c.copy_joined.ensures (simp length-append (omega arith));
      work = chained.work;
    }
