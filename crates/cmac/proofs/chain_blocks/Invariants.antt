-- `cmac::chain_blocks` meets its contract: after i turns i blocks are in the chain, and counted.
-- Assumes nothing.
use Rattle.aes.specs.Keyed.{enciphers}
use Rattle.aes.specs.Work.{Reports}
use Rattle.cmac.specs.Cmac.{chain, chain_work}
use Rattle.cmac.proofs.chain_blocks.Given as goal

abbrev pub invariant-loop-i : goal.invariant-loop-i
invariant-loop-i l = Reports (chain (enciphers l.cipher) l.fn.c l.s l.i) (chain_work l.i) l.chained
