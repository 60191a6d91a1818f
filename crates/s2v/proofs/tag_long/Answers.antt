-- `s2v::tag_long` meets its contract.
-- Assumes nothing.
use Rattle.std.proofs.Common.{◌-◌, arith, length, replicate}
use Rattle.std.proofs.lemmas.List.{take_rest}
use Rattle.s2v.proofs.Laws.{xorend_buffer}
use Rattle.s2v.proofs.tag_long.Goals as goal

pub returns : goal.returns
returns c =
    let p = c.args.p.now in
    let text = xorend_buffer (replicate 32 0) p c.args.d (length p - 16) (omega arith) (omega arith) in
    rw (← text) (simp (c.xor_at.ensures, c.copy_at.ensures, take_rest) at c.cmac_from.ensures)
