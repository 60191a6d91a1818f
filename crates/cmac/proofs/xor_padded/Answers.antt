-- `cmac::xor_padded` meets its contract.
-- Assumes nothing.
use Rattle.std.proofs.Common.{sym, ap, ◌∙◌, arith, length}
use lib.Seq.{take_all}
use Rattle.octets.specs.Octets.{xors}
use Rattle.octets.proofs.Strings.{xors_nil}
use Rattle.cmac.proofs.Laws.{padding_folds, xors_byte, xors_more}
use Rattle.cmac.proofs.xor_padded.Goals as goal

pub loop-i-init : goal.loop-i-init
loop-i-init c = sym (xors_nil _)

pub loop-i-preserved : goal.loop-i-preserved
loop-i-preserved c = xors_more c.args.c c.args.s.now c.loop-i.i (omega arith) (omega arith) c.loop-i.invariant

pub returns : goal.returns
returns c =
    let s = c.args.s.now in
    xors_byte c.args.c s (length s) 0x80 (omega arith) (omega arith) (c.loop-i.invariant ∙ ap (xors c.args.c) (take_all c.loop-i.i s (omega arith)))
    ∙ padding_folds c.args.c s
