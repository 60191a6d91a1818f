-- `cmac::xor_last` meets its contract. `xored` stands alone so that a wrong subkey is refused by its name.
-- Assumes nothing.
use Rattle.std.proofs.Common.{◌≡◌, arith, rules, length}
use lib.Seq.{take_all}
use borrow.Author.Tests.{eq-eqb, ne_eqb}
use Rattle.octets.specs.Octets.{xors, part}
use Rattle.octets.proofs.Strings.{xors_assoc}
use Rattle.cmac.specs.Cmac.{pad, last_block}
use Rattle.cmac.proofs.Laws.{length-pad}
use Rattle.cmac.proofs.xor_last.Goals as goal

pub returns-then-s-eq16 : goal.returns-then-s-eq16
unfolding last_block
returns-then-s-eq16 c =
    let all : part c.args.s.now 0 16 ≡ c.args.s.now = take_all 16 _ (omega arith) in
    simp (eq-eqb _ _ c.if-s-eq16.true) (cc)

pub returns : goal.returns
unfolding last_block
returns c =
    let k = c.args.k in
    let s = c.args.s.now in
    let k2-length : length k.k2 ≡ 16 = search rules in
    let xored : c.xor_block-2.result ≡ xors c.xor_padded.result k.k2 = c.xor_block-2.ensures in
    let moved = xors_assoc c.args.c (pad s) k.k2 (omega (arith, length-pad s (omega arith))) in
    simp (ne_eqb _ _ c.if-s-eq16.false) (cc)
