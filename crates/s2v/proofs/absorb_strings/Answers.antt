-- `s2v::absorb_strings` meets its contract.
-- Assumes nothing.
use Rattle.std.proofs.Common.{ℕ, ◌<◌, ◌^◌, List, length, refl, ap, ◌∙◌, arith, rules, Bor}
use Rattle.header.specs.Header.{total, strings}
use Rattle.header.proofs.Laws.{total_more}
use Rattle.s2v.specs.S2v.{absorb_strings, absorb_work}
use Rattle.s2v.proofs.Laws.{absorbed_more, absorbed_most}
use Rattle.s2v.proofs.absorb_strings.Goals as goal

pub loop-i-init : goal.loop-i-init
unfolding absorb_strings absorb_work strings total
loop-i-init c = (record { block = refl; work = refl }, ap (λ (b : Bor (List ℕ)). b.now) c.new-reader.ensures.0, c.new-reader.ensures.1)

pub absorb_string-b-requires : goal.absorb_string-b-requires
absorb_string-b-requires c =
    let fits : length c.args.bytes.now < 2 ^ 64 = search rules in
    omega (arith, absorbed_most c.args.d.work c.args.bytes.now c.args.lens.now c.loop-i.i (omega arith) (omega arith))

pub loop-i-preserved : goal.loop-i-preserved
loop-i-preserved c =
    let had = c.loop-i.invariant in (
      absorbed_more _ _ _ _ _ _ c.loop-i-test.true had.0 (rw (c.next.ensures, had.1, had.2, c.length_at-n.ensures) at c.absorb_string-b.ensures),
      ap (λ (b : Bor (List ℕ)). b.now) c.moved-reader.ensures.0 ∙ had.1,
      omega (arith, total_more _ _ c.loop-i-test.true, c.length_at-n.ensures),
    )
