-- `ring::Attempt::try_slots` meets its contract: trying the slots that are left ends where trying all does.
-- Assumes nothing.
use mathlib.Core.Path.{sym, ◌∙◌}
use Prim.Native.Nat.{◌≤◌}
use native.Mathlib.Nat.{le_of_eq}
use native.Mathlib.Omega.{arith}
use Rattle.whole.proofs.Laws.{length-opened, put_beyond, put_rest}
use Rattle.whole.proofs.Lengths.{work_most, genuine_most}
use Rattle.whole.proofs.Ring.{trying_more, trying_found}
use Rattle.ring.proofs.Attempt.try_slots.Goals as goal

pub overflow_add-work : goal.overflow_add-work
overflow_add-work c =
    let small : c.try_slot-verdict.result.work ≤ work_most = genuine_most _ _ _ _ c.try_slot-verdict.ensures.work c.args.self.header.walkable (omega arith) (omega arith) in
    omega (arith, small, c.loop-i.invariant, c.requires.0.2)

pub loop-i-preserved : goal.loop-i-preserved
loop-i-preserved c =
    let small : c.try_slot-verdict.result.work ≤ work_most = genuine_most _ _ _ _ c.try_slot-verdict.ensures.work c.args.self.header.walkable (omega arith) (omega arith) in
    let tried = c.try_slot-verdict.ensures in
    trying_more _ _ _ _ _ _ _ _ _ _ _ c.loop-i.invariant (omega arith) (sym tried.judged ∙ c.if-verdict.false) tried.work small c.try_slot-verdict.auto.scratch
    (put_rest c.loop-i.scratch _ tried.text (sym (length-opened _ _)))

pub returns-then-verdict : goal.returns-then-verdict
returns-then-verdict c =
    let had = c.loop-i.invariant in
    let long = length-opened _ c.args.self.sealed.now in
    let tried = c.try_slot-verdict.ensures in
    record {
      found = trying_found _ _ _ _ _ _ _ _ _ _ had (omega arith) (sym tried.judged ∙ c.if-verdict.true) tried.work;
      text = λ _. tried.text ∙ put_beyond c.args.scratch.now c.loop-i.scratch _ _ (le_of_eq (sym long)) had.rest;
      rest = put_rest c.loop-i.scratch _ tried.text (sym long) ∙ had.rest;
    }
