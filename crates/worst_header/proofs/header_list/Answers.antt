-- `worst_header::header_list` meets its contract: its list has as many blocks as any can have.
-- Assumes nothing.
use Rattle.std.proofs.Common.{◌≡◌, true, ℕ, ◌+◌, ◌-◌, ◌*◌, ◌≤◌, sym, ◌∙◌, arith}
use Rattle.worst_header.specs.WorstHeader.{is_plan}
use Rattle.worst_header.proofs.Laws.{Planned, planned, times_less, list_gives, reaches}
use Rattle.worst_header.proofs.header_list.Goals as goal

-- the others leave the least to the first
left : (h k least : ℕ) → Planned h k least → (k - 1) * least + least ≤ h
left h k least p = omega (arith, p, times_less k least p.some)

-- what was judged
judged : (c : goal.Else-not-is_plan) → Planned c.args.header_len c.args.count c.args.least
judged c = planned _ _ _ (sym c.is_plan.ensures ∙ c.if-not-is_plan.false)

pub overflow_sub-first : goal.overflow_sub-first
overflow_sub-first c = (judged c).some

pub overflow_mul-first : goal.overflow_mul-first
overflow_mul-first c = omega (arith, left _ _ _ (judged c))

pub overflow_sub-first-2 : goal.overflow_sub-first-2
overflow_sub-first-2 c = omega (arith, left _ _ _ (judged c))

pub overflow_cast-first : goal.overflow_cast-first
overflow_cast-first c = omega (arith, (judged c).bounded)

pub overflow_cast-others : goal.overflow_cast-others
overflow_cast-others c = omega (arith, (judged c).small)

pub list_of-lens-requires : goal.list_of-lens-requires
list_of-lens-requires c = ((judged c).some, (judged c).count_fits)

pub returns : goal.returns
returns c =
    let plan : is_plan c.args.header_len c.args.count c.args.least ≡ true = sym c.is_plan.ensures ∙ c.if-not-is_plan.false in
    let p : Planned c.args.header_len c.args.count c.args.least = planned _ _ _ plan in
    let rest = left _ _ _ p in
    list_gives _ _ _ _ _ plan c.list_of-lens.ensures c.of_all.ensures.all (omega arith) (omega arith) (omega arith) (reaches _ _ _ p)
