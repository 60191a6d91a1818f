-- `stream::begin::refuse_tag` meets its contract.
-- Assumes nothing.
use borrow.Author.Tests.{ne_eqb}
use Rattle.answers.proofs.Laws.{refusal_number}
use Rattle.stream.proofs.Laws.{in_state}
use Rattle.stream.proofs.begin.refuse_tag.Goals as goal

pub returns-in-Err : goal.returns-in-Err
returns-in-Err c = simp (c.in-Err.is, ne_eqb _ _ (refusal_number c.in-Err.refusal)) (in_state c.ended.ensures (c.refused.ensures _))

pub returns-in-Ok : goal.returns-in-Ok
returns-in-Ok c = simp c.in-Ok.is (in_state c.ended-in-Ok.ensures (c.refused-in-Ok.ensures _))
