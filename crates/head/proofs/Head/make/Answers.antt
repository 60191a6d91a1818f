-- `head::Head::make` meets its contract.
-- Assumes nothing.
use Rattle.head.specs.Head.{make_head}
use Rattle.head.proofs.Laws.{make_refused, make_done}
use Rattle.head.proofs.Head.make.Goals as goal

pub returns-in-Err : goal.returns-in-Err
unfolding make_head
returns-in-Err c = make_refused _ _ _ c.in-Err.refusal c.in-Err.ensures c.refused.ensures

pub returns : goal.returns
unfolding make_head
returns c = make_done _ _ _ c.in_default.ensures c.head_of.ensures
