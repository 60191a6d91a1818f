-- `head::Head::extend` meets its contract.
-- Assumes nothing.
use mathlib.Core.Path.{sym}
use native.Mathlib.Omega.{arith}
use Rattle.head.specs.Head.{extend_head}
use Rattle.head.proofs.Laws.{rest_admits, make_refused, make_done}
use Rattle.head.proofs.Head.extend.Goals as goal

pub returns-in-Err : goal.returns-in-Err
unfolding extend_head
returns-in-Err c = make_refused _ _ _ c.in-Err.refusal c.in-Err.ensures c.refused.ensures

pub extended-requires : goal.extended-requires
extended-requires c = let a = rest_admits _ _ _ (sym c.in_default.ensures) in (a.width, a.count_fits, omega (arith, a.sums))

pub returns : goal.returns
unfolding extend_head
returns c = make_done _ _ _ c.in_default.ensures c.extended.ensures
