-- `stream::ended` meets its contract.
-- Assumes nothing.
use mathlib.Core.Path.{refl}
use Rattle.stream.proofs.Laws.{ended_by_default}
use Rattle.stream.proofs.ended.Goals as goal

pub returns : goal.returns
returns c = rw (ended_by_default c.default.result c.default.ensures) refl
