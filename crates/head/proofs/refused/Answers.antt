-- `head::refused` meets its contract.
-- Assumes nothing.
use mathlib.Core.Path.{refl}
use Rattle.head.proofs.Laws.{zero_by_default}
use Rattle.head.proofs.refused.Goals as goal

pub returns : goal.returns
returns c = record { outcome = refl; head = rw (zero_by_default c.default.result c.default.ensures) refl }
