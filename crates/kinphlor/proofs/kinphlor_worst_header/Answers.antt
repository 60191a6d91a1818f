-- `kinphlor::kinphlor_worst_header` meets its contract.
-- Assumes nothing.
use Rattle.kinphlor.proofs.Laws.{worst_packed}
use Rattle.kinphlor.proofs.kinphlor_worst_header.Goals as goal

pub returns : goal.returns
returns c = worst_packed c.header_list-given.ensures c.pack.ensures
