-- `worst_header::list_of` meets its contract.
-- Assumes nothing.
use Rattle.worst_header.proofs.Laws.{laid}
use Rattle.worst_header.proofs.list_of.Goals as goal

pub returns : goal.returns
returns c = laid c.args.first c.args.count c.args.others c.requires.0 c.requires.1 (c.fill.ensures.after (λ y e. e))
