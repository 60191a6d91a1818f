-- `stream::admitted::Admitted::absorb` meets its contract.
-- Assumes nothing.
use Rattle.stream.proofs.Laws.{absorbed}
use Rattle.stream.proofs.admitted.Admitted.absorb.Goals as goal

pub returns : goal.returns
returns c = absorbed c.args.self.state.now _ c.absorb.ensures
