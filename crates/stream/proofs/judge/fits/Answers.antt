-- `stream::judge::fits` meets its contract.
-- Assumes nothing.
use Rattle.std.proofs.Common.{rules}
use Rattle.stream.specs.State.{fits}
use Rattle.stream.proofs.judge.fits.Goals as goal

pub returns-else-kept_fits : goal.returns-else-kept_fits
unfolding fits
returns-else-kept_fits c = search rules
