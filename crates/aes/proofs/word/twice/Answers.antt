-- `aes::word::twice` meets its contract.
-- Assumes nothing.
use Rattle.aes.proofs.Words.{own, doubled_lt, twice_is}
use Rattle.aes.proofs.word.twice.Goals as goal

pub overflow_mul-result : goal.overflow_mul-result
overflow_mul-result c = record { fits = doubled_lt c.ranges.w.fits (own c.args.w) }

pub returns : goal.returns
returns c = twice_is c.ranges.w.fits (own c.args.w)
