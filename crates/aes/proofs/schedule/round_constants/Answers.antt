-- `aes::schedule::round_constants` meets its contract: its table passes the test for the powers of 02.
-- Assumes nothing.
use mathlib.Core.Path.{refl}
use Rattle.field.specs.Field.{power, mul, products, xtimes}
use Rattle.aes.proofs.KeyWords.{powers}
use Rattle.aes.proofs.schedule.round_constants.Goals as goal

pub returns : goal.returns
unfolding power mul products xtimes
returns c = powers _ refl
