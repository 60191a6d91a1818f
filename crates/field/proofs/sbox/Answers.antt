-- `field::sbox` meets its contract: its table passes the S-box's test.
-- Assumes nothing.
use mathlib.Core.Path.{refl}
use Rattle.field.specs.Field.{sbox, affine, from_bits, bit, inverse, squares, mul, products, xtimes}
use Rattle.field.proofs.Laws.{is_sbox}
use Rattle.field.proofs.sbox.Goals as goal

pub returns : goal.returns
unfolding sbox affine from_bits bit inverse squares mul products xtimes
returns c = is_sbox _ refl
