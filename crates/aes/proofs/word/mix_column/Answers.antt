-- `aes::word::mix_column` meets its contract.
-- Assumes nothing.
use lib.Bits.{xor_lt}
use Rattle.aes.proofs.Words.{own, word-xor, rotated_8, rotated_16, rotated_24, mixed}
use Rattle.aes.proofs.word.mix_column.Goals as goal

pub returns : goal.returns
returns c =
    let two = c.twice-x.ensures in
    let w = own c.args.w in
    let fits = c.ranges.w.fits in
    let three = rotated_8 (xor_lt 32 _ _ c.twice-x.type_inv fits) (word-xor two w) in
    mixed fits w two (rw c.rotate_right.ensures three) (rw c.rotate_right-2.ensures (rotated_16 fits w)) (rw c.rotate_right-3.ensures (rotated_24 fits w))
