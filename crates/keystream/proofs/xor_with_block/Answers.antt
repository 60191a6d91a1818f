-- `keystream::xor_with_block` meets its contract.
-- Assumes nothing.
use Rattle.aes.proofs.Widths.{length-cipher}
use Rattle.keystream.proofs.Writing.{xor_stream_piece}
use Rattle.keystream.proofs.xor_with_block.Goals as goal

pub returns-clause-text : goal.returns-clause-text
returns-clause-text c = xor_stream_piece _ (length-cipher _ _) _ _ _ _ _ c.requires.0 (cc) c.xor_at.ensures
