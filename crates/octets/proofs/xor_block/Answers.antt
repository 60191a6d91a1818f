-- `octets::xor_block` meets its contract: 16 bytes written over 16 bytes are the whole.
-- Assumes nothing.
use mathlib.Core.Path.{◌≡◌, ◌∙◌}
use lib.ListN.{length}
use borrow.Author.Rules.{rules}
use Rattle.octets.proofs.Strings.{put_all, length-xors}
use Rattle.octets.proofs.xor_block.Goals as goal

pub returns : goal.returns
returns c =
    let a-length : length c.args.a ≡ 16 = search rules in
    c.xor_at.ensures ∙ put_all _ _ (length-xors _ _ ∙ a-length)
