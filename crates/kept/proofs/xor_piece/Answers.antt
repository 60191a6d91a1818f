-- `kept::xor_piece` meets its contract: what the kept block has for the piece, then new blocks.
-- Assumes nothing.
use mathlib.Core.Path.{refl}
use borrow.Author.Rules.{rules}
use Rattle.aes.proofs.Widths.{length-cipher}
use Rattle.kept.proofs.Laws.{piece_within, piece_beyond}
use Rattle.kept.proofs.xor_piece.Goals as goal

pub returns-then-n-piece : goal.returns-then-n-piece
returns-then-n-piece c =
    piece_within _ (length-cipher _ _) _ c.args.kept (search rules) _ _ _ _ _ c.from_kept-n.ensures c.if-n-piece.true
    (record { block = c.still_kept.ensures; work = refl }) c.xor_at.ensures

pub returns : goal.returns
returns c =
    let rest = c.xor_from.ensures in
    piece_beyond _ (length-cipher _ _) _ c.args.kept (search rules) _ _ _ _ _ c.from_kept-n.ensures c.if-n-piece.false c.requires.1 c.xor_at.ensures rest.kept rest.text
