-- `siv::admitted::xor_key_stream` meets its contract.
-- Assumes nothing.
use Rattle.std.proofs.Common.{ap, ◌∙◌, length}
use Rattle.octets.specs.Octets.{put}
use Rattle.std.proofs.lemmas.List.{take_rest}
use Rattle.aes.proofs.Widths.{length-cipher}
use Rattle.keystream.proofs.Laws.{piece_work_fresh, xor_piece_fresh}
use Rattle.whole.specs.Siv.{streamed_work}
use Rattle.whole.proofs.Laws.{stream_by_half}
use Rattle.siv.proofs.admitted.xor_key_stream.Goals as goal

pub returns : goal.returns
unfolding streamed_work
returns c =
    let args = c.args in
    let key = args.key in
    let wrote = c.xor_from.ensures in
    let keys = rw take_rest at c.round_keys.ensures in
    record {
      work = wrote.kept.work ∙ piece_work_fresh 0 (length args.src.now);
      text = wrote.text ∙ ap (put args.dst.now args.at) (xor_piece_fresh _ (length-cipher _ _) args.v 0 args.src.now ∙ stream_by_half key.bytes.now key.is_key args.v args.src.now keys);
    }
