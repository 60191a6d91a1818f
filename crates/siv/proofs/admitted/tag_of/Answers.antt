-- `siv::admitted::tag_of` meets its contract.
-- Assumes nothing.
use Rattle.std.proofs.Common.{◌∙◌}
use Rattle.whole.proofs.Laws.{tag_by_half, tag_work_by_half}
use Rattle.siv.proofs.admitted.tag_of.Goals as goal

pub returns : goal.returns
returns c =
    let key = c.args.key in
    let under = c.tag_under.ensures in
    record {
      block = under.block ∙ tag_by_half key.bytes.now key.is_key _ _ c.round_keys.ensures;
      work = under.work ∙ tag_work_by_half key.bytes.now key.is_key _ _ c.round_keys.ensures;
    }
