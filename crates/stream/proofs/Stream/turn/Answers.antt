-- `stream::Stream::turn` meets its contract.
-- Assumes nothing.
use mathlib.Core.Path.{ap, ◌∙◌}
use Rattle.octets.specs.Octets.{put}
use Rattle.answers.specs.Answer.{success}
use Rattle.stream.specs.State.{turned}
use Rattle.stream.specs.Steps.{turn_step}
use Rattle.stream.proofs.Laws.{judged_by, refused, done, admits}
use Rattle.stream.proofs.Stream.turn.Goals as goal

pub returns-in-Err : goal.returns-in-Err
unfolding turn_step
returns-in-Err c = refused _ _ _ _ c.in-Err.refusal (judged_by 1 _ _ c.fits-fits.ensures c.in-Err.ensures) (c.refused.ensures _)

pub invariant_of-tag : goal.invariant_of-tag
invariant_of-tag c = record { fit = admits 1 _ c.fits-fits.ensures c.in_default.ensures }

pub returns : goal.returns
unfolding turn_step
returns c =
    let tag = c.tag-tag.ensures in
    done _ _ _ _ (judged_by 1 _ _ c.fits-fits.ensures c.in_default.ensures)
    (record {
      outcome = ap (success 16) tag.work;
      state = ap (turned c.args.self) tag.block;
      output = c.store.ensures ∙ ap (put c.args.output.now 0) tag.block;
    })
