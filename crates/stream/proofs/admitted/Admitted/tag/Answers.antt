-- `stream::admitted::Admitted::tag` meets its contract.
-- Assumes nothing.
use Rattle.stream.specs.State.{tag_of_state, tag_of_state_work}
use Rattle.stream.proofs.admitted.Admitted.tag.Goals as goal

pub returns : goal.returns
unfolding tag_of_state tag_of_state_work
returns c = rw (c.of.ensures, c.args.self.fit.tail_len) at c.tag_from.ensures
