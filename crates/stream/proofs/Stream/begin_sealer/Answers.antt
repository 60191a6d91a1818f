-- `stream::Stream::begin_sealer` meets its contract.
-- Assumes nothing.
use lib.ListN.{length}
use Rattle.header.specs.Header.{strings}
use Rattle.answers.specs.Answer.{first}
use Rattle.whole.specs.Calls.{header_rows}
use Rattle.head.specs.Head.{head_of, head_of_work, make_head}
use Rattle.stream.specs.Steps.{begin_sealer}
use Rattle.stream.proofs.Laws.{begins}
use Rattle.stream.proofs.Stream.begin_sealer.Goals as goal

pub returns : goal.returns
unfolding begin_sealer make_head
returns c =
    let args = c.args in
    let rows = header_rows (length args.key.now) args.lens.now (length args.header.now) in
    let ss = strings args.header.now args.lens.now in
    begins (first rows) (head_of_work ss) (head_of args.key.now ss) c.make.result _ _ c.make.ensures c.begin_with.ensures
