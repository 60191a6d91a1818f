-- `stream::Stream::begin_sealer_from` meets its contract.
-- Assumes nothing.
use lib.ListN.{length}
use Rattle.header.specs.Header.{strings}
use Rattle.answers.specs.Answer.{first}
use Rattle.head.specs.Head.{rest_rows, extended, extended_work, extend_head}
use Rattle.stream.specs.Steps.{begin_sealer_from}
use Rattle.stream.proofs.Laws.{begins}
use Rattle.stream.proofs.Stream.begin_sealer_from.Goals as goal

pub returns : goal.returns
unfolding begin_sealer_from extend_head
returns c =
    let args = c.args in
    let rows = rest_rows args.head args.lens.now (length args.rest.now) in
    let ss = strings args.rest.now args.lens.now in
    begins (first rows) (extended_work ss) (extended args.head ss) c.extend.result _ _ c.extend.ensures c.begin_with.ensures
