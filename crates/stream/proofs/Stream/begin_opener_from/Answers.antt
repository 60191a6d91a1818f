-- `stream::Stream::begin_opener_from` meets its contract.
-- Assumes nothing.
use mathlib.Core.Path.{refl}
use lib.ListN.{length}
use Rattle.header.specs.Header.{strings}
use Rattle.head.specs.Head.{rest_rows, extended, extended_work, extend_head}
use Rattle.stream.specs.Steps.{begin_opener_from}
use Rattle.stream.proofs.Laws.{begins_tagged, begins_refused_tag}
use Rattle.stream.proofs.Stream.begin_opener_from.Goals as goal

pub returns-in_default : goal.returns-in_default
unfolding begin_opener_from
returns-in_default c =
    let args = c.args in
    let ss = strings args.rest.now args.lens.now in
    begins_refused_tag (rest_rows args.head args.lens.now (length args.rest.now)) refl (extended_work ss) (extended args.head ss) args.tag.now c.judge_rest.result
    c.in_default.ensures.1 c.judge_rest.ensures c.refuse_tag.ensures

pub returns : goal.returns
unfolding begin_opener_from extend_head
returns c =
    let args = c.args in
    let ss = strings args.rest.now args.lens.now in
    begins_tagged (rest_rows args.head args.lens.now (length args.rest.now)) refl (extended_work ss) (extended args.head ss) args.tag.now c.extend.result c.in-Ok.v
    c.in-Ok.ensures.1 c.extend.ensures c.begin_with.ensures
