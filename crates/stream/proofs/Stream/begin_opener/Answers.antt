-- `stream::Stream::begin_opener` meets its contract.
-- Assumes nothing.
use mathlib.Core.Path.{refl}
use lib.ListN.{length}
use Rattle.header.specs.Header.{strings}
use Rattle.whole.specs.Calls.{header_rows}
use Rattle.head.specs.Head.{head_of, head_of_work, make_head}
use Rattle.stream.specs.Steps.{begin_opener}
use Rattle.stream.proofs.Laws.{begins_tagged, begins_refused_tag}
use Rattle.stream.proofs.Stream.begin_opener.Goals as goal

pub returns-in_default : goal.returns-in_default
unfolding begin_opener
returns-in_default c =
    let args = c.args in
    let ss = strings args.header.now args.lens.now in
    begins_refused_tag (header_rows (length args.key.now) args.lens.now (length args.header.now)) refl (head_of_work ss) (head_of args.key.now ss) args.tag.now c.judge_header.result
    c.in_default.ensures.1 c.judge_header.ensures c.refuse_tag.ensures

pub returns : goal.returns
unfolding begin_opener make_head
returns c =
    let args = c.args in
    let ss = strings args.header.now args.lens.now in
    begins_tagged (header_rows (length args.key.now) args.lens.now (length args.header.now)) refl (head_of_work ss) (head_of args.key.now ss) args.tag.now c.make.result c.in-Ok.v
    c.in-Ok.ensures.1 c.make.ensures c.begin_with.ensures
