-- `stream::begin::begin_with` meets its contract.
-- Assumes nothing.
use mathlib.Core.Path.{ap, sym}
use Rattle.answers.specs.Answer.{Answer, outcome_of}
use Rattle.stream.proofs.Laws.{refused, in_state}
use Rattle.stream.proofs.begin.begin_with.Goals as goal

pub returns-in-Err : goal.returns-in-Err
returns-in-Err c =
    refused _ _ _ _ c.in-Err.refusal (sym (ap (λ (a : Answer). (outcome_of a 0).number) c.in-Err.is)) (in_state c.ended.ensures (c.refused.ensures _))
