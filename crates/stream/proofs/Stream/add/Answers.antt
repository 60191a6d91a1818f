-- `stream::Stream::add` meets its contract.
-- Assumes nothing.
use mathlib.Core.Path.{refl, ap, sym, ◌∙◌}
use borrow.Author.Tests.{ltb-false}
use Rattle.answers.specs.Answer.{success}
use Rattle.answers.proofs.Laws.{not_due}
use Rattle.stream.specs.Steps.{add_step}
use Rattle.stream.proofs.Laws.{judged_by, refused, done, admits}
use Rattle.stream.proofs.Stream.add.Goals as goal

pub returns-in-Err : goal.returns-in-Err
unfolding add_step
returns-in-Err c = refused _ _ _ _ c.in-Err.refusal (judged_by 1 _ _ c.fits-fits.ensures c.in-Err.ensures) (c.refused.ensures _)

pub absorb-absorbed-requires : goal.absorb-absorbed-requires
absorb-absorbed-requires c = ltb-false _ _ (not_due _ 3 0 (not_due _ 8 _ (sym c.in_default.ensures)).1).0

pub invariant_of-absorb : goal.invariant_of-absorb
invariant_of-absorb c = record { fit = admits 1 _ c.fits-fits.ensures c.in_default.ensures }

pub returns : goal.returns
unfolding add_step
returns c =
    let step = c.absorb-absorbed.ensures in
    done _ _ _ _ (judged_by 1 _ _ c.fits-fits.ensures c.in_default.ensures) (record { outcome = ap (success 0) step.work; state = c.keep.ensures ∙ step.state; output = refl })
