-- `stream::Stream::close` meets its contract.
-- Assumes nothing.
use mathlib.Core.Path.{refl, ap, sym, ◌∙◌}
use mathlib.Core.Bool.{Bool, not, cond}
use Rattle.answers.specs.declared.Refusal.TheVariants.{State}
use Rattle.stream.specs.Steps.{close_step}
use Rattle.stream.proofs.Laws.{refused, done}
use Rattle.stream.proofs.Stream.close.Goals as goal

pub returns-then-not-closes : goal.returns-then-not-closes
unfolding close_step
returns-then-not-closes c = refused _ _ _ _ State (sym (ap (λ (t : Bool). cond (not t) 9 0) (sym c.closes.ensures ∙ c.if-not-closes.true))) (c.refused.ensures _)

pub returns : goal.returns
unfolding close_step
returns c =
    done _ _ _ _ (sym (ap (λ (t : Bool). cond (not t) 9 0) (sym c.closes.ensures ∙ c.if-not-closes.false)))
    (record { outcome = refl; state = c.ended.ensures; output = refl })
