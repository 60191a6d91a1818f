-- The field follows its rule, and nothing but 9 depends on it.
-- Assumes nothing.
use mathlib.Core.Path.{◌≡◌, refl, sym, subst}
use mathlib.Core.List.{List, [], ◌∷◌}
use Prim.Native.Nat.{ℕ}
use native.Mathlib.Decide.{ℕ_discrete}
use Rattle.head.specs.declared.Head.{Head}
use Rattle.stream.specs.declared.Stream.{Stream}
use Rattle.stream.specs.Steps.{StepResult}
use Rattle.demands.specs.First.{FirstBegin}
use Rattle.demands.specs.Run.{Begin, sealer, opener, Start, undivided, divided, Call, add, turn, write, close, feed, finish, begun_from, begun, call, shared_after, run}
use Rattle.demands.specs.Steps.{NineButTailLength, ByRule, step_table, step_done}
use Rattle.demands.specs.Table.{Row, FirstDue}
use Rattle.demands.specs.Tail.{with_tail_len, SameStep, TailShown}
use Rattle.demands.proofs.First.{answers_or_first_refusal}
use Rattle.demands.proofs.Given.{number_aside, keeps_rule}

-- the table in which 9 does not judge the field does not read it
unchanged : (s : Stream) (n : ℕ) (shared : List ℕ) (c : Call) → ByRule s → FirstDue (step_table NineButTailLength (with_tail_len n s) shared c) (call s shared c).outcome.number
unchanged s n shared (add piece) rule = number_aside s shared (add piece) rule
unchanged s n shared (turn output) rule = number_aside s shared (turn output) rule
unchanged s n shared (write piece output) rule = number_aside s shared (write piece output) rule
unchanged s n shared close rule = number_aside s shared close rule
unchanged s n shared (feed piece) rule = number_aside s shared (feed piece) rule
unchanged s n shared finish rule = number_aside s shared finish rule

-- nor does what success gives depend on it
unread : (s : Stream) (n : ℕ) (shared : List ℕ) (c : Call) → SameStep (step_done s shared c) (step_done (with_tail_len n s) shared c)
unread s n shared (add piece) = record { outcome = refl; state = refl; output = refl }
unread s n shared (turn output) = record { outcome = refl; state = refl; output = refl }
unread s n shared (write piece output) = record { outcome = refl; state = refl; output = refl }
unread s n shared close = record { outcome = refl; state = refl; output = refl }
unread s n shared (feed piece) = record { outcome = refl; state = refl; output = refl }
unread s n shared finish = record { outcome = refl; state = refl; output = refl }

-- ---- the rule's figure is kept

run_by_rule : (s : Stream) (o : List ℕ) (calls : List Call) → ByRule s → ByRule (run s o calls).state
run_by_rule s o [] e = e
run_by_rule s o (c ∷ cs) e = run_by_rule (call s o c).state (shared_after o c (call s o c).output) cs (keeps_rule s o c e)

-- a begin leaves the complete result's state, or the ended one
begin_by_rule : {table : List Row} {result : StepResult} {work : ℕ} {state : Stream} → FirstBegin table result work state → ByRule state → ByRule result.state
begin_by_rule {result = result} f e = go (ℕ_discrete result.outcome.number 0)
  where
    go : Dec (result.outcome.number ≡ 0) → ByRule result.state
    go (yes z) = subst (λ (r : StepResult). ByRule r.state) (sym (f.done z)) e
    go (no z) = subst (λ (r : StepResult). ByRule r.state) (sym (f.refused _ refl z)) refl

from_by_rule : (h : Head) (bytes lens : List ℕ) (begin : Begin) → ByRule (begun_from h bytes lens begin).state
from_by_rule h bytes lens sealer = begin_by_rule (answers_or_first_refusal.beginning_sealer_from h bytes lens) refl
from_by_rule h bytes lens (opener T) = begin_by_rule (answers_or_first_refusal.beginning_opener_from h bytes lens T) refl

begun_by_rule : (key bytes lens : List ℕ) (start : Start) (begin : Begin) → ByRule (begun key bytes lens start begin).state
begun_by_rule key bytes lens undivided sealer = begin_by_rule (answers_or_first_refusal.beginning_sealer key bytes lens) refl
begun_by_rule key bytes lens undivided (opener T) = begin_by_rule (answers_or_first_refusal.beginning_opener key bytes lens T) refl
begun_by_rule key bytes lens (divided n) begin = from_by_rule _ _ _ begin

pub tail_shown : TailShown
tail_shown =
    record {
      unchanged = unchanged;
      unread = unread;
      lists = λ s n shared calls c rule. unchanged _ n _ c (run_by_rule s shared calls rule);
      begins = begun_by_rule;
      begins_from = from_by_rule;
      stays = run_by_rule;
    }
