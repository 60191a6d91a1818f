-- `head::admitted::extended` meets its contract.
-- Assumes nothing.
use Rattle.std.proofs.Common.{◌≡◌, refl, ap, rules, length}
use Rattle.answers.specs.Answer.{success}
use Rattle.header.proofs.Laws.{length-strings}
use Rattle.head.specs.Head.{extended, extended_work}
use Rattle.head.proofs.Laws.{extended_none, extended_none_work}
use Rattle.head.proofs.admitted.extended.Goals as goal

pub returns-then-is_empty : goal.returns-then-is_empty
returns-then-is_empty c =
    let none : length c.args.lens.now ≡ 0 = search rules in
    record { outcome = ap (success 0) (extended_none_work _ _ none); head = extended_none _ _ _ none }

pub returns : goal.returns
unfolding extended extended_work
returns c =
    let all = c.absorb_strings-all.ensures in
    record { outcome = ap (success 0) all.work; head = simp (all.block, c.of.ensures, length-strings) refl }
