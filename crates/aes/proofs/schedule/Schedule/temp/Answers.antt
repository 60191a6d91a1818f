-- `aes::schedule::Schedule::temp` meets its contract.
-- Assumes nothing.
use borrow.Author.Rules.{rules}
use Rattle.aes.proofs.Words.{own, rotated_8}
use Rattle.aes.proofs.KeyWords.{temp_turn, temp-sub}
use Rattle.aes.proofs.schedule.Schedule.temp.Goals as goal

pub returns-then-phase-eq0 : goal.returns-then-phase-eq0
returns-then-phase-eq0 c =
    temp_turn _ _ _ _ _ _ c.if-phase-eq0.true (rw c.rotate_right-w.ensures (rotated_8 c.ranges.before.fits (own c.args.before)))
    c.sub_column.ensures (search rules) c.round_constant.ensures

pub returns-then-phase-eq4 : goal.returns-then-phase-eq4
returns-then-phase-eq4 c = temp-sub _ _ _ _ _ _ c.if-phase-eq0.false c.if-self-gt6.true c.if-phase-eq4.true c.sub_column-then-phase-eq4.ensures
