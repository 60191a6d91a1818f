-- `aes::schedule::Schedule::of` meets its contract: before turn i the first i words are written and the rest is zero.
-- Assumes nothing.
use Rattle.aes.proofs.KeyWords.{Scheduled}
use Rattle.aes.proofs.schedule.Schedule.of.Given as goal

abbrev pub invariant-loop-i : goal.invariant-loop-i
invariant-loop-i l = Scheduled l.self.nk l.key l.keys l.i
