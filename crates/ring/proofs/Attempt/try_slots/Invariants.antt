-- `ring::Attempt::try_slots` meets its contract: trying the slots that are left ends where trying all does.
-- Assumes nothing.
use Prim.Native.Nat.{◌-◌}
use lib.ListN.{length}
use Rattle.header.specs.List.{strings_of}
use Rattle.whole.specs.Ring.{slot_key}
use Rattle.whole.specs.Siv.{genuine, genuine_work}
use Rattle.whole.proofs.Lengths.{work_most}
use Rattle.whole.proofs.Ring.{Trying}
use Rattle.ring.proofs.Attempt.try_slots.Given as goal

abbrev pub invariant-loop-i : goal.invariant-loop-i
invariant-loop-i l =
    Trying (λ i. genuine (slot_key l.self.key_len l.self.ring.now i) (strings_of l.self.header) l.self.sealed.now) (λ i. genuine_work (slot_key l.self.key_len l.self.ring.now i) (strings_of l.self.header) l.self.sealed.now) work_most l.slots (length l.self.sealed.now - 16) l.initial.scratch l.scratch l.i l.work

abbrev pub decreases-loop-i : goal.decreases-loop-i
decreases-loop-i l = l.slots - l.i
