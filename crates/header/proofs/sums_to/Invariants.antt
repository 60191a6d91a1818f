-- `header::sums_to` meets its contract: what is left of n after i lengths is n less their sum.
-- Assumes nothing.
use Prim.Native.Nat.{◌+◌}
use mathlib.Core.Path.{◌≡◌}
use lib.ListN.{take}
use Rattle.header.specs.Header.{total}
use Rattle.header.proofs.sums_to.Given as goal

abbrev pub invariant-loop-i : goal.invariant-loop-i
invariant-loop-i l = total (take l.i l.lens) + l.rest ≡ l.n
