-- Number, slot and length can be read back from the number that C gets.
-- Assumes nothing.
use mathlib.Core.Path.{◌≡◌, refl}
use mathlib.Core.Bool.{Bool, true, false}
use mathlib.Core.List.{List, ◌++◌}
use Prim.Native.Nat.{ℕ, ◌+◌, ◌*◌, ◌≤◌, ◌<◌}
use native.Mathlib.Omega.{arith}
use lib.ListN.{length}
use Rattle.answers.specs.Answer.{Row, first}
use Rattle.answers.proofs.Laws.{first_none}
use Rattle.whole.specs.Calls.{CallResult, limit}
use Rattle.whole.specs.Ring.{ring_rows, RingResult}
use Rattle.whole.proofs.Ring.{RingCase, ring_case_small}
use Rattle.kinphlor.specs.Interface.{packed, empty_nonce, from_c, packed_ring}
use Rattle.demands.specs.First.{Parts}

-- a length below 2 to the power 28 and a slot below 16 stay apart, and clear of the number
parts : (given number slot count : ℕ) → given ≡ number * 4294967296 + count + slot * 268435456 → slot < 16 → count < 268435456 → Parts given number slot count
parts given number slot count e s c = record { high = omega arith; middle = omega arith; low = omega arith }

-- ---- the calls of the interface

pub from_c_parts : (nonce : ℕ) (key output scratch : List ℕ) (call : CallResult) → call.outcome.count ≤ limit + 16
    → let o = (from_c nonce key output scratch call).outcome in
    Parts (packed o) o.number 0 o.count
unfolding from_c
from_c_parts nonce key output scratch call h =
    let o = (from_c nonce key output scratch call).outcome in
    parts (packed o) o.number 0 o.count (omega arith) (omega arith) (omega (arith, go (empty_nonce (length key) nonce) refl))
  where
    go : (t : Bool) → empty_nonce (length key) nonce ≡ t → (from_c nonce key output scratch call).outcome.count ≤ limit + 16
    go true e = simp e (omega arith)
    go false e = simp e h

pub ring_parts : (key_length : ℕ) (ring bytes lens input output scratch : List ℕ) (behind : List Row) {r : RingResult}
    → RingCase key_length ring bytes lens input output scratch (first (ring_rows key_length (length ring) ++ behind)) r
    → Parts (packed_ring r.slot r.call.outcome) r.call.outcome.number r.slot r.call.outcome.count
ring_parts key_length ring bytes lens input output scratch behind {r} c =
    let small = ring_case_small key_length ring bytes lens input output scratch (λ z. (first_none (ring_rows key_length (length ring)) behind refl z).0) c in
    parts _ _ r.slot _ refl (omega (arith, small.0)) (omega (arith, small.1))
