-- The C interface, rules 11.1 to 11.3, "the host door" of the owner's document 01:
-- whole sealing and opening with associated data and nonce,
-- and opening under a ring of keys; their work, planned from lengths; and the worst header list.
-- Assumes nothing.
use Rattle.std.specs.Prelude.{◌≡◌, Bool, cond, ◌&&◌, List, [], ◌∷◌, ℕ, ◌+◌, ◌*◌, ◌/◌, ◌%◌, eqb, length}
use Rattle.octets.specs.Octets.{Lent, LentMut}
use Rattle.answers.specs.Answer.{Outcome, refusal, first}
use Rattle.worst_header.specs.WorstHeader.{GivesWorst}
use Rattle.whole.specs.Calls.{is_key_length, CallResult, refused_call, seal_call, open_call}
use Rattle.whole.specs.Ring.{ring_rows, RingResult, refused_ring, open_ring}
use Rattle.whole.specs.Work.{planned_work}

-- the header list: associated data, then nonce
abbrev pub aead_lens : ℕ → ℕ → List ℕ
aead_lens ad nonce = ad ∷ nonce ∷ []

-- the number from bit 32 on and the length below, rule 11.2; the work is left out
abbrev pub packed : Outcome → ℕ
packed o = o.number * 4294967296 + o.count

-- whether an empty nonce is refused, with 10, straight after 1 for the key
unfoldable pub empty_nonce : ℕ → ℕ → Bool
empty_nonce key_length nonce = is_key_length key_length && eqb nonce 0

-- what the interface does: that refusal, with all lent memory untouched, or the call
unfoldable pub from_c : ℕ → List ℕ → List ℕ → List ℕ → CallResult → CallResult
from_c nonce key output scratch call =
    cond (empty_nonce (length key) nonce) (refused_call 10 output scratch) call

-- sealing and opening from C
abbrev pub seal_from_c : List ℕ → List ℕ → ℕ → ℕ → List ℕ → List ℕ → List ℕ → CallResult
seal_from_c key header ad nonce input output scratch =
    from_c nonce key output scratch (seal_call key header (aead_lens ad nonce) input output scratch)

abbrev pub open_from_c : List ℕ → List ℕ → ℕ → ℕ → List ℕ → List ℕ → List ℕ → CallResult
open_from_c key header ad nonce input output scratch =
    from_c nonce key output scratch (open_call key header (aead_lens ad nonce) input output scratch)

-- a call of the interface gave what its definition says
pub record DidPacked (result : CallResult) (given : ℕ) (lastOutput lastScratch : List ℕ) : Type 0 where
  pub answer : given ≡ packed result.outcome
  pub output : lastOutput ≡ result.output
  pub scratch : lastScratch ≡ result.scratch

-- what a call of the interface promises: with what the lent slices held at entry,
-- its number and what output and scratch hold at exit are the definition's
abbrev pub PerformsFromC : (List ℕ → List ℕ → ℕ → ℕ → List ℕ → List ℕ → List ℕ → CallResult) → Lent → Lent → ℕ → ℕ → Lent → LentMut → LentMut → ℕ → Type 0
PerformsFromC call key header ad nonce input output scratch given =
    DidPacked (call key.entry.now header.entry.now ad nonce input.entry.now output.entry.now scratch.entry.now) given
    output.exit.now scratch.exit.now

-- ---- a ring of keys

-- slot 0 is the single calls' own form; another slot is added, times 2 to the power 28
abbrev pub packed_ring : ℕ → Outcome → ℕ
packed_ring slot o = packed o + slot * 268435456

-- whether an empty nonce is refused, with 10, straight after 1 and 11 for the ring
unfoldable pub empty_nonce_ring : ℕ → ℕ → ℕ → Bool
empty_nonce_ring key_length n nonce = eqb (first (ring_rows key_length n)) 0 && eqb nonce 0

-- opening under a ring from C
unfoldable pub open_ring_from_c : ℕ → List ℕ → List ℕ → ℕ → ℕ → List ℕ → List ℕ → List ℕ → RingResult
open_ring_from_c key_length ring header ad nonce input output scratch =
    cond (empty_nonce_ring key_length (length ring) nonce) (refused_ring 10 output scratch)
    (open_ring key_length ring header (aead_lens ad nonce) input output scratch)

-- a ring's call of the interface gave what its definition says
pub record DidPackedRing (result : RingResult) (given : ℕ) (lastOutput lastScratch : List ℕ) : Type 0 where
  pub answer : given ≡ packed_ring result.slot result.call.outcome
  pub output : lastOutput ≡ result.call.output
  pub scratch : lastScratch ≡ result.call.scratch

-- what a ring's call of the interface promises
abbrev pub PerformsRingFromC : ℕ → Lent → Lent → ℕ → ℕ → Lent → LentMut → LentMut → ℕ → Type 0
PerformsRingFromC key_length ring header ad nonce input output scratch given =
    DidPackedRing
    (open_ring_from_c key_length ring.entry.now header.entry.now ad nonce input.entry.now output.entry.now scratch.entry.now) given
    output.exit.now scratch.exit.now

-- ---- planning

-- the work that sealing and opening report for such lengths,
-- which the number does not carry: 0 where the call is refused for them
unfoldable pub planned_from_c : ℕ → ℕ → ℕ → ℕ
planned_from_c ad nonce n = cond (eqb nonce 0) 0 (planned_work (aead_lens ad nonce) n)

-- ---- the worst header list

-- the answer from bit 32 on, and the blocks below it
abbrev pub number_in : ℕ → ℕ
number_in given = given / 4294967296

abbrev pub blocks_in : ℕ → ℕ
blocks_in given = given % 4294967296

-- what the interface promises of the number and of the lent places
abbrev pub GivesWorstFromC : ℕ → ℕ → ℕ → List ℕ → ℕ → Type 0
GivesWorstFromC h k least places given = GivesWorst h k least (refusal (number_in given)) places (blocks_in given)
