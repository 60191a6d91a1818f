-- Whole opening under a ring of keys on every input: number, length, slot,
-- work and the last contents of each lent buffer, by rules 12.1 to 12.4 and 15.4.
-- Assumes nothing.
use Rattle.std.specs.Prelude.{◌≡◌, Bool, true, not, cond, ◌||◌, List, [], ◌∷◌, ℕ, zero, suc, ◌+◌, ◌-◌, ◌*◌, ◌/◌, ◌≤◌, eqb, length, drop, None, Some}
use Rattle.std.specs.Option.{is_some, unwrap_or}
use Rattle.octets.specs.Octets.{Lent, LentMut, Writes, part}
use Rattle.answers.specs.Answer.{Row, row, first, settle}
use Rattle.whole.specs.declared.Found.{Found}
use Rattle.whole.specs.declared.RingAnswer.{RingAnswer}
use Rattle.whole.specs.Calls.{is_key_length, CallResult, refused_call, DidCall, open_call}
use Rattle.whole.specs.Siv.{opened, genuine, genuine_work}

-- whether n bytes are one to four whole keys of the stated length
unfoldable pub is_ring : ℕ → ℕ → Bool
is_ring key_length n = eqb n key_length || eqb n (2 * key_length) || eqb n (3 * key_length) || eqb n (4 * key_length)

-- how many slots they are, and the key in slot i
abbrev pub slot_count : ℕ → ℕ → ℕ
slot_count key_length n = n / key_length

abbrev pub slot_key : ℕ → List ℕ → ℕ → List ℕ
slot_key key_length ring i = part ring (i * key_length) key_length

-- tries the n slots from i on, after those before them took a sum of work:
-- finds the first that passes a test, if any does, with the work of all that were tried
abbrev pub try_slots : (ℕ → Bool) → (ℕ → ℕ) → ℕ → ℕ → ℕ → Found
try_slots test work i sum zero = record { slot = None; work = sum }
try_slots test work i sum (suc n) = cond (test i) (record { slot = Some i; work = sum + work i }) (try_slots test work (suc i) (sum + work i) n)

-- the sum of a work over the slots that are tried, of the n from i on: up to the first that passes the test, and it too
abbrev pub tried_work : (ℕ → Bool) → (ℕ → ℕ) → ℕ → ℕ → ℕ
tried_work test work i n = (try_slots test work i 0 n).work

-- a ring has a slot i with a key of the stated length; it is such slots and nothing behind them, at most four
abbrev pub HasSlot : ℕ → List ℕ → ℕ → Type 0
HasSlot key_length ring i = (is_key_length key_length ≡ true) × (i * key_length + key_length ≤ length ring)

abbrev pub HasSlots : ℕ → List ℕ → ℕ → Type 0
HasSlots key_length ring slots = (is_key_length key_length ≡ true) × (slots * key_length ≡ length ring) × (slots ≤ 4)

-- the slot that is given: the one that passed, or slot 0
abbrev pub given_slot : Found → ℕ
given_slot found = unwrap_or found.slot 0

-- what trying the slots of a ring on a scratch promises: where a key opened,
-- the scratch has its plaintext; past a plaintext's length it is as it came
pub record TriesSlots (key_length slots : ℕ) (ring : List ℕ) (ss : List (List ℕ)) (y : List ℕ) (scratch : LentMut) (end : Found) : Type 0 where
  pub found : end ≡ try_slots (λ i. genuine (slot_key key_length ring i) ss y) (λ i. genuine_work (slot_key key_length ring i) ss y) 0 0 slots
  pub text : is_some end.slot ≡ true → Writes scratch 0 (opened (slot_key key_length ring (given_slot end)) y)
  pub rest : drop (length y - 16) scratch.exit.now ≡ drop (length y - 16) scratch.entry.now

-- the refusals that judge the stated key length and the ring
abbrev pub ring_rows : ℕ → ℕ → List Row
ring_rows key_length n = row 1 (not (is_key_length key_length)) ∷ row 11 (not (is_ring key_length n)) ∷ []

-- everything that a ring's call does: the slot, and what a whole call does
pub record RingResult : Type 0 where
  pub slot : ℕ
  pub call : CallResult

-- a refusal, with slot 0
abbrev pub refused_ring : ℕ → List ℕ → List ℕ → RingResult
refused_ring n output scratch = record { slot = 0; call = refused_call n output scratch }

-- a ring's call gave what its definition says
pub record DidRing (result : RingResult) (given : RingAnswer) (lastOutput lastScratch : List ℕ) : Type 0 where
  pub slot : given.slot ≡ result.slot
  pub call : DidCall result.call (record { answer = given.answer; work = given.work }) lastOutput lastScratch

module _ (key_length : ℕ) (ring bytes lens input output scratch : List ℕ) where
  -- whole opening with one slot's key
  abbrev pub open_slot : ℕ → CallResult
  open_slot i = open_call (slot_key key_length ring i) bytes lens input output scratch

  -- whether it opens, and its work
  abbrev pub opens_at : ℕ → Bool
  opens_at i = eqb (open_slot i).outcome.number 0

  abbrev pub work_at : ℕ → ℕ
  work_at i = (open_slot i).outcome.work

  -- whole opening with one slot's key, and the work of several
  abbrev pub open_slot_with : ℕ → ℕ → CallResult
  open_slot_with i work =
      let call = open_slot i in
      record {
        outcome = record { number = call.outcome.number; count = call.outcome.count; work = work };
        output = call.output;
        scratch = call.scratch;
      }

  -- a refusal of the stated length or the ring; or the first slot whose key opens,
  -- or slot 0 where none does, and whole opening with its key, with the work of all keys tried
  unfoldable pub open_ring : RingResult
  open_ring =
      let count = slot_count key_length (length ring) in
      let found = try_slots opens_at work_at 0 0 count in
      let slot = given_slot found in
      settle (first (ring_rows key_length (length ring))) (record { slot = slot; call = open_slot_with slot found.work }) (λ n. refused_ring n output scratch)

-- what a ring's call promises: with what the lent slices held at entry,
-- its answer, slot and what output and scratch hold at exit are the definition's
abbrev pub PerformsRing : ℕ → Lent → Lent → Lent → Lent → LentMut → LentMut → RingAnswer → Type 0
PerformsRing key_length ring header lens input output scratch given =
    DidRing (open_ring key_length ring.entry.now header.entry.now lens.entry.now input.entry.now output.entry.now scratch.entry.now) given
    output.exit.now scratch.exit.now
