-- The first demand: every call gives the complete result, or the one refusal that is first due,
-- with state and buffers as rules 3.4 and 3.5 say, and the work of rules 15.2 to 15.5.
-- The six piecewise calls' table, with 9 in full, and what they give and leave are in Steps.antt.
-- Assumes nothing.
use Rattle.std.specs.Prelude.{◌≡◌, true, cond, List, [], ◌∷◌, ◌⊎◌, ℕ, ◌+◌, ◌-◌, ◌*◌, ◌/◌, ◌%◌, ◌≤◌, ◌<◌, max, eqb, length, take, drop, replicate, get_or, Ok, Err}
use Rattle.header.specs.Header.{strings}
use Rattle.answers.specs.declared.Refusal.TheVariants.{KeyLength, HeaderCount, HeaderLengths, TooLong, SealedLength, OutputShort, ScratchShort, Forged, State, EmptyNonce, RingLength, HeaderPlan}
use Rattle.answers.specs.Answer.{Answer, Outcome, outcome_of}
use Rattle.worst_header.specs.WorstHeader.{GivesWorst}
use Rattle.whole.specs.Calls.{CallResult, seal_call, open_call}
use Rattle.whole.specs.Ring.{RingResult, open_ring}
use Rattle.whole.specs.Siv.{tag_of, sealed, opened}
use Rattle.head.specs.declared.Head.{Head}
use Rattle.head.specs.Head.{MakeResult, make_head, extend_head}
use Rattle.stream.specs.declared.Stream.{Stream}
use Rattle.stream.specs.Steps.{StepResult, begin_sealer, begin_opener, begin_sealer_from, begin_opener_from}
use Rattle.kinphlor.specs.Interface.{packed, seal_from_c, open_from_c, packed_ring, open_ring_from_c, GivesWorstFromC}
use Rattle.demands.specs.Figures.{IsKeyLength, IsKeyWidth, IsRingLength, key_in, over, sum, header_blocks, whole_work}
use Rattle.demands.specs.Run.{Call, call}
use Rattle.demands.specs.State.{blank_head, prepared_head, longer_head, blank_state, begun_state}
use Rattle.demands.specs.Steps.{Nine, stepped, step_table, step_done, step_left, Sized}
use Rattle.demands.specs.Table.{answered, Row, row, order, keeps, FirstDue, ByTable}

-- ---- answers

-- every case of an answer has its number, rules 2.4 and 3.1; a refusal has length 0
pub record Numbers (w : ℕ) : Type 0 where
  pub ok : (n : ℕ) → outcome_of (Ok n) w ≡ answered 0 n w
  pub key_length : outcome_of (Err KeyLength) w ≡ answered 1 0 w
  pub header_count : outcome_of (Err HeaderCount) w ≡ answered 2 0 w
  pub header_lengths : outcome_of (Err HeaderLengths) w ≡ answered 3 0 w
  pub too_long : outcome_of (Err TooLong) w ≡ answered 4 0 w
  pub sealed_length : outcome_of (Err SealedLength) w ≡ answered 5 0 w
  pub output_short : outcome_of (Err OutputShort) w ≡ answered 6 0 w
  pub scratch_short : outcome_of (Err ScratchShort) w ≡ answered 7 0 w
  pub forged : outcome_of (Err Forged) w ≡ answered 8 0 w
  pub state : outcome_of (Err State) w ≡ answered 9 0 w
  pub empty_nonce : outcome_of (Err EmptyNonce) w ≡ answered 10 0 w
  pub ring_length : outcome_of (Err RingLength) w ≡ answered 11 0 w
  pub header_plan : outcome_of (Err HeaderPlan) w ≡ answered 12 0 w

-- ---- the header list

-- the strings are one behind the other in the header bytes
pub record HeaderStrings : Type 0 where
  pub none : (bytes : List ℕ) → strings bytes [] ≡ []
  pub next : (n : ℕ) (bytes lens : List ℕ) → strings bytes (n ∷ lens) ≡ take n bytes ∷ strings (drop n bytes) lens

-- ---- whole calls

-- number, length and work, and the last contents of output and scratch
abbrev pub called : ℕ → ℕ → ℕ → List ℕ → List ℕ → CallResult
called number count work output scratch = record { outcome = answered number count work; output = output; scratch = scratch }

-- a scratch with what a plaintext of n bytes needs of it zero: n bytes, and at least 16
abbrev pub cleared : List ℕ → ℕ → List ℕ
cleared scratch n = over scratch 0 (replicate (max n 16) 0)

-- the tag that is recomputed for a sealed string is the given one
abbrev pub Genuine : List ℕ → List (List ℕ) → List ℕ → Type 0
Genuine key ss y = tag_of key ss (opened key y) ≡ take 16 y

module _ (key bytes lens input output scratch : List ℕ) where
  -- sealing, from Rattle and from C, where 10 is judged too
  abbrev pub sealing_table : Type 0 → List Row
  sealing_table empty_nonce =
      row 1 (IsKeyLength (length key) → ⊥)
      ∷ row 10 empty_nonce
      ∷ row 2 (126 < length lens)
      ∷ row 3 (sum lens ≡ length bytes → ⊥)
      ∷ row 4 (1048576 < length input)
      ∷ row 6 (length output < length input + 16)
      ∷ row 7 (length scratch < max (length input) 16)
      ∷ []

  abbrev pub FirstSeal : Type 0 → CallResult → Type 0
  FirstSeal empty_nonce result =
      ByTable CallResult (sealing_table empty_nonce) result.outcome.number result
      (called 0 (length input + 16) (whole_work lens (length input)) (over output 0 (sealed key (strings bytes lens) input))
      (cleared scratch (length input)))
      (λ n. called n 0 0 output scratch)

  -- opening, from Rattle and from C
  abbrev pub opening_table : Type 0 → List Row
  opening_table empty_nonce =
      row 1 (IsKeyLength (length key) → ⊥)
      ∷ row 10 empty_nonce
      ∷ row 2 (126 < length lens)
      ∷ row 3 (sum lens ≡ length bytes → ⊥)
      ∷ row 5 (length input < 16)
      ∷ row 4 (1048592 < length input)
      ∷ row 6 (length output < length input - 16)
      ∷ row 7 (length scratch < max (length input - 16) 16)
      ∷ row 8 (Genuine key (strings bytes lens) input → ⊥)
      ∷ []

  abbrev pub FirstOpen : Type 0 → CallResult → Type 0
  FirstOpen empty_nonce result =
      let n = length input - 16 in
      let work = whole_work lens n in
      ByTable CallResult (opening_table empty_nonce) result.outcome.number result
      (called 0 n work (over output 0 (opened key input)) (cleared scratch n))
      (λ number. cond (eqb number 8) (called 8 0 work (over output 0 (replicate n 0)) (cleared scratch n)) (called number 0 0 output scratch))

-- ---- a ring of keys

module _ (key_length : ℕ) (ring bytes lens input output scratch : List ℕ) where
  abbrev slots : ℕ
  slots = length ring / key_length

  -- from Rattle and from C; 8 where no slot's key opens
  abbrev pub ring_table : Type 0 → List Row
  ring_table empty_nonce =
      row 1 (IsKeyLength key_length → ⊥)
      ∷ row 11 (IsRingLength key_length (length ring) → ⊥)
      ∷ row 10 empty_nonce
      ∷ row 2 (126 < length lens)
      ∷ row 3 (sum lens ≡ length bytes → ⊥)
      ∷ row 5 (length input < 16)
      ∷ row 4 (1048592 < length input)
      ∷ row 6 (length output < length input - 16)
      ∷ row 7 (length scratch < max (length input - 16) 16)
      ∷ row 8 ((i : ℕ) → i < slots → Genuine (key_in key_length ring i) (strings bytes lens) input → ⊥)
      ∷ []

  -- the buffers are as after an opening under one key, the slot's; a refusal gives slot 0;
  -- the work is one key's for each that was tried: up to that slot, or all. Which slot it is, is in Ring.antt
  abbrev pub FirstRing : Type 0 → RingResult → Type 0
  FirstRing empty_nonce result =
      let n = length input - 16 in
      let work = whole_work lens n in
      ByTable RingResult (ring_table empty_nonce) result.call.outcome.number result
      (record {
        slot = result.slot;
        call = called 0 n ((result.slot + 1) * work) (over output 0 (opened (key_in key_length ring result.slot) input)) (cleared scratch n);
      })
      (λ number.
      record {
        slot = 0;
        call = cond (eqb number 8) (called 8 0 (slots * work) (over output 0 (replicate n 0)) (cleared scratch n)) (called number 0 0 output scratch);
      })

-- ---- the number that C gets

-- its parts as kinphlor.h reads them: the answer from bit 32 on,
-- the slot in the four bits below, the length in the 28 below these
pub record Parts (given number slot count : ℕ) : Type 0 where
  pub high : given / 4294967296 ≡ number
  pub middle : given / 268435456 % 16 ≡ slot
  pub low : given % 268435456 ≡ count

-- ---- the worst header list

-- k lengths with the sum h, none below the least
pub record IsList (h k least : ℕ) (lens : List ℕ) : Type 0 where
  pub count : length lens ≡ k
  pub sums : sum lens ≡ h
  pub each : (i : ℕ) → i < k → least ≤ get_or lens i 0

-- 126 places, the first k of them such a list and the others zero, and its blocks; no other such list has more
pub record IsWorstList (h k least : ℕ) (places : List ℕ) (blocks : ℕ) : Type 0 where
  pub given : IsList h k least (take k places)
  pub past : drop k places ≡ replicate (126 - k) 0
  pub counted : blocks ≡ header_blocks (take k places)
  pub most : (other : List ℕ) → IsList h k least other → header_blocks other ≤ blocks

abbrev pub worst_table : ℕ → ℕ → ℕ → List Row
worst_table h k least =
    row 12 ((k < 1) ⊎ (126 < k) ⊎ ((least ≡ 0 → ⊥) × (least ≡ 1 → ⊥)) ⊎ (1048576 < h) ⊎ (h < k * least))
    ∷ []

-- the call by its table: which of several worst lists is given stays open; with 12 all places and the blocks are zero
pub record FirstWorst (h k least : ℕ) (outcome : Outcome) (places : List ℕ) (blocks : ℕ) : Type 0 where
  pub answer : outcome ≡ answered outcome.number 0 0
  pub ordered : keeps order (worst_table h k least) ≡ true
  pub first : FirstDue (worst_table h k least) outcome.number
  pub done : outcome.number ≡ 0 → IsWorstList h k least places blocks
  pub refused : outcome.number ≡ 12 → (places ≡ replicate 126 0) × (blocks ≡ 0)

-- ---- heads and begins

-- the refusals of a key and a header list, and of an opener's tag
abbrev pub header_table : List ℕ → List ℕ → List ℕ → Type 0 → List Row
header_table key bytes lens otherTag =
    row 1 (IsKeyLength (length key) → ⊥)
    ∷ row 2 (126 < length lens)
    ∷ row 3 (sum lens ≡ length bytes → ⊥)
    ∷ row 5 otherTag
    ∷ []

-- of a head and the strings that follow its own: of the head 9 judges the key width and the count, and nothing else
abbrev pub rest_table : Head → List ℕ → List ℕ → Type 0 → List Row
rest_table h bytes lens otherTag =
    row 9 ((IsKeyWidth h.width → ⊥) ⊎ (126 < h.count))
    ∷ row 2 (126 < h.count + length lens)
    ∷ row 3 (sum lens ≡ length bytes → ⊥)
    ∷ row 5 otherTag
    ∷ []

-- a call that makes a head: a refusal has a head that is all zero
abbrev pub FirstHead : List Row → MakeResult → ℕ → Head → Type 0
FirstHead table result work head =
    ByTable MakeResult table result.outcome.number result (record { outcome = answered 0 0 work; head = head })
    (λ n. record { outcome = answered n 0 0; head = blank_head })

-- a begin: a refusal has the ended state
abbrev pub FirstBegin : List Row → StepResult → ℕ → Stream → Type 0
FirstBegin table result work state =
    ByTable StepResult table result.outcome.number result (stepped 0 0 work state []) (λ n. stepped n 0 0 blank_state [])

-- The first demand, on all input bytes, lengths, heads and stream states.
pub record First : Type 0 where
  pub numbers : (w : ℕ) → Numbers w
  -- number, length and work tell an answer and its work
  pub outcome_tells : (a b : Answer) (w w' : ℕ) → outcome_of a w ≡ outcome_of b w' → (a ≡ b) × (w ≡ w')
  pub header_strings : HeaderStrings
  pub sealing : (key bytes lens input output scratch : List ℕ)
      → FirstSeal key bytes lens input output scratch ⊥ (seal_call key bytes lens input output scratch)
  pub opening : (key bytes lens input output scratch : List ℕ)
      → FirstOpen key bytes lens input output scratch ⊥ (open_call key bytes lens input output scratch)
  pub opening_ring : (key_length : ℕ) (ring bytes lens input output scratch : List ℕ)
      → FirstRing key_length ring bytes lens input output scratch ⊥ (open_ring key_length ring bytes lens input output scratch)
  -- from C the header list is associated data, then nonce
  pub sealing_from_c : (key header input output scratch : List ℕ) (ad nonce : ℕ)
      → FirstSeal key header (ad ∷ nonce ∷ []) input output scratch (nonce ≡ 0) (seal_from_c key header ad nonce input output scratch)
  pub opening_from_c : (key header input output scratch : List ℕ) (ad nonce : ℕ)
      → FirstOpen key header (ad ∷ nonce ∷ []) input output scratch (nonce ≡ 0) (open_from_c key header ad nonce input output scratch)
  pub opening_ring_from_c : (key_length : ℕ) (ring header input output scratch : List ℕ) (ad nonce : ℕ)
      → FirstRing key_length ring header (ad ∷ nonce ∷ []) input output scratch (nonce ≡ 0)
      (open_ring_from_c key_length ring header ad nonce input output scratch)
  pub sealing_parts : (key header input output scratch : List ℕ) (ad nonce : ℕ)
      → let o = (seal_from_c key header ad nonce input output scratch).outcome in
      Parts (packed o) o.number 0 o.count
  pub opening_parts : (key header input output scratch : List ℕ) (ad nonce : ℕ)
      → let o = (open_from_c key header ad nonce input output scratch).outcome in
      Parts (packed o) o.number 0 o.count
  pub opening_ring_parts : (key_length : ℕ) (ring header input output scratch : List ℕ) (ad nonce : ℕ)
      → let r = open_ring_from_c key_length ring header ad nonce input output scratch in
      Parts (packed_ring r.slot r.call.outcome) r.call.outcome.number r.slot r.call.outcome.count
  pub finding_worst : (h k least : ℕ) (outcome : Outcome) (places : List ℕ) (blocks : ℕ) → GivesWorst h k least outcome places blocks
      → FirstWorst h k least outcome places blocks
  pub finding_worst_from_c : (h k least : ℕ) (places : List ℕ) (given : ℕ) → GivesWorstFromC h k least places given
      → FirstWorst h k least (answered (given / 4294967296) 0 0) places (given % 4294967296)
  pub making_head : (key bytes lens : List ℕ)
      → FirstHead (header_table key bytes lens ⊥) (make_head key bytes lens) (2 + header_blocks lens) (prepared_head key (strings bytes lens))
  pub extending_head : (h : Head) (bytes lens : List ℕ)
      → FirstHead (rest_table h bytes lens ⊥) (extend_head h bytes lens) (header_blocks lens) (longer_head h (strings bytes lens))
  -- stage 1 with V zero for a sealer, stage 3 with the tag for an opener
  pub beginning_sealer : (key bytes lens : List ℕ)
      → FirstBegin (header_table key bytes lens ⊥) (begin_sealer key bytes lens) (2 + header_blocks lens)
      (begun_state (prepared_head key (strings bytes lens)) 1 (replicate 16 0))
  pub beginning_opener : (key bytes lens tag : List ℕ)
      → FirstBegin (header_table key bytes lens (length tag ≡ 16 → ⊥)) (begin_opener key bytes lens tag) (2 + header_blocks lens)
      (begun_state (prepared_head key (strings bytes lens)) 3 tag)
  pub beginning_sealer_from : (h : Head) (bytes lens : List ℕ)
      → FirstBegin (rest_table h bytes lens ⊥) (begin_sealer_from h bytes lens) (header_blocks lens)
      (begun_state (longer_head h (strings bytes lens)) 1 (replicate 16 0))
  pub beginning_opener_from : (h : Head) (bytes lens tag : List ℕ)
      → FirstBegin (rest_table h bytes lens (length tag ≡ 16 → ⊥)) (begin_opener_from h bytes lens tag) (header_blocks lens)
      (begun_state (longer_head h (strings bytes lens)) 3 tag)
  -- the six calls, on any state of their type
  pub calling : (s : Stream) (shared : List ℕ) (c : Call) → Sized s
      → ByTable StepResult (step_table Nine s shared c) (call s shared c).outcome.number (call s shared c) (step_done s shared c)
      (step_left s shared c)
