-- The six piecewise calls on any given state: their refusals, what these leave, and what success gives.
-- Rules 3.4, 3.5, 9.4 to 9.13, 14.2, 15.7 and 15.8.
-- Assumes nothing.
use Rattle.std.specs.Prelude.{◌≡◌, cond, List, [], ◌∷◌, ◌++◌, ◌⊎◌, ℕ, ◌+◌, ◌-◌, ◌*◌, ◌%◌, ◌<◌, eqb, ltb, length, take, drop, replicate}
use Rattle.octets.specs.Octets.{xors}
use Rattle.aes.specs.Cipher.{cipher}
use Rattle.cmac.specs.Cmac.{subkeys, chain}
use Rattle.s2v.specs.S2v.{tag_from}
use Rattle.keystream.specs.KeyStream.{xor_stream}
use Rattle.stream.specs.declared.Stream.{Stream}
use Rattle.stream.specs.Steps.{StepResult}
use Rattle.demands.specs.Figures.{IsKeyWidth, IsZero, over, tail_count, chained, sixteenths, tag_blocks, unused}
use Rattle.demands.specs.Run.{Call, add, turn, write, close, feed, finish, lent}
use Rattle.demands.specs.State.{block_begun, blank_state}
use Rattle.demands.specs.Table.{answered, Row, row}

-- ---- 9

-- how many bytes of the key stream are used: those written in stage 2, those fed in stage 3, none in stage 1
abbrev pub place : ℕ → Stream → ℕ
place stage s = cond (eqb stage 2) s.written (cond (eqb stage 3) s.total 0)

-- what 9 judges beside the tail's length, for a call that wants a stage: another stage; the key width; total;
-- written, over total in stage 2 and over 0 in stages 1 and 3; an unused byte of the tail that is not zero;
-- a kept block that is not zero where whole blocks of the key stream are used
abbrev pub NineButTailLength : ℕ → Stream → Type 0
NineButTailLength wanted s =
    (s.stage ≡ wanted → ⊥)
    ⊎ (IsKeyWidth s.width → ⊥)
    ⊎ (1048576 < s.total)
    ⊎ (cond (eqb wanted 2) s.total 0 < s.written)
    ⊎ (IsZero (drop (tail_count s.total) s.tail) → ⊥)
    ⊎ ((place wanted s % 16 ≡ 0) × (IsZero s.kept → ⊥))

-- rule 14.1: the tail's length is the figure of rule 9.10 for the state's total
abbrev pub ByRule : Stream → Type 0
ByRule s = s.tail_len ≡ tail_count s.total

-- all that 9 judges of a state; close has a condition more in its row
abbrev pub Nine : ℕ → Stream → Type 0
Nine wanted s = NineButTailLength wanted s ⊎ (ByRule s → ⊥)

-- ---- what a state gives

-- V of all that was added or fed
abbrev tag_by : Stream → List ℕ
tag_by s = tag_from (cipher s.width s.mac_keys) (subkeys s.l) s.d s.chain (take (tail_count s.total) s.tail)

-- a piece xored with the key stream from byte `at` of it on:
-- what is left of the kept block is used as it is, then the key stream's next blocks
abbrev pub xored : Stream → ℕ → List ℕ → List ℕ
xored s at piece =
    let n = unused at in
    xors (take n piece) (drop (at % 16) s.kept) ++ xor_stream (cipher s.width s.ctr_keys) s.v (at + n) (drop n piece)

-- the block that is kept after n bytes from byte `at` on: the same until it is used up, then the one that is begun
abbrev pub kept_by : Stream → ℕ → ℕ → List ℕ
kept_by s at n = cond (ltb n (unused at)) s.kept (block_begun (cipher s.width s.ctr_keys) s.v (at + n))

-- a piece of plaintext more, and a kept block:
-- whole blocks go from the tail into the chain, and its unused bytes are zero
abbrev pub with_piece : Stream → List ℕ → List ℕ → Stream
with_piece s kept piece =
    let total = s.total + length piece in
    let n = chained total - chained s.total in
    let text = take (tail_count s.total) s.tail ++ piece in
    let rest = drop (16 * n) text in
    record {
      stage = s.stage;
      width = s.width;
      mac_keys = s.mac_keys;
      ctr_keys = s.ctr_keys;
      l = s.l;
      d = s.d;
      chain = chain (cipher s.width s.mac_keys) s.chain text n;
      v = s.v;
      kept = kept;
      total = total;
      written = s.written;
      tail_len = tail_count total;
      tail = rest ++ replicate (31 - length rest) 0;
    }

-- turn sets stage and V alone
abbrev with_tag : Stream → Stream
with_tag s =
    record {
      stage = 2;
      width = s.width;
      mac_keys = s.mac_keys;
      ctr_keys = s.ctr_keys;
      l = s.l;
      d = s.d;
      chain = s.chain;
      v = tag_by s;
      kept = s.kept;
      total = s.total;
      written = s.written;
      tail_len = s.tail_len;
      tail = s.tail;
    }

-- write changes written and the kept block, and no other field
abbrev pub with_written : Stream → ℕ → Stream
with_written s n =
    record {
      stage = s.stage;
      width = s.width;
      mac_keys = s.mac_keys;
      ctr_keys = s.ctr_keys;
      l = s.l;
      d = s.d;
      chain = s.chain;
      v = s.v;
      kept = kept_by s s.written n;
      total = s.total;
      written = s.written + n;
      tail_len = s.tail_len;
      tail = s.tail;
    }

-- ---- the calls

-- number, length and work, the state and the lent output
abbrev pub stepped : ℕ → ℕ → ℕ → Stream → List ℕ → StepResult
stepped number count work s output = record { outcome = answered number count work; state = s; output = output }

-- the refusals, with what 9 judges; feed and finish share an output
abbrev pub step_table : (ℕ → Stream → Type 0) → Stream → List ℕ → Call → List Row
step_table nine s shared (add piece) =
    row 9 (nine 1 s)
    ∷ row 4 (1048576 < s.total + length piece)
    ∷ []
step_table nine s shared (turn output) =
    row 9 (nine 1 s)
    ∷ row 6 (length output < 16)
    ∷ []
step_table nine s shared (write piece output) =
    row 9 (nine 2 s)
    ∷ row 4 (s.total < s.written + length piece)
    ∷ row 6 (length output < length piece)
    ∷ []
step_table nine s shared close =
    row 9 (nine 2 s ⊎ (s.written < s.total))
    ∷ []
step_table nine s shared (feed piece) =
    row 9 (nine 3 s)
    ∷ row 4 (1048576 < s.total + length piece)
    ∷ row 6 (length shared < s.total + length piece)
    ∷ []
step_table nine s shared finish =
    row 9 (nine 3 s)
    ∷ row 6 (length shared < s.total)
    ∷ row 8 (tag_by s ≡ s.v → ⊥)
    ∷ []

-- success: length, work, state and output; the work is the blocks that join the chain,
-- that the tag is made with, and that are begun of the key stream
abbrev pub step_done : Stream → List ℕ → Call → StepResult
step_done s shared (add piece) = stepped 0 0 (chained (s.total + length piece) - chained s.total) (with_piece s s.kept piece) []
step_done s shared (turn output) = stepped 0 16 (tag_blocks s.total) (with_tag s) (over output 0 (tag_by s))
step_done s shared (write piece output) =
    stepped 0 (length piece) (sixteenths (s.written + length piece) - sixteenths s.written) (with_written s (length piece))
    (over output 0 (xored s s.written piece))
step_done s shared close = stepped 0 0 0 blank_state []
step_done s shared (feed piece) =
    let end = s.total + length piece in
    let p = xored s s.total piece in
    stepped 0 (length piece) ((sixteenths end - sixteenths s.total) + (chained end - chained s.total))
    (with_piece s (kept_by s s.total (length piece)) p) (over shared s.total p)
step_done s shared finish = stepped 0 s.total (tag_blocks s.total) blank_state shared

-- a refusal leaves state and output as given; 8, which finish alone gives,
-- ends the state, wipes the output's first total bytes and took the work of success
abbrev pub step_left : Stream → List ℕ → Call → ℕ → StepResult
step_left s shared c n =
    cond (eqb n 8) (stepped 8 0 (tag_blocks s.total) blank_state (over shared 0 (replicate s.total 0)))
    (stepped n 0 0 s (lent shared c))

-- what the types of these arrays say of their lengths
pub record Sized (s : Stream) : Type 0 where
  pub d : length s.d ≡ 16
  pub kept : length s.kept ≡ 16
  pub tail : length s.tail ≡ 31
