-- The stream state: which ones a call takes, and what a piece makes of one.
-- Rules 9.2, 9.3, 9.9, 9.10, 14.2 and 15.8.
-- Assumes nothing.
use Rattle.std.specs.Prelude.{◌≡◌, Bool, not, cond, ◌&&◌, ◌||◌, List, ◌++◌, ℕ, ◌+◌, ◌*◌, ◌%◌, ◌≤◌, eqb, ltb, length, take, drop, replicate}
use Rattle.octets.specs.Octets.{all_zero}
use Rattle.aes.specs.Aes.{is_width}
use Rattle.aes.specs.Cipher.{cipher}
use Rattle.cmac.specs.Cmac.{zeros, subkeys, chain, chain_work}
use Rattle.s2v.specs.S2v.{tail_length, tag_from, tag_from_work}
use Rattle.keystream.specs.Pieces.{xor_piece, kept_after}
use Rattle.tail.specs.declared.Absorbed.{Absorbed}
use Rattle.tail.specs.Tail.{tail_of, leaving_blocks}
use Rattle.whole.specs.Calls.{limit}
use Rattle.head.specs.declared.Head.{Head}
use Rattle.stream.specs.declared.Stage.{Stage}
use Rattle.stream.specs.declared.Stage.TheVariants.{Adding, Writing, Feeding}
use Rattle.stream.specs.declared.Stream.{Stream}

-- a stage's number, which a state has in its field
abbrev pub stage_number : Stage → ℕ
stage_number Adding = 1
stage_number Writing = 2
stage_number Feeding = 3

-- the ended state: all fields zero
abbrev pub ended : Stream
ended =
    record {
      stage = 0;
      width = 0;
      mac_keys = replicate 240 0;
      ctr_keys = replicate 240 0;
      l = zeros;
      d = zeros;
      chain = zeros;
      v = zeros;
      kept = zeros;
      total = 0;
      written = 0;
      tail_len = 0;
      tail = replicate 31 0;
    }

-- the state that a head starts, in a stage and with a tag: every begin that succeeds gives one of these
abbrev pub start : Head → ℕ → List ℕ → Stream
start h stage v =
    record {
      stage = stage;
      width = h.width;
      mac_keys = h.mac_keys;
      ctr_keys = h.ctr_keys;
      l = h.l;
      d = h.d;
      chain = zeros;
      v = v;
      kept = zeros;
      total = 0;
      written = 0;
      tail_len = 0;
      tail = replicate 31 0;
    }

-- the most that written may be: total in stage 2, else 0
abbrev pub written_limit : ℕ → ℕ → ℕ
written_limit stage total = cond (eqb stage 2) total 0

-- how many bytes of the key stream are used: those written in stage 2, those fed in stage 3, none in stage 1
abbrev pub stream_place : ℕ → Stream → ℕ
stream_place stage s = cond (eqb stage 2) s.written (cond (eqb stage 3) s.total 0)

-- the kept block is zero where whole blocks of the key stream are used; else it is used as it is
unfoldable pub kept_fits : ℕ → Stream → Bool
kept_fits stage s = not (eqb (stream_place stage s % 16) 0) || all_zero s.kept

-- what refusal 9 judges, for a call that wants a stage: the stage, the key width, total and written within
-- their limits, the tail's length by its rule, the kept block, and the unused bytes of the tail zero
unfoldable pub fits : ℕ → Stream → Bool
fits wanted s =
    eqb s.stage wanted
    && is_width s.width
    && not (ltb limit s.total)
    && not (ltb (written_limit wanted s.total) s.written)
    && eqb s.tail_len (tail_length s.total)
    && kept_fits wanted s
    && all_zero (drop (tail_length s.total) s.tail)

-- what a state that fits may be relied on for
pub record Fit (s : Stream) : Type 0 where
  pub width : s.width ≤ 32
  pub total : s.total ≤ limit
  pub tail_len : s.tail_len ≡ tail_length s.total

-- the used bytes of the tail, which wait for the plaintext's end: "held bytes" of the owner's document 01
abbrev pub used_tail : Stream → List ℕ
used_tail s = take (tail_length s.total) s.tail

-- a state with other values in what calls change, in the fields' order;
-- width, round keys, L and D stay as its begin set them
abbrev with_progress : Stream → ℕ → List ℕ → List ℕ → List ℕ → ℕ → ℕ → ℕ → List ℕ → Stream
with_progress s stage chain v kept total written len tail =
    record {
      stage = stage;
      width = s.width;
      mac_keys = s.mac_keys;
      ctr_keys = s.ctr_keys;
      l = s.l;
      d = s.d;
      chain = chain;
      v = v;
      kept = kept;
      total = total;
      written = written;
      tail_len = len;
      tail = tail;
    }

-- another chain, total, and tail with its length, and nothing else changed
abbrev pub state_with : Stream → List ℕ → ℕ → ℕ → List ℕ → Stream
state_with s chain total len tail = with_progress s s.stage chain s.v s.kept total s.written len tail

-- another kept block and number of bytes written, and nothing else changed
abbrev pub streamed_with : Stream → List ℕ → ℕ → Stream
streamed_with s kept written = with_progress s s.stage s.chain s.v kept s.total written s.tail_len s.tail

-- the state once V is known: stage 2 and V, and nothing else changed
abbrev pub turned : Stream → List ℕ → Stream
turned s v = with_progress s 2 s.chain v s.kept s.total s.written s.tail_len s.tail

-- the state with a piece of plaintext more: whole blocks go from the tail into the chain until a tail's length is left
unfoldable pub added : Stream → List ℕ → Stream
added s piece =
    let total = s.total + length piece in
    let n = leaving_blocks s.total (length piece) in
    let text = used_tail s ++ piece in
    let c = chain (cipher s.width s.mac_keys) s.chain text n in
    state_with s c total (tail_length total) (tail_of (drop (16 * n) text))

unfoldable pub added_work : Stream → ℕ → ℕ
added_work s n = chain_work (leaving_blocks s.total n)

-- the fields that a piece changes: with them a state is the one with the piece, and the work is its work
pub record Absorbs (s : Stream) (piece : List ℕ) (fields : Absorbed) : Type 0 where
  pub state : state_with s fields.chain.block fields.total fields.tail_len fields.tail ≡ added s piece
  pub work : fields.chain.work ≡ added_work s (length piece)

-- V of all that was added
unfoldable pub tag_of_state : Stream → List ℕ
tag_of_state s = tag_from (cipher s.width s.mac_keys) (subkeys s.l) s.d s.chain (used_tail s)

unfoldable pub tag_of_state_work : Stream → ℕ
tag_of_state_work s = tag_from_work s.d (used_tail s)

-- a piece xored with the state's key stream from a place of it on, the kept block first
unfoldable pub streamed_at : Stream → ℕ → List ℕ → List ℕ
streamed_at s place piece = xor_piece (cipher s.width s.ctr_keys) s.v s.kept place piece

-- the block that is kept then
unfoldable pub kept_at : Stream → ℕ → ℕ → List ℕ
kept_at s place n = kept_after (cipher s.width s.ctr_keys) s.v s.kept place n
