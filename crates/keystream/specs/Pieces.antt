-- A key stream that is used piece by piece, rules 15.7 and 15.8: the block that a piece begins and does not use up
-- is kept for the next one.
-- Assumes nothing.
use Rattle.std.specs.Prelude.{cond, List, ◌++◌, ℕ, ◌+◌, ◌-◌, ◌*◌, ◌/◌, ◌%◌, eqb, length, drop, replicate}
use Rattle.octets.specs.Octets.{xors, Lent, LentMut, Writes}
use Rattle.aes.specs.declared.Counted.{Counted}
use Rattle.aes.specs.Work.{Reports}
use Rattle.counter.specs.Counter.{initial_counter, counter_block}
use Rattle.keystream.specs.KeyStream.{blocks_begun, stream_blocks, stream_work}

-- what is kept where no block is begun
abbrev pub no_block : List ℕ
no_block = replicate 16 0

-- the key stream's own block that its first n bytes begin and do not use up: it says which one that is,
-- wherever it was made, and has no work
unfoldable pub begun_block : (List ℕ → List ℕ) → List ℕ → ℕ → List ℕ
begun_block E v n = cond (eqb (n % 16) 0) no_block (E (counter_block (initial_counter v) (n / 16)))

-- how many bytes of that block are left
abbrev pub left_over : ℕ → ℕ
left_over n = 16 * blocks_begun n - n

-- how many blocks n bytes begin behind the first `place`
abbrev pub new_blocks : ℕ → ℕ → ℕ
new_blocks place n = blocks_begun (place + n) - blocks_begun place

-- the blocks at hand for n bytes from byte `place` on: the one that was kept, whatever it holds, and those that are new
unfoldable pub at_hand : (List ℕ → List ℕ) → List ℕ → List ℕ → ℕ → ℕ → List ℕ
at_hand E v kept place n = kept ++ stream_blocks E v (blocks_begun place) (new_blocks place n)

unfoldable pub piece_work : ℕ → ℕ → ℕ
piece_work place n = stream_work (new_blocks place n)

-- a piece xored with them, from where the kept block is unused
unfoldable pub xor_piece : (List ℕ → List ℕ) → List ℕ → List ℕ → ℕ → List ℕ → List ℕ
xor_piece E v kept place s = xors s (drop (16 - left_over place) (at_hand E v kept place (length s)))

-- the block that is kept then: the last at hand, unless it is used up
unfoldable pub kept_after : (List ℕ → List ℕ) → List ℕ → List ℕ → ℕ → ℕ → List ℕ
kept_after E v kept place n =
    cond (eqb ((place + n) % 16) 0) no_block (drop (16 * new_blocks place n) (at_hand E v kept place n))

-- what a piece of the key stream promises: src, xored from byte `place` on, is at place `at` of dst,
-- and r is the block that is kept then, with its work
pub record XorsPiece (E : List ℕ → List ℕ) (v old : List ℕ) (place : ℕ) (src : Lent) (dst : LentMut) (at : ℕ) (r : Counted) : Type 0 where
  pub kept : Reports (kept_after E v old place (length src.entry.now)) (piece_work place (length src.entry.now)) r
  pub text : Writes dst at (xor_piece E v old place src.entry.now)
