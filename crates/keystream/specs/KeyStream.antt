-- RFC 5297, 2.6: the key stream, over any block function; beside what calls it stands its work, the number of calls.
-- Assumes nothing.
use Rattle.std.specs.Prelude.{List, [], ◌++◌, ℕ, zero, suc, ◌+◌, ◌/◌, length, take, drop}
use Rattle.octets.specs.Octets.{xors}
use Rattle.counter.specs.Counter.{initial_counter, counter_block}

-- how many blocks n bytes begin
abbrev pub blocks_begun : ℕ → ℕ
blocks_begun n = (n + 15) / 16

-- 2.6, X: n blocks, from block i on, of the key stream that E gives under V
unfoldable pub stream_blocks : (List ℕ → List ℕ) → List ℕ → ℕ → ℕ → List ℕ
stream_blocks E v i zero = []
stream_blocks E v i (suc n) = stream_blocks E v i n ++ E (counter_block (initial_counter v) (i + n))

unfoldable pub stream_work : ℕ → ℕ
stream_work zero = 0
stream_work (suc n) = stream_work n + 1

-- 2.6: the first n bytes of the key stream, X's leftmost
unfoldable pub key_stream : (List ℕ → List ℕ) → List ℕ → ℕ → List ℕ
key_stream E v n = take n (stream_blocks E v 0 (blocks_begun n))

unfoldable pub key_stream_work : ℕ → ℕ
key_stream_work n = stream_work (blocks_begun n)

-- 2.6: `s` xored with the key stream from byte `place` on
unfoldable pub xor_stream : (List ℕ → List ℕ) → List ℕ → ℕ → List ℕ → List ℕ
xor_stream E v place s = xors s (drop place (key_stream E v (place + length s)))
