-- RFC 8452, section 4: counter mode as AES-GCM-SIV has it, over any block function;
-- beside what calls the function stands its work, the number of calls.
-- Assumes nothing.
use Rattle.std.specs.Prelude.{ℕ, zero, suc, ◌+◌, ◌/◌, ◌%◌, ◌^◌, List, [], ◌++◌, length, take, drop, slice_index, slice_set}
use Rattle.octets.specs.Octets.{xors}
use Rattle.octets.specs.LittleEndian.{read_little_endian, little_endian}

-- the initial counter block: the tag, with the top bit of its last byte set
abbrev pub initial_block : List ℕ → List ℕ
initial_block tag = slice_set tag 15 (slice_index tag 15 % 0x80 + 0x80)

-- the counter block behind a block: the first 32 bits, little-endian, plus 1 modulo 2^32; the other bytes as they are
unfoldable pub next_block : List ℕ → List ℕ
next_block block = little_endian 4 ((read_little_endian (take 4 block) + 1) % 2 ^ 32) ++ drop 4 block

-- n blocks of key stream, from a counter block on
unfoldable pub stream_from : (List ℕ → List ℕ) → List ℕ → ℕ → List ℕ
stream_from E block zero = []
stream_from E block (suc n) = E block ++ stream_from E (next_block block) n

unfoldable pub stream_from_work : ℕ → ℕ
stream_from_work zero = 0
stream_from_work (suc n) = 1 + stream_from_work n

-- how many blocks n bytes begin
abbrev pub blocks_begun : ℕ → ℕ
blocks_begun n = (n + 15) / 16

-- AES_CTR: a string xored with the key stream from a counter block on
unfoldable pub aes_ctr : (List ℕ → List ℕ) → List ℕ → List ℕ → List ℕ
aes_ctr E block s = xors s (stream_from E block (blocks_begun (length s)))

unfoldable pub aes_ctr_work : ℕ → ℕ
aes_ctr_work n = stream_from_work (blocks_begun n)
