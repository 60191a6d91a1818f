-- RFC 5297, 2.6: the counter. Q from V and its sum with a number, through the number that 16 bytes stand for.
-- Assumes nothing.
use Rattle.std.specs.Prelude.{ℕ, zero, suc, ◌+◌, ◌*◌, ◌/◌, ◌%◌, ◌^◌, List, [], ◌∷◌, length, slice_index, slice_set}

-- the number that a string stands for, its first byte the highest
abbrev pub number : List ℕ → ℕ
number [] = 0
number (b ∷ l) = b * 256 ^ length l + number l

-- the n lowest bytes of a number, the highest first: the string of x modulo 256^n
abbrev pub bytes_of_number : ℕ → ℕ → List ℕ
bytes_of_number zero x = []
bytes_of_number (suc n) x = x / 256 ^ n % 256 ∷ bytes_of_number n x

-- 2.6, Q from V: the top bits of bytes 8 and 12 cleared
abbrev pub initial_counter : List ℕ → List ℕ
initial_counter v = slice_set (slice_set v 8 (slice_index v 8 % 0x80)) 12 (slice_index v 12 % 0x80)

-- 2.6, counter block i: Q + i modulo 2^128
unfoldable pub counter_block : List ℕ → ℕ → List ℕ
counter_block q i = bytes_of_number 16 (number q + i)
