-- The owner's figures that the statements here share. They lean on no other crate.
-- Assumes nothing.
use Rattle.std.specs.Prelude.{◌≡◌, cond, List, [], ◌∷◌, ◌++◌, ◌⊎◌, ℕ, ◌+◌, ◌*◌, ◌/◌, ◌%◌, ◌-◌, ◌≤◌, max, ltb, length, take, drop, replicate}

-- ---- keys

-- a key has 32, 48 or 64 bytes
abbrev pub IsKeyLength : ℕ → Type 0
IsKeyLength n = (n ≡ 32) ⊎ (n ≡ 48) ⊎ (n ≡ 64)

-- and its width, one half of that, is 16, 24 or 32
abbrev pub IsKeyWidth : ℕ → Type 0
IsKeyWidth n = (n ≡ 16) ⊎ (n ≡ 24) ⊎ (n ≡ 32)

-- rule 12.1: so many bytes are one to four whole keys of a length
abbrev pub IsRingLength : ℕ → ℕ → Type 0
IsRingLength key_length n = (slots : ℕ) × (1 ≤ slots) × (slots ≤ 4) × (n ≡ slots * key_length)

-- the key in slot i
abbrev pub key_in : ℕ → List ℕ → ℕ → List ℕ
key_in key_length ring i = take key_length (drop (i * key_length) ring)

-- ---- bytes

-- a string is zeros
abbrev pub IsZero : List ℕ → Type 0
IsZero s = s ≡ replicate (length s) 0

-- s over the bytes of an output from a place on; all others keep their values
abbrev pub over : List ℕ → ℕ → List ℕ → List ℕ
over output at s = take at output ++ s ++ drop (at + length s) output

-- the sum of lengths
unfoldable pub sum : List ℕ → ℕ
sum [] = 0
sum (n ∷ lens) = n + sum lens

-- how many bytes of a plaintext wait for its end, rule 9.10:
-- total itself below 16, else 16 + total mod 16
abbrev pub tail_count : ℕ → ℕ
tail_count total = cond (ltb total 16) total (16 + total % 16)

-- so many blocks of n bytes stand before this tail: they are in the CMAC chain
abbrev pub chained : ℕ → ℕ
chained n = n / 16 - 1

-- ---- work in blocks: rule 15.2

-- n divided by 16, rounded up
abbrev pub sixteenths : ℕ → ℕ
sixteenths n = (n + 15) / 16

-- the blocks of a string of n bytes; an empty one has one
abbrev pub blocks : ℕ → ℕ
blocks n = max (sixteenths n) 1

-- the blocks that a tag takes beside those in the chain
abbrev pub tag_blocks : ℕ → ℕ
tag_blocks n = blocks n - chained n

-- how many bytes are left of the key stream's block that the first n bytes begin
abbrev pub unused : ℕ → ℕ
unused n = 16 * sixteenths n - n

-- the blocks of header strings
unfoldable pub header_blocks : List ℕ → ℕ
header_blocks [] = 0
header_blocks (n ∷ lens) = blocks n + header_blocks lens

-- the work of whole sealing or opening with so many header blocks and a plaintext of n bytes
abbrev pub work_behind : ℕ → ℕ → ℕ
work_behind header n = 2 + header + blocks n + sixteenths n

abbrev pub whole_work : List ℕ → ℕ → ℕ
whole_work lens n = work_behind (header_blocks lens) n
