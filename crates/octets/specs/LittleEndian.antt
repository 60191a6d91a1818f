-- Numbers as byte strings, the lowest byte first.
-- Assumes nothing.
use Rattle.std.specs.Prelude.{List, [], ◌∷◌, ℕ, zero, suc, ◌+◌, ◌*◌, ◌/◌, ◌%◌}

-- the number that a string stands for
abbrev pub read_little_endian : List ℕ → ℕ
read_little_endian [] = 0
read_little_endian (b ∷ s) = b + 256 * read_little_endian s

-- the n lowest bytes of a number
abbrev pub little_endian : ℕ → ℕ → List ℕ
little_endian zero x = []
little_endian (suc n) x = x % 256 ∷ little_endian n (x / 256)
