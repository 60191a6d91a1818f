-- How many blocks of 16 bytes strings have, from their lengths: rule 15.2.
-- Assumes nothing.
use Rattle.std.specs.Prelude.{List, [], ◌∷◌, ℕ, ◌+◌, ◌/◌, max}

-- n divided by 16, rounded up
abbrev pub sixteenths : ℕ → ℕ
sixteenths n = (n + 15) / 16

-- how many blocks a string of n bytes has; an empty string has one
abbrev pub blocks_of : ℕ → ℕ
blocks_of n = max (sixteenths n) 1

-- the blocks of strings of these lengths
unfoldable pub blocks_of_all : List ℕ → ℕ
blocks_of_all [] = 0
blocks_of_all (n ∷ lens) = blocks_of n + blocks_of_all lens
