-- The header list of AES-SIV: one string of bytes and a list of lengths, the strings one behind the other.
-- Assumes nothing.
use Rattle.std.specs.Prelude.{List, [], ◌∷◌, ℕ, ◌+◌, ◌≤◌, length, take, drop}
use Rattle.octets.specs.Octets.{Lent}

-- the sum of the lengths
unfoldable pub total : List ℕ → ℕ
total [] = 0
total (n ∷ lens) = n + total lens

-- the header strings in order, rule 6.1
unfoldable pub strings : List ℕ → List ℕ → List (List ℕ)
strings bytes [] = []
strings bytes (n ∷ lens) = take n bytes ∷ strings (drop n bytes) lens

-- the same of lent slices, as they came
abbrev pub strings_in : Lent → Lent → List (List ℕ)
strings_in bytes lens = strings bytes.entry.now lens.entry.now

-- a header list that can be walked: what the refusals leave is more
abbrev pub Walkable : List ℕ → List ℕ → Type 0
Walkable bytes lens = (total lens ≤ length bytes) × (length lens ≤ 126)
