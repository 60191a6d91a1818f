-- The cipher's inner state as the code has it: four words, row 0 of a column in the lowest byte of its word.
-- Assumes nothing.
use Rattle.std.specs.Prelude.{◌≡◌, List, [], ◌∷◌, ◌++◌, ℕ, ◌/◌, ◌%◌}
use Rattle.std.specs.Int.Bits.{bit_xor}
use Rattle.field.specs.Field.{mul}
use Rattle.aes.specs.Cipher.{at}
use Rattle.aes.specs.declared.State.{State}

-- the string of a word
abbrev pub bytes_of_word : ℕ → List ℕ
bytes_of_word w = w % 0x100 ∷ w / 0x100 % 0x100 ∷ w / 0x10000 % 0x100 ∷ w / 0x1000000 % 0x100 ∷ []

-- the string of a state, column by column
abbrev pub bytes_of : State → List ℕ
bytes_of s = bytes_of_word s.c0 ++ (bytes_of_word s.c1 ++ (bytes_of_word s.c2 ++ bytes_of_word s.c3))

-- the word w has the bytes a, b, c and d
pub record WordIs (a b c d w : ℕ) : Type 0 where
  pub row0 : w % 0x100 ≡ a
  pub row1 : w / 0x100 % 0x100 ≡ b
  pub row2 : w / 0x10000 % 0x100 ≡ c
  pub row3 : w / 0x1000000 % 0x100 ≡ d

-- the state r has the bytes of the string s
pub record StateIs (s : List ℕ) (r : State) : Type 0 where
  pub column0 : WordIs (at s 0 0) (at s 1 0) (at s 2 0) (at s 3 0) r.c0
  pub column1 : WordIs (at s 0 1) (at s 1 1) (at s 2 1) (at s 3 1) r.c1
  pub column2 : WordIs (at s 0 2) (at s 1 2) (at s 2 2) (at s 3 2) r.c2
  pub column3 : WordIs (at s 0 3) (at s 1 3) (at s 2 3) (at s 3 3) r.c3

-- a byte of MixColumns, from the byte of its own row and those of the rows below
abbrev pub mixed_byte : ℕ → ℕ → ℕ → ℕ → ℕ
mixed_byte a b c d = bit_xor (bit_xor (bit_xor (mul 2 a) (mul 3 b)) c) d

-- the word r is MixColumns of the column with the bytes a, b, c and d
abbrev pub Mixed : ℕ → ℕ → ℕ → ℕ → ℕ → Type 0
Mixed a b c d r = WordIs (mixed_byte a b c d) (mixed_byte b c d a) (mixed_byte c d a b) (mixed_byte d a b c) r
