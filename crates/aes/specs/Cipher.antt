-- FIPS 197, sections 3.4 and 5.1: the state and the cipher, over any round-key bytes.
-- Assumes nothing.
use Rattle.std.specs.Prelude.{List, [], ◌∷◌, ℕ, zero, suc, ◌+◌, ◌-◌, ◌*◌, ◌/◌, ◌%◌, get_or}
use Rattle.std.specs.Int.Bits.{bit_xor}
use Rattle.octets.specs.Octets.{part}
use Rattle.field.specs.Field.{mul, sbox}

-- 3.4, the state: byte r + 4c of the string is in row r and column c
abbrev pub at : List ℕ → ℕ → ℕ → ℕ
at s r c = get_or s (r + 4 * c) 0

-- the state whose byte in row r and column c is `f r c`
abbrev pub state : (ℕ → ℕ → ℕ) → List ℕ
state f =
    f 0 0 ∷ f 1 0 ∷ f 2 0 ∷ f 3 0
    ∷ f 0 1 ∷ f 1 1 ∷ f 2 1 ∷ f 3 1
    ∷ f 0 2 ∷ f 1 2 ∷ f 2 2 ∷ f 3 2
    ∷ f 0 3 ∷ f 1 3 ∷ f 2 3 ∷ f 3 3 ∷ []

-- 5.1.1
abbrev pub sub_bytes : List ℕ → List ℕ
sub_bytes s = state (λ r c. sbox (at s r c))

-- 5.1.2: row r moves r places to the left
abbrev pub shift_rows : List ℕ → List ℕ
shift_rows s = state (λ r c. at s r ((c + r) % 4))

-- 5.1.3: each column times the matrix whose first row is 02 03 01 01
-- and whose every other row is the one above moved one place to the right
abbrev pub mix_columns : List ℕ → List ℕ
mix_columns s =
    state (λ r c.
    bit_xor (bit_xor (bit_xor (mul 2 (at s r c)) (mul 3 (at s ((r + 1) % 4) c))) (at s ((r + 2) % 4) c)) (at s ((r + 3) % 4) c))

-- 5.1.4
abbrev pub add_round_key : List ℕ → List ℕ → List ℕ
add_round_key key s = state (λ r c. bit_xor (at s r c) (at key r c))

-- the round key of round n, with the round keys of all rounds in one string
abbrev pub round_key : List ℕ → ℕ → List ℕ
round_key w n = part w (16 * n) 16

-- 5.1, algorithm 1: the state `s` after rounds 1 to n, none of them the last
unfoldable pub rounds : List ℕ → List ℕ → ℕ → List ℕ
rounds w s zero = s
rounds w s (suc n) = add_round_key (round_key w (suc n)) (mix_columns (shift_rows (sub_bytes (rounds w s n))))

-- 5, table 3: the number of rounds for a key of `width` bytes
abbrev pub round_count : ℕ → ℕ
round_count width = width / 4 + 6

-- 5.1, algorithm 1: the cipher at a key width, under the round keys `w`; the last round has no MixColumns
unfoldable pub cipher : ℕ → List ℕ → List ℕ → List ℕ
cipher width w s =
    let Nr = round_count width in
    add_round_key (round_key w Nr) (shift_rows (sub_bytes (rounds w (add_round_key (round_key w 0) s) (Nr - 1))))
