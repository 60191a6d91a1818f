-- FIPS 197, section 5.2: the key expansion, by words over Nk.
-- Assumes nothing.
use Rattle.std.specs.Prelude.{◌≡◌, cond, ◌&&◌, List, [], ◌∷◌, ◌++◌, map, ℕ, zero, suc, ◌+◌, ◌-◌, ◌*◌, ◌/◌, ◌%◌, ◌<◌, ltb, eqb, get_or, length, replicate}
use Rattle.octets.specs.Octets.{xors, put}
use Rattle.field.specs.Field.{power, sbox}

-- word i of a string
abbrev pub word : List ℕ → ℕ → List ℕ
word w i = get_or w (4 * i) 0 ∷ get_or w (4 * i + 1) 0 ∷ get_or w (4 * i + 2) 0 ∷ get_or w (4 * i + 3) 0 ∷ []

-- 5.2, RotWord
abbrev rot_word : List ℕ → List ℕ
rot_word a = get_or a 1 0 ∷ get_or a 2 0 ∷ get_or a 3 0 ∷ get_or a 0 0 ∷ []

-- 5.2, SubWord
abbrev sub_word : List ℕ → List ℕ
sub_word a = map sbox a

-- 5.2, table 5, Rcon[j]
abbrev rcon : ℕ → List ℕ
rcon j = power 2 (j - 1) ∷ 0 ∷ 0 ∷ 0 ∷ []

-- 5.2, table 5: a table holds the first bytes of Rcon[1] to Rcon[10]
pub record Powers (table : List ℕ) : Type 0 where
  pub rule : (n : ℕ) → n < 10 → get_or table n 0 ≡ power 2 n

-- 5.2, algorithm 2: what word i of the key schedule adds to word i - Nk, made from the word before it
unfoldable pub temp : ℕ → ℕ → List ℕ → List ℕ
temp Nk i before =
    cond (eqb (i % Nk) 0) (xors (sub_word (rot_word before)) (rcon (i / Nk)))
    (cond (ltb 6 Nk && eqb (i % Nk) 4) (sub_word before) before)

-- 5.2, algorithm 2: word i of the key schedule, from the words before it
unfoldable pub next_word : ℕ → ℕ → List ℕ → List ℕ
next_word Nk i w = xors (word w (i - Nk)) (temp Nk i (word w (i - 1)))

-- 5.2, algorithm 2: the key and n words more
unfoldable pub schedule : ℕ → List ℕ → ℕ → List ℕ
schedule Nk key zero = key
schedule Nk key (suc n) = schedule Nk key n ++ next_word Nk (Nk + n) (schedule Nk key n)

-- 5.2, algorithm 2: Nk is the key's length in words, and there are four words for each of the Nk + 7 round keys
unfoldable pub key_expansion : List ℕ → List ℕ
key_expansion key = schedule (length key / 4) key (4 * (length key / 4 + 7) - length key / 4)

-- the key expansion in 240 bytes, those past the width's own rounds zero
unfoldable pub round_keys : List ℕ → List ℕ
round_keys key = put (replicate 240 0) 0 (key_expansion key)
