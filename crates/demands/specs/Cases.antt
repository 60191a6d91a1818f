-- Twelve worked cases of the written definitions, rule 2.6, as one statement.
-- Assumes nothing.
use Rattle.std.specs.Prelude.{◌≡◌, List, [], ◌∷◌, ◌++◌, map, ℕ, replicate}
use Rattle.field.specs.Field.{mul, sbox}
use Rattle.cmac.specs.Cmac.{double, pad}
use Rattle.s2v.specs.S2v.{xorend, tail_length}
use Rattle.counter.specs.Counter.{initial_counter, counter_block}

-- n times a byte
abbrev times : ℕ → ℕ → List ℕ
times n b = replicate n b

pub record Cases : Type 0 where
  pub case1 : double (times 16 0x00) ≡ times 16 0x00
  pub case2 : double (times 15 0x00 ++ (0x01 ∷ [])) ≡ times 15 0x00 ++ (0x02 ∷ [])
  pub case3 : double (0x80 ∷ times 15 0x00) ≡ times 15 0x00 ++ (0x87 ∷ [])
  pub case4 : double (0xc0 ∷ times 15 0x00) ≡ 0x80 ∷ (times 14 0x00 ++ (0x87 ∷ []))
  pub case5 : pad [] ≡ 0x80 ∷ times 15 0x00
  pub case6 : pad (times 15 0x11) ≡ times 15 0x11 ++ (0x80 ∷ [])
  pub case7 : xorend (times 17 0x00) (times 16 0xff) ≡ 0x00 ∷ times 16 0xff
  pub case8 : initial_counter (times 16 0xff) ≡ times 8 0xff ++ (0x7f ∷ 0xff ∷ 0xff ∷ 0xff ∷ 0x7f ∷ 0xff ∷ 0xff ∷ 0xff ∷ [])
  pub case9 : counter_block (times 14 0x00 ++ (0xff ∷ 0xff ∷ [])) 1 ≡ times 13 0x00 ++ (0x01 ∷ 0x00 ∷ 0x00 ∷ [])
  pub case10 : (sbox 0x00 ≡ 0x63) × (sbox 0x53 ≡ 0xed)
  pub case11 : mul 0x57 0x83 ≡ 0xc1
  pub case12 : map tail_length (15 ∷ 16 ∷ 31 ∷ 32 ∷ 47 ∷ 48 ∷ []) ≡ 15 ∷ 16 ∷ 31 ∷ 16 ∷ 31 ∷ 16 ∷ []
