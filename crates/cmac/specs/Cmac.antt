-- CMAC with a 16-byte tag, SP 800-38B, over any block function E;
-- beside what calls E stands its work, the number of these calls.
-- Assumes nothing.
use Rattle.std.specs.Prelude.{◌≡◌, cond, List, [], ◌∷◌, ◌++◌, ℕ, zero, suc, ◌+◌, ◌-◌, ◌*◌, ◌/◌, ◌%◌, ltb, eqb, length, get_or, drop, replicate}
use Rattle.octets.specs.Octets.{xors, part}
use Rattle.aes.specs.declared.Counted.{Counted}
use Rattle.aes.specs.Work.{Reports}
use Rattle.cmac.specs.declared.Subkeys.{Subkeys}

-- 16 zeros
abbrev pub zeros : List ℕ
zeros = replicate 16 0

-- 4.1: a string moved left by one bit, the bit that falls out lost
unfoldable pub shifted : List ℕ → List ℕ
shifted [] = []
shifted (b ∷ []) = (2 * b % 256) ∷ []
shifted (b ∷ (c ∷ l)) = (2 * b % 256 + c / 128) ∷ shifted (c ∷ l)

-- 5.3, R for blocks of 128 bits: fifteen zeros, then 87
abbrev pub R : List ℕ
R = replicate 15 0 ++ (0x87 ∷ [])

-- 6.1, and RFC 5297 2.3, dbl: a block doubled
unfoldable pub double : List ℕ → List ℕ
double b = cond (ltb (get_or b 0 0) 128) (shifted b) (xors (shifted b) R)

-- 6.1, subkey generation: K1 is L doubled, K2 is K1 doubled
unfoldable pub subkeys : List ℕ → Subkeys
subkeys l = record { k1 = double l; k2 = double (double l) }

-- 6.2, step 4: a short string, one byte 80, then zeros
unfoldable pub pad : List ℕ → List ℕ
pad s = s ++ (0x80 ∷ replicate (15 - length s) 0)

-- rule 5.4, at all lengths: s and then 80, xored into the front of c, give what xoring the padded s gives
abbrev pub PaddingFolds : Type 0
PaddingFolds = (c s : List ℕ) → xors c (s ++ (0x80 ∷ [])) ≡ xors c (pad s)

-- 6.2, step 4: the last block, whole or short, as it enters the chain
unfoldable pub last_block : Subkeys → List ℕ → List ℕ
last_block k s = cond (eqb (length s) 16) (xors s k.k1) (xors (pad s) k.k2)

-- how many blocks stand before the last one; an empty string has one block
abbrev pub blocks_before : ℕ → ℕ
blocks_before n = (n - 1) / 16

-- 6.1, step 1: L is the cipher of the zero block
abbrev pub zero_cipher : (List ℕ → List ℕ) → List ℕ
zero_cipher E = E zeros

abbrev pub zero_cipher_work : ℕ
zero_cipher_work = 1

-- 6.2, steps 5 and 6: the chain from c over the first n blocks of s
unfoldable pub chain : (List ℕ → List ℕ) → List ℕ → List ℕ → ℕ → List ℕ
chain E c s zero = c
chain E c s (suc n) = E (xors (chain E c s n) (part s (16 * n) 16))

unfoldable pub chain_work : ℕ → ℕ
chain_work zero = 0
chain_work (suc n) = chain_work n + 1

-- 6.2: CMAC of what was chained to c and then of s
unfoldable pub cmac_from : (List ℕ → List ℕ) → Subkeys → List ℕ → List ℕ → List ℕ
cmac_from E k c s =
    let n = blocks_before (length s) in
    E (xors (chain E c s n) (last_block k (drop (16 * n) s)))

unfoldable pub cmac_work : List ℕ → ℕ
cmac_work s = chain_work (blocks_before (length s)) + 1

-- r is that CMAC, made with that work
abbrev pub IsCmacFrom : (List ℕ → List ℕ) → Subkeys → List ℕ → List ℕ → Counted → Type 0
IsCmacFrom E k c s r = Reports (cmac_from E k c s) (cmac_work s) r

-- 6.2: CMAC of a string under the subkeys, with a 16-byte tag; its work is the same, `cmac_work`
abbrev pub cmac : (List ℕ → List ℕ) → Subkeys → List ℕ → List ℕ
cmac E k s = cmac_from E k zeros s
