-- RFC 8452: POLYVAL, section 3, and what AES-GCM-SIV gives to it, section 4.
-- Assumes nothing.
use Rattle.std.specs.Prelude.{List, [], ◌∷◌, ◌++◌, ℕ, zero, suc, ◌+◌, ◌-◌, ◌*◌, ◌/◌, length, take, drop, replicate}
use Rattle.std.specs.Int.Bits.{bit_xor}
use Rattle.octets.specs.LittleEndian.{little_endian}
use Rattle.gf128.specs.Field.{element, block_of, dot}

-- S_j = dot(S_{j-1} + X_j, H), from S_0 = s on
unfoldable pub polyval_from : ℕ → ℕ → List ℕ → ℕ
polyval_from h s [] = s
polyval_from h s (x ∷ xs) = polyval_from h (dot (bit_xor s x) h) xs

-- POLYVAL(H, X_1, .., X_s) = S_s, from S_0 = 0
unfoldable pub polyval : ℕ → List ℕ → ℕ
polyval h xs = polyval_from h 0 xs

-- the first n blocks of a string, as elements
unfoldable pub elements : ℕ → List ℕ → List ℕ
elements zero s = []
elements (suc n) s = element (take 16 s) ∷ elements n (drop 16 s)

-- section 4: a string with zeros behind it, up to a multiple of 16 bytes
unfoldable pub padded : List ℕ → List ℕ
padded s = s ++ replicate (16 * ((length s + 15) / 16) - length s) 0

-- section 4, the length block: the lengths in bits, each as 64 bits, little-endian
abbrev pub length_block : List ℕ → List ℕ → List ℕ
length_block ad p = little_endian 8 (length ad * 8) ++ little_endian 8 (length p * 8)

-- section 4, S_s: POLYVAL under a key, over the padded associated data, the padded plaintext and the length block
unfoldable pub polyval_hash : List ℕ → List ℕ → List ℕ → List ℕ
polyval_hash key ad p =
    let x = padded ad ++ padded p ++ length_block ad p in
    block_of (polyval (element key) (elements (length x / 16) x))
