-- FIPS 197, section 4: bytes as elements of the field of 256, and the S-box of section 5.1.1.
-- Assumes nothing.
use Rattle.std.specs.Prelude.{◌≡◌, List, cond, ℕ, zero, suc, ◌+◌, ◌*◌, ◌/◌, ◌%◌, ◌^◌, ◌<◌, ltb, eqb, get_or}
use Rattle.std.specs.Int.Bits.{bit_xor}

-- 4.1, addition: the sum of two bytes is their xor, `bit_xor`

-- 4.2, xTIMES: a byte times x, modulo x⁸ + x⁴ + x³ + x + 1, which is 11b
unfoldable pub xtimes : ℕ → ℕ
xtimes b = cond (ltb b 0x80) (2 * b) (bit_xor (2 * b) 0x11b)

-- the products of `b` with the n lowest powers of x in `a`, added up
unfoldable pub products : ℕ → ℕ → ℕ → ℕ
products zero a b = 0
products (suc n) a b = bit_xor (cond (eqb (a % 2) 1) b 0) (products n (a / 2) (xtimes b))

-- 4.2, multiplication: the product of two bytes
unfoldable pub mul : ℕ → ℕ → ℕ
unfolding products
mul a b = products 8 a b

-- the n-th power of a byte
unfoldable pub power : ℕ → ℕ → ℕ
power b zero = 1
power b (suc n) = mul b (power b n)

-- b² · b⁴ · b⁸ · .., n factors
unfoldable pub squares : ℕ → ℕ → ℕ
squares zero b = 1
squares (suc n) b = let q = mul b b in mul q (squares n q)

-- 4.4, the multiplicative inverse: the power 254 = 2 + 4 + 8 + 16 + 32 + 64 + 128; that of 00 is 00
unfoldable pub inverse : ℕ → ℕ
inverse b = squares 7 b

-- bit i of a byte, bit 0 the lowest
unfoldable pub bit : ℕ → ℕ → ℕ
bit b i = b / 2 ^ i % 2

-- the number whose bit i is `f i`, for the n lowest
unfoldable pub from_bits : (ℕ → ℕ) → ℕ → ℕ
from_bits f zero = 0
from_bits f (suc n) = from_bits f n + 2 ^ n * f n

-- 5.1.1, the affine step: bit i of the result is the sum of the byte's bits i, i + 4, i + 5, i + 6 and i + 7, modulo 8,
-- and of bit i of 63
unfoldable pub affine : ℕ → ℕ
affine b = from_bits (λ i. (bit b i + bit b ((i + 4) % 8) + bit b ((i + 5) % 8) + bit b ((i + 6) % 8) + bit b ((i + 7) % 8) + bit 0x63 i) % 2) 8

-- 5.1.1, the S-box
unfoldable pub sbox : ℕ → ℕ
sbox b = affine (inverse b)

-- the table holds the S-box
pub record IsSbox (table : List ℕ) : Type 0 where
  pub rule : (b : ℕ) → b < 256 → get_or table b 0 ≡ sbox b
