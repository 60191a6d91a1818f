-- RFC 8452, section 3: the field of 2^128 elements, and its product `dot`.
-- Assumes nothing.
use Rattle.std.specs.Prelude.{List, ℕ, zero, suc, ◌+◌, ◌*◌, ◌/◌, ◌%◌, ◌^◌}
use Rattle.std.specs.Int.Bits.{bit_xor}
use Rattle.octets.specs.LittleEndian.{read_little_endian, little_endian}

-- an element is a number below 2^128 whose bit i is the coefficient of x^i; the sum of two is their `bit_xor`

-- a block as an element: bit 0 of byte 0 is the coefficient of x^0, bit 7 of byte 15 that of x^127
abbrev pub element : List ℕ → ℕ
element block = read_little_endian block

-- an element as a block
abbrev pub block_of : ℕ → List ℕ
block_of a = little_endian 16 a

-- the irreducible polynomial, x^128 + x^127 + x^126 + x^121 + 1
abbrev pub modulus : ℕ
modulus = 2 ^ 128 + 2 ^ 127 + 2 ^ 126 + 2 ^ 121 + 1

-- an element times x: where that has an x^128, the polynomial is taken off
unfoldable pub double : ℕ → ℕ
double a = bit_xor (a * 2) (a / 2 ^ 127 % 2 * modulus)

-- the products of b with the n lowest powers of x in a, added up
unfoldable pub products : ℕ → ℕ → ℕ → ℕ
products zero a b = 0
products (suc n) a b = bit_xor (a % 2 * b) (products n (a / 2) (double b))

-- the product of two elements
unfoldable pub mul : ℕ → ℕ → ℕ
mul a b = products 128 a b

-- x^-128 = x^127 + x^124 + x^121 + x^114 + 1
abbrev pub inverse128 : ℕ
inverse128 = 2 ^ 127 + 2 ^ 124 + 2 ^ 121 + 2 ^ 114 + 1

-- dot(a, b) = a * b * x^-128
unfoldable pub dot : ℕ → ℕ → ℕ
dot a b = mul (mul a b) inverse128
