-- Laws of the field and the S-box, each by one test that antt computes at every byte.
-- Assumes nothing.
use mathlib.Core.Path.{◌≡◌, refl}
use mathlib.Core.List.{List}
use mathlib.Core.Bool.{true, cond}
use Prim.Native.Nat.{ℕ, ◌*◌, ◌/◌, ◌%◌, ◌<◌}
use lib.Bits.{bit_xor, bit_and}
use lib.Dec.{eqb}
use lib.ListN.{get_or}
use Rattle.octets.proofs.Tests.{all, agree}
use Rattle.field.specs.Field.{sbox, IsSbox, inverse, squares, mul, products, xtimes}

-- a table that passes the test is the S-box
pub is_sbox : (table : List ℕ) → all (λ k. eqb (get_or table k 0) (sbox k)) 256 ≡ true → IsSbox table
is_sbox table e = record { rule = agree 256 (λ k. get_or table k 0) sbox e }

-- the top bit of a byte, and the others
pub top_bit : (b : ℕ) → b < 256 → bit_and b 128 ≡ b / 128 * 128
top_bit = agree 256 (λ k. bit_and k 128) (λ k. k / 128 * 128) refl

pub low_bits : (b : ℕ) → b < 256 → bit_xor b (bit_and b 128) ≡ b % 128
low_bits = agree 256 (λ k. bit_xor k (bit_and k 128)) (λ k. k % 128) refl

-- the code's way to double a byte
pub twice_mul : (b : ℕ) → b < 256 → bit_xor (b % 128 * 2) (b / 128 * 27) ≡ mul 2 b
unfolding mul products xtimes
twice_mul = agree 256 (λ k. bit_xor (k % 128 * 2) (k / 128 * 27)) (mul 2) refl

-- three times a byte is the byte and twice the byte
pub thrice_mul : (b : ℕ) → b < 256 → bit_xor b (mul 2 b) ≡ mul 3 b
unfolding mul products xtimes
thrice_mul = agree 256 (λ k. bit_xor k (mul 2 k)) (mul 3) refl

-- 4.4: a byte times its inverse is 01, for every byte but 00, whose inverse is 00
inverse-mul : (b : ℕ) → b < 256 → mul b (inverse b) ≡ cond (eqb b 0) 0 1
unfolding inverse squares mul products xtimes
inverse-mul = agree 256 (λ k. mul k (inverse k)) (λ k. cond (eqb k 0) 0 1) refl

inverse_zero : inverse 0 ≡ 0
unfolding inverse squares mul products xtimes
inverse_zero = refl
