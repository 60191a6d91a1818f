-- Numbers and their bytes: std's conversions are RFC 5297's.
-- Assumes nothing.
use Rattle.std.proofs.Common.{◌≡◌, ℕ, zero, suc, ◌+◌, ◌*◌, ◌/◌, ◌%◌, ◌^◌, ◌<◌, List, ◌∷◌, length, sym, refl, ap, ◌∙◌, ap₂, mod-lt, pow-suc, div-one, arith, pow-add}
use native.Mathlib.Nat.{one-le-pow}
use lib.Arith.{digits_div, digits_mod, mod-mul}
use Rattle.std.specs.Int.{w128, from_be_bytes, to_be_bytes}
use Rattle.octets.specs.Octets.{entries}
use Rattle.octets.proofs.Strings.{entries_all}
use Rattle.counter.specs.Counter.{number, bytes_of_number, counter_block}

-- ---- powers of 256

pow_pos : (n : ℕ) → 0 < 256 ^ n
pow_pos n = one-le-pow n 256 (omega arith)

-- the quotient of a remainder
mod-div : (x m c : ℕ) → 0 < m → 0 < c → x % (m * c) / c ≡ x / c % m
mod-div x m c hm hc = ap (λ (y : ℕ). y / c) (mod-mul x hm hc) ∙ digits_div (x / c % m) (mod-lt x hc)

-- the remainder of a remainder
mod_low : (x k : ℕ) → 0 < k → x % (k * 256) % 256 ≡ x % 256
mod_low x k h = ap (λ (y : ℕ). y % 256) (mod-mul x h (omega arith)) ∙ digits_mod (x / 256 % k) (mod-lt x (omega arith))

-- ---- the bytes of a number

-- n bytes depend on nothing but what is left modulo 256^m, for m of n or more
pub bytes_mod : (n d x : ℕ) → bytes_of_number n (x % 256 ^ (n + d)) ≡ bytes_of_number n x
bytes_mod zero d x = refl
bytes_mod (suc n) d x =
    let turned : suc n + d ≡ suc d + n = omega arith in
    let rest : suc n + d ≡ n + suc d = omega arith in
    let power : 256 ^ (suc n + d) ≡ 256 ^ d * 256 * 256 ^ n =
    ap (λ (m : ℕ). 256 ^ m) turned ∙ pow-add 256 (suc d) n ∙ ap (λ (m : ℕ). m * 256 ^ n) (pow-suc 256 d) in
    ap₂ (λ (b : ℕ) (t : List ℕ). b ∷ t)
    (ap (λ (m : ℕ). x % m / 256 ^ n % 256) power
    ∙ ap (λ (y : ℕ). y % 256) (mod-div x (256 ^ d * 256) (256 ^ n) (omega (arith, pow_pos d)) (pow_pos n))
    ∙ mod_low (x / 256 ^ n) (256 ^ d) (pow_pos d))
    (ap (λ (m : ℕ). bytes_of_number n (x % 256 ^ m)) rest ∙ bytes_mod n (suc d) x)

-- ---- a block

pub be_bytes : (x : ℕ) → to_be_bytes w128 x ≡ bytes_of_number 16 x
be_bytes x = simp div-one

pub from_bytes : (q : List ℕ) → length q ≡ 16 → from_be_bytes w128 q ≡ number q
from_bytes q h =
    let split : number (entries 16 0 q) ≡ number q = ap number (ap (λ (n : ℕ). entries n 0 q) (sym h) ∙ entries_all q) in
    omega (arith, split)

-- Q + i, the number of Q being m
pub sum_block : (q : List ℕ) (i m n : ℕ) → length q ≡ 16 → m ≡ from_be_bytes w128 q → n ≡ i → to_be_bytes w128 ((m + n) % 2 ^ 128) ≡ counter_block q i
unfolding counter_block
sum_block q i m n h e f =
    be_bytes ((m + n) % 2 ^ 128) ∙ bytes_mod 16 0 (m + n) ∙ ap₂ (λ (a b : ℕ). bytes_of_number 16 (a + b)) (e ∙ from_bytes q h) f
