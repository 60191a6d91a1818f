-- A block moved left by one bit, through the number that it stands for.
-- Assumes nothing.
use Rattle.std.proofs.Common.{◌≡◌, ℕ, zero, suc, ◌+◌, ◌*◌, ◌/◌, ◌%◌, ◌^◌, ◌<◌, List, [], ◌∷◌, length, get_or, refl, ap, ap₂, ◌∙◌, arith, pow-suc}
use lib.Arith.{digits_div, digits_mod}
use Rattle.std.specs.Int.{w128, from_be_bytes, to_be_bytes}
use Rattle.counter.specs.Counter.{number, bytes_of_number}
use Rattle.counter.proofs.Numbers.{be_bytes, bytes_mod, from_bytes}
use Rattle.cmac.specs.Cmac.{shifted}

-- each is a byte
abbrev Bytes : List ℕ → Type 0
Bytes l = (i : ℕ) → get_or l i 0 < 256

digit_lt : (b r p : ℕ) → b < 256 → r < p → b * p + r < p * 256
digit_lt b r p hb hr = grind arith

number_lt : (l : List ℕ) → Bytes l → number l < 256 ^ length l
number_lt [] h = omega arith
number_lt (b ∷ l) h = rw pow-suc (digit_lt b (number l) (256 ^ length l) (h 0) (number_lt l (λ i. h (suc i))))

-- the lowest bytes of a number
lowest : (l : List ℕ) (q : ℕ) → Bytes l → bytes_of_number (length l) (q * 256 ^ length l + number l) ≡ l
lowest [] q h = refl
lowest (b ∷ l) q h =
    let turned : q * 256 ^ suc (length l) + (b * 256 ^ length l + number l) ≡ (q * 256 + b) * 256 ^ length l + number l = rw pow-suc (grind arith) in
    let small : Bytes l = λ i. h (suc i) in
    ap (bytes_of_number (suc (length l))) turned
    ∙ ap₂ (λ (x : ℕ) (t : List ℕ). x ∷ t)
    (ap (λ (n : ℕ). n % 256) (digits_div (q * 256 + b) (number_lt l small)) ∙ digits_mod q (h 0))
    (lowest l (q * 256 + b) small)

-- ---- the bytes moved

pub length-shifted : (b : List ℕ) → length (shifted b) ≡ length b
unfolding shifted
length-shifted [] = refl
length-shifted (b ∷ []) = refl
length-shifted (b ∷ (c ∷ l)) = ap suc (length-shifted (c ∷ l))

bytes_shifted : (l : List ℕ) → Bytes l → Bytes (shifted l)
unfolding shifted
bytes_shifted [] h i = omega arith
bytes_shifted (b ∷ []) h zero = omega arith
bytes_shifted (b ∷ []) h (suc i) = omega arith
bytes_shifted (b ∷ (c ∷ l)) h zero = omega (arith, h 1)
bytes_shifted (b ∷ (c ∷ l)) h (suc i) = bytes_shifted (c ∷ l) (λ j. h (suc j)) i

-- a byte more in front, where the top bit of what is behind it goes into it
carried : (b p n s t u v : ℕ) → 2 * b ≡ t * 256 + u → n * 2 ≡ v * p + s → (b * p + n) * 2 ≡ t * (p * 256) + ((u + v) * p + s)
carried b p n s t u v e f = let scaled : 2 * b * p ≡ (t * 256 + u) * p = ap (λ (x : ℕ). x * p) e in grind arith

-- twice a number: the top bit falls out
doubled : (l : List ℕ) → number l * 2 ≡ get_or l 0 0 / 128 * 256 ^ length l + number (shifted l)
unfolding shifted
doubled [] = refl
doubled (b ∷ []) = omega arith
doubled (b ∷ (c ∷ l)) =
    rw (pow-suc 256 (length (c ∷ l)), length-shifted (c ∷ l)) (carried b _ _ _ (b / 128) (2 * b % 256) (c / 128) (omega arith) (doubled (c ∷ l)))

pub shifted_block : (b : List ℕ) (n : ℕ) {r : List ℕ} → length b ≡ 16 → ((i : ℕ) → get_or b i 0 < 256) → n ≡ from_be_bytes w128 b
    → r ≡ to_be_bytes w128 (n * 2 % 2 ^ 128) → r ≡ shifted b
shifted_block b n long h e f =
    let out : length (shifted b) ≡ 16 = length-shifted b ∙ long in
    let twice : n * 2 ≡ get_or b 0 0 / 128 * 256 ^ 16 + number (shifted b) = ap (λ (x : ℕ). x * 2) (e ∙ from_bytes b long) ∙ (rw long at (doubled b)) in
    f
    ∙ be_bytes (n * 2 % 2 ^ 128)
    ∙ bytes_mod 16 0 (n * 2)
    ∙ ap (bytes_of_number 16) twice
    ∙ rw out at (lowest (shifted b) (get_or b 0 0 / 128) (bytes_shifted b h))
