-- Laws of `total`, `strings` and `blocks_of_all`: joined lists of lengths, one string more, a loop over the lengths.
-- Assumes nothing.
use mathlib.Core.Path.{◌≡◌, refl, ap, ap₂, ◌∙◌}
use mathlib.Core.List.{List, [], ◌∷◌, ◌++◌}
use Prim.Native.Nat.{ℕ, suc, ◌+◌, ◌*◌, ◌^◌, ◌≤◌, ◌<◌}
use native.Mathlib.Numerals.{add-one}
use native.Mathlib.Omega.{arith}
use lib.ListN.{length, take, drop, get_or, take-append-drop}
use lib.Seq.{take-suc, take-take, drop-drop}
use Rattle.std.proofs.lemmas.List.{drop-take}
use Rattle.std.specs.List.{sum_by}
use Rattle.std.proofs.lemmas.Grind.{common_steps}
use Rattle.header.specs.Header.{total, strings}
use Rattle.header.specs.Blocks.{blocks_of, blocks_of_all}

-- the sum of joined lists
pub total-append : (a b : List ℕ) → total (a ++ b) ≡ total a + total b
unfolding total
total-append [] b = omega arith
total-append (n ∷ a) b = let rest : total (a ++ b) ≡ total a + total b = total-append a b in omega arith

-- the strings of joined lists: the second list's begin where the first list's end
pub strings-append : (bytes a b : List ℕ) → strings bytes (a ++ b) ≡ strings bytes a ++ strings (drop (total a) bytes) b
unfolding strings total
strings-append bytes [] b = refl
strings-append bytes (n ∷ a) b =
    ap (λ (l : List (List ℕ)). take n bytes ∷ l)
    (strings-append (drop n bytes) a b
    ∙ ap (λ (l : List ℕ). strings (drop n bytes) a ++ strings l b) (drop-drop (total a) n bytes))

-- a string for each length
pub length-strings : (bytes lens : List ℕ) → length (strings bytes lens) ≡ length lens
unfolding strings
length-strings bytes [] = refl
length-strings bytes (n ∷ lens) = ap suc (length-strings (drop n bytes) lens)

-- the strings are found in as many bytes as they have
pub strings_within : (bytes lens : List ℕ) → strings (take (total lens) bytes) lens ≡ strings bytes lens
unfolding strings total
strings_within bytes [] = refl
strings_within bytes (n ∷ lens) =
    ap₂ (λ (s : List ℕ) (l : List (List ℕ)). s ∷ l) (take-take n (n + total lens) bytes (omega arith))
    (ap (λ (l : List ℕ). strings l lens) (drop-take n (total lens) bytes) ∙ strings_within (drop n bytes) lens)

-- a front of the lengths sums to no more than all
pub total-take : (lens : List ℕ) (i : ℕ) → total (take i lens) ≤ total lens
total-take lens i =
    let sum : total (take i lens ++ drop i lens) ≡ total (take i lens) + total (drop i lens) = total-append (take i lens) (drop i lens) in
    let all : total (take i lens ++ drop i lens) ≡ total lens = ap total (take-append-drop i lens) in
    omega arith

-- one length more in front
module _ (lens : List ℕ) (i : ℕ) (h : i < length lens) where
  pub total_more : total (take (i + 1) lens) ≡ total (take i lens) + get_or lens i 0
  unfolding total
  total_more = rw (add-one, take-suc lens i 0, total-append) (omega arith)

  pub strings_more : (bytes : List ℕ)
      → strings bytes (take (i + 1) lens) ≡ strings bytes (take i lens) ++ (take (get_or lens i 0) (drop (total (take i lens)) bytes) ∷ [])
  unfolding strings
  strings_more bytes = rw (add-one, take-suc lens i 0) (strings-append bytes (take i lens) (get_or lens i 0 ∷ []))

  -- the string at i lies within the sum of all lengths
  pub total_next : total (take i lens) + get_or lens i 0 ≤ total lens
  total_next = omega (arith, total_more, total-take lens (i + 1))

-- ---- blocks

-- a header string has a block at the most for every 16 bytes, and one
pub blocks_most : (lens : List ℕ) → 16 * blocks_of_all lens ≤ 16 * length lens + total lens
unfolding blocks_of_all total
blocks_most [] = omega arith
blocks_most (n ∷ lens) = omega (arith, blocks_most lens)

pub blocks-append : (a b : List ℕ) → blocks_of_all (a ++ b) ≡ blocks_of_all a + blocks_of_all b
unfolding blocks_of_all
blocks-append [] b = omega arith
blocks-append (n ∷ a) b = omega (arith, blocks-append a b)

pub blocks_sum : (lens : List ℕ) → sum_by blocks_of lens ≡ blocks_of_all lens
unfolding blocks_of_all
blocks_sum [] = refl
blocks_sum (n ∷ lens) = grind (arith, common_steps, blocks_sum lens)

pub blocks_small : (lens : List ℕ) → ((i : ℕ) → get_or lens i 0 < 2 ^ 32) → blocks_of_all lens ≤ length lens * 2 ^ 28
unfolding blocks_of_all
blocks_small [] h = omega arith
blocks_small (n ∷ lens) h = omega (arith, h 0, blocks_small lens (λ i. h (suc i)))
