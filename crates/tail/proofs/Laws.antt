-- The chain over the blocks of two joined strings, and the lengths of a tail and of the blocks before it.
-- Assumes nothing.
use mathlib.Core.Path.{◌≡◌, ap, sym, ◌∙◌}
use mathlib.Core.List.{List, ◌++◌}
use Prim.Native.Nat.{ℕ, ◌+◌, ◌-◌, ◌*◌, ◌/◌, ◌%◌, ◌≤◌, ◌<◌}
use native.Mathlib.Decide.{dec_lt}
use native.Mathlib.Omega.{arith}
use lib.ListN.{length, take, drop, take-append-drop}
use lib.Seq.{drop-append-add, length-take-le}
use Rattle.octets.specs.Octets.{put, part}
use Rattle.std.proofs.lemmas.List.{take_rest}
use Rattle.cmac.specs.Cmac.{chain}
use Rattle.cmac.proofs.Laws.{chain_front, chain-add}
use Rattle.s2v.specs.S2v.{tail_length}
use Rattle.s2v.proofs.Laws.{Tail, tail, tail_short, tail_long}
use Rattle.tail.specs.Tail.{passed_blocks, leaving_blocks}

module _ (E : List ℕ → List ℕ) (c : List ℕ) where
  -- n blocks that were copied to the front of a string are chained as where they stood
  pub chain_copied : (l t : List ℕ) (n : ℕ) {s : List ℕ} → s ≡ put l 0 (part t 0 (16 * n)) → 16 * n ≤ length t → chain E c s n ≡ chain E c t n
  unfolding put
  chain_copied l t n e h =
      let front : List ℕ = take (16 * n) t in
      let long : 16 * n ≤ length front = omega (arith, length-take-le (16 * n) t h) in
      ap (λ (s : List ℕ). chain E c s n) e
      ∙ chain_front E c front (drop (0 + length front) l) n long
      ∙ sym (chain_front E c front (drop (16 * n) t) n long)
      ∙ ap (λ (s : List ℕ). chain E c s n) (take-append-drop (16 * n) t)

  -- behind two blocks, in which the first string ends, the chain goes on over `&b[32 - length a..]`
  pub chain_behind : (a b : List ℕ) (n : ℕ) {d : List ℕ} → length a ≤ 32 → 2 ≤ n → d ≡ chain E c (a ++ b) 2
      → chain E d (take (length b - (32 - length a)) (drop (32 - length a) b)) (n - 2) ≡ chain E c (a ++ b) n
  chain_behind a b n short more e =
      let count : 2 + (n - 2) ≡ n = omega arith in
      let place : length a + (32 - length a) ≡ 32 = omega arith in
      let rest : drop 32 (a ++ b) ≡ drop (32 - length a) b = ap (λ (k : ℕ). drop k (a ++ b)) (sym place) ∙ drop-append-add a b (32 - length a) in
      ap (λ (l : List ℕ). chain E l (take (length b - (32 - length a)) (drop (32 - length a) b)) (n - 2)) e
      ∙ ap (λ (l : List ℕ). chain E (chain E c (a ++ b) 2) l (n - 2)) (take_rest b (32 - length a) ∙ sym rest)
      ∙ sym (chain-add E c (a ++ b) 2 (n - 2))
      ∙ ap (chain E c (a ++ b)) count

-- ---- the tail

-- blocks before the tail, and the tail, are the whole
pub record Cut (n : ℕ) : Type 0 where
  pub blocks : 16 * passed_blocks n + tail_length n ≡ n
  pub short : tail_length n < 32

pub cut : (n : ℕ) → Cut n
unfolding passed_blocks
cut n = let t : Tail n = tail n in record { blocks = omega arith; short = t.short }

-- a longer string has as many blocks before its tail, or more
pub passed_more : (n m : ℕ) → passed_blocks n ≤ passed_blocks (n + m)
unfolding passed_blocks
passed_more n m = go (dec_lt n 16) (dec_lt (n + m) 16)
  where
    go : Dec (n < 16) → Dec (n + m < 16) → (n - tail_length n) / 16 ≤ (n + m - tail_length (n + m)) / 16
    go (yes h) k = let e : tail_length n ≡ n = tail_short n h in omega arith
    go (no h) k =
        let e : tail_length n ≡ 16 + n % 16 = tail_long n (omega arith) in
        let f : tail_length (n + m) ≡ 16 + (n + m) % 16 = tail_long (n + m) (omega arith) in
        omega arith

-- what a piece leaves of a tail and puts into the chain, in numbers
pub record Piece (total n : ℕ) : Type 0 where
  pub count : 16 * leaving_blocks total n + tail_length (total + n) ≡ tail_length total + n
  pub used : tail_length total ≤ 31
  pub left : tail_length (total + n) < 32

pub piece : (total n : ℕ) → Piece total n
piece total n =
    let a : Cut total = cut total in
    let b : Cut (total + n) = cut (total + n) in
    let h : passed_blocks total ≤ passed_blocks (total + n) = passed_more total n in
    record { count = omega arith; used = omega arith; left = b.short }
