-- Laws of S2V, over any block function E.
-- Assumes nothing.
use mathlib.Core.Path.{◌≡◌, refl, ap, ap₂, sym, ◌∙◌}
use mathlib.Core.List.{List, [], ◌∷◌, ◌++◌, append_assoc}
use Prim.Native.Nat.{ℕ, ◌+◌, ◌-◌, ◌*◌, ◌/◌, ◌%◌, ◌≤◌, ◌<◌, ◌^◌}
use native.Mathlib.Decide.{dec_lt}
use native.Mathlib.Omega.{arith}
use lib.ListN.{length, get_or, take, drop, length-append, length-take, length-drop, take-append-drop}
use lib.Seq.{take-append-le, length-take-le, take-append-add, drop-append-add}
use borrow.Author.Tests.{lt-ltb, le-ltb}
use Rattle.octets.specs.Octets.{xors, put, part}
use Rattle.octets.proofs.Strings.{length-xors, length-put, take_put}
use Rattle.aes.specs.declared.Counted.{Counted}
use Rattle.aes.specs.Work.{Reports}
use Rattle.cmac.specs.declared.Subkeys.{Subkeys}
use Rattle.cmac.specs.Cmac.{zeros, double, pad, blocks_before, chain, chain_work, cmac_from, cmac_work, cmac}
use Rattle.cmac.proofs.Laws.{length-double, chain_work_lem, cmac_work_lem, chain_front, cmac_split}
use Rattle.header.specs.Header.{total, strings}
use Rattle.header.proofs.Laws.{total-take, strings_more}
use Rattle.s2v.specs.S2v.{absorb_one, xorend, last_string, tail_length, absorb_strings, absorb_work, IsAbsorbed, header_result, tag_from, tag_from_work, tag}

-- ---- the tail

pub tail_short : (n : ℕ) → n < 16 → tail_length n ≡ n
unfolding tail_length
tail_short n h = simp (lt-ltb n 16 h)

pub tail_long : (n : ℕ) → 16 ≤ n → tail_length n ≡ 16 + n % 16
unfolding tail_length
tail_long n h = simp (le-ltb n 16 h)

-- a tail is shorter than 32 bytes, and whole blocks stand before it
pub record Tail (n : ℕ) : Type 0 where
  pub most : tail_length n ≤ n
  pub short : tail_length n < 32
  pub blocks : 16 * ((n - tail_length n) / 16) ≡ n - tail_length n

pub tail : (n : ℕ) → Tail n
tail n = go (dec_lt n 16)
  where
    go : Dec (n < 16) → Tail n
    go (yes h) = let e : tail_length n ≡ n = tail_short n h in omega arith
    go (no h) = let e : tail_length n ≡ 16 + n % 16 = tail_long n (omega arith) in omega arith

pub tail_lt : (n : ℕ) → tail_length n < 32
tail_lt n = (tail n).short

-- the blocks before the tail and those before the tail's last are those before the whole's last
pub tail_blocks : (n : ℕ) → (n - tail_length n) / 16 + blocks_before (tail_length n) ≡ blocks_before n
tail_blocks n = go (dec_lt n 16)
  where
    go : Dec (n < 16) → (n - tail_length n) / 16 + blocks_before (tail_length n) ≡ blocks_before n
    go (yes h) = let e : tail_length n ≡ n = tail_short n h in omega arith
    go (no h) = let e : tail_length n ≡ 16 + n % 16 = tail_long n (omega arith) in omega arith

-- ---- xor at the end

-- what stands before the last 16 bytes is left alone
xorend-append : (a q d : List ℕ) → 16 ≤ length q → xorend (a ++ q) d ≡ a ++ xorend q d
unfolding xorend
xorend-append a q d h =
    let place : length (a ++ q) - 16 ≡ length a + (length q - 16) = simp length-append (omega arith) in
    ap (λ (n : ℕ). take n (a ++ q) ++ xors (drop n (a ++ q)) d) place
    ∙ ap₂ (λ (x y : List ℕ). x ++ xors y d) (take-append-add a q (length q - 16)) (drop-append-add a q (length q - 16))
    ∙ append_assoc a (take (length q - 16) q) (xors (drop (length q - 16) q) d)

length-xorend : (q d : List ℕ) → length (xorend q d) ≡ length q
unfolding xorend
length-xorend q d =
    length-append (take (length q - 16) q) (xors (drop (length q - 16) q) d)
    ∙ omega (arith, length-take-le (length q - 16) q (omega arith), length-xors (drop (length q - 16) q) d, length-drop (length q - 16) q)

front : (z p : List ℕ) (n : ℕ) → n ≤ length p → take n (put z 0 p) ≡ take n p
unfolding put
front z p n h = take-append-le n p (drop (0 + length p) z) h

-- the code's way: p copied to the front of a buffer, and its last 16 bytes written again with d xored in
pub xorend_buffer : (z p d : List ℕ) (at : ℕ) → at + 16 ≡ length p → length p ≤ length z → take (length p) (put (put z 0 p) at (xors (drop at p) d)) ≡ xorend p d
unfolding xorend
xorend_buffer z p d at e h =
    let rest : at + length (xors (drop at p) d) ≡ length p = omega (arith, length-xors (drop at p) d, length-drop at p) in
    let fits : at + length (xors (drop at p) d) ≤ length (put z 0 p) = omega (arith, length-put z 0 p (omega arith)) in
    let place : at ≡ length p - 16 = omega arith in
    ap (λ (n : ℕ). take n (put (put z 0 p) at (xors (drop at p) d))) (sym rest)
    ∙ take_put (put z 0 p) at (xors (drop at p) d) fits
    ∙ ap (λ (l : List ℕ). l ++ xors (drop at p) d) (front z p at (omega arith))
    ∙ ap (λ (n : ℕ). take n p ++ xors (drop n p) d) place

last_long : (d p : List ℕ) → 16 ≤ length p → last_string d p ≡ xorend p d
unfolding last_string
last_long d p h = simp (le-ltb (length p) 16 h)

-- ---- the tag from the tail

module _ (E : List ℕ → List ℕ) (k : Subkeys) (d : List ℕ) where
  -- whole blocks before an end of 16 bytes or more go into the chain first
  tag_split : (a q : List ℕ) (n : ℕ) → length a ≡ 16 * n → 16 ≤ length q → tag E k d (a ++ q) ≡ tag_from E k d (chain E zeros a n) q
  unfolding tag tag_from
  tag_split a q n e h =
      ap (cmac_from E k zeros) (last_long d (a ++ q) (simp length-append (omega arith)) ∙ xorend-append a q d h)
      ∙ cmac_split E k zeros a (xorend q d) n e (omega (arith, length-xorend q d))
      ∙ ap (cmac_from E k (chain E zeros a n)) (sym (last_long d q h))

  -- the tag, by the chain over the blocks before the tail and by the tail
  pub tag_tail : (p : List ℕ) (at : ℕ) → at ≡ length p - tail_length (length p) → tag E k d p ≡ tag_from E k d (chain E zeros p (at / 16)) (drop at p)
  unfolding tag chain
  tag_tail p at e = go (dec_lt (length p) 16)
    where
      long : 16 ≤ length p → tag E k d p ≡ tag_from E k d (chain E zeros p (at / 16)) (drop at p)
      long h =
          let t : Tail (length p) = tail (length p) in
          let tailed : tail_length (length p) ≡ 16 + length p % 16 = tail_long (length p) h in
          let front : length (take at p) ≡ 16 * (at / 16) = length-take-le at p (omega arith) ∙ omega arith in
          let joined : take at p ++ drop at p ≡ p = take-append-drop at p in
          ap (tag E k d) (sym joined)
          ∙ tag_split (take at p) (drop at p) (at / 16) front (simp length-drop (omega arith))
          ∙ ap (λ (c : List ℕ). tag_from E k d c (drop at p))
          (sym (chain_front E zeros (take at p) (drop at p) (at / 16) (omega arith)) ∙ ap (λ (l : List ℕ). chain E zeros l (at / 16)) joined)

      go : Dec (length p < 16) → tag E k d p ≡ tag_from E k d (chain E zeros p (at / 16)) (drop at p)
      go (yes h) =
          let tailed : tail_length (length p) ≡ length p = tail_short (length p) h in
          let front : 0 ≡ at = omega arith in
          ap (λ (n : ℕ). tag_from E k d (chain E zeros p (n / 16)) (drop n p)) front
      go (no h) = long (omega arith)

-- a plaintext has one block more than stand before its last, and so has what the tag is the CMAC of
pub tag_work : (d p : List ℕ) → length d ≡ 16 → tag_from_work d p ≡ blocks_before (length p) + 1
unfolding tag_from_work last_string
tag_work d p e = cmac_work_lem (last_string d p) ∙ go (dec_lt (length p) 16)
  where
    go : Dec (length p < 16) → blocks_before (length (last_string d p)) + 1 ≡ blocks_before (length p) + 1
    go (yes h) = simp (lt-ltb (length p) 16 h) (omega (arith, length-xors (double d) (pad p), length-double d))
    go (no h) = simp (le-ltb (length p) 16 (omega arith)) (omega (arith, length-xorend p d))

-- the blocks before the tail and those with it
pub tag_tail_work : (d p : List ℕ) (at : ℕ) → length d ≡ 16 → at ≡ length p - tail_length (length p) → chain_work (at / 16) + tag_from_work d (drop at p) ≡ tag_from_work d p
tag_tail_work d p at e place =
    omega (arith, chain_work_lem (at / 16), tag_work d (drop at p) e, tag_work d p e, length-drop at p, tail (length p), tail_blocks (length p))

-- ---- D over the header strings

-- a list cut in two folds the same
pub absorb_append : (E : List ℕ → List ℕ) (k : Subkeys) (d : List ℕ) (a b : List (List ℕ)) → absorb_strings E k d (a ++ b) ≡ absorb_strings E k (absorb_strings E k d a) b
unfolding absorb_strings
absorb_append E k d [] b = refl
absorb_append E k d (s ∷ a) b = absorb_append E k (absorb_one E k d s) a b

length-absorb_strings : (E : List ℕ → List ℕ) (k : Subkeys) (d : List ℕ) (ss : List (List ℕ)) → length (absorb_strings E k d ss) ≡ length d
unfolding absorb_strings
length-absorb_strings E k d [] = refl
length-absorb_strings E k d (s ∷ ss) = length-absorb_strings E k (absorb_one E k d s) ss ∙ length-xors (double d) (cmac E k s) ∙ length-double d

pub length-header_result : (E : List ℕ → List ℕ) → ((b : List ℕ) → length (E b) ≡ 16) → (k : Subkeys) (ss : List (List ℕ)) → length (header_result E k ss) ≡ 16
unfolding header_result cmac_from
length-header_result E sized k ss = length-absorb_strings E k _ ss ∙ sized _

absorb_work-append : (w : ℕ) (a b : List (List ℕ)) → absorb_work w (a ++ b) ≡ absorb_work (absorb_work w a) b
unfolding absorb_work
absorb_work-append w [] b = refl
absorb_work-append w (s ∷ a) b = absorb_work-append (w + cmac_work s) a b

-- a string has a block at the most for every 16 bytes, and one
absorb_work_most : (w : ℕ) (bytes lens : List ℕ) → 16 * absorb_work w (strings bytes lens) ≤ 16 * (w + length lens) + total lens
unfolding absorb_work strings total
absorb_work_most w bytes [] = omega arith
absorb_work_most w bytes (n ∷ lens) =
    omega (arith, absorb_work_most (w + cmac_work (take n bytes)) (drop n bytes) lens, cmac_work_lem (take n bytes), length-take n bytes)

-- D and the work so far, with string i of a header list
pub absorbed_more : (E : List ℕ → List ℕ) (k : Subkeys) (d : Counted) (bytes lens : List ℕ) (i : ℕ) {b r : Counted} → i < length lens
    → IsAbsorbed E k d (strings bytes (take i lens)) b
    → Reports (absorb_one E k b.block (part bytes (total (take i lens)) (get_or lens i 0))) (b.work + cmac_work (part bytes (total (take i lens)) (get_or lens i 0))) r
    → IsAbsorbed E k d (strings bytes (take (i + 1) lens)) r
unfolding absorb_strings absorb_work
absorbed_more E k d bytes lens i h had more = rw (strings_more lens i h bytes, absorb_append, absorb_work-append) record { block = (cc); work = (cc) }

-- the work so far is far from the largest number
pub absorbed_most : (w : ℕ) (bytes lens : List ℕ) (i : ℕ) → total lens < 2 ^ 64 → w + length lens ≤ 127 → absorb_work w (strings bytes (take i lens)) ≤ 2 ^ 62
absorbed_most w bytes lens i h most = omega (arith, absorb_work_most w bytes (take i lens), total-take lens i, length-take i lens)
