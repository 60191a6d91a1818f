-- Laws of the key expansion.
-- Assumes nothing.
use mathlib.Core.Path.{◌≡◌, ap, ap₂, sym, ◌∙◌}
use mathlib.Core.Bool.{true}
use mathlib.Core.List.{List, [], ◌∷◌, ◌++◌}
use Prim.Native.Nat.{ℕ, suc, ◌+◌, ◌-◌, ◌*◌, ◌/◌, ◌%◌, ◌≤◌, ◌<◌}
use native.Mathlib.Omega.{arith}
use lib.Bits.{bit_xor}
use lib.Dec.{eqb}
use lib.ListN.{length, get_or, drop, replicate, length-append, length-replicate, get_or-append}
use borrow.Author.Tests.{eq-eqb, ne_eqb, lt-ltb}
use Rattle.octets.specs.Octets.{xors, put}
use Rattle.octets.proofs.Tests.{all, agree}
use Rattle.octets.proofs.Strings.{length-xors, put-put}
use Rattle.field.specs.Field.{sbox, power}
use Rattle.aes.specs.KeyExpansion.{Powers, word, temp, next_word, schedule, key_expansion, round_keys}
use Rattle.aes.specs.State.{bytes_of_word, WordIs}
use Rattle.aes.proofs.Words.{own, word_is, word-xor, word_bytes}

-- a table that passes the test has the powers of 02
pub powers : (table : List ℕ) → all (λ k. eqb (get_or table k 0) (power 2 k)) 10 ≡ true → Powers table
powers table e = record { rule = agree 10 (λ k. get_or table k 0) (power 2) e }

-- ---- the ways to make `temp`

-- the code xors the round constant into the lowest byte
constant : {x : ℕ} → x < 0x100 → WordIs x 0 0 0 x
constant {x} h = word_is x 0 0 0 x h (omega arith) (omega arith) (omega arith) (omega arith)

module _ (nk i a b c d : ℕ) where
  pub temp_turn : {w s x : ℕ} → i % nk ≡ 0 → WordIs b c d a w
      → WordIs (sbox (w % 0x100)) (sbox (w / 0x100 % 0x100)) (sbox (w / 0x10000 % 0x100)) (sbox (w / 0x1000000 % 0x100)) s → x < 0x100 → x ≡ power 2 (i / nk - 1)
      → bytes_of_word (bit_xor s x) ≡ temp nk i (a ∷ b ∷ c ∷ d ∷ [])
  unfolding temp xors
  temp_turn e u h l p =
      let r = word_bytes (word-xor h (constant l)) in
      simp (eq-eqb (i % nk) 0 e)
      (r ∙ λ j. bit_xor (sbox (u.row0 j)) (p j) ∷ bit_xor (sbox (u.row1 j)) 0 ∷ bit_xor (sbox (u.row2 j)) 0 ∷ bit_xor (sbox (u.row3 j)) 0 ∷ [])

  pub temp-sub : {s : ℕ} → (i % nk ≡ 0 → ⊥) → 6 < nk → i % nk ≡ 4 → WordIs (sbox a) (sbox b) (sbox c) (sbox d) s
      → bytes_of_word s ≡ temp nk i (a ∷ b ∷ c ∷ d ∷ [])
  unfolding temp
  temp-sub n l e h = simp (ne_eqb (i % nk) 0 n, lt-ltb 6 nk l, eq-eqb (i % nk) 4 e) (word_bytes h)

-- ---- words of the schedule

pub added : (v w : ℕ) → bytes_of_word (bit_xor v w) ≡ xors (bytes_of_word v) (bytes_of_word w)
unfolding xors
added v w = word_bytes (word-xor (own v) (own w))

-- a byte, a word and the next word of a string that stands at the front of another
byte_front : (l a : List ℕ) (k : ℕ) → k < length a → get_or (put l 0 a) k 0 ≡ get_or a k 0
unfolding put
byte_front l a k h = get_or-append a (drop (0 + length a) l) 0 k h

word_front : (l a : List ℕ) (i : ℕ) → 4 * i + 3 < length a → word (put l 0 a) i ≡ word a i
word_front l a i h =
    λ j.
    byte_front l a (4 * i) (omega arith) j
    ∷ byte_front l a (4 * i + 1) (omega arith) j
    ∷ byte_front l a (4 * i + 2) (omega arith) j
    ∷ byte_front l a (4 * i + 3) (omega arith) j
    ∷ []

next_front : (l a : List ℕ) (nk i : ℕ) → 1 ≤ nk → nk ≤ i → length a ≡ 4 * i → next_word nk i (put l 0 a) ≡ next_word nk i a
unfolding next_word
next_front l a nk i h k e =
    ap₂ (λ (x y : List ℕ). xors x (temp nk i y)) (word_front l a (i - nk) (omega arith)) (word_front l a (i - 1) (omega arith))

next-length : (nk i : ℕ) (w : List ℕ) → length (next_word nk i w) ≡ 4
unfolding next_word
next-length nk i w = length-xors (word w (i - nk)) (temp nk i (word w (i - 1)))

-- ---- the loop that writes the schedule

-- what it has reached when word i is next
pub record Scheduled (nk : ℕ) (key keys : List ℕ) (i : ℕ) : Type 0 where
  pub long : length (schedule nk key (i - nk)) ≡ 4 * i
  pub bytes : keys ≡ put (replicate 240 0) 0 (schedule nk key (i - nk))

pub scheduled_key : (nk : ℕ) (key keys : List ℕ) → length key ≡ 4 * nk → keys ≡ put (replicate 240 0) 0 key → Scheduled nk key keys nk
unfolding schedule
scheduled_key nk key keys e k =
    let none : 0 ≡ nk - nk = omega arith in
    let start : key ≡ schedule nk key (nk - nk) = ap (schedule nk key) none in
    record { long = ap length (sym start) ∙ e; bytes = k ∙ ap (put (replicate 240 0) 0) start }

module _ (nk : ℕ) (key keys next : List ℕ) (i : ℕ) (words : 1 ≤ nk) (low : nk ≤ i) (fits : i < 60) (s : Scheduled nk key keys i)
    (e : next ≡ put keys (4 * i) (next_word nk i keys)) where
  before : List ℕ
  before = schedule nk key (i - nk)

  -- the schedule has one word more
  grown : schedule nk key (i + 1 - nk) ≡ before ++ next_word nk i before
  unfolding schedule before
  grown =
      let count : i + 1 - nk ≡ suc (i - nk) = omega arith in
      let number : nk + (i - nk) ≡ i = omega arith in
      ap (schedule nk key) count ∙ ap (λ (n : ℕ). before ++ next_word nk n before) number

  pub scheduled_more : Scheduled nk key next (i + 1)
  unfolding before
  scheduled_more =
      let end : 4 * i ≡ 0 + length before = omega (arith, s.long) in
      record {
        long = ap length grown ∙ length-append before (next_word nk i before) ∙ omega (arith, s.long, next-length nk i before);
        bytes =
            e
            ∙ ap (λ (l : List ℕ). put l (4 * i) (next_word nk i l)) s.bytes
            ∙ ap₂ (put (put (replicate 240 0) 0 before)) end (next_front (replicate 240 0) before nk i words low s.long)
            ∙ put-put (replicate 240 0) 0 before (next_word nk i before) (omega (arith, s.long, length-replicate {A = ℕ} 240 0))
            ∙ ap (put (replicate 240 0) 0) (sym grown);
      }

pub scheduled_all : (nk : ℕ) (key keys : List ℕ) (i : ℕ) → length key ≡ 4 * nk → i ≡ 4 * nk + 28 → Scheduled nk key keys i → keys ≡ round_keys key
unfolding round_keys key_expansion
scheduled_all nk key keys i e end s =
    let Nk : nk ≡ length key / 4 = omega arith in
    let count : i - nk ≡ 4 * (length key / 4 + 7) - length key / 4 = omega arith in
    s.bytes ∙ ap (put (replicate 240 0) 0) (ap₂ (λ (m n : ℕ). schedule m key n) Nk count)
