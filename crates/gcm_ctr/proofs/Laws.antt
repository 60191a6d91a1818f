-- Laws of counter mode, for any block function: the next counter block byte by byte, the work, undoing,
-- and a loop that writes a block a turn.
-- Assumes nothing.
use Rattle.std.proofs.Common.{◌≡◌, ℕ, zero, suc, ◌+◌, ◌*◌, ◌%◌, ◌^◌, ◌<◌, ◌≤◌, min, List, [], ◌∷◌, ◌++◌, length, get_or, drop, sym, refl, ap, ◌∙◌, ap₂, append-nil, arith, drop_of_length-le, length-append, take_all}
use Rattle.octets.specs.Octets.{xors, put}
use Rattle.octets.specs.LittleEndian.{read_little_endian, little_endian}
use Rattle.octets.proofs.Tests.{agree}
use Rattle.std.specs.Int.{w32, from_le_bytes, to_le_bytes}
use native.Mathlib.Nat.{div-div-eq-div-mul}
use lib.Bits.{bit_or}
use Rattle.octets.proofs.Strings.{length-xors, xors_undo, xors-append, xors_behind, put_nil, put-put}
use Rattle.gcm_ctr.specs.CounterMode.{next_block, stream_from, stream_from_work, blocks_begun, aes_ctr, aes_ctr_work}

-- ---- the counter blocks

pub top_bit_set : (b : ℕ) → b < 256 → bit_or b 128 ≡ b % 128 + 128
top_bit_set = agree 256 (λ k. bit_or k 128) (λ k. k % 128 + 128) refl

bytes_of_word : (w : ℕ) → to_le_bytes w32 w ≡ little_endian 4 w
bytes_of_word w = simp div-div-eq-div-mul

-- a block whose first four bytes are those of the word after theirs, m
pub next_bytes : (b : List ℕ) (m : ℕ) → 4 ≤ length b → m ≡ from_le_bytes w32 (get_or b 0 0 ∷ get_or b 1 0 ∷ get_or b 2 0 ∷ get_or b 3 0 ∷ [])
    → to_le_bytes w32 ((m + 1) % 2 ^ 32) ++ drop 4 b ≡ next_block b
unfolding next_block
next_bytes [] m h e = absurd (omega arith)
next_bytes (a ∷ []) m h e = absurd (omega arith)
next_bytes (a ∷ b ∷ []) m h e = absurd (omega arith)
next_bytes (a ∷ b ∷ c ∷ []) m h e = absurd (omega arith)
next_bytes (a ∷ b ∷ c ∷ d ∷ l) m h e =
    let word : m ≡ read_little_endian (a ∷ b ∷ c ∷ d ∷ []) = omega arith in
    ap (λ (t : List ℕ). t ++ l) (bytes_of_word ((m + 1) % 2 ^ 32)) ∙ ap (λ (n : ℕ). little_endian 4 ((n + 1) % 2 ^ 32) ++ l) word

-- ---- the work

stream_from_work_lem : (n : ℕ) → stream_from_work n ≡ n
unfolding stream_from_work
stream_from_work_lem zero = refl
stream_from_work_lem (suc n) = omega (arith, stream_from_work_lem n)

pub aes_ctr_work_lem : (n : ℕ) → aes_ctr_work n ≡ blocks_begun n
unfolding aes_ctr_work
aes_ctr_work_lem n = stream_from_work_lem (blocks_begun n)

-- ---- undoing

pub length-aes_ctr : (E : List ℕ → List ℕ) (block s : List ℕ) → length (aes_ctr E block s) ≡ length s
unfolding aes_ctr
length-aes_ctr E block s = length-xors s (stream_from E block (blocks_begun (length s)))

pub aes_ctr_undo : (E : List ℕ → List ℕ) (block s : List ℕ) → aes_ctr E block (aes_ctr E block s) ≡ s
unfolding aes_ctr
aes_ctr_undo E block s =
    let X : List ℕ = stream_from E block (blocks_begun (length s)) in
    ap (λ (n : ℕ). xors (xors s X) (stream_from E block (blocks_begun n))) (length-xors s X) ∙ xors_undo s X

-- ---- a block a turn

-- a piece of a string, a whole block where more is behind it, xored and written, and then what is behind it
put_front : (now piece more k X : List ℕ) (at : ℕ) → length k ≡ 16 → length piece ≡ min 16 (length (piece ++ more)) → at + length (piece ++ more) ≤ length now
    → put (put now at (xors piece k)) (at + 16) (xors more X) ≡ put now at (xors (piece ++ more) (k ++ X))
unfolding xors
put_front now piece [] k X at sized size fits =
    let all : length piece ≤ length k = omega (arith, size, ap length (append-nil piece)) in
    put_nil (put now at (xors piece k)) (at + 16)
    ∙ ap (put now at)
    (sym (ap (λ (t : List ℕ). xors t (k ++ X)) (append-nil piece)
    ∙ xors_behind piece k X
    ∙ ap₂ (λ (a b : List ℕ). xors a k ++ xors b X) (take_all (length k) piece all) (drop_of_length-le piece all)
    ∙ append-nil (xors piece k)))
put_front now piece (x ∷ more) k X at sized size fits =
    let full : length piece ≡ 16 = omega (arith, size, length-append piece (x ∷ more)) in
    let place : at + 16 ≡ at + length (xors piece k) = omega (arith, full, length-xors piece k) in
    ap (λ (n : ℕ). put (put now at (xors piece k)) n (xors (x ∷ more) X)) place
    ∙ put-put now at (xors piece k) (xors (x ∷ more) X) (omega (arith, fits, length-xors piece k, length-append piece (x ∷ more)))
    ∙ ap (put now at) (sym (xors-append piece (x ∷ more) k X (full ∙ sym sized)))

-- what is written when the first j blocks are, and `rest` is still to come from a counter block on
pub record Coming (E : List ℕ → List ℕ) (s l total now rest counter : List ℕ) (j : ℕ) : Type 0 where
  pub begun : j + blocks_begun (length rest) ≡ blocks_begun (length s)
  pub fits : 0 < length rest → 16 * j + length rest ≤ length l
  pub bytes : put now (16 * j) (xors rest (stream_from E counter (blocks_begun (length rest)))) ≡ put l 0 total

module _ (E : List ℕ → List ℕ) (sized : (b : List ℕ) → length (E b) ≡ 16) (s l : List ℕ) where
  pub coming_all : (block : List ℕ) → length s ≤ length l → Coming E s l (aes_ctr E block s) l s block 0
  unfolding aes_ctr
  coming_all block fits = record { begun = omega arith; fits = λ h. omega arith; bytes = refl }

  -- the turn of a piece
  pub coming_more : {total now next rest more counter following : List ℕ} {j q : ℕ} (k : ℕ) (piece : List ℕ) → Coming E s l total now rest counter j → next ≡ put now q (xors piece (E counter))
      → following ≡ next_block counter → rest ≡ piece ++ more → length piece ≡ min 16 (length rest) → 0 < length rest → k ≡ j + 1 → q ≡ 16 * j → length now ≡ length l
      → Coming E s l total next more following k
  unfolding stream_from
  coming_more {now = now} {rest = rest} {more = more} {counter = counter} {following = following} {j = j} k piece r e is split size some count place long =
      let long' : length rest ≡ length piece + length more = ap length split ∙ length-append piece more in
      let m : ℕ = blocks_begun (length more) in
      let begun : blocks_begun (length rest) ≡ suc m = omega arith in
      let behind : 16 * k ≡ 16 * j + 16 = omega arith in
      record {
        begun = omega (arith, r.begun);
        fits = λ h. omega (arith, r.fits);
        bytes =
            ap₂ (λ (n : ℕ) (d : List ℕ). put d n (xors more (stream_from E following m))) behind (e ∙ ap (λ (n : ℕ). put now n (xors piece (E counter))) place)
            ∙ ap (λ (b : List ℕ). put (put now (16 * j) (xors piece (E counter))) (16 * j + 16) (xors more (stream_from E b m))) is
            ∙ put_front now piece more (E counter) (stream_from E (next_block counter) m) (16 * j) (sized counter) (size ∙ ap (λ (t : List ℕ). min 16 (length t)) split) (omega (arith, r.fits, length-append piece more))
            ∙ ap₂ (λ (t : List ℕ) (n : ℕ). put now (16 * j) (xors t (stream_from E counter n))) (sym split) (sym begun)
            ∙ r.bytes;
      }

  pub coming_none : {total now counter : List ℕ} {j : ℕ} (rest : List ℕ) → Coming E s l total now rest counter j → length rest ≡ 0
      → (j ≡ blocks_begun (length s)) × (now ≡ put l 0 total)
  unfolding xors
  coming_none {now = now} {j = j} [] r none = (omega (arith, r.begun), sym (put_nil now (16 * j)) ∙ r.bytes)
  coming_none (x ∷ rest) r none = absurd (omega arith)
