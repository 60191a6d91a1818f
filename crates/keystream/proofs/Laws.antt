-- Laws of the key stream, for any block function: work, lengths, undoing, prefixes, pieces that join,
-- and the block that is kept between two.
-- Assumes nothing.
use mathlib.Core.Path.{◌≡◌, refl, sym, ap, ap₂, ◌∙◌}
use mathlib.Core.Bool.{Bool, true, false, cond}
use mathlib.Core.List.{List, [], ◌∷◌, ◌++◌, append-nil, append_assoc}
use Prim.Native.Nat.{ℕ, zero, suc, ◌+◌, ◌-◌, ◌*◌, ◌/◌, ◌%◌, ◌≤◌}
use native.Mathlib.Nat.{add-zero, add-suc, add_assoc}
use native.Mathlib.Decide.{ℕ_discrete, dec_le}
use native.Mathlib.Omega.{arith}
use lib.Dec.{eqb}
use lib.ListN.{length, take, drop, length-append, length-drop, take-append-drop}
use lib.Seq.{take_all, take-take, take-append-le, drop-drop, drop_at, drop-append-le, drop-append-add, length-take-le}
use borrow.Author.Tests.{eq-eqb, ne_eqb}
use Rattle.octets.specs.Octets.{xors}
use Rattle.octets.proofs.Strings.{length-xors, xors_undo, xors-append, take-xors}
use Rattle.std.proofs.lemmas.List.{drop-take}
use Rattle.counter.specs.Counter.{initial_counter, counter_block}
use Rattle.keystream.specs.KeyStream.{blocks_begun, stream_blocks, stream_work, key_stream, key_stream_work, xor_stream}
use Rattle.keystream.specs.Pieces.{no_block, begun_block, left_over, new_blocks, at_hand, piece_work, xor_piece, kept_after}

-- ---- strings

-- what stands beyond the end of `s` does not count in a xor into it
xors-take : (s t : List ℕ) → xors s (take (length s) t) ≡ xors s t
xors-take s t =
    ap (λ (l : List ℕ). xors l (take (length s) t)) (sym (take_all (length s) s (omega arith)))
    ∙ sym (take-xors (length s) s t)
    ∙ take_all (length s) (xors s t) (omega (arith, length-xors s t))

-- ---- the work

pub stream_work_lem : (n : ℕ) → stream_work n ≡ n
unfolding stream_work
stream_work_lem zero = refl
stream_work_lem (suc n) = omega (arith, stream_work_lem n)

pub key_stream_work_lem : (n : ℕ) → key_stream_work n ≡ blocks_begun n
unfolding key_stream_work
key_stream_work_lem n = stream_work_lem (blocks_begun n)

-- ---- the key stream

-- n blocks and the m behind them
stream_blocks-add : (E : List ℕ → List ℕ) (v : List ℕ) (i n m : ℕ) → stream_blocks E v i (n + m) ≡ stream_blocks E v i n ++ stream_blocks E v (i + n) m
unfolding stream_blocks
stream_blocks-add E v i n zero = ap (stream_blocks E v i) (add-zero n) ∙ sym (append-nil (stream_blocks E v i n))
stream_blocks-add E v i n (suc m) =
    ap (stream_blocks E v i) (add-suc n m)
    ∙ ap₂ (λ (l : List ℕ) (k : ℕ). l ++ E (counter_block (initial_counter v) k)) (stream_blocks-add E v i n m) (sym (add_assoc i n m))
    ∙ append_assoc (stream_blocks E v i n) (stream_blocks E v (i + n) m) (E (counter_block (initial_counter v) (i + n + m)))

module _ (E : List ℕ → List ℕ) (sized : (b : List ℕ) → length (E b) ≡ 16) (v : List ℕ) where
  length-stream_blocks : (i n : ℕ) → length (stream_blocks E v i n) ≡ 16 * n
  unfolding stream_blocks
  length-stream_blocks i zero = refl
  length-stream_blocks i (suc n) =
      length-append (stream_blocks E v i n) (E (counter_block (initial_counter v) (i + n)))
      ∙ omega (arith, length-stream_blocks i n, sized (counter_block (initial_counter v) (i + n)))

  -- the key stream by any number of blocks that is enough
  key_stream_blocks : (n k : ℕ) → n ≤ 16 * k → take n (stream_blocks E v 0 k) ≡ key_stream E v n
  unfolding key_stream
  key_stream_blocks n k h =
      let j : ℕ = blocks_begun n in
      let split : k ≡ j + (k - j) = omega arith in
      ap (λ (m : ℕ). take n (stream_blocks E v 0 m)) split
      ∙ ap (take n) (stream_blocks-add E v 0 j (k - j))
      ∙ take-append-le n (stream_blocks E v 0 j) (stream_blocks E v (0 + j) (k - j)) (omega (arith, length-stream_blocks 0 j))

  length-key_stream : (n : ℕ) → length (key_stream E v n) ≡ n
  unfolding key_stream
  length-key_stream n = length-take-le n (stream_blocks E v 0 (blocks_begun n)) (omega (arith, length-stream_blocks 0 (blocks_begun n)))

  -- a shorter key stream is the front of a longer one
  take-key_stream : (n m : ℕ) → n ≤ m → take n (key_stream E v m) ≡ key_stream E v n
  unfolding key_stream
  take-key_stream n m h =
      take-take n m (stream_blocks E v 0 (blocks_begun m)) h
      ∙ key_stream_blocks n (blocks_begun m) (omega arith)

  -- ---- pieces

  -- two pieces, the second where the first ends, are one
  pub xor_stream-append : (p : ℕ) (a b : List ℕ) → xor_stream E v p (a ++ b) ≡ xor_stream E v p a ++ xor_stream E v (p + length a) b
  unfolding xor_stream
  xor_stream-append p a b =
      let m : ℕ = p + length a + length b in
      let K : List ℕ = key_stream E v m in
      let whole : p + length (a ++ b) ≡ m = omega (arith, length-append a b) in
      let long : length K ≡ m = length-key_stream m in
      let front : take (length a) (drop p K) ≡ drop p (key_stream E v (p + length a)) =
      sym (drop-take p (length a) K) ∙ ap (drop p) (take-key_stream (p + length a) m (omega arith)) in
      let count : length a ≡ length (take (length a) (drop p K)) =
      sym (length-take-le (length a) (drop p K) (simp length-drop (omega arith))) in
      ap (λ (n : ℕ). xors (a ++ b) (drop p (key_stream E v n))) whole
      ∙ ap (xors (a ++ b)) (sym (take-append-drop (length a) (drop p K)))
      ∙ xors-append a b (take (length a) (drop p K)) (drop (length a) (drop p K)) count
      ∙ ap₂ (λ (x y : List ℕ). xors a x ++ xors b y) front (drop-drop (length a) p K)

  -- a piece from byte k of block i on, by n blocks that are enough
  xor_stream_blocks : (i k n : ℕ) (s : List ℕ) → k + length s ≤ 16 * n → xor_stream E v (16 * i + k) s ≡ xors s (drop k (stream_blocks E v i n))
  unfolding xor_stream
  xor_stream_blocks i k n s h =
      let p : ℕ = 16 * i + k in
      let X : List ℕ = stream_blocks E v 0 (i + n) in
      let from : 0 + i ≡ i = omega arith in
      let size : 16 * i ≡ length (stream_blocks E v 0 i) = sym (length-stream_blocks 0 i) in
      ap (λ (t : List ℕ). xors s (drop p t)) (sym (key_stream_blocks (p + length s) (i + n) (omega arith)))
      ∙ ap (xors s) (drop-take p (length s) X)
      ∙ xors-take s (drop p X)
      ∙ ap₂ (λ (m : ℕ) (l : List ℕ). xors s (drop (m + k) l)) size (stream_blocks-add E v 0 i n)
      ∙ ap (xors s) (drop-append-add (stream_blocks E v 0 i) (stream_blocks E v (0 + i) n) k)
      ∙ ap (λ (m : ℕ). xors s (drop k (stream_blocks E v m n))) from

  -- a piece within block i, from its byte k on
  pub xor_stream_block : (i k : ℕ) (s : List ℕ) → k + length s ≤ 16 → xor_stream E v (16 * i + k) s ≡ xors s (drop k (E (counter_block (initial_counter v) i)))
  unfolding stream_blocks
  xor_stream_block i k s h =
      xor_stream_blocks i k 1 s (omega arith) ∙ ap (λ (j : ℕ). xors s (drop k (E (counter_block (initial_counter v) j)))) (add-zero i)

pub length-xor_stream : (E : List ℕ → List ℕ) (v : List ℕ) (p : ℕ) (s : List ℕ) → length (xor_stream E v p s) ≡ length s
unfolding xor_stream
length-xor_stream E v p s = length-xors s (drop p (key_stream E v (p + length s)))

-- xoring twice with the key stream from one place undoes itself
pub xor_stream_undo : (E : List ℕ → List ℕ) (v : List ℕ) (p : ℕ) (s : List ℕ) → xor_stream E v p (xor_stream E v p s) ≡ s
unfolding xor_stream
xor_stream_undo E v p s =
    let K : List ℕ = drop p (key_stream E v (p + length s)) in
    ap (λ (n : ℕ). xors (xors s K) (drop p (key_stream E v (p + n)))) (length-xors s K) ∙ xors_undo s K

-- ---- the block that is kept between two pieces

-- a piece that ends with the kept block at the latest begins no other
new_blocks_none : (place n : ℕ) → n ≤ left_over place → new_blocks place n ≡ 0
new_blocks_none place n h = omega arith

-- it is xored with the kept block from its place there on
from_place : (kept : List ℕ) (place : ℕ) (s : List ℕ) → length s ≤ left_over place → xors s (drop (16 - left_over place) kept) ≡ xors s (drop (place % 16) kept)
unfolding xors
from_place kept place [] h = refl
from_place kept place (x ∷ s) h =
    let start : 16 - left_over place ≡ place % 16 = omega arith in
    ap (λ (k : ℕ). xors (x ∷ s) (drop k kept)) start

pub piece_work_within : (place n : ℕ) → n ≤ left_over place → piece_work place n ≡ 0
unfolding piece_work stream_work
piece_work_within place n h = ap stream_work (new_blocks_none place n h)

-- what goes beyond the kept block begins as many blocks as it would at the front of the key stream
pub piece_work_beyond : (place n : ℕ) → left_over place ≤ n → piece_work place n ≡ key_stream_work (n - left_over place)
unfolding piece_work key_stream_work
piece_work_beyond place n h =
    let count : new_blocks place n ≡ blocks_begun (n - left_over place) = omega arith in
    ap stream_work count

pub piece_work_fresh : (i n : ℕ) → piece_work (16 * i) n ≡ key_stream_work n
piece_work_fresh i n =
    let all : n - left_over (16 * i) ≡ n = omega arith in
    piece_work_beyond (16 * i) n (omega arith) ∙ ap key_stream_work all

module _ (E : List ℕ → List ℕ) (v : List ℕ) where
  -- n bytes that end within a block begin that one
  begun_block_one : (n : ℕ) → (n % 16 ≡ 0 → ⊥) → begun_block E v n ≡ E (counter_block (initial_counter v) (n / 16))
  unfolding begun_block
  begun_block_one n e = simp (ne_eqb (n % 16) 0 e)

  -- n bytes from block i on that are whole blocks
  pub begun_block_whole : (i n : ℕ) → n % 16 ≡ 0 → no_block ≡ begun_block E v (16 * i + n)
  unfolding begun_block
  begun_block_whole i n e =
      let end : (16 * i + n) % 16 ≡ 0 = omega arith in
      simp (eq-eqb ((16 * i + n) % 16) 0 end)

  -- n bytes from block i on with a short end, which begins block b
  pub begun_block_short : (i n : ℕ) {b : List ℕ} → (n % 16 ≡ 0 → ⊥) → b ≡ E (counter_block (initial_counter v) (i + n / 16)) → b ≡ begun_block E v (16 * i + n)
  begun_block_short i n some e =
      let place : i + n / 16 ≡ (16 * i + n) / 16 = omega arith in
      e ∙ ap (λ (k : ℕ). E (counter_block (initial_counter v) k)) place ∙ sym (begun_block_one (16 * i + n) (λ z. some (omega arith)))

  -- to keep b where n bytes end within a block is to keep the begun one, if b is that block
  begun_block_as : (n : ℕ) (b : List ℕ) → ((n % 16 ≡ 0 → ⊥) → b ≡ E (counter_block (initial_counter v) (n / 16))) → cond (eqb (n % 16) 0) no_block b ≡ begun_block E v n
  unfolding begun_block
  begun_block_as n b e = go (ℕ_discrete (n % 16) 0)
    where
      go : Dec (n % 16 ≡ 0) → cond (eqb (n % 16) 0) no_block b ≡ begun_block E v n
      go (yes z) = simp (eq-eqb (n % 16) 0 z)
      go (no z) = simp (ne_eqb (n % 16) 0 z) (e z)

  pub length-xor_piece : (kept : List ℕ) (place : ℕ) (s : List ℕ) → length (xor_piece E v kept place s) ≡ length s
  unfolding xor_piece
  length-xor_piece kept place s = length-xors s (drop (16 - left_over place) (at_hand E v kept place (length s)))

  -- for a piece that ends with the kept block at the latest nothing else is at hand
  at_hand_within : (kept : List ℕ) (place n : ℕ) → n ≤ left_over place → at_hand E v kept place n ≡ kept
  unfolding at_hand stream_blocks
  at_hand_within kept place n h = ap (λ (m : ℕ). kept ++ stream_blocks E v (blocks_begun place) m) (new_blocks_none place n h) ∙ append-nil kept

  -- such a piece is xored with the kept block alone
  pub xor_piece_within : (kept : List ℕ) (place : ℕ) (s : List ℕ) → length s ≤ left_over place → xor_piece E v kept place s ≡ xors s (drop (place % 16) kept)
  unfolding xor_piece
  xor_piece_within kept place s h =
      ap (λ (l : List ℕ). xors s (drop (16 - left_over place) l)) (at_hand_within kept place (length s) h)
      ∙ from_place kept place s h

  -- and that one stays, unless it is used up
  pub kept_after_within : (kept : List ℕ) (place n : ℕ) → n ≤ left_over place
      → kept_after E v kept place n ≡ cond (eqb ((place + n) % 16) 0) no_block kept
  unfolding kept_after
  kept_after_within kept place n h =
      ap₂ (λ (m : ℕ) (l : List ℕ). cond (eqb ((place + n) % 16) 0) no_block (drop (16 * m) l)) (new_blocks_none place n h) (at_hand_within kept place n h)

module _ (E : List ℕ → List ℕ) (sized : (b : List ℕ) → length (E b) ≡ 16) (v : List ℕ) where
  length-begun_block : (n : ℕ) → length (begun_block E v n) ≡ 16
  unfolding begun_block
  length-begun_block n = go (eqb (n % 16) 0)
    where
      go : (b : Bool) → length (cond b no_block (E (counter_block (initial_counter v) (n / 16)))) ≡ 16
      go true = refl
      go false = sized (counter_block (initial_counter v) (n / 16))

  -- a piece that goes beyond the kept block: what is left of it, then the key stream from the next block on
  pub xor_piece_beyond : (kept : List ℕ) (place : ℕ) (s : List ℕ) → length kept ≡ 16 → left_over place ≤ length s
      → xor_piece E v kept place s ≡ xors (take (left_over place) s) (drop (place % 16) kept) ++ xor_stream E v (place + left_over place) (drop (left_over place) s)
  unfolding xor_piece at_hand
  xor_piece_beyond kept place s long h =
      let m : ℕ = left_over place in
      let i : ℕ = blocks_begun place in
      let n : ℕ = new_blocks place (length s) in
      let front : length (take m s) ≡ m = length-take-le m s h in
      let left : length (drop (16 - m) kept) ≡ m = simp length-drop (omega arith) in
      let next : 16 * i + 0 ≡ place + m = omega arith in
      let rest : xors (drop m s) (stream_blocks E v i n) ≡ xor_stream E v (place + m) (drop m s) =
      sym (xor_stream_blocks E sized v i 0 n (drop m s) (simp length-drop (omega arith))) ∙ ap (λ (p : ℕ). xor_stream E v p (drop m s)) next in
      ap₂ xors (sym (take-append-drop m s)) (drop-append-le (16 - m) kept (stream_blocks E v i n) (omega arith))
      ∙ xors-append (take m s) (drop m s) (drop (16 - m) kept) (stream_blocks E v i n) (front ∙ sym left)
      ∙ ap₂ ◌++◌ (from_place kept place (take m s) (omega arith)) rest

  -- then the block is kept that the piece's end begins
  pub kept_after_beyond : (kept : List ℕ) (place n : ℕ) → length kept ≡ 16 → left_over place ≤ n → kept_after E v kept place n ≡ begun_block E v (place + n)
  unfolding kept_after at_hand stream_blocks
  kept_after_beyond kept place n long h =
      let i : ℕ = blocks_begun place in
      let m : ℕ = new_blocks place n - 1 in
      let B : List ℕ = E (counter_block (initial_counter v) (i + m)) in
      begun_block_as E v (place + n) (drop (16 * new_blocks place n) (kept ++ stream_blocks E v i (new_blocks place n)))
      (λ (e : (place + n) % 16 ≡ 0 → ⊥).
      let more : new_blocks place n ≡ suc m = omega (arith, e) in
      let last : i + m ≡ (place + n) / 16 = omega (arith, e) in
      ap (λ (k : ℕ). drop (16 * k) (kept ++ stream_blocks E v i k)) more
      ∙ ap (drop (16 * suc m)) (sym (append_assoc kept (stream_blocks E v i m) B))
      ∙ drop_at (kept ++ stream_blocks E v i m) B (16 * suc m) (length-append kept (stream_blocks E v i m) ∙ omega (arith, length-stream_blocks E sized v i m))
      ∙ ap (λ (k : ℕ). E (counter_block (initial_counter v) k)) last)

  -- where no block is kept, a piece from block i on is xored with the key stream, and its end's block is kept
  pub xor_piece_fresh : (i : ℕ) (s : List ℕ) → xor_piece E v no_block (16 * i) s ≡ xor_stream E v (16 * i) s
  unfolding xors
  xor_piece_fresh i s =
      let none : left_over (16 * i) ≡ 0 = omega arith in
      let place : 16 * i + 0 ≡ 16 * i = omega arith in
      xor_piece_beyond no_block (16 * i) s refl (omega arith)
      ∙ ap (λ (m : ℕ). xors (take m s) (drop (16 * i % 16) no_block) ++ xor_stream E v (16 * i + m) (drop m s)) none
      ∙ ap (λ (p : ℕ). xor_stream E v p s) place

  pub kept_after_fresh : (i n : ℕ) → kept_after E v no_block (16 * i) n ≡ begun_block E v (16 * i + n)
  kept_after_fresh i n = kept_after_beyond no_block (16 * i) n refl (omega arith)

  -- a piece within the block that its place begins
  begun_block_own : (place : ℕ) (s : List ℕ) → length s ≤ left_over place → xors s (drop (place % 16) (begun_block E v place)) ≡ xor_stream E v place s
  unfolding xors xor_stream
  begun_block_own place [] h = refl
  begun_block_own place (x ∷ s) h =
      let i : ℕ = place / 16 in
      let k : ℕ = place % 16 in
      let whole : 16 * i + k ≡ place = omega arith in
      ap (λ (l : List ℕ). xors (x ∷ s) (drop k l)) (begun_block_one E v place (λ e. omega (arith, e)))
      ∙ sym (xor_stream_block E sized v i k (x ∷ s) (omega arith))
      ∙ ap (λ (p : ℕ). xor_stream E v p (x ∷ s)) whole

  -- a piece of any length, with the block kept that its place begins, is xored with the key stream from there on
  pub xor_piece_own : (place : ℕ) (s : List ℕ) → xor_piece E v (begun_block E v place) place s ≡ xor_stream E v place s
  xor_piece_own place s = go (dec_le (left_over place) (length s))
    where
      go : Dec (left_over place ≤ length s) → xor_piece E v (begun_block E v place) place s ≡ xor_stream E v place s
      go (yes h) =
          let m : ℕ = left_over place in
          let front : length (take m s) ≡ m = length-take-le m s h in
          xor_piece_beyond (begun_block E v place) place s (length-begun_block place) h
          ∙ ap₂ (λ (l : List ℕ) (n : ℕ). l ++ xor_stream E v (place + n) (drop m s)) (begun_block_own place (take m s) (omega arith)) (sym front)
          ∙ sym (xor_stream-append E sized v place (take m s) (drop m s))
          ∙ ap (xor_stream E v place) (take-append-drop m s)
      go (no h) = xor_piece_within E v (begun_block E v place) place s (omega (arith, h)) ∙ begun_block_own place s (omega (arith, h))

  -- and the block is kept that its end begins
  pub kept_after_own : (place n : ℕ) → kept_after E v (begun_block E v place) place n ≡ begun_block E v (place + n)
  kept_after_own place n = go (dec_le (left_over place) n)
    where
      go : Dec (left_over place ≤ n) → kept_after E v (begun_block E v place) place n ≡ begun_block E v (place + n)
      go (yes h) = kept_after_beyond (begun_block E v place) place n (length-begun_block place) h
      go (no h) =
          let same : place / 16 ≡ (place + n) / 16 = omega (arith, h) in
          kept_after_within E v (begun_block E v place) place n (omega (arith, h))
          ∙ begun_block_as E v (place + n) (begun_block E v place)
          (λ e. begun_block_one E v place (λ z. omega (arith, h, z)) ∙ ap (λ (k : ℕ). E (counter_block (initial_counter v) k)) same)
