-- What the code writes piece by piece is the whole that the contract names.
-- Assumes nothing.
use mathlib.Core.Path.{◌≡◌, sym, ap, ap₂, ◌∙◌}
use mathlib.Core.List.{List, [], ◌++◌}
use Prim.Native.Nat.{ℕ, ◌+◌, ◌-◌, ◌*◌, ◌/◌, ◌≤◌, ◌<◌}
use native.Mathlib.Nat.{add-zero}
use native.Mathlib.Omega.{arith}
use lib.ListN.{length, take, drop, take-append-drop, length-append}
use Rattle.std.proofs.Common.{append_assoc}
use Rattle.std.proofs.Math.Seq.{take-append_seam}
use lib.Seq.{take_all, length-take-le}
use Rattle.octets.specs.Octets.{xors, put, Lent, LentMut, Writes}
use Rattle.octets.proofs.Strings.{put_nil, put-put}
use Rattle.std.proofs.lemmas.List.{take_rest}
use Rattle.counter.specs.Counter.{initial_counter, counter_block}
use Rattle.aes.specs.declared.Counted.{Counted}
use Rattle.keystream.specs.KeyStream.{blocks_begun, xor_stream}
use Rattle.keystream.specs.Pieces.{no_block, begun_block, XorsPiece}
use Rattle.keystream.proofs.Laws.{length-xor_stream, xor_stream-append, xor_stream_block, key_stream_work_lem, piece_work_fresh, xor_piece_fresh, kept_after_fresh}

-- ---- parts of a string

-- a front and `&l[n..]`
front_rest : (n : ℕ) (l : List ℕ) → take n l ++ take (length l - n) (drop n l) ≡ l
front_rest n l = ap (λ (t : List ℕ). take n l ++ t) (take_rest l n) ∙ take-append-drop n l

-- ---- pieces of the key stream

xor_stream_none : (E : List ℕ → List ℕ) (v l : List ℕ) (at p : ℕ) → l ≡ put l at (xor_stream E v p [])
unfolding xor_stream xors
xor_stream_none E v l at p = sym (put_nil l at)

-- the first m bytes of `s` are all of it
pub xor_stream_all : (E : List ℕ → List ℕ) (v l : List ℕ) (at p : ℕ) (s : List ℕ) (m : ℕ) {next : List ℕ} → length s ≤ m → next ≡ put l at (xor_stream E v p (take m s))
    → next ≡ put l at (xor_stream E v p s)
xor_stream_all E v l at p s m h e = e ∙ ap (λ (t : List ℕ). put l at (xor_stream E v p t)) (take_all m s h)

module _ (E : List ℕ → List ℕ) (sized : (b : List ℕ) → length (E b) ≡ 16) (v : List ℕ) where
  -- a piece of at most a block, xored with block i
  pub xor_stream_piece : (l : List ℕ) (at i : ℕ) (s : List ℕ) {block next : List ℕ} → length s ≤ 16 → block ≡ E (counter_block (initial_counter v) i) → next ≡ put l at (xors s block)
      → next ≡ put l at (xor_stream E v (16 * i) s)
  xor_stream_piece l at i s h b e =
      e ∙ ap (put l at) (ap (xors s) b ∙ sym (xor_stream_block E sized v i 0 s (omega arith)) ∙ ap (λ (p : ℕ). xor_stream E v p s) (add-zero (16 * i)))

  -- a piece of n bytes, and what is written behind it
  xor_stream_next : (l : List ℕ) (at p : ℕ) (a b : List ℕ) {n q : ℕ} → length a ≡ n → q ≡ p + n → at + n ≤ length l
      → put (put l at (xor_stream E v p a)) (at + n) (xor_stream E v q b) ≡ put l at (xor_stream E v p (a ++ b))
  xor_stream_next l at p a b {n} {q} count place fits =
      let X : List ℕ = xor_stream E v p a in
      let size : length X ≡ length a = length-xor_stream E v p a in
      let end : at + n ≡ at + length X = omega arith in
      let behind : q ≡ p + length a = omega arith in
      ap₂ (λ (m o : ℕ). put (put l at X) m (xor_stream E v o b)) end behind
      ∙ put-put l at X (xor_stream E v (p + length a) b) (omega arith)
      ∙ ap (put l at) (sym (xor_stream-append E sized v p a b))

  -- the first m bytes of `s`, and `&s[m..]` behind them
  pub xor_stream_joined : (l : List ℕ) (at p : ℕ) (s : List ℕ) (m : ℕ) {q : ℕ} {now next : List ℕ} → m ≤ length s → at + length s ≤ length l → q ≡ p + m
      → now ≡ put l at (xor_stream E v p (take m s)) → next ≡ put now (at + m) (xor_stream E v q (take (length s - m) (drop m s)))
      → next ≡ put l at (xor_stream E v p s)
  xor_stream_joined l at p s m {q} hs hl place front rest =
      rest
      ∙ ap (λ (d : List ℕ). put d (at + m) (xor_stream E v q (take (length s - m) (drop m s)))) front
      ∙ xor_stream_next l at p (take m s) (take (length s - m) (drop m s)) (length-take-le m s hs) place (omega arith)
      ∙ ap (λ (t : List ℕ). put l at (xor_stream E v p t)) (front_rest m s)

-- ---- a loop that writes the whole blocks of `s` over `l` from place `at` on, with the key stream from block i on

-- what it has reached after j turns: the blocks that are done are written, and `rest` is to come
pub record Reached (E : List ℕ → List ℕ) (v : List ℕ) (i : ℕ) (s l : List ℕ) (at : ℕ) (now rest : List ℕ) (j : ℕ) : Type 0 where
  pub done : List ℕ
  pub size : length done ≡ 16 * j
  pub whole : s ≡ done ++ rest
  pub bytes : now ≡ put l at (xor_stream E v (16 * i) done)

module _ (E : List ℕ → List ℕ) (sized : (b : List ℕ) → length (E b) ≡ 16) (v : List ℕ) (i : ℕ) (s l : List ℕ) (at : ℕ) where
  pub reached_none : {rest : List ℕ} {j : ℕ} → rest ≡ s → j ≡ 0 → Reached E v i s l at l rest j
  reached_none e z = record { done = []; size = omega arith; whole = sym e; bytes = xor_stream_none E v l at (16 * i) }

  pub reached_more : {now next rest more : List ℕ} {j k p q : ℕ} (block : List ℕ) → Reached E v i s l at now rest j → next ≡ put now q (xor_stream E v p block) → rest ≡ block ++ more
      → length block ≡ 16 → k ≡ j + 1 → q ≡ at + 16 * j → p ≡ 16 * i + 16 * j → at + length s ≤ length l → Reached E v i s l at next more k
  reached_more {p = p} block r e split size count place behind fits =
      record {
        done = r.done ++ block;
        size = length-append r.done block ∙ omega (arith, r.size, size);
        whole = r.whole ∙ ap (λ (t : List ℕ). r.done ++ t) split ∙ sym (append_assoc r.done block _);
        bytes =
            e
            ∙ ap₂ (λ (d : List ℕ) (n : ℕ). put d n (xor_stream E v p block)) r.bytes place
            ∙ xor_stream_next E sized v l at (16 * i) r.done block r.size behind (omega (arith, r.size, ap length r.whole ∙ length-append r.done _));
      }

  pub reached_all : {now rest : List ℕ} {j : ℕ} → Reached E v i s l at now rest j → length rest < 16
      → (j ≡ length s / 16) × (now ≡ put l at (xor_stream E v (16 * i) (take (16 * (length s / 16)) s)))
  reached_all {rest = rest} {j = j} r short =
      let count : j ≡ length s / 16 = omega (arith, r.size, ap length r.whole ∙ length-append r.done rest) in
      let whole : 16 * (length s / 16) ≡ length r.done = omega (arith, r.size, count) in
      (count, r.bytes ∙ ap (λ (t : List ℕ). put l at (xor_stream E v (16 * i) t)) (sym (ap₂ take whole r.whole ∙ take-append_seam r.done rest)))

-- ---- the whole piece

-- a piece from block i on that is written, with the block that its end begins and its work
pub fresh_piece : (E : List ℕ → List ℕ) → ((b : List ℕ) → length (E b) ≡ 16) → (v : List ℕ) (i : ℕ) (src : Lent) (dst : LentMut) (at : ℕ) {r : Counted}
    → let s = src.entry.now in
    Writes dst at (xor_stream E v (16 * i) s) → r.block ≡ begun_block E v (16 * i + length s) → r.work ≡ blocks_begun (length s) → XorsPiece E v no_block (16 * i) src dst at r
fresh_piece E sized v i src dst at e b w =
    let s = src.entry.now in
    record {
      kept = record { block = b ∙ sym (kept_after_fresh E sized v i (length s)); work = w ∙ sym (piece_work_fresh i (length s) ∙ key_stream_work_lem (length s)) };
      text = e ∙ ap (put _ at) (sym (xor_piece_fresh E sized v i s));
    }
