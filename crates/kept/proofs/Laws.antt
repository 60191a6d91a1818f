-- What the code writes, keeps and counts of a piece, by whether it goes beyond the kept block, over any block function.
-- Assumes nothing.
use mathlib.Core.Path.{◌≡◌, ap, ap₂, sym, ◌∙◌}
use mathlib.Core.Bool.{cond}
use mathlib.Core.List.{List, ◌++◌}
use Prim.Native.Nat.{ℕ, ◌+◌, ◌-◌, ◌*◌, ◌/◌, ◌%◌, ◌≤◌, min}
use native.Mathlib.Omega.{arith}
use lib.Dec.{eqb}
use lib.ListN.{length, take, drop, length-drop}
use lib.Seq.{take_all, length-take-le}
use Rattle.octets.specs.Octets.{xors, put, Lent, LentMut, Writes}
use Rattle.octets.proofs.Strings.{length-xors, put-put}
use Rattle.std.proofs.lemmas.List.{take_rest}
use Rattle.aes.specs.declared.Counted.{Counted}
use Rattle.aes.specs.Work.{Reports}
use Rattle.keystream.specs.KeyStream.{key_stream_work, xor_stream}
use Rattle.keystream.specs.Pieces.{no_block, begun_block, left_over, piece_work, xor_piece, kept_after, XorsPiece}
use Rattle.keystream.proofs.Laws.{piece_work_within, piece_work_beyond, piece_work_fresh, xor_piece_within, kept_after_within, xor_piece_beyond, kept_after_beyond, xor_piece_fresh, kept_after_fresh}

-- n bytes of a piece xored with what the kept block has for them, as in the code: `&piece[..n]`, `&kept[place % 16..]`
abbrev pub from_kept : List ℕ → ℕ → List ℕ → ℕ → List ℕ
from_kept kept place text n = xors (take n text) (take (16 - place % 16) (drop (place % 16) kept))

module _ (E : List ℕ → List ℕ) (sized : (b : List ℕ) → length (E b) ≡ 16) (v kept : List ℕ) (long : length kept ≡ 16) (place : ℕ) (src : Lent) (dst : LentMut) (at n : ℕ)
    (taken : n ≡ min (left_over place) (length src.entry.now)) where
  abbrev text : List ℕ
  text = src.entry.now

  abbrev front : List ℕ
  front = from_kept kept place text n

  from_kept_lem : front ≡ xors (take n text) (drop (place % 16) kept)
  from_kept_lem = ap (xors (take n text)) (take_all (16 - place % 16) (drop (place % 16) kept) (omega (arith, length-drop (place % 16) kept)))

  length_front : length front ≡ n
  length_front = length-xors (take n text) _ ∙ length-take-le n text (omega arith)

  -- where these are all
  pub piece_within : n ≡ length text → {r : Counted} → Reports (cond (eqb ((place + n) % 16) 0) no_block kept) 0 r → Writes dst at front
      → XorsPiece E v kept place src dst at r
  piece_within all still wrote =
      record {
        kept = record {
          block = still.block ∙ ap (λ (m : ℕ). cond (eqb ((place + m) % 16) 0) no_block kept) all ∙ sym (kept_after_within E v kept place (length text) (omega arith));
          work = still.work ∙ sym (piece_work_within place (length text) (omega arith));
        };
        text =
            wrote
            ∙ ap (put _ at) (from_kept_lem ∙ ap (λ (t : List ℕ). xors t (drop (place % 16) kept)) (take_all n text (omega arith)) ∙ sym (xor_piece_within E v kept place text (omega arith)));
      }

  -- where more follow, from the next block on: `&piece[n..]`
  module _ (more : n ≡ length text → ⊥) where
    abbrev from_new : List ℕ
    from_new = take (length text - n) (drop n text)

    used_up : n ≡ left_over place
    used_up = omega (arith, taken, more)

    length_from_new : length from_new ≡ length text - n
    length_from_new = ap length (take_rest text n) ∙ length-drop n text

    pub piece_beyond : at + length text ≤ length dst.entry.now → {wrote : List ℕ} → wrote ≡ put dst.entry.now at front
        → {r : Counted} → Reports (kept_after E v no_block (16 * ((place + n) / 16)) (length from_new)) (piece_work (16 * ((place + n) / 16)) (length from_new)) r
        → dst.exit.now ≡ put wrote (at + n) (xor_piece E v no_block (16 * ((place + n) / 16)) from_new)
        → XorsPiece E v kept place src dst at r
    piece_beyond room {wrote} w rest e =
        let l : List ℕ = dst.entry.now in
        let i : ℕ = (place + n) / 16 in
        let next : 16 * i ≡ place + n = omega (arith, used_up) in
        let beyond : left_over place ≤ length text = omega (arith, taken, used_up) in
        let end : 16 * i + length from_new ≡ place + length text = omega (arith, next, taken, length_from_new) in
        let count : length from_new ≡ length text - left_over place = omega (arith, used_up, length_from_new) in
        let stream : List ℕ = xor_stream E v (place + n) (drop n text) in
        record {
          kept = record {
            block =
                rest.block
                ∙ kept_after_fresh E sized v i (length from_new)
                ∙ ap (begun_block E v) end
                ∙ sym (kept_after_beyond E sized v kept place (length text) long beyond);
            work = rest.work ∙ piece_work_fresh i (length from_new) ∙ ap key_stream_work count ∙ sym (piece_work_beyond place (length text) beyond);
          };
          text =
              e
              ∙ ap (put wrote (at + n)) (xor_piece_fresh E sized v i from_new)
              ∙ ap₂ (λ (k : ℕ) (t : List ℕ). put wrote (at + n) (xor_stream E v k t)) next (take_rest text n)
              ∙ ap₂ (λ (x : List ℕ) (k : ℕ). put x (at + k) stream) w (sym length_front)
              ∙ put-put l at front stream (omega (arith, length_front, taken))
              ∙ ap (λ (t : List ℕ). put l at (t ++ stream)) from_kept_lem
              ∙ ap (λ (k : ℕ). put l at (xors (take k text) (drop (place % 16) kept) ++ xor_stream E v (place + k) (drop k text))) used_up
              ∙ ap (put l at) (sym (xor_piece_beyond E sized v kept place text long beyond));
        }
