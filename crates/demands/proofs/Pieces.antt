-- The state after a begin and any pieces, in one form: pieces join,
-- the state fits its calls, and it gives the tag and the key stream of RFC 5297.
-- Assumes nothing.
use mathlib.Core.Path.{◌≡◌, refl, ap, ap₂, sym, ◌∙◌}
use mathlib.Core.Bool.{Bool, true, false, not, cond, ◌||◌}
use mathlib.Core.List.{List, [], ◌++◌}
use mathlib.Core.Logic.{inl, inr}
use Prim.Native.Nat.{ℕ, zero, suc, ◌+◌, ◌-◌, ◌*◌, ◌/◌, ◌%◌, ◌≤◌, ◌<◌}
use native.Mathlib.Decide.{dec_lt}
use native.Mathlib.Nat.{zero-add}
use native.Mathlib.Omega.{arith}
use lib.Dec.{eqb}
use lib.ListN.{length, take, drop, replicate, length-append, length-take, length-drop, length-replicate}
use lib.Seq.{drop-append-le, drop-drop, drop_at}
use borrow.Author.Tests.{eq-eqb, le-ltb}
use Rattle.octets.specs.Octets.{put, all_zero}
use Rattle.octets.proofs.Strings.{length-xors, length-put, take_put, drop-put}
use Rattle.aes.specs.Aes.{is_width, aes}
use Rattle.aes.specs.Cipher.{cipher}
use Rattle.aes.specs.KeyExpansion.{word, temp, next_word, schedule, key_expansion, round_keys}
use Rattle.aes.proofs.Widths.{length-cipher}
use Rattle.cmac.specs.declared.Subkeys.{Subkeys}
use Rattle.cmac.specs.Cmac.{zeros, chain, subkeys, zero_cipher}
use Rattle.cmac.proofs.Laws.{chain_work_lem, chain_front, chain-add}
use Rattle.s2v.specs.S2v.{tail_length, header_result, tag_from, s2v}
use Rattle.s2v.proofs.Laws.{tail_short, tail_long, Tail, tail, tag_tail, length-header_result}
use Rattle.counter.specs.Counter.{initial_counter, counter_block}
use Rattle.keystream.specs.KeyStream.{xor_stream}
use Rattle.keystream.specs.Pieces.{begun_block, piece_work, xor_piece, kept_after}
use Rattle.keystream.proofs.Laws.{stream_work_lem, xor_stream-append, xor_piece_own, kept_after_own}
use Rattle.whole.specs.Calls.{is_key_length, limit}
use Rattle.whole.specs.Siv.{mac_key, ctr_key, tag_of, streamed}
use Rattle.whole.proofs.Laws.{KeyHalves, halves, aes_cipher, length-streamed}
use Rattle.whole.proofs.Lengths.{tag_lengths}
use Rattle.head.specs.Head.{head_of}
use Rattle.stream.specs.declared.Stream.{Stream}
use Rattle.stream.specs.State.{start, written_limit, kept_fits, fits, used_tail, state_with, added, added_work, tag_of_state, tag_of_state_work, streamed_at, kept_at}
use Rattle.tail.specs.Tail.{tail_of, passed_blocks}
use Rattle.tail.proofs.Laws.{Cut, cut, passed_more}
use Rattle.demands.specs.Figures.{IsKeyWidth, tail_count, chained, sixteenths, blocks}
use Rattle.demands.specs.State.{key_bytes, prepared_head, state_of}
use Rattle.demands.proofs.Figures.{key_width}

with_same : (s : Stream) {c c' : List ℕ} {n n' : ℕ} {t t' : List ℕ} → c ≡ c' → n ≡ n' → t ≡ t' → state_with s c n (tail_length n) t ≡ state_with s c' n' (tail_length n') t'
with_same s {c} {c'} {n} {n'} {t} {t'} p q r =
    ap₂ (λ (x : List ℕ) (y : ℕ). state_with s x y (tail_length y) t) p q ∙ ap (state_with s c' n' (tail_length n')) r

zero_rest : (n m : ℕ) → all_zero (drop n (replicate m 0)) ≡ true
unfolding all_zero
zero_rest zero zero = refl
zero_rest zero (suc m) = zero_rest zero m
zero_rest (suc n) zero = refl
zero_rest (suc n) (suc m) = zero_rest n m

aes_sized : (key b : List ℕ) → length (aes key b) ≡ 16
unfolding aes
aes_sized key b = length-cipher _ _ b

-- the key stream's own block is zero where none is begun
pub begun_none : (E : List ℕ → List ℕ) (v : List ℕ) (n : ℕ) → (not (eqb (n % 16) 0) || all_zero (begun_block E v n)) ≡ true
unfolding begun_block all_zero
begun_none E v n = go (eqb (n % 16) 0)
  where
    go : (t : Bool) → (not t || all_zero (cond t (replicate 16 0) (E (counter_block (initial_counter v) (n / 16))))) ≡ true
    go true = refl
    go false = refl

pub begun_zero : (E : List ℕ → List ℕ) (v : List ℕ) → begun_block E v 0 ≡ zeros
unfolding begun_block
begun_zero E v = refl

-- the work of a piece is that of the blocks that it begins
pub piece_work_lem : (place n : ℕ) → piece_work place n ≡ sixteenths (place + n) - sixteenths place
unfolding piece_work
piece_work_lem place n = stream_work_lem _

-- the chain has taken the blocks before the tail, and the tag takes the others
pub passed_chained : (n : ℕ) → passed_blocks n ≡ chained n
unfolding passed_blocks
passed_chained n = go (dec_lt n 16)
  where
    go : Dec (n < 16) → (n - tail_length n) / 16 ≡ chained n
    go (yes h) = let e : tail_length n ≡ n = tail_short n h in omega arith
    go (no h) = let e : tail_length n ≡ 16 + n % 16 = tail_long n (omega arith) in omega arith

pub added_work_lem : (s : Stream) (n : ℕ) → added_work s n ≡ chained (s.total + n) - chained s.total
unfolding added_work
added_work_lem s n = chain_work_lem _ ∙ ap₂ ◌-◌ (passed_chained (s.total + n)) (passed_chained s.total)

left : (n : ℕ) → blocks (tail_length n) ≡ blocks n - chained n
left n = go (dec_lt n 16)
  where
    go : Dec (n < 16) → blocks (tail_length n) ≡ blocks n - chained n
    go (yes h) = let e : tail_length n ≡ n = tail_short n h in omega arith
    go (no h) = let e : tail_length n ≡ 16 + n % 16 = tail_long n (omega arith) in omega arith

pub tag_of_state_work_lem : (s : Stream) → length s.d ≡ 16 → length s.tail ≡ 31 → tag_of_state_work s ≡ blocks s.total - chained s.total
unfolding tag_of_state_work
tag_of_state_work_lem s d t =
    let used : length (used_tail s) ≡ tail_length s.total = simp length-take (omega (arith, t, (tail s.total).short)) in
    tag_lengths s.d (used_tail s) d ∙ ap blocks used ∙ left s.total

-- ---- in figures

drop-zeros : (n m : ℕ) → drop n (replicate {A = ℕ} m 0) ≡ replicate (m - n) 0
drop-zeros zero m = let e : m ≡ m - 0 = omega arith in ap (λ (k : ℕ). replicate k 0) e
drop-zeros (suc n) zero = let e : 0 ≡ 0 - suc n = omega arith in ap (λ (k : ℕ). replicate k 0) e
drop-zeros (suc n) (suc m) = let e : m - n ≡ suc m - suc n = omega arith in drop-zeros n m ∙ ap (λ (k : ℕ). replicate k 0) e

-- a string at the front of zeros
pub front_zeros : (m : ℕ) (s : List ℕ) → put (replicate m 0) 0 s ≡ s ++ replicate (m - length s) 0
unfolding put
front_zeros m s = ap (λ (l : List ℕ). s ++ l) (drop-zeros (0 + length s) m ∙ ap (λ (k : ℕ). replicate (m - k) 0) (zero-add (length s)))

-- the key expansion has 4 bytes for each word
next_word_lem : (nk i : ℕ) (w : List ℕ) → length (next_word nk i w) ≡ 4
unfolding next_word
next_word_lem nk i w = length-xors (word w (i - nk)) (temp nk i (word w (i - 1)))

length-schedule : (nk : ℕ) (key : List ℕ) (n : ℕ) → length (schedule nk key n) ≡ length key + 4 * n
unfolding schedule
length-schedule nk key zero = omega arith
length-schedule nk key (suc n) =
    length-append (schedule nk key n) (next_word nk (nk + n) (schedule nk key n)) ∙ omega (arith, length-schedule nk key n, next_word_lem nk (nk + n) (schedule nk key n))

pub key_bytes_lem : (half : List ℕ) → is_width (length half) ≡ true → round_keys half ≡ key_bytes half
unfolding round_keys key_expansion
key_bytes_lem half w =
    front_zeros 240 (key_expansion half)
    ∙ ap (λ (n : ℕ). key_expansion half ++ replicate (240 - n) 0)
    (length-schedule (length half / 4) half (4 * (length half / 4 + 7) - length half / 4) ∙ words ((key_width (length half)).holds w))
  where
    words : IsKeyWidth (length half) → length half + 4 * (4 * (length half / 4 + 7) - length half / 4) ≡ 16 * (length half / 4 + 7)
    words (inl e) = omega (arith, e)
    words (inr (inl e)) = omega (arith, e)
    words (inr (inr e)) = omega (arith, e)

-- ---- the state

module _ (key : List ℕ) (ss : List (List ℕ)) where
  E : List ℕ → List ℕ
  E = cipher (length key / 2) (round_keys (mac_key key))

  -- the state in a stage, with a tag, a kept block, a count of written bytes and the plaintext P, as the calls build it
  abbrev pub built_of : ℕ → List ℕ → List ℕ → ℕ → List ℕ → Stream
  built_of stage v kept written P =
      record {
        stage = stage;
        width = length key / 2;
        mac_keys = round_keys (mac_key key);
        ctr_keys = round_keys (ctr_key key);
        l = zero_cipher (cipher (length key / 2) (round_keys (mac_key key)));
        d = header_result (cipher (length key / 2) (round_keys (mac_key key))) (subkeys (zero_cipher (cipher (length key / 2) (round_keys (mac_key key))))) ss;
        chain = chain (cipher (length key / 2) (round_keys (mac_key key))) zeros P (passed_blocks (length P));
        v = v;
        kept = kept;
        total = length P;
        written = written;
        tail_len = tail_length (length P);
        tail = tail_of (drop (16 * passed_blocks (length P)) P);
      }

  -- the states that the model knows: while A is added;
  -- while W is written of it; and while P is what was fed, deciphered
  abbrev pub adding_state : List ℕ → Stream
  adding_state A = built_of 1 zeros zeros 0 A

  abbrev pub writing_state : List ℕ → List ℕ → Stream
  writing_state A W = built_of 2 (tag_of key ss A) (begun_block (aes (ctr_key key)) (tag_of key ss A) (length W)) (length W) A

  abbrev pub feeding_state : List ℕ → List ℕ → Stream
  feeding_state T P = built_of 3 T (begun_block (aes (ctr_key key)) T (length P)) 0 P

  pub begin_state : (stage : ℕ) (v : List ℕ) → start (head_of key ss) stage v ≡ built_of stage v zeros 0 []
  unfolding head_of chain passed_blocks tail_length put
  begin_state stage v = refl

  module _ (stage : ℕ) (v kept : List ℕ) (written : ℕ) (A : List ℕ) where
    before : ℕ
    before = 16 * passed_blocks (length A)

    long : length (drop before A) ≡ tail_length (length A)
    unfolding before
    long = let c : Cut (length A) = cut (length A) in length-drop before A ∙ omega arith

    room : 0 + length (drop before A) ≤ length (replicate {A = ℕ} 31 0)
    room = let c : Cut (length A) = cut (length A) in omega (arith, long, length-replicate {A = ℕ} 31 0)

    -- the tail's used bytes are the plaintext's last
    tail_state : used_tail (built_of stage v kept written A) ≡ drop before A
    unfolding before
    tail_state =
        let count : tail_length (length A) ≡ 0 + length (drop before A) = omega (arith, long) in
        ap (λ (n : ℕ). take n (tail_of (drop before A))) count ∙ take_put (replicate 31 0) 0 (drop before A) room

    -- a piece more
    pub join : (B : List ℕ) → added (built_of stage v kept written A) B ≡ built_of stage v kept written (A ++ B)
    unfolding added E before
    join B =
        let p : ℕ = passed_blocks (length A) in
        let n : ℕ = passed_blocks (length A + length B) - p in
        let c : Cut (length A) = cut (length A) in
        let total : length A + length B ≡ length (A ++ B) = sym (length-append A B) in
        let more : p + n ≡ passed_blocks (length A + length B) = omega (arith, passed_more (length A) (length B)) in
        let blocks : p + n ≡ passed_blocks (length (A ++ B)) = more ∙ ap passed_blocks total in
        let text : used_tail (built_of stage v kept written A) ++ B ≡ drop (16 * p) (A ++ B) = ap (λ (l : List ℕ). l ++ B) tail_state ∙ sym (drop-append-le (16 * p) A B (omega arith)) in
        let place : 16 * p + 16 * n ≡ 16 * passed_blocks (length (A ++ B)) = omega arith in
        with_same (built_of stage v kept written A)
        (ap₂ (λ (x t : List ℕ). chain E x t n) (sym (chain_front E zeros A B p (omega arith))) text ∙ sym (chain-add E zeros (A ++ B) p n) ∙ ap (chain E zeros (A ++ B)) blocks)
        total
        (ap (λ (t : List ℕ). tail_of (drop (16 * n) t)) text
        ∙ ap tail_of (drop-drop (16 * n) (16 * p) (A ++ B) ∙ ap (λ (k : ℕ). drop k (A ++ B)) place))

    unused : all_zero (drop (tail_length (length A)) (built_of stage v kept written A).tail) ≡ true
    unfolding before
    unused =
        let count : tail_length (length A) ≡ 0 + length (drop before A) = omega (arith, long) in
        ap (λ (n : ℕ). all_zero (drop n (tail_of (drop before A)))) count
        ∙ ap all_zero (drop-put (replicate 31 0) 0 (drop before A) room)
        ∙ zero_rest (0 + length (drop before A)) 31

  module _ (keyed : is_key_length (length key) ≡ true) where
    h : KeyHalves (length key)
    h = halves (length key) keyed

    -- the state is one for the calls that want its stage
    pub fits_state : (stage : ℕ) (v kept : List ℕ) (written : ℕ) (P : List ℕ) → length P ≤ limit → written ≤ written_limit stage (length P)
        → kept_fits stage (built_of stage v kept written P) ≡ true → fits stage (built_of stage v kept written P) ≡ true
    unfolding fits
    fits_state stage v kept written P total most whole =
        simp (
          eq-eqb stage stage refl,
          h.half,
          le-ltb limit (length P) total,
          le-ltb (written_limit stage (length P)) written most,
          eq-eqb (tail_length (length P)) (tail_length (length P)) refl,
          whole,
        )
        (unused stage v kept written P)

    -- V of the state is V of its plaintext
    pub tag_state : (stage : ℕ) (v kept : List ℕ) (written : ℕ) (P : List ℕ) → tag_of_state (built_of stage v kept written P) ≡ tag_of key ss P
    unfolding tag_of_state tag_of s2v passed_blocks before E
    tag_state stage v kept written P =
        let at : ℕ = length P - tail_length (length P) in
        let t : Tail (length P) = tail (length P) in
        let whole : 16 * (at / 16) ≡ at = t.blocks in
        let k : Subkeys = subkeys (zero_cipher E) in
        let d : List ℕ = header_result E k ss in
        let front : length key / 2 ≡ length (mac_key key) = simp length-take (omega arith) in
        ap (tag_from E k d (chain E zeros P (at / 16))) (tail_state stage v kept written P ∙ ap (λ (n : ℕ). drop n P) whole)
        ∙ sym (tag_tail E k d P at refl)
        ∙ ap (λ (F : List ℕ → List ℕ). s2v F ss P) (aes_cipher (mac_key key) front refl)

    -- its work is what the chain leaves of the plaintext's blocks
    pub tag_state_work : (stage : ℕ) (v kept : List ℕ) (written : ℕ) (P : List ℕ) → tag_of_state_work (built_of stage v kept written P) ≡ blocks (length P) - chained (length P)
    unfolding before E
    tag_state_work stage v kept written P =
        tag_of_state_work_lem (built_of stage v kept written P) (length-header_result E (length-cipher _ _) (subkeys (zero_cipher E)) ss)
        (length-put (replicate 31 0) 0 (drop (16 * passed_blocks (length P)) P) (room stage v kept written P))

    -- the state's cipher for CMAC is AES under the key's first half
    mac_cipher : cipher (length key / 2) (round_keys (mac_key key)) ≡ aes (mac_key key)
    mac_cipher = aes_cipher (mac_key key) (simp length-take (omega arith)) refl

    mac_bytes : round_keys (mac_key key) ≡ key_bytes (mac_key key)
    mac_bytes = key_bytes_lem (mac_key key) (ap is_width (simp length-take (omega arith)) ∙ h.half)

    ctr_bytes : round_keys (ctr_key key) ≡ key_bytes (ctr_key key)
    ctr_bytes = let k : KeyHalves (length key) = h in key_bytes_lem (ctr_key key) (ap is_width (simp length-drop (omega arith)) ∙ h.half)

    -- a head in figures
    pub head_figures : head_of key ss ≡ prepared_head key ss
    unfolding head_of
    head_figures =
        λ i.
        record {
          width = length key / 2;
          mac_keys = mac_bytes i;
          ctr_keys = ctr_bytes i;
          l = zero_cipher (mac_cipher i);
          d = header_result (mac_cipher i) (subkeys (zero_cipher (mac_cipher i))) ss;
          count = length ss;
        }

    -- and the state
    pub state_figures : (stage : ℕ) (v kept : List ℕ) (written : ℕ) (P : List ℕ) → built_of stage v kept written P ≡ state_of key ss stage v kept written P
    unfolding tail_length before
    state_figures stage v kept written P =
        let n = passed_chained (length P) in
        let tail : tail_of (drop (16 * passed_blocks (length P)) P) ≡ drop (16 * chained (length P)) P ++ replicate (31 - tail_count (length P)) 0 =
        front_zeros 31 (drop (16 * passed_blocks (length P)) P)
        ∙ ap₂ (λ (m k : ℕ). drop (16 * m) P ++ replicate (31 - k) 0) n (long stage v kept written P) in
        λ i.
        record {
          stage = stage;
          width = length key / 2;
          mac_keys = mac_bytes i;
          ctr_keys = ctr_bytes i;
          l = zero_cipher (mac_cipher i);
          d = header_result (mac_cipher i) (subkeys (zero_cipher (mac_cipher i))) ss;
          chain = chain (mac_cipher i) zeros P (n i);
          v = v;
          kept = kept;
          total = length P;
          written = written;
          tail_len = tail_length (length P);
          tail = tail i;
        }

    -- the state's cipher for the key stream is AES under the key's second half
    stream_cipher : cipher (length key / 2) (round_keys (ctr_key key)) ≡ aes (ctr_key key)
    stream_cipher = let k : KeyHalves (length key) = h in aes_cipher (ctr_key key) (simp length-drop (omega arith)) refl

    -- with the key stream's own block kept, a piece is xored with the key stream of its tag
    pub stream_state : (stage : ℕ) (v : List ℕ) (written : ℕ) (P : List ℕ) (place : ℕ) (s : List ℕ)
        → streamed_at (built_of stage v (begun_block (aes (ctr_key key)) v place) written P) place s ≡ xor_stream (aes (ctr_key key)) v place s
    unfolding streamed_at
    stream_state stage v written P place s =
        ap (λ (F : List ℕ → List ℕ). xor_piece F v (begun_block (aes (ctr_key key)) v place) place s) stream_cipher ∙ xor_piece_own (aes (ctr_key key)) (aes_sized (ctr_key key)) v place s

    -- and its own block is kept again
    pub kept_state : (stage : ℕ) (v : List ℕ) (written : ℕ) (P : List ℕ) (place n : ℕ)
        → kept_at (built_of stage v (begun_block (aes (ctr_key key)) v place) written P) place n ≡ begun_block (aes (ctr_key key)) v (place + n)
    unfolding kept_at
    kept_state stage v written P place n =
        ap (λ (F : List ℕ → List ℕ). kept_after F v (begun_block (aes (ctr_key key)) v place) place n) stream_cipher ∙ kept_after_own (aes (ctr_key key)) (aes_sized (ctr_key key)) v place n

-- ---- the key stream over a string cut in two

pub streamed-append : (key v a b : List ℕ) → streamed key v (a ++ b) ≡ streamed key v a ++ xor_stream (aes (ctr_key key)) v (length a) b
unfolding streamed aes
streamed-append key v a b =
    let place : 0 + length a ≡ length a = omega arith in
    xor_stream-append (aes (ctr_key key)) (λ x. length-cipher _ _ _) v 0 a b ∙ ap (λ (n : ℕ). streamed key v a ++ xor_stream (aes (ctr_key key)) v n b) place

pub streamed_rest : (key v a b : List ℕ) → drop (length a) (streamed key v (a ++ b)) ≡ xor_stream (aes (ctr_key key)) v (length a) b
streamed_rest key v a b = ap (drop (length a)) (streamed-append key v a b) ∙ drop_at (streamed key v a) (xor_stream (aes (ctr_key key)) v (length a) b) (length a) (length-streamed key v a)
