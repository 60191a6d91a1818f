-- Words as four bytes: what the code does to a word it does to each byte.
-- Assumes nothing.
use mathlib.Core.Path.{◌≡◌, refl, ap, ap₂, sym, ◌∙◌}
use mathlib.Core.List.{List, [], ◌∷◌, ◌++◌}
use Prim.Native.Nat.{ℕ, ◌+◌, ◌*◌, ◌/◌, ◌%◌, ◌^◌, ◌<◌}
use native.Mathlib.Nat.{lt_of_le_of_lt, div-div-eq-div-mul, div-add-mod', mod-eq_of_lt, div-lt_iff_lt-mul}
use native.Mathlib.Omega.{arith}
use lib.Bits.{bit_or, bit_xor, bit_and, or_shifted_r, xor_shr, xor_mod, and_shr, and_mod, and_le_l, xor_lt, xor_comm}
use lib.ListN.{length}
use Rattle.std.specs.Int.{w32, rotate_right}
use Rattle.octets.specs.Octets.{entries}
use Rattle.octets.proofs.Strings.{entries_all}
use Rattle.aes.specs.declared.State.{State}
use Rattle.field.specs.Field.{mul}
use Rattle.aes.specs.State.{bytes_of_word, bytes_of, WordIs, StateIs, mixed_byte, Mixed}
use Rattle.field.proofs.Laws.{top_bit, low_bits, twice_mul, thrice_mul}

-- ---- an operation on bits works on each byte by itself

module _ (op : ℕ → ℕ → ℕ) (shr : (a b k : ℕ) → op a b / 2 ^ k ≡ op (a / 2 ^ k) (b / 2 ^ k)) (rem : (a b k : ℕ) → op a b % 2 ^ k ≡ op (a % 2 ^ k) (b % 2 ^ k)) where
  row : (v w k : ℕ) → op v w / 2 ^ k % 0x100 ≡ op (v / 2 ^ k % 0x100) (w / 2 ^ k % 0x100)
  row v w k = ap (λ (n : ℕ). n % 0x100) (shr v w k) ∙ rem (v / 2 ^ k) (w / 2 ^ k) 8

  word_op : {a b c d a' b' c' d' v w : ℕ} → WordIs a b c d v → WordIs a' b' c' d' w → WordIs (op a a') (op b b') (op c c') (op d d') (op v w)
  word_op {v = v} {w = w} p q =
      record {
        row0 = rem v w 8 ∙ ap₂ op p.row0 q.row0;
        row1 = row v w 8 ∙ ap₂ op p.row1 q.row1;
        row2 = row v w 16 ∙ ap₂ op p.row2 q.row2;
        row3 = row v w 24 ∙ ap₂ op p.row3 q.row3;
      }

pub word-xor : {a b c d a' b' c' d' v w : ℕ} → WordIs a b c d v → WordIs a' b' c' d' w → WordIs (bit_xor a a') (bit_xor b b') (bit_xor c c') (bit_xor d d') (bit_xor v w)
word-xor = word_op bit_xor xor_shr xor_mod

word_and : {a b c d a' b' c' d' v w : ℕ} → WordIs a b c d v → WordIs a' b' c' d' w → WordIs (bit_and a a') (bit_and b b') (bit_and c c') (bit_and d d') (bit_and v w)
word_and = word_op bit_and and_shr and_mod

-- a word has its own bytes
pub own : (w : ℕ) → WordIs (w % 0x100) (w / 0x100 % 0x100) (w / 0x10000 % 0x100) (w / 0x1000000 % 0x100) w
own w = record { row0 = refl; row1 = refl; row2 = refl; row3 = refl }

-- ---- a word and the sum of its bytes

pub word_is : (a b c d w : ℕ) → a < 0x100 → b < 0x100 → c < 0x100 → d < 0x100 → w ≡ a + b * 0x100 + c * 0x10000 + d * 0x1000000 → WordIs a b c d w
word_is a b c d w ha hb hc hd e = record { row0 = omega arith; row1 = omega arith; row2 = omega arith; row3 = omega arith }

-- a number, its quotient by 0x100 and the rest
digit : (n : ℕ) {q r : ℕ} → n / 0x100 ≡ q → n % 0x100 ≡ r → n ≡ q * 0x100 + r
digit n e f = sym (div-add-mod' n 0x100) ∙ ap₂ (λ (x y : ℕ). x * 0x100 + y) e f

join : (a b c : ℕ) {w x y z d : ℕ} → w ≡ x * 0x100 + a → x ≡ y * 0x100 + b → y ≡ z * 0x100 + c → z ≡ d → w ≡ a + b * 0x100 + c * 0x10000 + d * 0x1000000
join a b c p q r s = omega arith

sum : {a b c d w : ℕ} → w < 2 ^ 32 → WordIs a b c d w → w ≡ a + b * 0x100 + c * 0x10000 + d * 0x1000000
sum {a} {b} {c} {w = w} h p =
    join a b c (digit w refl p.row0) (digit (w / 0x100) (div-div-eq-div-mul w 0x100 0x100) p.row1)
    (digit (w / 0x10000) (div-div-eq-div-mul w 0x10000 0x100) p.row2)
    (sym (mod-eq_of_lt ((div-lt_iff_lt-mul {k = 0x1000000} {x = w} {y = 0x100} (omega arith)).1 (omega arith))) ∙ p.row3)

-- ---- a word rotated by bytes

turned : (w k j : ℕ) → w / 2 ^ k < 2 ^ j → w * 2 ^ j % 2 ^ 32 ≡ w % 2 ^ k * 2 ^ j → bit_or (w / 2 ^ k) (w * 2 ^ j % 2 ^ 32) ≡ w % 2 ^ k * 2 ^ j + w / 2 ^ k
turned w k j h e = ap (bit_or (w / 2 ^ k)) e ∙ or_shifted_r (w % 2 ^ k) j (w / 2 ^ k) h

module _ {a b c d w : ℕ} (h : w < 2 ^ 32) (p : WordIs a b c d w) where
  a_byte : a < 0x100
  a_byte = omega (arith, p.row0)

  b_byte : b < 0x100
  b_byte = omega (arith, p.row1)

  c_byte : c < 0x100
  c_byte = omega (arith, p.row2)

  d_byte : d < 0x100
  d_byte = omega (arith, p.row3)

  pub rotated_8 : WordIs b c d a (rotate_right w32 w 8)
  rotated_8 = word_is b c d a _ b_byte c_byte d_byte a_byte (turned w 8 24 (omega arith) (omega arith) ∙ omega (arith, sum h p))

  pub rotated_16 : WordIs c d a b (rotate_right w32 w 16)
  rotated_16 = word_is c d a b _ c_byte d_byte a_byte b_byte (turned w 16 16 (omega arith) (omega arith) ∙ omega (arith, sum h p))

  pub rotated_24 : WordIs d a b c (rotate_right w32 w 24)
  rotated_24 = word_is d a b c _ d_byte a_byte b_byte c_byte (turned w 24 8 (omega arith) (omega arith) ∙ omega (arith, sum h p))

  -- ---- twice each byte

  top : ℕ
  top = bit_and w 0x80808080

  tops : WordIs (bit_and a 0x80) (bit_and b 0x80) (bit_and c 0x80) (bit_and d 0x80) top
  unfolding top
  tops = word_and p (own 0x80808080)

  lows : WordIs (bit_xor a (bit_and a 0x80)) (bit_xor b (bit_and b 0x80)) (bit_xor c (bit_and c 0x80)) (bit_xor d (bit_and d 0x80)) (bit_xor w top)
  lows = word-xor p tops

  top_lt : top < 2 ^ 32
  unfolding top
  top_lt = lt_of_le_of_lt (and_le_l w 0x80808080) h

  top_sum : top ≡ a / 0x80 * 0x80 + b / 0x80 * 0x80 * 0x100 + c / 0x80 * 0x80 * 0x10000 + d / 0x80 * 0x80 * 0x1000000
  top_sum = omega (arith, sum top_lt tops, top_bit a a_byte, top_bit b b_byte, top_bit c c_byte, top_bit d d_byte)

  low_sum : bit_xor w top ≡ a % 0x80 + b % 0x80 * 0x100 + c % 0x80 * 0x10000 + d % 0x80 * 0x1000000
  low_sum = omega (arith, sum (xor_lt 32 w top h top_lt) lows, low_bits a a_byte, low_bits b b_byte, low_bits c c_byte, low_bits d d_byte)

  pub doubled_lt : bit_xor w (bit_and w 0x80808080) * 2 < 2 ^ 32
  unfolding top
  doubled_lt = omega (arith, low_sum)

  pub twice_is : WordIs (mul 2 a) (mul 2 b) (mul 2 c) (mul 2 d) (bit_xor (bit_xor w (bit_and w 0x80808080) * 2) (bit_and w 0x80808080 / 0x80 * 0x1b))
  unfolding top
  twice_is =
      let q : WordIs (a % 0x80 * 2) (b % 0x80 * 2) (c % 0x80 * 2) (d % 0x80 * 2) (bit_xor w top * 2) =
      word_is _ _ _ _ _ (omega arith) (omega arith) (omega arith) (omega arith) (omega (arith, low_sum)) in
      let r : WordIs (a / 0x80 * 0x1b) (b / 0x80 * 0x1b) (c / 0x80 * 0x1b) (d / 0x80 * 0x1b) (top / 0x80 * 0x1b) =
      word_is _ _ _ _ _ (omega (arith, a_byte)) (omega (arith, b_byte)) (omega (arith, c_byte)) (omega (arith, d_byte)) (omega (arith, top_sum)) in
      let s = word-xor q r in
      record {
        row0 = s.row0 ∙ twice_mul a a_byte;
        row1 = s.row1 ∙ twice_mul b b_byte;
        row2 = s.row2 ∙ twice_mul c c_byte;
        row3 = s.row3 ∙ twice_mul d d_byte;
      }

-- ---- MixColumns at one column: `x` is twice each byte, `u` three times the byte below,
-- `v` and `t` the two bytes below that

row_of : (a b c d : ℕ) → b < 0x100 → bit_xor (bit_xor (bit_xor (mul 2 a) (bit_xor (mul 2 b) b)) c) d ≡ mixed_byte a b c d
row_of a b c d h = ap (λ (n : ℕ). bit_xor (bit_xor (bit_xor (mul 2 a) n) c) d) (xor_comm (mul 2 b) b ∙ thrice_mul b h)

module _ {a b c d w x u v t : ℕ} (h : w < 2 ^ 32) (p : WordIs a b c d w) (two : WordIs (mul 2 a) (mul 2 b) (mul 2 c) (mul 2 d) x)
    (three : WordIs (bit_xor (mul 2 b) b) (bit_xor (mul 2 c) c) (bit_xor (mul 2 d) d) (bit_xor (mul 2 a) a) u) (one : WordIs c d a b v) (last : WordIs d a b c t) where
  pub mixed : Mixed a b c d (bit_xor (bit_xor (bit_xor x u) v) t)
  mixed =
      let r = word-xor (word-xor (word-xor two three) one) last in
      record {
        row0 = r.row0 ∙ row_of a b c d (b_byte h p);
        row1 = r.row1 ∙ row_of b c d a (c_byte h p);
        row2 = r.row2 ∙ row_of c d a b (d_byte h p);
        row3 = r.row3 ∙ row_of d a b c (a_byte h p);
      }

-- ---- a state and its string

column : {a b c d w : ℕ} {l l' : List ℕ} → WordIs a b c d w → l ≡ l' → ◌≡◌ {A = List ℕ} (bytes_of_word w ++ l) (a ∷ b ∷ c ∷ d ∷ l')
column h t = λ i. h.row0 i ∷ h.row1 i ∷ h.row2 i ∷ h.row3 i ∷ t i

pub word_bytes : {a b c d w : ℕ} → WordIs a b c d w → ◌≡◌ {A = List ℕ} (bytes_of_word w) (a ∷ b ∷ c ∷ d ∷ [])
word_bytes h = column h refl

-- the string of a state; where `s` is written out, the right side computes to `s`
pub state_bytes : (s : List ℕ) {r : State} → StateIs s r → bytes_of r ≡ entries 16 0 s
state_bytes s h = column h.column0 (column h.column1 (column h.column2 (column h.column3 refl)))

-- a string of 16 bytes is the list of them
pub whole : (s : List ℕ) → length s ≡ 16 → entries 16 0 s ≡ s
whole s e = ap (λ (n : ℕ). entries n 0 s) (sym e) ∙ entries_all s
