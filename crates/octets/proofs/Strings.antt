-- Laws of `xors`, `put` and `same` on strings.
-- Assumes nothing.
use mathlib.Core.Path.{◌≡◌, refl, sym, ap, ap₂, ◌∙◌}
use mathlib.Core.Bool.{Bool, true, false≢true, ◌&&◌, and-eq-true_iff, and-true, and_assoc}
use mathlib.Core.List.{List, [], ◌∷◌, ◌++◌, append_assoc, append-nil}
use Prim.Native.Nat.{ℕ, zero, suc, ◌+◌, ◌-◌, ◌≤◌, ◌<◌}
use native.Mathlib.Nat.{add-zero, zero-add, le_of_suc-le-suc, not-suc-le-zero}
use native.Mathlib.Numerals.{add-one}
use native.Mathlib.Omega.{arith}
use lib.Bits.{bit_xor, bit_or, xor_assoc, xor_zero_r, xor_self, or_add_and, and_le_l, and_le_r}
use Rattle.std.proofs.lemmas.Bool.Decides.{nat_tests}
use lib.Dec.{eqb}
use lib.ListN.{length, take, drop, get_or, set, replicate, length-append, length-drop, length-set, take-append-drop}
use lib.Seq.{paste, paste-suc, take-length, drop-length, length-take-le, take_at, drop_at, drop-drop}
use borrow.Author.Tests.{eqb-true, eq-eqb}
use borrow.Rule.Slice.PartMut.{put_mid}
use Rattle.std.proofs.lemmas.Slice.{put_mid-paste}
use Rattle.std.specs.List.{fold, zip}
use Rattle.octets.specs.Octets.{xors, put, part, entries, same, all_zero}

-- ---- xor

-- of bytes: twice undoes itself, and it is zero only where the two are the same
xor_undo : (a b : ℕ) → bit_xor (bit_xor a b) b ≡ a
xor_undo a b = simp (xor_assoc, xor_self, xor_zero_r)

xor_zero : (a b : ℕ) → bit_xor a b ≡ 0 → a ≡ b
xor_zero a b e = sym (xor_undo a b) ∙ ap (λ (n : ℕ). bit_xor n b) e

pub length-xors : (a b : List ℕ) → length (xors a b) ≡ length a
unfolding xors
length-xors [] b = refl
length-xors (x ∷ a) [] = refl
length-xors (x ∷ a) (y ∷ b) = ap suc (length-xors a b)

-- xoring twice undoes itself, whatever the lengths
pub xors_undo : (a b : List ℕ) → xors (xors a b) b ≡ a
unfolding xors
xors_undo [] b = refl
xors_undo (x ∷ a) [] = refl
xors_undo (x ∷ a) (y ∷ b) = ap₂ (λ (h : ℕ) (t : List ℕ). h ∷ t) (xor_undo x y) (xors_undo a b)

-- xor is associative where the last string is no longer than the one in the middle
pub xors_assoc : (a b c : List ℕ) → length c ≤ length b → xors (xors a b) c ≡ xors a (xors b c)
unfolding xors
xors_assoc [] b c h = refl
xors_assoc (x ∷ a) [] [] h = refl
xors_assoc (x ∷ a) [] (z ∷ c) h = absurd (not-suc-le-zero h)
xors_assoc (x ∷ a) (y ∷ b) [] h = refl
xors_assoc (x ∷ a) (y ∷ b) (z ∷ c) h = ap₂ (λ (h : ℕ) (t : List ℕ). h ∷ t) (xor_assoc x y z) (xors_assoc a b c (le_of_suc-le-suc h))

pub take-xors : (n : ℕ) (a b : List ℕ) → take n (xors a b) ≡ xors (take n a) (take n b)
unfolding xors
take-xors zero a b = refl
take-xors (suc n) [] b = refl
take-xors (suc n) (x ∷ a) [] = refl
take-xors (suc n) (x ∷ a) (y ∷ b) = ap (λ (t : List ℕ). bit_xor x y ∷ t) (take-xors n a b)

pub xors_nil : (a : List ℕ) → xors a [] ≡ a
unfolding xors
xors_nil [] = refl
xors_nil (x ∷ a) = refl

-- zeros at the end of what is xored in change nothing
pub xors-zeros : (a b : List ℕ) (n : ℕ) → xors a (b ++ replicate n 0) ≡ xors a b
unfolding xors
xors-zeros [] b n = refl
xors-zeros (x ∷ a) [] zero = refl
xors-zeros (x ∷ a) [] (suc n) = ap₂ (λ (h : ℕ) (t : List ℕ). h ∷ t) (xor_zero_r x) (xors-zeros a [] n ∙ xors_nil a)
xors-zeros (x ∷ a) (y ∷ b) n = ap (λ (t : List ℕ). bit_xor x y ∷ t) (xors-zeros a b n)

pub xors-append : (a a' b b' : List ℕ) → length a ≡ length b → xors (a ++ a') (b ++ b') ≡ xors a b ++ xors a' b'
unfolding xors
xors-append [] a' [] b' e = refl
xors-append [] a' (y ∷ b) b' e = absurd (omega arith)
xors-append (x ∷ a) a' [] b' e = absurd (omega arith)
xors-append (x ∷ a) a' (y ∷ b) b' e = ap (λ (t : List ℕ). bit_xor x y ∷ t) (xors-append a a' b b' (omega arith))

-- a string xored with two others, one behind the other
pub xors_behind : (s a b : List ℕ) → xors s (a ++ b) ≡ xors (take (length a) s) a ++ xors (drop (length a) s) b
unfolding xors
xors_behind [] [] b = refl
xors_behind [] (y ∷ a) b = refl
xors_behind (x ∷ s) [] b = refl
xors_behind (x ∷ s) (y ∷ a) b = ap (λ (t : List ℕ). bit_xor x y ∷ t) (xors_behind s a b)

pub get_d_xors : (a b : List ℕ) (i : ℕ) → i < length a → get_or (xors a b) i 0 ≡ bit_xor (get_or a i 0) (get_or b i 0)
unfolding xors
get_d_xors [] b i h = absurd (not-suc-le-zero h)
get_d_xors (x ∷ a) [] zero h = sym (xor_zero_r x)
get_d_xors (x ∷ a) [] (suc i) h = sym (xor_zero_r (get_or a i 0))
get_d_xors (x ∷ a) (y ∷ b) zero h = refl
get_d_xors (x ∷ a) (y ∷ b) (suc i) h = get_d_xors a b i (le_of_suc-le-suc h)

-- ---- reading a part

pub length_part : (l : List ℕ) (at n : ℕ) → at + n ≤ length l → length (part l at n) ≡ n
length_part l at n h = length-take-le n (drop at l) (simp length-drop (omega arith))

-- a part whose end is given, as `&s[at..at + n]` has it
pub part_to : (l : List ℕ) (at n : ℕ) → take (at + n - at) (drop at l) ≡ part l at n
part_to l at n =
    let count : at + n - at ≡ n = omega arith in
    ap (λ (k : ℕ). take k (drop at l)) count

entries_tail : (n i x : ℕ) (l : List ℕ) → entries n (suc i) (x ∷ l) ≡ entries n i l
entries_tail zero i x l = refl
entries_tail (suc n) i x l = ap (λ (t : List ℕ). get_or l i 0 ∷ t) (entries_tail n (suc i) x l)

pub entries_all : (l : List ℕ) → entries (length l) 0 l ≡ l
entries_all [] = refl
entries_all (x ∷ l) = ap (λ (t : List ℕ). x ∷ t) (entries_tail (length l) 0 x l ∙ entries_all l)

-- ---- writing a part

module _ (l : List ℕ) (at : ℕ) (s : List ℕ) (fits : at + length s ≤ length l) where
  -- what is written, with what stands before it, has the length it should
  head-length : length (take at l ++ s) ≡ at + length s
  head-length = simp (length-append, length-take-le at l (omega arith))

  pub length-put : length (put l at s) ≡ length l
  unfolding put
  length-put = simp (length-append, length-take-le at l (omega arith), length-drop) (omega arith)

  pub take_put : take (at + length s) (put l at s) ≡ take at l ++ s
  unfolding put
  take_put = take_at (take at l ++ s) (drop (at + length s) l) (at + length s) head-length

  pub drop-put : drop (at + length s) (put l at s) ≡ drop (at + length s) l
  unfolding put
  drop-put = drop_at (take at l ++ s) (drop (at + length s) l) (at + length s) head-length

-- writing nothing
pub put_nil : (l : List ℕ) (at : ℕ) → put l at [] ≡ l
unfolding put
put_nil l at = simp (append-nil, add-zero, take-append-drop)

-- a part that was written through a slice of it, as `l[at..at + n].fill(0)` does, with what the slice holds now
pub put_mid_put : (l : List ℕ) (at k : ℕ) (now s : List ℕ) → now ≡ s → k ≡ length s → put_mid at k l now ≡ put l at s
unfolding put
put_mid_put l at k now s e n =
    put_mid-paste at k l now s (length s) e (sym n) refl ∙ ap (λ (t : List ℕ). take at l ++ t ++ drop (at + length s) l) (take-length s)

-- two parts written one behind the other are one part
pub put-put : (l : List ℕ) (at : ℕ) (a b : List ℕ) → at + length a ≤ length l → put (put l at a) (at + length a) b ≡ put l at (a ++ b)
unfolding put
put-put l at a b fits =
    let ends : at + length a + length b ≡ at + length (a ++ b) = simp length-append (omega arith) in
    ap₂ (λ (p q : List ℕ). p ++ b ++ q) (take_put l at a fits)
    (sym (drop-drop (length b) (at + length a) (put l at a))
    ∙ ap (drop (length b)) (drop-put l at a fits)
    ∙ drop-drop (length b) (at + length a) l
    ∙ ap (λ (n : ℕ). drop n l) ends)
    ∙ ap (λ (p : List ℕ). p ++ drop (at + length (a ++ b)) l) (append_assoc (take at l) a b)

-- a whole string written over another of its length
pub put_all : (l s : List ℕ) → length s ≡ length l → put l 0 s ≡ s
unfolding put
put_all l s e =
    simp (zero-add, e, drop-length, append-nil)

-- ---- a loop that writes `s` over `l` from place `at` on, a byte a turn

-- what it has reached after i turns
pub record Written (l : List ℕ) (at : ℕ) (s : List ℕ) (now : List ℕ) (i : ℕ) : Type 0 where
  pub count : i ≤ length s
  pub long : length now ≡ length l
  pub bytes : now ≡ paste l at s i

module _ (l : List ℕ) (at : ℕ) (s : List ℕ) where
  pub written_more : (now : List ℕ) (i v : ℕ) → at + length s ≤ length l → Written l at s now i → i < length s → get_or s i 0 ≡ v
      → Written l at s (set now (at + i) v) (i + 1)
  written_more now i v fits w h e =
      record {
        count = omega arith;
        long = length-set now (at + i) v ∙ w.long;
        bytes =
            ap₂ (λ (d : List ℕ) (x : ℕ). set d (at + i) x) w.bytes (sym e)
            ∙ paste-suc l at s i 0 (omega arith) h
            ∙ ap (paste l at s) (sym (add-one i));
      }

  pub written_all : (now : List ℕ) (i : ℕ) → Written l at s now i → length s ≤ i → now ≡ put l at s
  unfolding put
  written_all now i w h =
      let end : i ≡ length s = omega arith in
      w.bytes
      ∙ ap (paste l at s) end
      ∙ ap (λ (t : List ℕ). take at l ++ t ++ drop (at + length s) l) (take-length s)

-- ---- comparison

pub same_eq : (a b : List ℕ) → same a b ≡ true → a ≡ b
unfolding same
same_eq [] [] e = refl
same_eq [] (y ∷ b) e = absurd (false≢true e)
same_eq (x ∷ a) [] e = absurd (false≢true e)
same_eq (x ∷ a) (y ∷ b) e =
    ap₂ (λ (h : ℕ) (t : List ℕ). h ∷ t) (eqb-true x y ((and-eq-true_iff (eqb x y) (same a b)).0 e).0) (same_eq a b ((and-eq-true_iff (eqb x y) (same a b)).0 e).1)

pub same_refl : (a : List ℕ) → same a a ≡ true
unfolding same
same_refl [] = refl
same_refl (x ∷ a) = ap₂ ◌&&◌ (eq-eqb x x refl) (same_refl a)

-- ---- tests of all bytes, whose bits an or gathers

-- one byte more
or_more : (d z : ℕ) → eqb (bit_or d z) 0 ≡ (eqb d 0 && eqb z 0)
or_more d z = grind (arith, nat_tests, or_add_and d z, and_le_l d z, and_le_r d z)

xor_same : (x y : ℕ) → eqb (bit_xor x y) 0 ≡ eqb x y
xor_same x y = grind (arith, nat_tests, xor_zero x y, xor_self)

pub or_all : (l : List ℕ) (d : ℕ) → eqb (fold bit_or d l) 0 ≡ (eqb d 0 && all_zero l)
unfolding all_zero
or_all [] d = sym (and-true (eqb d 0))
or_all (b ∷ l) d = or_all l (bit_or d b) ∙ ap (λ (t : Bool). t && all_zero l) (or_more d b) ∙ and_assoc (eqb d 0) (eqb b 0) (all_zero l)

-- an or that gathers in what the bytes of two strings differ, with those of the next place
abbrev pub differ : ℕ → ℕ × ℕ → ℕ
differ d (x, y) = bit_or d (bit_xor x y)

pub differ_all : (a b : List ℕ) (d : ℕ) → length a ≡ length b → eqb (fold differ d (zip a b)) 0 ≡ (eqb d 0 && same a b)
unfolding same
differ_all [] [] d e = sym (and-true (eqb d 0))
differ_all [] (y ∷ b) d e = absurd (omega arith)
differ_all (x ∷ a) [] d e = absurd (omega arith)
differ_all (x ∷ a) (y ∷ b) d e =
    differ_all a b (bit_or d (bit_xor x y)) (omega arith)
    ∙ ap (λ (t : Bool). t && same a b) (or_more d (bit_xor x y) ∙ ap (λ (t : Bool). eqb d 0 && t) (xor_same x y))
    ∙ and_assoc (eqb d 0) (eqb x y) (same a b)
