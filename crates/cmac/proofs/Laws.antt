-- Laws of doubling, padding, the chain and CMAC, over any block function E.
-- Assumes nothing.
use mathlib.Core.Path.{◌≡◌, refl, ap, ap₂, sym, ◌∙◌}
use mathlib.Core.Bool.{Bool, true, false, cond}
use mathlib.Core.List.{List, [], ◌∷◌, ◌++◌}
use Prim.Native.Nat.{ℕ, zero, suc, ◌+◌, ◌-◌, ◌*◌, ◌≤◌, ◌<◌}
use native.Mathlib.Nat.{le_of_suc-le-suc, not-suc-le-zero, add-zero, add-suc}
use native.Mathlib.Numerals.{add-one}
use native.Mathlib.Omega.{arith}
use lib.Bits.{bit_xor}
use lib.Dec.{ltb}
use lib.ListN.{length, get_or, take, drop, set, replicate, length-append, length-drop, length-replicate}
use lib.Seq.{drop-drop, drop_at, drop-append-le, take-append-le, append_snoc, length-take-le, take-suc}
use Rattle.octets.specs.Octets.{xors}
use Rattle.octets.proofs.Strings.{length-xors, xors_nil, xors-zeros}
use Rattle.cmac.proofs.Shift.{length-shifted}
use Rattle.cmac.specs.declared.Subkeys.{Subkeys}
use Rattle.cmac.specs.Cmac.{shifted, R, double, pad, PaddingFolds, last_block, blocks_before, chain, chain_work, cmac_from, cmac_work}

-- ---- doubling

pub length-double : (b : List ℕ) → length (double b) ≡ length b
unfolding double
length-double b = go (ltb (get_or b 0 0) 128)
  where
    go : (t : Bool) → length (cond t (shifted b) (xors (shifted b) R)) ≡ length b
    go true = length-shifted b
    go false = length-xors (shifted b) R ∙ length-shifted b

-- ---- padding

pub length-pad : (s : List ℕ) → length s < 16 → length (pad s) ≡ 16
unfolding pad
length-pad s h = simp (length-append, length-replicate) (omega arith)

pub padding_folds : PaddingFolds
unfolding pad
padding_folds c s =
    sym (xors-zeros c (s ++ (0x80 ∷ [])) (15 - length s)) ∙ ap (xors c) (append_snoc s 0x80 (replicate (15 - length s) 0))

-- the code's way: where t is xored into the front of c, one byte more is xored in behind it
pub xors_byte : (c t : List ℕ) {r : List ℕ} (i b : ℕ) → i < length c → length t ≡ i → r ≡ xors c t → set r i (bit_xor (get_or r i 0) b) ≡ xors c (t ++ (b ∷ []))
unfolding xors
xors_byte c t i b h n e = ap₂ (λ (l : List ℕ) (k : ℕ). set l k (bit_xor (get_or l k 0) b)) e (sym n) ∙ go c t (omega arith)
  where
    go : (c t : List ℕ) → length t < length c → set (xors c t) (length t) (bit_xor (get_or (xors c t) (length t) 0) b) ≡ xors c (t ++ (b ∷ []))
    go [] t h = absurd (not-suc-le-zero h)
    go (x ∷ c) [] h = ap (λ (l : List ℕ). bit_xor x b ∷ l) (sym (xors_nil c))
    go (x ∷ c) (y ∷ t) h = ap (λ (l : List ℕ). bit_xor x y ∷ l) (go c t (le_of_suc-le-suc h))

-- a turn of the loop that xors s in: one byte of it more
pub xors_more : (c s : List ℕ) {r : List ℕ} (i : ℕ) → i < length c → i < length s → r ≡ xors c (take i s) → set r i (bit_xor (get_or r i 0) (get_or s i 0)) ≡ xors c (take (i + 1) s)
xors_more c s i hc hs e =
    rw (add-one, take-suc s i 0) (xors_byte c (take i s) i (get_or s i 0) hc (length-take-le i s (omega arith)) e)

-- ---- the work

pub chain_work_lem : (n : ℕ) → chain_work n ≡ n
unfolding chain_work
chain_work_lem zero = refl
chain_work_lem (suc n) = omega (arith, chain_work_lem n)

-- a string has one block more than stand before its last
pub cmac_work_lem : (s : List ℕ) → cmac_work s ≡ blocks_before (length s) + 1
unfolding cmac_work
cmac_work_lem s = ap (λ (n : ℕ). n + 1) (chain_work_lem (blocks_before (length s)))

-- ---- the chain

module _ (E : List ℕ → List ℕ) where
  -- the chain looks at whole blocks at the front alone
  pub chain_front : (c a b : List ℕ) (n : ℕ) → 16 * n ≤ length a → chain E c (a ++ b) n ≡ chain E c a n
  unfolding chain
  chain_front c a b zero h = refl
  chain_front c a b (suc n) h =
      ap₂ (λ (x y : List ℕ). E (xors x y)) (chain_front c a b n (omega arith))
      (ap (take 16) (drop-append-le (16 * n) a b (omega arith)) ∙ take-append-le 16 (drop (16 * n) a) b (simp length-drop (omega arith)))

  -- a chain over n blocks goes on over the m behind them
  pub chain-add : (c s : List ℕ) (n m : ℕ) → chain E c s (n + m) ≡ chain E (chain E c s n) (drop (16 * n) s) m
  unfolding chain
  chain-add c s n zero = ap (chain E c s) (add-zero n)
  chain-add c s n (suc m) =
      let place : 16 * n + 16 * m ≡ 16 * (n + m) = omega arith in
      ap (chain E c s) (add-suc n m)
      ∙ ap₂ (λ (x y : List ℕ). E (xors x y)) (chain-add c s n m)
      (ap (λ (k : ℕ). take 16 (drop k s)) (sym place) ∙ ap (take 16) (sym (drop-drop (16 * m) (16 * n) s)))

  -- whole blocks in front of a string that isn't empty go into the chain first
  pub cmac_split : (k : Subkeys) (c a s : List ℕ) (n : ℕ) → length a ≡ 16 * n → 1 ≤ length s
      → cmac_from E k c (a ++ s) ≡ cmac_from E k (chain E c a n) s
  unfolding cmac_from
  cmac_split k c a s n e h =
      let m : ℕ = blocks_before (length s) in
      let count : blocks_before (length (a ++ s)) ≡ n + m = simp length-append (omega arith) in
      let place : 16 * (n + m) ≡ 16 * n + 16 * m = omega arith in
      let seam : drop (16 * n) (a ++ s) ≡ s = drop_at a s (16 * n) e in
      ap (λ (x : ℕ). E (xors (chain E c (a ++ s) x) (last_block k (drop (16 * x) (a ++ s))))) count
      ∙ ap₂ (λ (x y : List ℕ). E (xors x (last_block k y)))
      (chain-add c (a ++ s) n m ∙ ap₂ (λ (x y : List ℕ). chain E x y m) (chain_front c a s n (omega arith)) seam)
      (ap (λ (x : ℕ). drop x (a ++ s)) place ∙ sym (drop-drop (16 * m) (16 * n) (a ++ s)) ∙ ap (drop (16 * m)) seam)
