-- Byte strings as lists of numbers: xor, writing a part, comparison, zeros.
-- Assumes nothing.
use Rattle.std.specs.Prelude.{◌≡◌, Bool, true, false, ◌&&◌, List, [], ◌∷◌, ◌++◌, ℕ, zero, suc, ◌+◌, eqb, length, take, drop, get_or}
use Rattle.std.specs.Int.Bits.{bit_xor}
use Rattle.std.specs.Borrow.{Bor, MutBor}
use denote.Triple.Both.{Both}

-- `b` xored into the front of `a`: as long as `a`; what `b` lacks counts as zeros, what it has beyond `a` is left out
unfoldable pub xors : List ℕ → List ℕ → List ℕ
xors [] b = []
xors (x ∷ a) [] = x ∷ a
xors (x ∷ a) (y ∷ b) = bit_xor x y ∷ xors a b

-- `s` written over the bytes of `l` from place `at` on
unfoldable pub put : List ℕ → ℕ → List ℕ → List ℕ
put l at s = take at l ++ s ++ drop (at + length s) l

-- a slice that is lent to be read, as it came (`entry`) and as it is left (`exit`)
abbrev pub Lent : Type 0
Lent = Both (Bor (List ℕ)) (Bor (List ℕ))

-- a slice that is lent to be written, likewise
abbrev pub LentMut : Type 0
LentMut = Both (MutBor (List ℕ)) (MutBor (List ℕ))

-- a lent slice is left with `s` from place `at` on, and as it came elsewhere
abbrev pub Writes : LentMut → ℕ → List ℕ → Type 0
Writes dst at s = dst.exit.now ≡ put dst.entry.now at s

-- `n` bytes of `l` from place `at` on
abbrev pub part : List ℕ → ℕ → ℕ → List ℕ
part l at n = take n (drop at l)

-- n bytes of `l` from place i on, one by one; at a numeral n it computes to the list of them
abbrev pub entries : ℕ → ℕ → List ℕ → List ℕ
entries zero i l = []
entries (suc n) i l = get_or l i 0 ∷ entries n (suc i) l

-- whether two strings are the same
unfoldable pub same : List ℕ → List ℕ → Bool
same [] [] = true
same [] (y ∷ b) = false
same (x ∷ a) [] = false
same (x ∷ a) (y ∷ b) = eqb x y && same a b

-- whether a string is zeros alone
unfoldable pub all_zero : List ℕ → Bool
all_zero [] = true
all_zero (b ∷ l) = eqb b 0 && all_zero l
