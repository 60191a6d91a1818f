-- The three key widths, and the length of a block that the cipher gives.
-- Assumes nothing.
use mathlib.Core.Path.{◌≡◌, refl, sym, ◌∙◌}
use mathlib.Core.Bool.{Bool, true, false, cond}
use mathlib.Core.List.{List}
use Prim.Native.Nat.{ℕ, ◌*◌, ◌/◌, ◌≤◌}
use native.Mathlib.Omega.{arith}
use lib.ListN.{length}
use Rattle.std.proofs.lemmas.Bool.Decides.{nat_tests}
use Rattle.aes.specs.Cipher.{cipher}
use Rattle.aes.specs.declared.Expansion.{Expansion}
use Rattle.aes.specs.Aes.{is_width, key_number, Expands}

-- what holds of all three widths
pub record Width (n : ℕ) : Type 0 where
  pub low : 16 ≤ n
  pub high : n ≤ 32
  pub words : n ≡ 4 * (n / 4)

pub width : (n : ℕ) → is_width n ≡ true → Width n
unfolding is_width
width n e = grind (arith, nat_tests)

pub length-cipher : (width : ℕ) (w block : List ℕ) → length (cipher width w block) ≡ 16
unfolding cipher
length-cipher width w block = refl

-- a key that was expanded has at most 32 bytes
pub expanded_width : {key : List ℕ} {r : Expansion} → Expands key r → key_number r.answer ≡ 0 → length key ≤ 32
expanded_width {key = key} e z = go (is_width (length key)) refl (sym e.number ∙ z)
  where
    go : (b : Bool) → is_width (length key) ≡ b → ◌≡◌ {A = ℕ} (cond b 0 1) 0 → length key ≤ 32
    go true h p = (width (length key) h).high
    go false h p = absurd (omega arith)
