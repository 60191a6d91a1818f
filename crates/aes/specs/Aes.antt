-- AES for the three key widths, and what the key expansion answers.
-- Assumes nothing.
use Rattle.std.specs.Prelude.{◌≡◌, Bool, cond, ◌||◌, List, ℕ, eqb, length, replicate, Result, Ok, Err}
use Rattle.aes.specs.declared.KeyRefusal.{KeyRefusal}
use Rattle.aes.specs.declared.KeyRefusal.TheVariants.{Length}
use Rattle.aes.specs.declared.Expansion.{Expansion}
use Rattle.aes.specs.Cipher.{cipher}
use Rattle.aes.specs.KeyExpansion.{round_keys}

-- FIPS 197, 5, table 3: keys have 16, 24 or 32 bytes
unfoldable pub is_width : ℕ → Bool
is_width n = eqb n 16 || eqb n 24 || eqb n 32

-- AES-128, AES-192 and AES-256, by the key's length
unfoldable pub aes : List ℕ → List ℕ → List ℕ
aes key block = cipher (length key) (round_keys key) block

-- the number of what the key expansion answers, rule 4.5: 1 for a key of another length
abbrev pub key_number : Result (Unit {0}) KeyRefusal → ℕ
key_number (Ok u) = 0
key_number (Err Length) = 1

-- what the key expansion gives: 0 and the round keys of a key, or 1 and zeros
pub record Expands (key : List ℕ) (r : Expansion) : Type 0 where
  pub number : key_number r.answer ≡ cond (is_width (length key)) 0 1
  pub keys : r.keys ≡ cond (is_width (length key)) (round_keys key) (replicate 240 0)
