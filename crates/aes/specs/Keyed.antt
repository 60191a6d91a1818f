-- The cipher under an expanded key, as a function of the block.
-- Assumes nothing.
use Rattle.std.specs.Prelude.{List, ℕ}
use Rattle.aes.specs.Cipher.{cipher}
use Rattle.aes.specs.declared.ExpandedKey.{ExpandedKey}
use Rattle.aes.specs.declared.Cipher as declared

-- the cipher at the key's width, under its round keys
abbrev pub under : ExpandedKey → List ℕ → List ℕ
under key = cipher key.width key.round_keys.now

-- what a cipher makes of a block
abbrev pub enciphers : declared.Cipher → List ℕ → List ℕ
enciphers c = under c.key
