-- S2V, RFC 5297 2.4, over any block function E; beside what calls E stands its work, the number of these calls.
-- Assumes nothing.
use Rattle.std.specs.Prelude.{List, [], ◌∷◌, ◌++◌, cond, ℕ, ◌+◌, ◌-◌, ◌%◌, ltb, length, take, drop}
use Rattle.octets.specs.Octets.{xors}
use Rattle.aes.specs.declared.Counted.{Counted}
use Rattle.aes.specs.Work.{Reports}
use Rattle.cmac.specs.declared.Subkeys.{Subkeys}
use Rattle.cmac.specs.Cmac.{zeros, double, pad, subkeys, zero_cipher, zero_cipher_work, cmac_from, cmac_work, cmac}

-- RFC 5297 2.1, xorend: d xored onto the last 16 bytes of p
unfoldable pub xorend : List ℕ → List ℕ → List ℕ
xorend p d = take (length p - 16) p ++ xors (drop (length p - 16) p) d

-- 2.4, T: what the tag is the CMAC of
unfoldable pub last_string : List ℕ → List ℕ → List ℕ
last_string d p = cond (ltb (length p) 16) (xors (double d) (pad p)) (xorend p d)

-- how many bytes at the end of a plaintext wait for its end, rule 9.10: "the hold" of the owner's document 01
unfoldable pub tail_length : ℕ → ℕ
tail_length total = cond (ltb total 16) total (16 + total % 16)

-- 2.4: D with a string more: it is doubled, and the string's CMAC is xored in
abbrev pub absorb_one : (List ℕ → List ℕ) → Subkeys → List ℕ → List ℕ → List ℕ
absorb_one E k d s = xors (double d) (cmac E k s)

-- 2.4: so for each string
unfoldable pub absorb_strings : (List ℕ → List ℕ) → Subkeys → List ℕ → List (List ℕ) → List ℕ
absorb_strings E k d [] = d
absorb_strings E k d (s ∷ ss) = absorb_strings E k (absorb_one E k d s) ss

-- its work, counted on from w
unfoldable pub absorb_work : ℕ → List (List ℕ) → ℕ
absorb_work w [] = w
absorb_work w (s ∷ ss) = absorb_work (w + cmac_work s) ss

-- r is D from d on over the strings, made with d's work and theirs
abbrev pub IsAbsorbed : (List ℕ → List ℕ) → Subkeys → Counted → List (List ℕ) → Counted → Type 0
IsAbsorbed E k d ss r = Reports (absorb_strings E k d.block ss) (absorb_work d.work ss) r

-- 2.4: D over the header strings, from the CMAC of the zero block
unfoldable pub header_result : (List ℕ → List ℕ) → Subkeys → List (List ℕ) → List ℕ
header_result E k ss = absorb_strings E k (cmac E k zeros) ss

unfoldable pub header_work : List (List ℕ) → ℕ
header_work ss = absorb_work (cmac_work zeros) ss

-- r is D over the header strings, made with its work
abbrev pub IsHeaderResult : (List ℕ → List ℕ) → Subkeys → List (List ℕ) → Counted → Type 0
IsHeaderResult E k ss r = Reports (header_result E k ss) (header_work ss) r

-- 2.4: V, where c is the chain over the plaintext's blocks before p
unfoldable pub tag_from : (List ℕ → List ℕ) → Subkeys → List ℕ → List ℕ → List ℕ → List ℕ
tag_from E k d c p = cmac_from E k c (last_string d p)

unfoldable pub tag_from_work : List ℕ → List ℕ → ℕ
tag_from_work d p = cmac_work (last_string d p)

-- r is V, made with its work
abbrev pub IsTagFrom : (List ℕ → List ℕ) → Subkeys → List ℕ → List ℕ → List ℕ → Counted → Type 0
IsTagFrom E k d c p r = Reports (tag_from E k d c p) (tag_from_work d p) r

-- 2.4: V from D and the plaintext; its work is `tag_from_work` of all the plaintext
unfoldable pub tag : (List ℕ → List ℕ) → Subkeys → List ℕ → List ℕ → List ℕ
tag E k d p = tag_from E k d zeros p

-- 2.4: S2V of the header strings and the plaintext
unfoldable pub s2v : (List ℕ → List ℕ) → List (List ℕ) → List ℕ → List ℕ
s2v E ss p =
    let k = subkeys (zero_cipher E) in
    tag E k (header_result E k ss) p

unfoldable pub s2v_work : (List ℕ → List ℕ) → List (List ℕ) → List ℕ → ℕ
s2v_work E ss p =
    let k = subkeys (zero_cipher E) in
    zero_cipher_work + header_work ss + tag_from_work (header_result E k ss) p

-- r is S2V of them, made with its work
abbrev pub IsS2v : (List ℕ → List ℕ) → List (List ℕ) → List ℕ → Counted → Type 0
IsS2v E ss p r = Reports (s2v E ss p) (s2v_work E ss p) r
