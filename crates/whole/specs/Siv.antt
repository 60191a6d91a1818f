-- AES-SIV, RFC 5297, 2.6 and 2.7, under a key of two halves;
-- beside what calls the cipher stands its work, the number of these calls.
-- Assumes nothing.
use Rattle.std.specs.Prelude.{◌≡◌, Bool, List, ◌++◌, ℕ, ◌+◌, ◌/◌, ◌≤◌, length, take, drop}
use Rattle.octets.specs.Octets.{same, LentMut, Writes}
use Rattle.aes.specs.declared.Counted.{Counted}
use Rattle.aes.specs.Aes.{aes}
use Rattle.aes.specs.Work.{Reports}
use Rattle.s2v.specs.S2v.{s2v, s2v_work}
use Rattle.keystream.specs.KeyStream.{key_stream_work, xor_stream}
use Rattle.whole.specs.declared.Verdict.{Verdict}

-- 2.6: S2V uses the key's first half, counter mode its second
abbrev pub mac_key : List ℕ → List ℕ
mac_key key = take (length key / 2) key

abbrev pub ctr_key : List ℕ → List ℕ
ctr_key key = drop (length key / 2) key

-- 2.4 and 2.6: the tag of a header list and a plaintext
unfoldable pub tag_of : List ℕ → List (List ℕ) → List ℕ → List ℕ
tag_of key ss p = s2v (aes (mac_key key)) ss p

unfoldable pub tag_of_work : List ℕ → List (List ℕ) → List ℕ → ℕ
tag_of_work key ss p = s2v_work (aes (mac_key key)) ss p

-- 2.6: s xored with the key stream of a tag
unfoldable pub streamed : List ℕ → List ℕ → List ℕ → List ℕ
streamed key v s = xor_stream (aes (ctr_key key)) v 0 s

unfoldable pub streamed_work : List ℕ → ℕ
streamed_work s = key_stream_work (length s)

-- 2.6: the sealed string: V, then the ciphertext
unfoldable pub sealed : List ℕ → List (List ℕ) → List ℕ → List ℕ
sealed key ss p =
    let v = tag_of key ss p in
    v ++ streamed key v p

unfoldable pub sealed_work : List ℕ → List (List ℕ) → List ℕ → ℕ
sealed_work key ss p = tag_of_work key ss p + streamed_work p

-- 2.7: the plaintext that a sealed string would have
unfoldable pub opened : List ℕ → List ℕ → List ℕ
opened key y = streamed key (take 16 y) (drop 16 y)

-- 2.7: whether the recomputed tag is the given one
unfoldable pub genuine : List ℕ → List (List ℕ) → List ℕ → Bool
genuine key ss y = same (tag_of key ss (opened key y)) (take 16 y)

-- its work, and that of `opened`
unfoldable pub genuine_work : List ℕ → List (List ℕ) → List ℕ → ℕ
genuine_work key ss y = streamed_work (drop 16 y) + tag_of_work key ss (opened key y)

-- r is the tag, made with its work
abbrev pub IsTag : List ℕ → List (List ℕ) → List ℕ → Counted → Type 0
IsTag key ss p r = Reports (tag_of key ss p) (tag_of_work key ss p) r

-- 2.7: what decrypting to the front of a scratch and recomputing the tag promise
pub record Decrypts (key : List ℕ) (ss : List (List ℕ)) (y : List ℕ) (scratch : LentMut) (verdict : Verdict) : Type 0 where
  pub judged : verdict.genuine ≡ genuine key ss y
  pub work : verdict.work ≡ genuine_work key ss y
  pub text : Writes scratch 0 (opened key y)

-- a sealed string has a tag, and a scratch room for the plaintext
abbrev pub Openable : List ℕ → List ℕ → Type 0
Openable y scratch = (16 ≤ length y) × (length y ≤ 16 + length scratch)
