-- The work that the definitions' steps count is the sum over lengths.
-- Assumes nothing.
use mathlib.Core.Path.{◌≡◌, ap, ◌∙◌}
use mathlib.Core.List.{List, [], ◌∷◌}
use Prim.Native.Nat.{ℕ, ◌+◌, ◌-◌, ◌*◌, ◌^◌, ◌≤◌, ◌<◌}
use native.Mathlib.Omega.{arith}
use lib.ListN.{length, take, drop, length-drop}
use lib.Seq.{length-take-le}
use Rattle.aes.specs.Aes.{aes}
use Rattle.aes.proofs.Widths.{length-cipher}
use Rattle.cmac.specs.Cmac.{zeros, subkeys, zero_cipher, cmac_work}
use Rattle.cmac.proofs.Laws.{cmac_work_lem}
use Rattle.header.specs.Header.{total, strings, Walkable}
use Rattle.header.proofs.Laws.{blocks_most}
use Rattle.header.specs.Blocks.{sixteenths, blocks_of, blocks_of_all}
use Rattle.s2v.specs.S2v.{absorb_work, header_result, header_work, tag_from_work, s2v_work}
use Rattle.s2v.proofs.Laws.{tag_work, length-header_result}
use Rattle.keystream.specs.KeyStream.{blocks_begun, key_stream_work}
use Rattle.keystream.proofs.Laws.{stream_work_lem}
use Rattle.whole.specs.Siv.{mac_key, tag_of_work, streamed_work, sealed_work, opened, genuine_work}
use Rattle.whole.specs.Work.{block_work}
use Rattle.whole.proofs.Laws.{length-opened}

-- ---- S2V

pub absorb_lengths : (w : ℕ) (bytes lens : List ℕ) → total lens ≤ length bytes → absorb_work w (strings bytes lens) ≡ w + blocks_of_all lens
unfolding absorb_work strings total blocks_of_all
absorb_lengths w bytes [] h = omega arith
absorb_lengths w bytes (n ∷ lens) h =
    let front : length (take n bytes) ≡ n = length-take-le n bytes (omega arith) in
    omega (arith, absorb_lengths (w + cmac_work (take n bytes)) (drop n bytes) lens (omega (arith, length-drop n bytes)), cmac_work_lem (take n bytes), front)

pub header_lengths : (bytes lens : List ℕ) → total lens ≤ length bytes → header_work (strings bytes lens) ≡ 1 + blocks_of_all lens
unfolding header_work
header_lengths bytes lens h = absorb_lengths (cmac_work zeros) bytes lens h ∙ ap (λ (n : ℕ). n + blocks_of_all lens) (cmac_work_lem zeros)

pub tag_lengths : (d p : List ℕ) → length d ≡ 16 → tag_from_work d p ≡ blocks_of (length p)
tag_lengths d p e = tag_work d p e ∙ omega arith

-- ---- under a key

pub tag_of_lengths : (key bytes lens p : List ℕ) → total lens ≤ length bytes → tag_of_work key (strings bytes lens) p ≡ 2 + blocks_of_all lens + blocks_of (length p)
unfolding tag_of_work s2v_work aes
tag_of_lengths key bytes lens p h =
    let d = header_result (aes (mac_key key)) (subkeys (zero_cipher (aes (mac_key key)))) (strings bytes lens) in
    omega (arith, header_lengths bytes lens h, tag_lengths d p (length-header_result (aes (mac_key key)) (λ b. length-cipher _ _ b) _ (strings bytes lens)))

pub streamed_lengths : (s : List ℕ) → streamed_work s ≡ sixteenths (length s)
unfolding streamed_work key_stream_work
streamed_lengths s = stream_work_lem (blocks_begun (length s))

pub sealed_lengths : (key bytes lens p : List ℕ) → total lens ≤ length bytes → sealed_work key (strings bytes lens) p ≡ block_work lens (length p)
unfolding sealed_work
sealed_lengths key bytes lens p h = omega (arith, tag_of_lengths key bytes lens p h, streamed_lengths p)

pub genuine_lengths : (key bytes lens y : List ℕ) → total lens ≤ length bytes → genuine_work key (strings bytes lens) y ≡ block_work lens (length y - 16)
unfolding genuine_work
genuine_lengths key bytes lens y h =
    omega (arith, tag_of_lengths key bytes lens (opened key y) h, length-opened key y, streamed_lengths (drop 16 y), length-drop 16 y)

-- it is far below the largest number, since no slice has 2 ^ 64 bytes
abbrev pub work_most : ℕ
work_most = 3 * 2 ^ 60 + 200

pub genuine_most : (key bytes lens y : List ℕ) {w : ℕ} → w ≡ genuine_work key (strings bytes lens) y → Walkable bytes lens → length bytes < 2 ^ 64 → length y < 2 ^ 64 → w ≤ work_most
genuine_most key bytes lens y e h b l = omega (arith, e ∙ genuine_lengths key bytes lens y h.0, blocks_most lens, h.1)
