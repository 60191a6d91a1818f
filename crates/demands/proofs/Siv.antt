-- Laws of sealing and opening as functions on strings: each undoes the other.
-- Assumes nothing.
use mathlib.Core.Path.{◌≡◌, ap, ap₂, ◌∙◌}
use mathlib.Core.Bool.{true}
use mathlib.Core.List.{List, ◌++◌}
use Prim.Native.Nat.{ℕ, ◌+◌}
use native.Mathlib.Omega.{arith}
use lib.ListN.{length, take, drop, length-append, take-append-drop}
use lib.Seq.{take_at, drop_at}
use Rattle.octets.specs.Octets.{same}
use Rattle.octets.proofs.Strings.{same_eq, same_refl}
use Rattle.aes.specs.Aes.{aes}
use Rattle.aes.proofs.Widths.{length-cipher}
use Rattle.cmac.specs.Cmac.{cmac_from}
use Rattle.s2v.specs.S2v.{tag_from, tag, s2v}
use Rattle.keystream.proofs.Laws.{xor_stream_undo}
use Rattle.whole.proofs.Laws.{length-streamed}
use Rattle.whole.specs.Siv.{ctr_key, tag_of, streamed, sealed, opened, genuine}

pub length-tag : (key : List ℕ) (ss : List (List ℕ)) (p : List ℕ) → length (tag_of key ss p) ≡ 16
unfolding tag_of s2v tag tag_from cmac_from aes
length-tag key ss p = length-cipher _ _ _

undo : (key v s : List ℕ) → streamed key v (streamed key v s) ≡ s
unfolding streamed
undo key v s = xor_stream_undo (aes (ctr_key key)) v 0 s

module _ (key : List ℕ) (ss : List (List ℕ)) where
  pub length-sealed : (p : List ℕ) → length (sealed key ss p) ≡ length p + 16
  unfolding sealed
  length-sealed p = length-append (tag_of key ss p) (streamed key (tag_of key ss p) p) ∙ omega (arith, length-tag key ss p, length-streamed key (tag_of key ss p) p)

  front : (p : List ℕ) → take 16 (sealed key ss p) ≡ tag_of key ss p
  unfolding sealed
  front p = take_at (tag_of key ss p) (streamed key (tag_of key ss p) p) 16 (length-tag key ss p)

  rest : (p : List ℕ) → drop 16 (sealed key ss p) ≡ streamed key (tag_of key ss p) p
  unfolding sealed
  rest p = drop_at (tag_of key ss p) (streamed key (tag_of key ss p) p) 16 (length-tag key ss p)

  -- opening undoes sealing
  pub opened_sealed : (p : List ℕ) → opened key (sealed key ss p) ≡ p
  unfolding opened
  opened_sealed p = ap₂ (streamed key) (front p) (rest p) ∙ undo key (tag_of key ss p) p

  pub genuine_sealed : (p : List ℕ) → genuine key ss (sealed key ss p) ≡ true
  unfolding genuine
  genuine_sealed p = ap₂ (λ (x v : List ℕ). same (tag_of key ss x) v) (opened_sealed p) (front p) ∙ same_refl (tag_of key ss p)

  -- a genuine string is the sealing of what it opens to
  pub sealed_opened : (y : List ℕ) → genuine key ss y ≡ true → sealed key ss (opened key y) ≡ y
  unfolding genuine sealed opened
  sealed_opened y g =
      let tagged : tag_of key ss (opened key y) ≡ take 16 y = same_eq (tag_of key ss (opened key y)) (take 16 y) g in
      ap (λ (v : List ℕ). v ++ streamed key v (opened key y)) tagged
      ∙ ap (λ (s : List ℕ). take 16 y ++ s) (undo key (take 16 y) (drop 16 y))
      ∙ take-append-drop 16 y
