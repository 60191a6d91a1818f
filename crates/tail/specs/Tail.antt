-- The tail of a plaintext, and what a piece more makes of it and of the chain over the blocks before it.
-- Rules 9.10 and 15.7.
-- Assumes nothing.
use Rattle.std.specs.Prelude.{◌≡◌, List, ◌++◌, ℕ, ◌+◌, ◌-◌, ◌*◌, ◌/◌, length, take, drop, replicate}
use Rattle.octets.specs.Octets.{put}
use Rattle.aes.specs.Work.{Reports}
use Rattle.cmac.specs.Cmac.{chain, chain_work}
use Rattle.s2v.specs.S2v.{tail_length}
use Rattle.tail.specs.declared.Absorbed.{Absorbed}

-- a tail with these used bytes, its others zero
abbrev pub tail_of : List ℕ → List ℕ
tail_of t = put (replicate 31 0) 0 t

-- how many blocks of n bytes stand before their tail
unfoldable pub passed_blocks : ℕ → ℕ
passed_blocks n = (n - tail_length n) / 16

-- how many blocks leave the tail of `total` bytes with n bytes more
abbrev pub leaving_blocks : ℕ → ℕ → ℕ
leaving_blocks total n = passed_blocks (total + n) - passed_blocks total

-- what a piece leaves where `old` is the tail of so many bytes before it, and c the chain over their other blocks
pub record AfterPiece (E : List ℕ → List ℕ) (c : List ℕ) (before : ℕ) (old piece : List ℕ) (left : Absorbed) : Type 0 where
  pub chain : Reports (chain E c (take (tail_length before) old ++ piece) (leaving_blocks before (length piece))) (chain_work (leaving_blocks before (length piece))) left.chain
  pub total : left.total ≡ before + length piece
  pub tail_len : left.tail_len ≡ tail_length (before + length piece)
  pub tail : left.tail ≡ tail_of (drop (16 * leaving_blocks before (length piece)) (take (tail_length before) old ++ piece))
