-- The work of whole sealing and opening from lengths alone: the sum of rule 15.2.
-- Assumes nothing.
use Rattle.std.specs.Prelude.{cond, ◌||◌, List, ℕ, ◌+◌, ltb, length}
use Rattle.header.specs.Blocks.{sixteenths, blocks_of, blocks_of_all}
use Rattle.whole.specs.Calls.{limit}

-- 2, for L and the CMAC of the zero block; the blocks of the header strings and of the plaintext;
-- and the plaintext's length divided by 16, rounded up
abbrev pub work_behind : ℕ → ℕ → ℕ
work_behind header_blocks n = 2 + header_blocks + blocks_of n + sixteenths n

-- the same for header strings of these lengths
abbrev pub block_work : List ℕ → ℕ → ℕ
block_work lens n = work_behind (blocks_of_all lens) n

-- what a whole call with such lengths reports: 0 where it has too many header strings, or too long a plaintext
unfoldable pub planned_work : List ℕ → ℕ → ℕ
planned_work lens n = cond (ltb 126 (length lens) || ltb limit n) 0 (block_work lens n)
