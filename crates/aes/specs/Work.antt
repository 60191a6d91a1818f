-- Work in blocks, rule 15.1: each cipher call reports its one block, and what stands above adds these up.
-- Assumes nothing.
use Rattle.std.specs.Prelude.{◌≡◌, List, ℕ}
use Rattle.aes.specs.declared.Counted.{Counted}

-- r is the block b, made with n cipher calls
pub record Reports (b : List ℕ) (n : ℕ) (r : Counted) : Type 0 where
  pub block : r.block ≡ b
  pub work : r.work ≡ n
