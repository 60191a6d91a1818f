-- The second demand, as a statement about the calls' definitions.
-- Assumes nothing.
use Rattle.std.specs.Prelude.{◌≡◌, List, ℕ, ◌+◌, ◌≤◌, max, length}
use Rattle.header.specs.Header.{strings}
use Rattle.whole.specs.Calls.{CallResult, seal_call, open_call}
use Rattle.whole.specs.Siv.{sealed}
use Rattle.demands.specs.Figures.{IsKeyLength, over, sum, whole_work}
use Rattle.demands.specs.Table.{answered}

-- an admitted key and header list: none of 1, 2 and 3 is due
pub record Admits (key bytes lens : List ℕ) : Type 0 where
  pub keyed : IsKeyLength (length key)
  pub count_fits : length lens ≤ 126
  pub sums : sum lens ≡ length bytes

-- a call succeeded, with a work,
-- and put s, and nothing else, to the front of the output
abbrev pub Gives : CallResult → ℕ → List ℕ → List ℕ → Type 0
Gives result work output s = (result.outcome ≡ answered 0 (length s) work) × (result.output ≡ over output 0 s)

-- The second demand, rule 1.2: sealing is RFC 5297 over the AES of FIPS 197, and opening undoes it.
pub record Second : Type 0 where
  pub seals : (key bytes lens p output scratch : List ℕ) → Admits key bytes lens → length p ≤ 1048576 → length p + 16 ≤ length output
      → max (length p) 16 ≤ length scratch → Gives (seal_call key bytes lens p output scratch) (whole_work lens (length p)) output (sealed key (strings bytes lens) p)
  pub opens : (key bytes lens p output scratch : List ℕ) → Admits key bytes lens → length p ≤ 1048576 → length p ≤ length output
      → max (length p) 16 ≤ length scratch → Gives (open_call key bytes lens (sealed key (strings bytes lens) p) output scratch) (whole_work lens (length p)) output p
