-- The third demand's part on whole calls, as a statement about the calls' definitions.
-- Assumes nothing.
use Rattle.std.specs.Prelude.{◌≡◌, List, ℕ, ◌-◌, ◌≤◌, length, replicate}
use Rattle.header.specs.Header.{strings}
use Rattle.whole.specs.Calls.{CallResult, open_call}
use Rattle.whole.specs.Siv.{sealed}
use Rattle.demands.specs.Figures.{over, whole_work}
use Rattle.demands.specs.Second.{Gives}
use Rattle.demands.specs.Table.{answered}

-- a call accepted s: number 0 and its length, and s, and nothing else, is at the front of the output
abbrev pub Accepts : CallResult → List ℕ → List ℕ → Type 0
Accepts result output s = (result.outcome.number ≡ 0) × (result.outcome.count ≡ length s) × (result.output ≡ over output 0 s)

-- P seals to y
abbrev pub SealsTo : List ℕ → List ℕ → List ℕ → List ℕ → List ℕ → Type 0
SealsTo key bytes lens y P = (length P ≤ 1048576) × (sealed key (strings bytes lens) P ≡ y)

-- The third demand for whole calls: any admitted key and header list, any byte string y, buffers large enough.
pub record ThirdWhole (key bytes lens y output scratch : List ℕ) : Type 0 where
  -- opening accepts y with P exactly when P is within the limit and sealing P gives y
  pub accepts : (P : List ℕ) → Accepts (open_call key bytes lens y output scratch) output P → SealsTo key bytes lens y P
  pub accepted : (P : List ℕ) → SealsTo key bytes lens y P → Gives (open_call key bytes lens y output scratch) (whole_work lens (length P)) output P
  -- no two plaintexts seal to y
  pub unique : (P Q : List ℕ) → SealsTo key bytes lens y P → SealsTo key bytes lens y Q → P ≡ Q
  -- a y that nothing seals to is refused
  pub refuses : ((P : List ℕ) → SealsTo key bytes lens y P → ⊥) → (open_call key bytes lens y output scratch).outcome.number ≡ 0 → ⊥
  -- and if y has 16 to 1,048,592 bytes, it refuses with 8,
  -- and a plaintext's place in the output is zero
  pub wipes : ((P : List ℕ) → SealsTo key bytes lens y P → ⊥) → 16 ≤ length y → length y ≤ 1048592
      → ((open_call key bytes lens y output scratch).outcome ≡ answered 8 0 (whole_work lens (length y - 16)))
      × ((open_call key bytes lens y output scratch).output ≡ over output 0 (replicate (length y - 16) 0))
