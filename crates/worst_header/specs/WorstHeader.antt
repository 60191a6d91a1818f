-- The worst header list, rules 16.1, 16.2 and 16.4, "the dearest header list" of the owner's document 02:
-- of all lists of k lengths that sum to h,
-- each at least a least length, one whose strings have the most blocks.
-- Assumes nothing.
use Rattle.std.specs.Prelude.{◌≡◌, Bool, not, ◌&&◌, ◌||◌, List, [], ◌∷◌, ℕ, ◌-◌, ◌*◌, ◌≤◌, eqb, ltb, length, take, drop, replicate}
use Rattle.header.specs.Header.{total}
use Rattle.header.specs.Blocks.{blocks_of_all}
use Rattle.answers.specs.Answer.{Outcome, refusal, Row, row, first}

-- the most header bytes
abbrev pub most_bytes : ℕ
most_bytes = 1048576

-- whether a list is planned: k is 1 to 126, the least 0 or 1, h within its bound and not below k times the least
unfoldable pub is_plan : ℕ → ℕ → ℕ → Bool
is_plan h k least = not (ltb k 1) && not (ltb 126 k) && (eqb least 0 || eqb least 1) && not (ltb most_bytes h) && not (ltb h (k * least))

-- the one refusal
abbrev pub plan_rows : ℕ → ℕ → ℕ → List Row
plan_rows h k least = row 12 (not (is_plan h k least)) ∷ []

-- no length is below the least
abbrev pub AllAtLeast : ℕ → List ℕ → Type 0
AllAtLeast least [] = Unit
AllAtLeast least (n ∷ lens) = (least ≤ n) × AllAtLeast least lens

-- k lengths that sum to h, each at least the least: a composition of h
pub record Composes (h k least : ℕ) (lens : List ℕ) : Type 0 where
  pub count : length lens ≡ k
  pub sum : total lens ≡ h
  pub each : AllAtLeast least lens

-- 126 places whose first k are such a list, those past k zero, and its blocks; no other such list has more
pub record IsWorst (h k least : ℕ) (places : List ℕ) (blocks : ℕ) : Type 0 where
  pub composes : Composes h k least (take k places)
  pub past : drop k places ≡ replicate (126 - k) 0
  pub counted : blocks ≡ blocks_of_all (take k places)
  pub most : (other : List ℕ) → Composes h k least other → blocks_of_all other ≤ blocks

-- what the call promises: that, or 12 with list and blocks zero. Which of several worst lists is given stays open
pub record GivesWorst (h k least : ℕ) (outcome : Outcome) (places : List ℕ) (blocks : ℕ) : Type 0 where
  pub answer : outcome ≡ refusal (first (plan_rows h k least))
  pub done : first (plan_rows h k least) ≡ 0 → IsWorst h k least places blocks
  pub refused : (first (plan_rows h k least) ≡ 0 → ⊥) → (places ≡ replicate 126 0) × (blocks ≡ 0)
