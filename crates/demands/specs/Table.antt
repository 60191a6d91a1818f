-- Tables of refusals, and what a call gives by its table.
-- Assumes nothing.
use Rattle.std.specs.Prelude.{◌≡◌, Bool, true, false, cond, List, [], ◌∷◌, ◌⊎◌, ℕ, eqb}
use Rattle.answers.specs.Answer.{Outcome}

-- a number, a length and a work
abbrev pub answered : ℕ → ℕ → ℕ → Outcome
answered number count work = record { number = number; count = count; work = work }

-- a refusal's number, and the condition under which it is due
pub record Row : Type 1 where
  pub number : ℕ
  pub due : Type 0

abbrev pub row : ℕ → Type 0 → Row
row n due = record { number = n; due = due }

-- the order of refusals, rule 3.2; 12 is alone in its table
abbrev pub order : List ℕ
order = 9 ∷ 1 ∷ 11 ∷ 10 ∷ 2 ∷ 3 ∷ 5 ∷ 4 ∷ 6 ∷ 7 ∷ 8 ∷ 12 ∷ []

-- whether rows keep an order
abbrev pub keeps : List ℕ → List Row → Bool
keeps [] [] = true
keeps [] (r ∷ rs) = false
keeps (n ∷ ns) [] = true
keeps (n ∷ ns) (r ∷ rs) = cond (eqb r.number n) (keeps ns rs) (keeps ns (r ∷ rs))

-- n is the number of the first row that is due, and no row before it is due; or it is 0, and none is due
abbrev pub FirstDue : List Row → ℕ → Type 0
FirstDue [] n = n ≡ 0
FirstDue (r ∷ rs) n = (r.due × (n ≡ r.number)) ⊎ ((r.due → ⊥) × FirstDue rs n)

-- a call that gave a number, by its table: the complete result where the number is 0, else what that refusal leaves
pub record ByTable (A : Type 0) (table : List Row) (number : ℕ) (result complete : A) (left : ℕ → A) : Type 0 where
  pub ordered : keeps order table ≡ true
  pub first : FirstDue table number
  pub done : number ≡ 0 → result ≡ complete
  pub refused : (n : ℕ) → number ≡ n → (n ≡ 0 → ⊥) → result ≡ left n
