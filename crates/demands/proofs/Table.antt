-- A table whose conditions are told by the tests of rows below gives what those rows give.
-- Assumes nothing.
use mathlib.Core.Path.{◌≡◌, refl, ap, sym, subst, ◌∙◌}
use mathlib.Core.Bool.{Bool, true, false, cond}
use mathlib.Core.List.{List, [], ◌∷◌}
use mathlib.Core.Logic.{inl, inr}
use Prim.Native.Nat.{ℕ}
use lib.Dec.{eqb}
use Rattle.answers.specs.Answer.{first, settle, forged_or}
use Rattle.answers.specs.Answer
use Rattle.answers.proofs.Laws.{settle_complete, settle_refused, settle_number}
use Rattle.demands.specs.Table.{Row, order, keeps, FirstDue, ByTable}
use Rattle.demands.proofs.Figures.{Tells, equal}

-- the rows of a definition: a number with a test
abbrev Tested : Type 0
Tested = Rattle.answers.specs.Answer.Row

-- they have a table's numbers, and each test tells whether the condition holds
abbrev pub Told : List Tested → List Row → Type 0
Told [] [] = Unit
Told [] (r ∷ rs) = ⊥
Told (t ∷ ts) [] = ⊥
Told (t ∷ ts) (r ∷ rs) = (t.number ≡ r.number) × Tells t.due r.due × Told ts rs

pub first_due : (ts : List Tested) (rs : List Row) → Told ts rs → FirstDue rs (first ts)
first_due [] [] e = refl
first_due [] (r ∷ rs) e = absurd e
first_due (t ∷ ts) [] e = absurd e
first_due (t ∷ ts) (r ∷ rs) e = go t.due e.1 (first_due ts rs e.2)
  where
    go : (d : Bool) → Tells d r.due → FirstDue rs (first ts) → FirstDue (r ∷ rs) (cond d t.number (first ts))
    go true told f = inl (told.holds refl, e.0)
    go false told f = inr (told.fails refl, f)

-- where the number is m, a row with another number is not due, and the rest gives m
pub skips : (b : Bool) (n rest m : ℕ) → (n ≡ m → ⊥) → cond b n rest ≡ m → (b ≡ false) × (rest ≡ m)
skips true n rest m d e = absurd (d e)
skips false n rest m d e = (refl, e)

-- what a refusal leaves has its number, also where 8 leaves something of its own
pub forged_number : {A : Type 0} (number_in : A → ℕ) (forgery : A) (gone : ℕ → A) → number_in forgery ≡ 8 → ((n : ℕ) → number_in (gone n) ≡ n) → (n : ℕ)
    → number_in (forged_or forgery gone n) ≡ n
forged_number number_in forgery gone z m n = go (eqb n 8) (equal n 8)
  where
    go : (t : Bool) → Tells t (n ≡ 8) → number_in (cond t forgery (gone n)) ≡ n
    go true e = z ∙ sym (e.holds refl)
    go false e = m n

-- a call that is settled by its rows: `complete` and `left` say what it gives in figures
pub by_table : (A : Type 0) (number_in : A → ℕ) (ts : List Tested) (table : List Row) (result done complete : A) (gone left : ℕ → A)
    → result ≡ settle (first ts) done gone → Told ts table → keeps order table ≡ true → number_in done ≡ 0 → ((n : ℕ) → number_in (gone n) ≡ n)
    → (first ts ≡ 0 → done ≡ complete) → ((n : ℕ) → first ts ≡ n → gone n ≡ left n)
    → ByTable A table (number_in result) result complete left
by_table A number_in ts table result done complete gone left settled told k z m completes leaves =
    let number = ap number_in settled ∙ settle_number (first ts) done gone number_in z m in
    record {
      ordered = k;
      first = subst (FirstDue table) (sym number) (first_due ts table told);
      done = λ e. settled ∙ settle_complete _ done gone (sym number ∙ e) ∙ completes (sym number ∙ e);
      refused = λ n e d. settled ∙ settle_refused _ done gone (λ p. d (sym e ∙ number ∙ p)) ∙ ap gone (sym number ∙ e) ∙ leaves n (sym number ∙ e);
    }
