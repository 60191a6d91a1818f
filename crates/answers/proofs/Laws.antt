-- Laws of the order of refusals, of which case an answer is, and of `settle`.
-- Assumes nothing.
use mathlib.Core.Path.{◌≡◌, refl, ap, sym, subst, ◌∙◌}
use mathlib.Core.Bool.{Bool, true, false, not, cond, ◌&&◌}
use mathlib.Core.List.{List, [], ◌∷◌, ◌++◌}
use Prim.Native.Nat.{ℕ, suc, ◌≤◌}
use native.Mathlib.Omega.{arith}
use Rattle.std.proofs.lemmas.Bool.Decides.{nat_tests}
use lib.Dec.{eqb}
use Rattle.std.specs.Prelude.{Ok, Err}
use Rattle.answers.specs.declared.Refusal.{Refusal}
use Rattle.answers.specs.Answer.{Answer, Outcome, Row, row, first, settle, forged_or, Judges, number_of, outcome_of, refusal}

-- ---- the order of refusals

-- no row has the number n
abbrev pub lacks : ℕ → List Row → Bool
lacks n [] = true
lacks n (r ∷ rs) = not (eqb r.number n) && lacks n rs

-- a number that no row has is not the first due
pub first_not : (n : ℕ) (rs : List Row) → lacks n rs ≡ true → (0 ≡ n → ⊥) → first rs ≡ n → ⊥
first_not n [] l z e = z e
first_not n (r ∷ rs) l z e = grind (arith, nat_tests, first_not n rs)

-- where no row of the first list is due, the second decides
pub first_pass : (a b : List Row) → lacks 0 a ≡ true → first a ≡ 0 → first (a ++ b) ≡ first b
first_pass [] b l e = refl
first_pass (r ∷ a) b l e = grind (arith, nat_tests, first_pass a b)

-- where a row of the first list is due, it decides
pub first_stop : (a b : List Row) → (first a ≡ 0 → ⊥) → first (a ++ b) ≡ first a
first_stop [] b e = absurd (e refl)
first_stop (r ∷ a) b e = grind (arith, nat_tests, first_stop a b)

-- where no row of both lists is due, none of either is
pub first_none : (a b : List Row) → lacks 0 a ≡ true → first (a ++ b) ≡ 0 → (first a ≡ 0) × (first b ≡ 0)
first_none a b l e = grind (arith, nat_tests, first_pass a b l, first_stop a b)

-- so a first list decides where a row of it is due, and else the second
pub first-append : (a b : List Row) → lacks 0 a ≡ true → first (a ++ b) ≡ cond (eqb (first a) 0) (first b) (first a)
first-append a b l = grind (arith, nat_tests, first_pass a b l, first_stop a b)

-- where the last row is 8 for a test that fails, none is due where the test is passed
pub none_where : (b : Bool) → eqb (cond (not b) 8 0) 0 ≡ b
none_where b = grind (arith, nat_tests)

-- a row that is not due leaves those behind it
pub not_due : (b : Bool) (n rest : ℕ) → cond b (suc n) rest ≡ 0 → (b ≡ false) × (rest ≡ 0)
not_due b n rest e = grind (arith, nat_tests)

-- ---- which case an answer is

-- no refusal has the number 0
pub refusal_number : (r : Refusal) → number_of r ≡ 0 → ⊥
refusal_number r e = grind arith

-- a refusal's number is small, so that an answer fits in one number
pub number_most : (r : Refusal) → number_of r ≤ 12
number_most r = grind arith

-- an answer in the arm of a match: `Err` is a refusal, with length 0, and `Ok` is none
pub told_refused : (a : Answer) (r : Refusal) → a ≡ Err r → (outcome_of a 0).number ≡ 0 → ⊥
told_refused a r k e = grind (arith, refusal_number r)

pub told_ok : (a : Answer) (n : ℕ) → a ≡ Ok n → (outcome_of a 0).number ≡ 0
told_ok a n k = ap (λ (b : Answer). (outcome_of b 0).number) k

pub told_length : (a : Answer) (r : Refusal) → a ≡ Err r → outcome_of a 0 ≡ refusal (outcome_of a 0).number
told_length a r k = subst (λ (b : Answer). outcome_of b 0 ≡ refusal (outcome_of b 0).number) (sym k) refl

-- a judgement that is a refusal was due
pub was_due : (r : Refusal) (n : ℕ) → number_of r ≡ n → n ≡ 0 → ⊥
was_due r n e z = refusal_number r (e ∙ z)

-- it stays due whatever rows come behind
pub still_due : (r : Refusal) (rows rest : List Row) → Judges rows (Err r) → Judges (rows ++ rest) (Err r)
still_due r rows rest e = e ∙ sym (first_stop rows rest (was_due r (first rows) e))

-- past a judgement the rows behind decide
pub next_due : (rows rest : List Row) → lacks 0 rows ≡ true → 0 ≡ first rows → first rest ≡ first (rows ++ rest)
next_due rows rest l e = sym (first_pass rows rest l (sym e))

-- ---- a call that its first due row settles

module _ {A : Type 0} (n : ℕ) (complete : A) (refused : ℕ → A) where
  pub settle_complete : n ≡ 0 → settle n complete refused ≡ complete
  settle_complete e = grind (arith, nat_tests)

  pub settle_refused : (n ≡ 0 → ⊥) → settle n complete refused ≡ refused n
  settle_refused z = grind (arith, nat_tests)

  -- its number is the one that settled it
  pub settle_number : (number_in : A → ℕ) → number_in complete ≡ 0 → ((m : ℕ) → number_in (refused m) ≡ m) → number_in (settle n complete refused) ≡ n
  settle_number number_in z named = grind (arith, nat_tests, named n)

  -- what is promised of the complete result is promised of the call
  pub by_complete : (P : A → Type 0) → n ≡ 0 → P complete → P (settle n complete refused)
  by_complete P e p = subst P (sym (settle_complete e)) p

-- and what is promised of a refusal that was due, of the call
pub by_refusal : {A : Type 0} (n : ℕ) (complete : A) (leaves : Outcome → A) (P : A → Type 0) (r : Refusal) → number_of r ≡ n → P (leaves (refusal (number_of r)))
    → P (settle n complete (λ m. leaves (refusal m)))
by_refusal n complete leaves P r e p =
    subst P (ap (λ (m : ℕ). leaves (refusal m)) e ∙ sym (settle_refused n complete (λ m. leaves (refusal m)) (was_due r n e))) p

-- where 8 leaves something of its own
module _ {A : Type 0} (n : ℕ) (complete forgery : A) (refused : ℕ → A) where
  pub settle_forged : n ≡ 8 → settle n complete (forged_or forgery refused) ≡ forgery
  settle_forged e = grind (arith, nat_tests)

  pub settle_other : (n ≡ 0 → ⊥) → (n ≡ 8 → ⊥) → settle n complete (forged_or forgery refused) ≡ refused n
  settle_other z e = grind (arith, nat_tests)

  pub settle_verdict : (number_in : A → ℕ) → number_in complete ≡ 0 → number_in forgery ≡ 8 → ((m : ℕ) → number_in (refused m) ≡ m)
      → number_in (settle n complete (forged_or forgery refused)) ≡ n
  settle_verdict number_in z e named = grind (arith, nat_tests, named n)

-- values that a test picks are related where both pairs are
pub cond_related : {A B : Type 0} (R : A → B → Type 0) (t : Bool) {a b : A} {c d : B} → R a c → R b d → R (cond t a b) (cond t c d)
cond_related R true p q = p
cond_related R false p q = q

-- a table whose last row is 8, due unless a test is passed: the rows before it decide, and past them the test
module _ (rows : List Row) (test : Bool) where
  abbrev table : List Row
  table = rows ++ (row 8 (not test) ∷ [])

  by_rows : (first rows ≡ 0 → ⊥) → first table ≡ first rows
  by_rows z = first_stop rows (row 8 (not test) ∷ []) z

  pub by_test : lacks 0 rows ≡ true → first rows ≡ 0 → first table ≡ cond (not test) 8 0
  by_test no-0 e = first_pass rows (row 8 (not test) ∷ []) no-0 e

  -- 0 and 8 passed the rows before, and any other number did not
  pub passed_at_0 : lacks 0 rows ≡ true → first table ≡ 0 → first rows ≡ 0
  passed_at_0 no-0 e = (first_none rows (row 8 (not test) ∷ []) no-0 e).0

  pub passed_at_8 : lacks 8 rows ≡ true → first table ≡ 8 → first rows ≡ 0
  passed_at_8 no-8 e = grind (arith, nat_tests, by_rows, first_not 8 rows no-8)

  pub unpassed : lacks 0 rows ≡ true → (first table ≡ 0 → ⊥) → (first table ≡ 8 → ⊥) → first rows ≡ 0 → ⊥
  unpassed no-0 z e none = grind (arith, nat_tests, by_test no-0 none)

  -- a call with this table: a refusal of the rows before, or by the test
  module _ {A : Type 0} (complete forgery : A) (refused : ℕ → A) where
    pub settle_rows : lacks 8 rows ≡ true → (first rows ≡ 0 → ⊥) → settle (first table) complete (forged_or forgery refused) ≡ refused (first rows)
    settle_rows no-8 z = grind (arith, nat_tests, by_rows z, first_not 8 rows no-8)

    pub settle_test : lacks 0 rows ≡ true → (t : Bool) → test ≡ t → first rows ≡ 0 → settle (first table) complete (forged_or forgery refused) ≡ cond t complete forgery
    settle_test no-0 t e none = grind (arith, nat_tests, by_test no-0 none)

-- with another work number and length are the same
pub outcome_with : (a : Answer) (w w' : ℕ) {o : Outcome} {v : ℕ} → outcome_of a w ≡ o → w' ≡ v → outcome_of a w' ≡ record { number = o.number; count = o.count; work = v }
outcome_with a w w' e v = grind arith

pub outcome_number : (a : Answer) (w w' : ℕ) → (outcome_of a w).number ≡ (outcome_of a w').number
outcome_number a w w' = grind arith

pub outcome_work : (a : Answer) (w : ℕ) → (outcome_of a w).work ≡ w
outcome_work a w = grind arith
