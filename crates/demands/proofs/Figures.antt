-- The statements' figures are those of the definitions: what a test tells of a condition, and sums.
-- Assumes nothing.
use mathlib.Core.Path.{◌≡◌, refl, ap, ap₂, sym, ◌∙◌}
use mathlib.Core.Bool.{Bool, true, false, not, true≢false, false≢true, ◌&&◌, ◌||◌}
use mathlib.Core.List.{List, [], ◌∷◌}
use mathlib.Core.Logic.{◌⊎◌, inl, inr}
use Prim.Native.Nat.{ℕ, zero, suc, ◌+◌, ◌*◌, ◌≤◌, ◌<◌}
use native.Mathlib.Omega.{arith}
use lib.Dec.{ltb, eqb}
use lib.ListN.{length, replicate}
use borrow.Author.Tests.{ltb-true, ltb-false, eqb-true, eqb-false, not-true, not-false}
use Rattle.octets.specs.Octets.{same, all_zero}
use Rattle.octets.proofs.Strings.{same_eq, same_refl}
use Rattle.aes.specs.Aes.{is_width}
use Rattle.header.specs.Header.{total}
use Rattle.header.specs.Blocks.{blocks_of_all}
use Rattle.whole.specs.Calls.{is_key_length}
use Rattle.whole.specs.Ring.{is_ring}
use Rattle.whole.specs.Work.{block_work}
use Rattle.demands.specs.Figures.{IsKeyLength, IsKeyWidth, IsRingLength, IsZero, sum, header_blocks, whole_work}
use Rattle.demands.specs.Second.{Admits}

-- ---- sums

pub total-sum : (lens : List ℕ) → total lens ≡ sum lens
unfolding total sum
total-sum [] = refl
total-sum (n ∷ lens) = ap (λ (m : ℕ). n + m) (total-sum lens)

pub blocks_all : (lens : List ℕ) → blocks_of_all lens ≡ header_blocks lens
unfolding blocks_of_all header_blocks
blocks_all [] = refl
blocks_all (n ∷ lens) = ap₂ ◌+◌ refl (blocks_all lens)

pub work_all : (lens : List ℕ) (n : ℕ) → block_work lens n ≡ whole_work lens n
work_all lens n = omega (arith, blocks_all lens)

-- ---- tests and conditions

-- a test tells whether a condition holds
pub record Tells (t : Bool) (P : Type 0) : Type 0 where
  pub holds : t ≡ true → P
  pub fails : t ≡ false → P → ⊥

pub below : (a b : ℕ) → Tells (ltb a b) (a < b)
below a b = record { holds = ltb-true a b; fails = λ e h. omega (arith, h, ltb-false a b e) }

pub equal : (a b : ℕ) → Tells (eqb a b) (a ≡ b)
equal a b = record { holds = eqb-true a b; fails = eqb-false a b }

pub never : Tells false ⊥
never = record { holds = λ e. absurd (false≢true e); fails = λ e p. p }

pub when : {t : Bool} {P : Type 0} → Tells t P → P → t ≡ true
when {t} {P} told p = go t told
  where
    go : (t : Bool) → Tells t P → t ≡ true
    go true told = refl
    go false told = absurd (told.fails refl p)

pub otherwise : {t : Bool} {P : Type 0} → Tells t P → Tells (not t) (P → ⊥)
otherwise {t} told = record { holds = λ e. told.fails (not-true t e); fails = λ e n. n (told.holds (not-false t e)) }

pub either : {t u : Bool} {P Q : Type 0} → Tells t P → Tells u Q → Tells (t || u) (P ⊎ Q)
either {t} {u} {P} {Q} a b = go t u a b
  where
    go : (t u : Bool) → Tells t P → Tells u Q → Tells (t || u) (P ⊎ Q)
    go true u a b = record { holds = λ e. inl (a.holds refl); fails = λ e p. true≢false e }
    go false u a b = record { holds = λ e. inr (b.holds e); fails = λ e p. neither e p }
      where
        neither : u ≡ false → P ⊎ Q → ⊥
        neither e (inl p) = a.fails refl p
        neither e (inr q) = b.fails e q

-- so of a condition that says the same
alike : {t : Bool} {P Q : Type 0} → (P → Q) → (Q → P) → Tells t P → Tells t Q
alike f g told = record { holds = λ e. f (told.holds e); fails = λ e q. told.fails e (g q) }

to_right : {P Q R : Type 0} → (P ⊎ Q) ⊎ R → P ⊎ (Q ⊎ R)
to_right (inl (inl p)) = inl p
to_right (inl (inr q)) = inr (inl q)
to_right (inr r) = inr (inr r)

to_left : {P Q R : Type 0} → P ⊎ (Q ⊎ R) → (P ⊎ Q) ⊎ R
to_left (inl p) = inl (inl p)
to_left (inr (inl q)) = inl (inr q)
to_left (inr (inr r)) = inr r

-- a test fails where a condition holds
pub record Fails (t : Bool) (P : Type 0) : Type 0 where
  pub holds : t ≡ false → P
  pub fails : t ≡ true → P → ⊥

pub unless : {t : Bool} {P : Type 0} → Tells t P → Fails t (P → ⊥)
unless told = record { holds = told.fails; fails = λ e n. n (told.holds e) }

pub not_below : (a b : ℕ) → Fails (not (ltb a b)) (a < b)
not_below a b = record { holds = λ e. (below a b).holds (not-false (ltb a b) e); fails = λ e. (below a b).fails (not-true (ltb a b) e) }

pub judges : {t : Bool} {P : Type 0} → Fails t P → Tells (not t) P
judges {t} f = record { holds = λ e. f.holds (not-true t e); fails = λ e. f.fails (not-false t e) }

-- two tests together fail where one of two conditions holds
pub one_of : {t u : Bool} {P Q : Type 0} → Fails t P → Fails u Q → Fails (t && u) (P ⊎ Q)
one_of {t} {u} {P} {Q} a b = go t u a b
  where
    go : (t u : Bool) → Fails t P → Fails u Q → Fails (t && u) (P ⊎ Q)
    go false u a b = record { holds = λ e. inl (a.holds refl); fails = λ e p. false≢true e }
    go true u a b = record { holds = λ e. inr (b.holds e); fails = neither }
      where
        neither : u ≡ true → P ⊎ Q → ⊥
        neither e (inl p) = a.fails refl p
        neither e (inr q) = b.fails e q

three : (n a b c : ℕ) → Tells (eqb n a || eqb n b || eqb n c) ((n ≡ a) ⊎ ((n ≡ b) ⊎ (n ≡ c)))
three n a b c = alike to_right to_left (either (either (equal n a) (equal n b)) (equal n c))

pub key_length_lem : (n : ℕ) → Tells (is_key_length n) (IsKeyLength n)
unfolding is_key_length
key_length_lem n = three n 32 48 64

pub key_width : (n : ℕ) → Tells (is_width n) (IsKeyWidth n)
unfolding is_width
key_width n = three n 16 24 32

pub ring-length : (key_length n : ℕ) → Tells (is_ring key_length n) (IsRingLength key_length n)
unfolding is_ring
ring-length key_length n =
    alike one_to_four named (either (either (either (equal n key_length) (equal n (2 * key_length))) (equal n (3 * key_length))) (equal n (4 * key_length)))
  where
    one_to_four : (((n ≡ key_length) ⊎ (n ≡ 2 * key_length)) ⊎ (n ≡ 3 * key_length)) ⊎ (n ≡ 4 * key_length) → IsRingLength key_length n
    one_to_four (inl (inl (inl e))) = (1, omega arith, omega arith, omega (arith, e))
    one_to_four (inl (inl (inr e))) = (2, omega arith, omega arith, e)
    one_to_four (inl (inr e)) = (3, omega arith, omega arith, e)
    one_to_four (inr e) = (4, omega arith, omega arith, e)

    at : (slots : ℕ) → 1 ≤ slots → slots ≤ 4 → n ≡ slots * key_length → (((n ≡ key_length) ⊎ (n ≡ 2 * key_length)) ⊎ (n ≡ 3 * key_length)) ⊎ (n ≡ 4 * key_length)
    at zero some most e = absurd (omega arith)
    at (suc zero) some most e = inl (inl (inl (omega (arith, e))))
    at (suc (suc zero)) some most e = inl (inl (inr e))
    at (suc (suc (suc zero))) some most e = inl (inr e)
    at (suc (suc (suc (suc zero)))) some most e = inr e
    at (suc (suc (suc (suc (suc s))))) some most e = absurd (omega arith)

    named : IsRingLength key_length n → (((n ≡ key_length) ⊎ (n ≡ 2 * key_length)) ⊎ (n ≡ 3 * key_length)) ⊎ (n ≡ 4 * key_length)
    named r = at r.0 r.1 r.2 r.3

all_zero_lem : (s : List ℕ) → all_zero s ≡ true → IsZero s
unfolding all_zero
all_zero_lem [] e = refl
all_zero_lem (b ∷ s) e = go (eqb b 0) refl e (all_zero_lem s)
  where
    go : (t : Bool) → eqb b 0 ≡ t → (t && all_zero s) ≡ true → (all_zero s ≡ true → IsZero s) → IsZero (b ∷ s)
    go true z r rest = ap₂ (λ (x : ℕ) (xs : List ℕ). x ∷ xs) (eqb-true b 0 z) (rest r)
    go false z r rest = absurd (false≢true r)

zero_all : (n : ℕ) → all_zero (replicate n 0) ≡ true
unfolding all_zero
zero_all zero = refl
zero_all (suc n) = zero_all n

pub zeros : (s : List ℕ) → Tells (all_zero s) (IsZero s)
zeros s = record { holds = all_zero_lem s; fails = λ e z. false≢true (sym e ∙ ap all_zero z ∙ zero_all (length s)) }

pub alike_bytes : (a b : List ℕ) → Tells (same a b) (a ≡ b)
alike_bytes a b = record { holds = same_eq a b; fails = λ e p. false≢true (sym e ∙ ap (same a) (sym p) ∙ same_refl a) }

-- ---- an admitted key and header list

pub keyed : {key bytes lens : List ℕ} → Admits key bytes lens → is_key_length (length key) ≡ true
keyed {key} a = when (key_length_lem (length key)) a.keyed

pub sums : {key bytes lens : List ℕ} → Admits key bytes lens → total lens ≡ length bytes
sums {lens = lens} a = total-sum lens ∙ a.sums
