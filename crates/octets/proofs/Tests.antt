-- A test that antt computes at every number below a bound holds at each of them: how a table's rule is proved once.
-- Assumes nothing.
use mathlib.Core.Path.{◌≡◌, refl}
use mathlib.Core.Bool.{Bool, true, ◌&&◌}
use Prim.Native.Nat.{ℕ, zero, suc, ◌<◌}
use lib.Dec.{eqb}
use Rattle.std.proofs.lemmas.Bool.Decides.{Decides-below_and}
use borrow.Author.Tests.{eqb-true}

-- the test passes at every number below n
abbrev pub all : (ℕ → Bool) → ℕ → Bool
all f zero = true
all f (suc n) = f n && all f n

pub below : (f : ℕ → Bool) (n : ℕ) → all f n ≡ true → (k : ℕ) → k < n → f k ≡ true
below f n e = (Decides-below_and f (λ k. f k ≡ true) (all f) (λ k. (λ passed. passed, λ passed. passed)) refl (λ _. refl) n).0 e

-- two numbers computed from k agree at every k below n, where the test says so
pub agree : (n : ℕ) (f g : ℕ → ℕ) → all (λ k. eqb (f k) (g k)) n ≡ true → (k : ℕ) → k < n → f k ≡ g k
agree n f g e k h = eqb-true (f k) (g k) (below (λ m. eqb (f m) (g m)) n e k h)
