-- The worst header list, in figures.
-- Assumes nothing.
use mathlib.Core.Path.{◌≡◌, refl, ap, sym, subst, ◌∙◌}
use mathlib.Core.Bool.{◌||◌}
use mathlib.Core.List.{List, [], ◌∷◌}
use mathlib.Core.Logic.{◌⊎◌, inl, inr}
use Prim.{tt}
use Prim.Native.Nat.{ℕ, zero, suc, ◌*◌, ◌≤◌, ◌<◌}
use native.Mathlib.Omega.{arith}
use lib.Dec.{eqb}
use lib.ListN.{length, take, get_or}
use Rattle.answers.specs.Answer.{Outcome, first}
use Rattle.worst_header.specs.WorstHeader.{most_bytes, is_plan, plan_rows, AllAtLeast, Composes, IsWorst, GivesWorst}
use Rattle.demands.specs.First.{IsList, IsWorstList, worst_table, FirstWorst}
use Rattle.demands.specs.Table.{answered, FirstDue}
use Rattle.demands.proofs.Figures.{Fails, unless, equal, either, not_below, judges, one_of, total-sum, blocks_all}
use Rattle.demands.proofs.Table.{first_due}

-- ---- lists

each_least : (least : ℕ) (lens : List ℕ) → AllAtLeast least lens → (i : ℕ) → i < length lens → least ≤ get_or lens i 0
each_least least [] a i h = absurd (omega arith)
each_least least (n ∷ lens) a zero h = a.0
each_least least (n ∷ lens) a (suc i) h = each_least least lens a.1 i (omega arith)

all_least : (least : ℕ) (lens : List ℕ) → ((i : ℕ) → i < length lens → least ≤ get_or lens i 0) → AllAtLeast least lens
all_least least [] each = tt
all_least least (n ∷ lens) each = (each 0 (omega arith), all_least least lens (λ i h. each (suc i) (omega arith)))

listed : {h k least : ℕ} {lens : List ℕ} → Composes h k least lens → IsList h k least lens
listed {least = least} {lens = lens} c =
    record { count = c.count; sums = sym (total-sum lens) ∙ c.sum; each = λ i h. each_least least lens c.each i (omega (arith, c.count)) }

composed : {h k least : ℕ} {lens : List ℕ} → IsList h k least lens → Composes h k least lens
composed {least = least} {lens = lens} l =
    record { count = l.count; sum = total-sum lens ∙ l.sums; each = all_least least lens (λ i h. l.each i (omega (arith, l.count))) }

pub worst_list : {h k least : ℕ} {places : List ℕ} {blocks : ℕ} → IsWorst h k least places blocks → IsWorstList h k least places blocks
worst_list {k = k} {places = places} w =
    record {
      given = listed w.composes;
      past = w.past;
      counted = w.counted ∙ blocks_all (take k places);
      most = λ other l. omega (arith, w.most other (composed l), blocks_all other);
    }

-- ---- 12

neither : (least : ℕ) → Fails (eqb least 0 || eqb least 1) ((least ≡ 0 → ⊥) × (least ≡ 1 → ⊥))
neither least =
    let one = unless (either (equal least 0) (equal least 1)) in
    record {
      holds = λ e. (λ z. one.holds e (inl z), λ z. one.holds e (inr z));
      fails = λ e n. one.fails e (λ p. both n p);
    }
  where
    both : (least ≡ 0 → ⊥) × (least ≡ 1 → ⊥) → (least ≡ 0) ⊎ (least ≡ 1) → ⊥
    both n (inl z) = n.0 z
    both n (inr z) = n.1 z

stated : {A B C D E : Type 0} → ((((A ⊎ B) ⊎ C) ⊎ D) ⊎ E) → A ⊎ (B ⊎ (C ⊎ (D ⊎ E)))
stated (inl (inl (inl (inl a)))) = inl a
stated (inl (inl (inl (inr b)))) = inr (inl b)
stated (inl (inl (inr c))) = inr (inr (inl c))
stated (inl (inr d)) = inr (inr (inr (inl d)))
stated (inr e) = inr (inr (inr (inr e)))

tested : {A B C D E : Type 0} → A ⊎ (B ⊎ (C ⊎ (D ⊎ E))) → ((((A ⊎ B) ⊎ C) ⊎ D) ⊎ E)
tested (inl a) = inl (inl (inl (inl a)))
tested (inr (inl b)) = inl (inl (inl (inr b)))
tested (inr (inr (inl c))) = inl (inl (inr c))
tested (inr (inr (inr (inl d)))) = inl (inr d)
tested (inr (inr (inr (inr e)))) = inr e

twelve : (h k least : ℕ) → Fails (is_plan h k least) ((k < 1) ⊎ ((126 < k) ⊎ (((least ≡ 0 → ⊥) × (least ≡ 1 → ⊥)) ⊎ ((1048576 < h) ⊎ (h < k * least)))))
unfolding is_plan
twelve h k least =
    let all = one_of (one_of (one_of (one_of (not_below k 1) (not_below 126 k)) (neither least)) (not_below most_bytes h)) (not_below h (k * least)) in
    record { holds = λ e. stated (all.holds e); fails = λ e n. all.fails e (tested n) }

pub by_plan : (h k least : ℕ) {outcome : Outcome} {places : List ℕ} {blocks : ℕ} → GivesWorst h k least outcome places blocks → FirstWorst h k least outcome places blocks
by_plan h k least {outcome} g =
    let number : outcome.number ≡ first (plan_rows h k least) = ap (λ (o : Outcome). o.number) g.answer in
    record {
      answer = g.answer ∙ ap (λ (n : ℕ). answered n 0 0) (sym number);
      ordered = refl;
      first = subst (FirstDue (worst_table h k least)) (sym number) (first_due (plan_rows h k least) (worst_table h k least) (refl, judges (twelve h k least), tt));
      done = λ e. worst_list (g.done (sym number ∙ e));
      refused = λ e. g.refused (λ z. omega (arith, sym e ∙ number ∙ z));
    }
