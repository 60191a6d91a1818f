-- The second demand holds.
-- Assumes nothing.
use mathlib.Core.Path.{◌≡◌, refl, ap, ap₂, sym, subst, ◌∙◌}
use mathlib.Core.List.{List}
use Prim.Native.Nat.{ℕ, ◌+◌, ◌-◌, ◌≤◌, max}
use native.Mathlib.Omega.{arith}
use lib.ListN.{length}
use borrow.Author.Tests.{le-ltb, eq-eqb}
use Rattle.octets.specs.Octets.{put}
use Rattle.header.specs.Header.{total, strings}
use Rattle.whole.specs.Calls.{CallResult, seal_number, seal_call}
use Rattle.whole.specs.Siv.{sealed}
use Rattle.whole.proofs.Laws.{seal_complete}
use Rattle.whole.proofs.Lengths.{sealed_lengths}
use Rattle.demands.specs.Figures.{whole_work}
use Rattle.demands.specs.Second.{Admits, Gives, Second}
use Rattle.demands.specs.Table.{answered}
use Rattle.demands.proofs.Figures.{work_all, keyed, sums}
use Rattle.demands.proofs.Siv.{length-sealed}
use Rattle.demands.proofs.Whole.{accepts_the_sealed}

-- ---- sealing

module _ (key bytes lens p output scratch : List ℕ) (a : Admits key bytes lens) (limited : length p ≤ 1048576) (output_fits : length p + 16 ≤ length output)
    (scratch_fits : max (length p) 16 ≤ length scratch) where
  seal_number_lem : seal_number key bytes lens p output scratch ≡ 0
  unfolding seal_number
  seal_number_lem =
      simp (
        keyed a,
        le-ltb 126 (length lens) a.count_fits,
        eq-eqb (total lens) (length bytes) (sums a),
        le-ltb 1048576 (length p) limited,
        le-ltb (length output) (length p + 16) output_fits,
        le-ltb (length scratch) (max (length p) 16) scratch_fits,
      )

  seal_gives : Gives (seal_call key bytes lens p output scratch) (whole_work lens (length p)) output (sealed key (strings bytes lens) p)
  unfolding put
  seal_gives =
      let complete = seal_complete key bytes lens p output scratch seal_number_lem in (
        ap (λ (r : CallResult). r.outcome) complete ∙ ap₂ (answered 0) (sym (length-sealed key (strings bytes lens) p)) (sealed_lengths key bytes lens p (omega (arith, sums a)) ∙ work_all lens (length p)),
        ap (λ (r : CallResult). r.output) complete,
      )

-- ---- the demand

pub seals_and_reopens : Second
seals_and_reopens =
    record {
      seals = seal_gives;
      opens = λ key bytes lens p output scratch a l r s.
          let long : length (sealed key (strings bytes lens) p) - 16 ≡ length p = omega (arith, length-sealed key (strings bytes lens) p) in
          (accepts_the_sealed key bytes lens (sealed key (strings bytes lens) p) output scratch a (subst (λ (n : ℕ). n ≤ length output) (sym long) r)
          (subst (λ (n : ℕ). max n 16 ≤ length scratch) (sym long) s)).accepted p (l, refl);
    }
