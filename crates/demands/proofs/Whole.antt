-- The third demand's part on whole calls holds.
-- Assumes nothing.
use mathlib.Core.Path.{◌≡◌, refl, ap, ap₂, sym, subst, ◌∙◌}
use mathlib.Core.Bool.{Bool, true, false, not, cond}
use mathlib.Core.List.{List}
use Prim.Native.Nat.{ℕ, ◌+◌, ◌-◌, ◌≤◌, max}
use native.Mathlib.Omega.{arith}
use lib.ListN.{length, take, replicate}
use borrow.Author.Tests.{le-ltb, eq-eqb}
use Rattle.octets.specs.Octets.{put}
use Rattle.octets.proofs.Strings.{take_put}
use Rattle.header.specs.Header.{total, strings}
use Rattle.answers.specs.Answer.{Outcome}
use Rattle.whole.specs.Calls.{CallResult, open_number, open_call}
use Rattle.whole.specs.Siv.{opened, genuine, genuine_work}
use Rattle.whole.proofs.Laws.{open_judged, open_admits, by_tag, open_passed, open_numbered, open_told, length-opened}
use Rattle.whole.proofs.Lengths.{genuine_lengths}
use Rattle.demands.specs.Figures.{over, whole_work}
use Rattle.demands.specs.Second.{Admits, Gives}
use Rattle.demands.specs.Table.{answered}
use Rattle.demands.specs.Whole.{Accepts, SealsTo, ThirdWhole}
use Rattle.demands.proofs.Figures.{work_all, keyed, sums}
use Rattle.demands.proofs.Siv.{length-sealed, opened_sealed, genuine_sealed, sealed_opened}

-- ---- opening

module _ (key bytes lens y output scratch : List ℕ) where
  genuine_zero : open_number key bytes lens y output scratch ≡ 0 → genuine key (strings bytes lens) y ≡ true
  genuine_zero e = go (genuine key (strings bytes lens) y) (sym (by_tag key bytes lens y output scratch (open_passed key bytes lens y output scratch e)) ∙ e)
    where
      go : (b : Bool) → ◌≡◌ {A = ℕ} (cond (not b) 8 0) 0 → b ≡ true
      go true p = refl
      go false p = absurd (omega arith)

  work : open_judged key bytes lens y output scratch ≡ 0 → genuine_work key (strings bytes lens) y ≡ whole_work lens (length y - 16)
  work j = genuine_lengths key bytes lens y (omega (arith, (open_admits key bytes lens y output scratch j).sums)) ∙ work_all lens (length y - 16)

  -- what opening gives where the tag agrees, and where it does not
  pub open_gives : open_judged key bytes lens y output scratch ≡ 0 → genuine key (strings bytes lens) y ≡ true
      → Gives (open_call key bytes lens y output scratch) (whole_work lens (length y - 16)) output (opened key y)
  unfolding put
  open_gives j g =
      let result = open_told key bytes lens y output scratch true g j in
      (ap (λ (r : CallResult). r.outcome) result ∙ ap₂ (answered 0) (sym (length-opened key y)) (work j), ap (λ (r : CallResult). r.output) result)

  pub open_wipes : open_judged key bytes lens y output scratch ≡ 0 → genuine key (strings bytes lens) y ≡ false
      → ((open_call key bytes lens y output scratch).outcome ≡ answered 8 0 (whole_work lens (length y - 16))) × ((open_call key bytes lens y output scratch).output ≡ over output 0 (replicate (length y - 16) 0))
  unfolding put
  open_wipes j g =
      let result = open_told key bytes lens y output scratch false g j in
      (ap (λ (r : CallResult). r.outcome) result ∙ ap (answered 8 0) (work j), ap (λ (r : CallResult). r.output) result)

  module _ (a : Admits key bytes lens) (output_fits : length y - 16 ≤ length output) (scratch_fits : max (length y - 16) 16 ≤ length scratch) where
    pub judged : 16 ≤ length y → length y ≤ 1048592 → open_judged key bytes lens y output scratch ≡ 0
    judged tagged limited =
        simp (
          keyed a,
          le-ltb 126 (length lens) a.count_fits,
          eq-eqb (total lens) (length bytes) (sums a),
          le-ltb (length y) 16 tagged,
          le-ltb (1048592) (length y) limited,
          le-ltb (length output) (length y - 16) output_fits,
          le-ltb (length scratch) (max (length y - 16) 16) scratch_fits,
        )

    -- what a genuine string opens to seals to it
    genuine_seals : length y ≤ 1048592 → genuine key (strings bytes lens) y ≡ true → SealsTo key bytes lens y (opened key y)
    genuine_seals limited g = (omega (arith, length-opened key y), sealed_opened key (strings bytes lens) y g)

    zero_seals : open_number key bytes lens y output scratch ≡ 0 → SealsTo key bytes lens y (opened key y)
    zero_seals e = genuine_seals (open_admits key bytes lens y output scratch (open_passed key bytes lens y output scratch e)).limited (genuine_zero e)

    -- two strings of one length that were written to the same place are the same
    written_same : (P Q : List ℕ) → length P ≡ length Q → length P ≤ length output → over output 0 P ≡ over output 0 Q → P ≡ Q
    unfolding put
    written_same P Q l h e =
        sym (take_put output 0 P (omega arith))
        ∙ ap (take (0 + length P)) e
        ∙ ap (λ (n : ℕ). take (0 + n) (over output 0 Q)) l
        ∙ take_put output 0 Q (omega arith)

    whole_accepts_lem : (P : List ℕ) → Accepts (open_call key bytes lens y output scratch) output P → SealsTo key bytes lens y P
    whole_accepts_lem P (z, count, q) =
        let zero = sym (open_numbered key bytes lens y output scratch) ∙ z in
        let gives : Gives (open_call key bytes lens y output scratch) (whole_work lens (length y - 16)) output (opened key y) = open_gives (open_passed key bytes lens y output scratch zero) (genuine_zero zero) in
        let long : length P ≡ length (opened key y) = sym count ∙ ap (λ (r : Outcome). r.count) gives.0 in
        let same : P ≡ opened key y = written_same P (opened key y) long (omega (arith, length-opened key y)) (sym q ∙ gives.1) in
        subst (SealsTo key bytes lens y) (sym same) (zero_seals zero)

    whole_accepted : (P : List ℕ) → SealsTo key bytes lens y P → Gives (open_call key bytes lens y output scratch) (whole_work lens (length P)) output P
    whole_accepted P (l, e) =
        let long : length y ≡ length P + 16 = ap length (sym e) ∙ length-sealed key (strings bytes lens) P in
        let text : opened key y ≡ P = ap (opened key) (sym e) ∙ opened_sealed key (strings bytes lens) P in
        let true-tag : genuine key (strings bytes lens) y ≡ true = ap (genuine key (strings bytes lens)) (sym e) ∙ genuine_sealed key (strings bytes lens) P in
        let count : length y - 16 ≡ length P = omega arith in
        subst (λ (n : ℕ). Gives (open_call key bytes lens y output scratch) (whole_work lens n) output P) count
        (subst (Gives (open_call key bytes lens y output scratch) (whole_work lens (length y - 16)) output) text (open_gives (judged (omega arith) (omega arith)) true-tag))

    whole_refuses : ((P : List ℕ) → SealsTo key bytes lens y P → ⊥) → (open_call key bytes lens y output scratch).outcome.number ≡ 0 → ⊥
    whole_refuses none e = none (opened key y) (zero_seals (sym (open_numbered key bytes lens y output scratch) ∙ e))

    whole_wipes : ((P : List ℕ) → SealsTo key bytes lens y P → ⊥) → 16 ≤ length y → length y ≤ 1048592
        → ((open_call key bytes lens y output scratch).outcome ≡ answered 8 0 (whole_work lens (length y - 16))) × ((open_call key bytes lens y output scratch).output ≡ over output 0 (replicate (length y - 16) 0))
    whole_wipes none tagged limited = open_wipes (judged tagged limited) (go (genuine key (strings bytes lens) y) refl)
      where
        go : (b : Bool) → genuine key (strings bytes lens) y ≡ b → genuine key (strings bytes lens) y ≡ false
        go true g = absurd (none (opened key y) (genuine_seals limited g))
        go false g = g

pub accepts_the_sealed : (key bytes lens y output scratch : List ℕ) → Admits key bytes lens → length y - 16 ≤ length output → max (length y - 16) 16 ≤ length scratch
    → ThirdWhole key bytes lens y output scratch
accepts_the_sealed key bytes lens y output scratch a output_fits scratch_fits =
    record {
      accepts = whole_accepts_lem key bytes lens y output scratch a output_fits scratch_fits;
      accepted = whole_accepted key bytes lens y output scratch a output_fits scratch_fits;
      unique = λ P Q p q. sym (opened_sealed key (strings bytes lens) P) ∙ ap (opened key) (p.1 ∙ sym q.1) ∙ opened_sealed key (strings bytes lens) Q;
      refuses = whole_refuses key bytes lens y output scratch a output_fits scratch_fits;
      wipes = whole_wipes key bytes lens y output scratch a output_fits scratch_fits;
    }
