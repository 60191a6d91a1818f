-- Rules 16.2, 16.3 and 16.5 hold: there is a worst list, both figures are 127,
-- and the calls report the blocks that are given.
-- Assumes nothing.
use mathlib.Core.Path.{◌≡◌, refl, ap, sym, subst, ◌∙◌}
use mathlib.Core.List.{List}
use Prim.Native.Nat.{ℕ, ◌-◌, ◌≤◌}
use native.Mathlib.Decide.{ℕ_discrete}
use native.Mathlib.Omega.{arith}
use lib.ListN.{length, take}
use borrow.Author.Tests.{ne_eqb}
use Rattle.answers.specs.Answer.{Outcome, first}
use Rattle.worst_header.specs.WorstHeader.{is_plan, plan_rows, GivesWorst}
use Rattle.worst_header.proofs.Laws.{Planned, planned_row, found, blocks_peak}
use Rattle.whole.specs.Calls.{CallResult, seal_call, open_call}
use Rattle.demands.specs.Figures.{IsKeyLength, header_blocks, work_behind}
use Rattle.demands.specs.First.{called, IsWorstList}
use Rattle.demands.specs.WorstHeader.{AsReported, WorstHeaders}
use Rattle.demands.specs.Second.{Admits}
use Rattle.demands.specs.Table.{answered}
use Rattle.demands.specs.Work.{Reported}
use Rattle.demands.proofs.First.{answers_or_first_refusal}
use Rattle.demands.proofs.Plans.{worst_list}
use Rattle.demands.proofs.Second.{seals_and_reopens}
use Rattle.demands.proofs.Work.{opened_work}

-- what was given, where the number is 0
given : (h k least : ℕ) {outcome : Outcome} {places : List ℕ} {blocks : ℕ} → GivesWorst h k least outcome places blocks → outcome.number ≡ 0 → first (plan_rows h k least) ≡ 0
given h k least g e = sym (ap (λ (o : Outcome). o.number) g.answer) ∙ e

-- sealing and opening report no more than the sum with so many blocks for the header
module _ (key bytes lens input output scratch : List ℕ) (blocks : ℕ) (most : header_blocks lens ≤ blocks) where
  sealed_most : (seal_call key bytes lens input output scratch).outcome.work ≤ work_behind blocks (length input)
  sealed_most = go (ℕ_discrete number 0)
    where
      number : ℕ
      number = (seal_call key bytes lens input output scratch).outcome.number

      go : Dec (number ≡ 0) → (seal_call key bytes lens input output scratch).outcome.work ≤ work_behind blocks (length input)
      go (yes z) = omega (arith, ap (λ (r : CallResult). r.outcome.work) ((answers_or_first_refusal.sealing key bytes lens input output scratch).done z), most)
      go (no z) = omega (arith, ap (λ (r : CallResult). r.outcome.work) ((answers_or_first_refusal.sealing key bytes lens input output scratch).refused number refl z))

  opened_most : (open_call key bytes lens input output scratch).outcome.work ≤ work_behind blocks (length input - 16)
  opened_most = go (ℕ_discrete number 0) (ℕ_discrete number 8)
    where
      number : ℕ
      number = (open_call key bytes lens input output scratch).outcome.number

      go : Dec (number ≡ 0) → Dec (number ≡ 8) → (open_call key bytes lens input output scratch).outcome.work ≤ work_behind blocks (length input - 16)
      go (yes z) e = omega (arith, (opened_work key bytes lens input output scratch).done z, most)
      go (no z) (yes e) = omega (arith, (opened_work key bytes lens input output scratch).forged e, most)
      go (no z) (no n) =
          let idle : open_call key bytes lens input output scratch ≡ called number 0 0 output scratch = (answers_or_first_refusal.opening key bytes lens input output scratch).refused number refl z ∙ simp (ne_eqb number 8 n) in
          omega (arith, ap (λ (r : CallResult). r.outcome.work) idle)

module _ (h k least : ℕ) (places : List ℕ) (blocks : ℕ) (p : Planned h k least) (d : IsWorstList h k least places blocks) where
  admitted : (key bytes : List ℕ) → IsKeyLength (length key) → length bytes ≡ h → Admits key bytes (take k places)
  admitted key bytes keyed long = record { keyed = keyed; count_fits = omega (arith, d.given.count, p.count_fits); sums = d.given.sums ∙ sym long }

  as_reported : AsReported h k least places blocks
  as_reported =
      record {
        admitted = admitted;
        seals = λ key bytes text output scratch keyed long limited room scratch_fits.
            let given = seals_and_reopens.seals key bytes (take k places) text output scratch (admitted key bytes keyed long) limited room scratch_fits in
            (given.0 ∙ ap (answered 0 _) (omega (arith, d.counted)), given.1);
        opens = λ key bytes input output scratch.
            subst (λ (b : ℕ). Reported (open_call key bytes (take k places) input output scratch) (work_behind b (length input - 16))) (sym d.counted) (opened_work key bytes (take k places) input output scratch);
        seals_no_more = λ other o key bytes input output scratch. sealed_most key bytes other input output scratch blocks (d.most other o);
        opens_no_more = λ other o key bytes input output scratch. opened_most key bytes other input output scratch blocks (d.most other o);
      }

pub worst_and_reported : WorstHeaders
unfolding is_plan
worst_and_reported =
    record {
      found = λ h k least some count_fits small bounded enough.
          let w = found h k least (record { some = some; count_fits = count_fits; small = small; bounded = bounded; enough = enough }) in
          (w.0, w.1, worst_list w.2);
      figure = λ h k least outcome places blocks g e. let z = given h k least g e in blocks_peak h k least (planned_row h k least z) (g.done z);
      check1 = λ outcome places blocks g. blocks_peak 17 126 0 (planned_row 17 126 0 refl) (g.done refl);
      check2 = λ outcome places blocks g. blocks_peak 142 126 1 (planned_row 142 126 1 refl) (g.done refl);
      reported = λ h k least outcome places blocks g e. let z = given h k least g e in as_reported h k least places blocks (planned_row h k least z) (worst_list (g.done z));
    }
