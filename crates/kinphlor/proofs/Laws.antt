-- Laws of the C interface's definitions.
-- Assumes nothing.
use mathlib.Core.Path.{◌≡◌, refl, ap, ap₂, sym, subst, ◌∙◌}
use mathlib.Core.Bool.{true, false}
use mathlib.Core.List.{List}
use Prim.Native.Nat.{ℕ, ◌+◌, ◌*◌, ◌<◌, ◌^◌}
use native.Mathlib.Nat.{add-zero}
use native.Mathlib.Omega.{arith}
use lib.ListN.{length}
use Rattle.answers.specs.Answer.{Outcome, outcome_of, refusal, first}
use Rattle.answers.proofs.Laws.{outcome_with}
use Rattle.worst_header.specs.WorstHeader.{plan_rows, GivesWorst}
use Rattle.worst_header.proofs.Laws.{number_small, blocks_small}
use Rattle.whole.specs.declared.Report.{Report}
use Rattle.whole.specs.declared.RingAnswer.{RingAnswer}
use Rattle.whole.specs.Calls.{CallResult, DidCall}
use Rattle.whole.specs.Ring.{DidRing, open_ring}
use Rattle.kinphlor.specs.Interface.{aead_lens, packed, empty_nonce, from_c, DidPacked, packed_ring, empty_nonce_ring, open_ring_from_c, DidPackedRing, number_in, blocks_in, GivesWorstFromC}

module _ (nonce : ℕ) (key output scratch : List ℕ) (call : CallResult) where
  pub nonce_refused : {r : ℕ} → empty_nonce (length key) nonce ≡ true → r ≡ packed (refusal 10) → DidPacked (from_c nonce key output scratch call) r output scratch
  unfolding from_c
  nonce_refused e p = record { answer = simp e p; output = simp e; scratch = simp e }

  pub call_packed : {r : ℕ} (report : Report) {output' scratch' : List ℕ} → empty_nonce (length key) nonce ≡ false → DidCall call report output' scratch' → r ≡ packed (outcome_of report.answer 0)
      → DidPacked (from_c nonce key output scratch call) r output' scratch'
  unfolding from_c
  call_packed report e d p =
      record { answer = simp e (p ∙ ap (λ (o : Outcome). packed o) (outcome_with report.answer report.work 0 d.outcome refl)); output = simp e d.output; scratch = simp e d.scratch }

-- ---- a ring of keys

module _ (key_length : ℕ) (ring header : List ℕ) (ad nonce : ℕ) (input output scratch : List ℕ) where
  pub ring_nonce_refused : {r : ℕ} → empty_nonce_ring key_length (length ring) nonce ≡ true → r ≡ packed (refusal 10)
      → DidPackedRing (open_ring_from_c key_length ring header ad nonce input output scratch) r output scratch
  unfolding open_ring_from_c
  ring_nonce_refused e p = record { answer = simp e (p ∙ sym (add-zero _)); output = simp e; scratch = simp e }

  pub ring_packed : {r : ℕ} (a : RingAnswer) {output' scratch' : List ℕ} → empty_nonce_ring key_length (length ring) nonce ≡ false
      → DidRing (open_ring key_length ring header (aead_lens ad nonce) input output scratch) a output' scratch' → r ≡ packed_ring a.slot (outcome_of a.answer 0)
      → DidPackedRing (open_ring_from_c key_length ring header ad nonce input output scratch) r output' scratch'
  unfolding open_ring_from_c
  ring_packed a e d p =
      record { answer = simp e (p ∙ ap₂ packed_ring d.slot (outcome_with a.answer a.work 0 d.call.outcome refl)); output = simp e d.call.output; scratch = simp e d.call.scratch }

-- ---- the worst header list

module _ {h k least : ℕ} {outcome : Outcome} {places : List ℕ} {blocks n : ℕ} (g : GivesWorst h k least outcome places blocks) (e : n ≡ packed outcome) where
  -- the number alone, and that number and blocks fit
  worst_number : n ≡ first (plan_rows h k least) * 4294967296
  worst_number = e ∙ ap (λ (o : Outcome). packed o) g.answer ∙ add-zero (first (plan_rows h k least) * 4294967296)

  pub worst_small : n + blocks < 2 ^ 64
  worst_small = omega (arith, worst_number, number_small h k least, blocks_small h k least g)

  pub worst_packed : GivesWorstFromC h k least places (n + blocks)
  worst_packed =
      let high : number_in (n + blocks) ≡ first (plan_rows h k least) = omega (arith, worst_number, blocks_small h k least g) in
      let low : blocks ≡ blocks_in (n + blocks) = omega (arith, worst_number, blocks_small h k least g) in
      subst (λ (b : ℕ). GivesWorst h k least (refusal (number_in (n + blocks))) places b) low
      (record { answer = ap refusal high; done = g.done; refused = g.refused })
