-- What the calls' promises say, in parts: with the arguments as they came, answer, slot, head and state
-- are the definition's, and so are the lent buffers as they are left. Which definition it is stands in the contract.
-- Assumes nothing.
use Rattle.std.specs.Prelude.{◌≡◌, List, ℕ, length, replicate, Ok, Err}
use Rattle.octets.specs.Octets.{Lent, LentMut}
use Rattle.aes.specs.declared.Expansion.{Expansion}
use Rattle.aes.specs.declared.KeyRefusal.TheVariants.{Length}
use Rattle.aes.specs.Aes.{key_number, Expands}
use Rattle.answers.specs.Answer.{outcome_of}
use Rattle.whole.specs.declared.Report.{Report}
use Rattle.whole.specs.declared.RingAnswer.{RingAnswer}
use Rattle.whole.specs.Calls.{CallResult, Performs}
use Rattle.whole.specs.Ring.{open_ring, PerformsRing}
use Rattle.head.specs.declared.Made.{Made}
use Rattle.head.specs.Head.{MakeResult, DidMake}
use Rattle.stream.specs.declared.Step.{Step}
use Rattle.stream.specs.Steps.{StepResult, DidStep}
use Rattle.kinphlor.specs.Interface.{packed, PerformsFromC, packed_ring, open_ring_from_c, PerformsRingFromC}
use Rattle.demands.specs.Figures.{IsKeyWidth}
use Rattle.demands.specs.State.{key_bytes}

-- the definition of a whole call, from Rattle and from C
abbrev Whole : Type 0
Whole = List ℕ → List ℕ → List ℕ → List ℕ → List ℕ → List ℕ → CallResult

abbrev WholeFromC : Type 0
WholeFromC = List ℕ → List ℕ → ℕ → ℕ → List ℕ → List ℕ → List ℕ → CallResult

pub record Promises : Type 0 where
  pub whole : (call : Whole) (key header lens input : Lent) (output scratch : LentMut) (report : Report) → Performs call key header lens input output scratch report
      → let r = call key.entry.now header.entry.now lens.entry.now input.entry.now output.entry.now scratch.entry.now in
      (outcome_of report.answer report.work ≡ r.outcome) × (output.exit.now ≡ r.output) × (scratch.exit.now ≡ r.scratch)
  pub ring : (key_length : ℕ) (keys header lens input : Lent) (output scratch : LentMut) (given : RingAnswer)
      → PerformsRing key_length keys header lens input output scratch given
      → let r = open_ring key_length keys.entry.now header.entry.now lens.entry.now input.entry.now output.entry.now scratch.entry.now in
      (outcome_of given.answer given.work ≡ r.call.outcome) × (given.slot ≡ r.slot) × (output.exit.now ≡ r.call.output)
      × (scratch.exit.now ≡ r.call.scratch)
  pub head : (result : MakeResult) (made : Made) → DidMake result made → (outcome_of made.answer made.work ≡ result.outcome) × (made.head ≡ result.head)
  pub step : (result : StepResult) (step : Step) (last : List ℕ) → DidStep result step last
      → (outcome_of step.answer step.work ≡ result.outcome) × (step.state ≡ result.state) × (last ≡ result.output)
  -- from C: the number in place of the answer
  pub from_c : (call : WholeFromC) (key header input : Lent) (output scratch : LentMut) (ad nonce given : ℕ) → PerformsFromC call key header ad nonce input output scratch given
      → let r = call key.entry.now header.entry.now ad nonce input.entry.now output.entry.now scratch.entry.now in
      (given ≡ packed r.outcome) × (output.exit.now ≡ r.output) × (scratch.exit.now ≡ r.scratch)
  pub ring_from_c : (key_length : ℕ) (keys header input : Lent) (output scratch : LentMut) (ad nonce given : ℕ)
      → PerformsRingFromC key_length keys header ad nonce input output scratch given
      → let r = open_ring_from_c key_length keys.entry.now header.entry.now ad nonce input.entry.now output.entry.now scratch.entry.now in
      (given ≡ packed_ring r.slot r.call.outcome) × (output.exit.now ≡ r.call.output) × (scratch.exit.now ≡ r.call.scratch)
  -- the key expansion: 0 and the round keys of a key of 16, 24 or 32 bytes, 1 and zeros for another
  pub numbers : (key_number (Ok tt) ≡ 0) × (key_number (Err Length) ≡ 1)
  pub expanded : (key : List ℕ) (r : Expansion) → Expands key r → IsKeyWidth (length key) → (key_number r.answer ≡ 0) × (r.keys ≡ key_bytes key)
  pub refused : (key : List ℕ) (r : Expansion) → Expands key r → (IsKeyWidth (length key) → ⊥) → (key_number r.answer ≡ 1) × (r.keys ≡ replicate 240 0)
