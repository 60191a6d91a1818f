-- Rules 15.4, 15.6 and 15.9: the work in blocks that every answer carries.
-- What each call reports, and the key stream block that a state keeps, are in First.antt and Third.antt.
-- Assumes nothing.
use Rattle.std.specs.Prelude.{◌≡◌, List, [], ◌∷◌, ◌⊎◌, ℕ, ◌+◌, ◌-◌, ◌*◌, ◌/◌, ◌≤◌, ◌<◌, length}
use Rattle.whole.specs.Calls.{CallResult, seal_call, open_call}
use Rattle.whole.specs.Ring.{RingResult, open_ring}
use Rattle.whole.specs.Work.{planned_work}
use Rattle.kinphlor.specs.Interface.{seal_from_c, open_from_c, open_ring_from_c, planned_from_c}
use Rattle.demands.specs.Figures.{whole_work}
use Rattle.demands.specs.Run.{Begin, sealer, opener, Start, undivided, divided, Call, first_head, begun, Entry}
use Rattle.demands.specs.Third.{expected, ran}
use Rattle.demands.specs.Second.{Admits}

-- ---- planning

-- a whole call that was not refused before its key was tried reports a work
pub record Reported (result : CallResult) (work : ℕ) : Type 0 where
  pub done : result.outcome.number ≡ 0 → result.outcome.work ≡ work
  pub forged : result.outcome.number ≡ 8 → result.outcome.work ≡ work

-- a ring's call reports that work once for each key that it tried: up to the slot that it gives, or all
pub record ReportedRing (slots : ℕ) (result : RingResult) (work : ℕ) : Type 0 where
  pub done : result.call.outcome.number ≡ 0 → result.call.outcome.work ≡ (result.slot + 1) * work
  pub forged : result.call.outcome.number ≡ 8 → result.call.outcome.work ≡ slots * work

-- ---- lists of calls

-- the work of all answers
abbrev pub work_of : List Entry → ℕ
work_of [] = 0
work_of (e ∷ es) = e.outcome.work + work_of es

module _ (key bytes lens : List ℕ) where
  -- the work that was reported when the head was made that a list of calls starts from
  abbrev pub head_work : Start → ℕ
  head_work undivided = 0
  head_work (divided n) = (first_head key bytes lens n).outcome.work

  -- rule 15.6, for a list that ends in stage 0, refused calls included: the works sum up to the whole call's,
  -- with what the head reported on the left
  abbrev pub AddsUp : Begin → List ℕ → List Call → Start → Type 0
  AddsUp begin shared calls start =
      (ran key bytes lens begin shared calls start).state.stage ≡ 0
      → head_work start + ((begun key bytes lens start begin).outcome.work + work_of (ran key bytes lens begin shared calls start).entries)
      ≡ whole_work lens (length (expected key bytes lens begin shared calls).model.A)

-- What a user of the work may rely on.
pub record BlockWork : Type 0 where
  -- a call reports what was planned from lengths alone, and a ring's that much for each key that it tried: from Rattle
  pub seals : (key bytes lens input output scratch : List ℕ) → Reported (seal_call key bytes lens input output scratch) (planned_work lens (length input))
  pub opens : (key bytes lens input output scratch : List ℕ) → Reported (open_call key bytes lens input output scratch) (planned_work lens (length input - 16))
  pub opens_ring : (key_length : ℕ) (ring bytes lens input output scratch : List ℕ)
      → ReportedRing (length ring / key_length) (open_ring key_length ring bytes lens input output scratch) (planned_work lens (length input - 16))
  -- and from C, where the number does not carry it
  pub seals_from_c : (key header input output scratch : List ℕ) (ad nonce : ℕ)
      → Reported (seal_from_c key header ad nonce input output scratch) (planned_from_c ad nonce (length input))
  pub opens_from_c : (key header input output scratch : List ℕ) (ad nonce : ℕ)
      → Reported (open_from_c key header ad nonce input output scratch) (planned_from_c ad nonce (length input - 16))
  pub opens_ring_from_c : (key_length : ℕ) (ring header input output scratch : List ℕ) (ad nonce : ℕ)
      → ReportedRing (length ring / key_length) (open_ring_from_c key_length ring header ad nonce input output scratch) (planned_from_c ad nonce (length input - 16))
  -- what is planned: a whole call's work, but 0 for over 126 strings or a plaintext past the limit,
  -- and from C for an empty nonce
  pub plans : (lens : List ℕ) (n : ℕ) → length lens ≤ 126 → n ≤ 1048576 → planned_work lens n ≡ whole_work lens n
  pub plans_none : (lens : List ℕ) (n : ℕ) → (126 < length lens) ⊎ (1048576 < n) → planned_work lens n ≡ 0
  pub plans_from_c : (ad nonce n : ℕ) → (nonce ≡ 0 → ⊥) → n ≤ 1048576 → planned_from_c ad nonce n ≡ whole_work (ad ∷ nonce ∷ []) n
  pub plans_none_from_c : (ad nonce n : ℕ) → (nonce ≡ 0) ⊎ (1048576 < n) → planned_from_c ad nonce n ≡ 0
  -- any admitted key and header list,
  -- from all of it or from a head of any of its first strings; sealers end by close
  pub sealers : (key bytes lens : List ℕ) → Admits key bytes lens → (start : Start) (shared : List ℕ) (calls : List Call) → AddsUp key bytes lens sealer shared calls start
  -- and openers by either verdict
  pub openers : (key bytes lens : List ℕ) → Admits key bytes lens → (start : Start) (T shared : List ℕ) (calls : List Call) → length T ≡ 16
      → AddsUp key bytes lens (opener T) shared calls start
