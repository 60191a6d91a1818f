-- Rules 12.2 to 12.4: what opens under a ring of keys, and with which slot.
-- Assumes nothing.
use Rattle.std.specs.Prelude.{◌≡◌, cond, List, [], ◌∷◌, ℕ, zero, suc, ◌+◌, ◌-◌, ◌*◌, ◌≤◌, ◌<◌, max, eqb, length, replicate}
use Rattle.whole.specs.Calls.{CallResult, open_call}
use Rattle.whole.specs.Ring.{RingResult, open_ring}
use Rattle.kinphlor.specs.Interface.{open_from_c, open_ring_from_c}
use Rattle.demands.specs.Figures.{IsKeyLength, key_in, over, sum, whole_work}
use Rattle.demands.specs.Second.{Gives}
use Rattle.demands.specs.Table.{answered}
use Rattle.demands.specs.Whole.{Accepts, SealsTo}

-- a ring of one to four whole keys
pub record IsRing (key_length slots : ℕ) (ring : List ℕ) : Type 0 where
  pub keyed : IsKeyLength key_length
  pub whole : length ring ≡ slots * key_length
  pub some : 1 ≤ slots
  pub most : slots ≤ 4

-- Such a ring, whatever the other arguments are.
module _ (key_length slots : ℕ) (ring bytes lens input output scratch : List ℕ) where
  -- the single call with slot i's key
  abbrev single : ℕ → CallResult
  single i = open_call (key_in key_length ring i) bytes lens input output scratch

  -- that key opens: the call answers 0
  abbrev pub Opens : ℕ → Type 0
  Opens i = (i < slots) × ((single i).outcome.number ≡ 0)

  -- the work of the single calls with the first n keys
  abbrev pub works_of : ℕ → ℕ
  works_of zero = 0
  works_of (suc n) = works_of n + (single n).outcome.work

  pub record BySlot (result : RingResult) : Type 0 where
    -- number, length, output and scratch are those of the single call with the given slot's key,
    -- and the work is that of the single calls with every key tried: up to that slot where it opens, else all
    pub within : result.slot < slots
    pub number : result.call.outcome.number ≡ (single result.slot).outcome.number
    pub count : result.call.outcome.count ≡ (single result.slot).outcome.count
    pub work : result.call.outcome.work ≡ works_of (cond (eqb result.call.outcome.number 0) (result.slot + 1) slots)
    pub buffers : (result.call.output ≡ (single result.slot).output) × (result.call.scratch ≡ (single result.slot).scratch)
    -- if some slot's key opens, the slot given is the smallest such
    pub smallest : (i : ℕ) → Opens i → Opens result.slot × (result.slot ≤ i)
    -- if none does, it is slot 0
    pub otherwise : ((i : ℕ) → Opens i → ⊥) → result.slot ≡ 0

-- The third demand for a ring: any admitted header list, any byte string y, buffers large enough.
module _ (key_length slots : ℕ) (ring bytes lens y : List ℕ) where
  -- P, within the limit, seals to y under slot i's key
  abbrev pub SealsUnder : ℕ → List ℕ → Type 0
  SealsUnder i P = (i < slots) × SealsTo (key_in key_length ring i) bytes lens y P

  pub record ThirdRing (output : List ℕ) (result : RingResult) : Type 0 where
    -- opening accepts y with P, and gives slot i,
    -- exactly when P seals to y under slot i's key and nothing does under an earlier one
    pub accepts : (P : List ℕ) → Accepts result.call output P → SealsUnder result.slot P × ((j : ℕ) (Q : List ℕ) → SealsUnder j Q → result.slot ≤ j)
    pub accepted : (i : ℕ) (P : List ℕ) → SealsUnder i P → ((j : ℕ) (Q : List ℕ) → SealsUnder j Q → i ≤ j)
        → Gives result.call ((i + 1) * whole_work lens (length P)) output P × (result.slot ≡ i)
    -- it accepts y where anything seals to y under some key of the ring
    pub opens : (i : ℕ) (P : List ℕ) → SealsUnder i P → result.call.outcome.number ≡ 0
    -- where nothing seals to y under any key, opening refuses
    pub refuses : ((i : ℕ) (P : List ℕ) → SealsUnder i P → ⊥) → result.call.outcome.number ≡ 0 → ⊥
    -- and if y has 16 to 1,048,592 bytes, it refuses with 8,
    -- and a plaintext's place in the output is zero
    pub wipes : ((i : ℕ) (P : List ℕ) → SealsUnder i P → ⊥) → 16 ≤ length y → length y ≤ 1048592
        → (result.call.outcome ≡ answered 8 0 (slots * whole_work lens (length y - 16)))
        × (result.call.output ≡ over output 0 (replicate (length y - 16) 0))

-- What a user of the ring may rely on.
pub record Ring : Type 0 where
  pub by_slot : (key_length slots : ℕ) (ring bytes lens input output scratch : List ℕ) → IsRing key_length slots ring
      → BySlot key_length slots ring bytes lens input output scratch (open_ring key_length ring bytes lens input output scratch)
  -- with one key, whatever its length, the ring's call is the single call
  pub one_key : (key bytes lens input output scratch : List ℕ)
      → open_ring (length key) key bytes lens input output scratch ≡ record { slot = 0; call = open_call key bytes lens input output scratch }
  pub third : (key_length slots : ℕ) (ring bytes lens y output scratch : List ℕ) → IsRing key_length slots ring → length lens ≤ 126 → sum lens ≡ length bytes
      → length y - 16 ≤ length output → max (length y - 16) 16 ≤ length scratch
      → ThirdRing key_length slots ring bytes lens y output (open_ring key_length ring bytes lens y output scratch)
  -- from C, with a nonce, it is the same call; and with one key the single call, with or without a nonce
  pub from_c : (key_length : ℕ) (ring header input output scratch : List ℕ) (ad nonce : ℕ) → (nonce ≡ 0 → ⊥)
      → open_ring_from_c key_length ring header ad nonce input output scratch ≡ open_ring key_length ring header (ad ∷ nonce ∷ []) input output scratch
  pub one_key_from_c : (key header input output scratch : List ℕ) (ad nonce : ℕ)
      → open_ring_from_c (length key) key header ad nonce input output scratch ≡ record { slot = 0; call = open_from_c key header ad nonce input output scratch }
