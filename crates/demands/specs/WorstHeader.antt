-- Rules 16.2, 16.3 and 16.5: what a gym may rely on of the worst header list, whichever list was given.
-- When 12 is due, and that list and blocks are zero then, is in First.antt.
-- Assumes nothing.
use Rattle.std.specs.Prelude.{◌≡◌, List, ℕ, ◌+◌, ◌-◌, ◌*◌, ◌/◌, ◌≤◌, max, length, take}
use Rattle.header.specs.Header.{strings}
use Rattle.answers.specs.Answer.{Outcome}
use Rattle.worst_header.specs.WorstHeader.{GivesWorst}
use Rattle.whole.specs.Calls.{seal_call, open_call}
use Rattle.whole.specs.Siv.{sealed}
use Rattle.demands.specs.Figures.{IsKeyLength, work_behind}
use Rattle.demands.specs.First.{IsList, IsWorstList}
use Rattle.demands.specs.Second.{Admits, Gives}
use Rattle.demands.specs.Work.{Reported}

-- the blocks that were given are what sealing and opening report for a header
pub record AsReported (h k least : ℕ) (places : List ℕ) (blocks : ℕ) : Type 0 where
  -- the list that was given is admitted, for any h header bytes
  pub admitted : (key bytes : List ℕ) → IsKeyLength (length key) → length bytes ≡ h → Admits key bytes (take k places)
  -- a record is sealed behind it, and the report has that many blocks for the header
  pub seals : (key bytes p output scratch : List ℕ) → IsKeyLength (length key) → length bytes ≡ h → length p ≤ 1048576 → length p + 16 ≤ length output
      → max (length p) 16 ≤ length scratch
      → Gives (seal_call key bytes (take k places) p output scratch) (work_behind blocks (length p)) output (sealed key (strings bytes (take k places)) p)
  -- opening reports as many, for 8 as for success
  pub opens : (key bytes input output scratch : List ℕ) → Reported (open_call key bytes (take k places) input output scratch) (work_behind blocks (length input - 16))
  -- behind any other such list neither sealing nor opening reports more
  pub seals_no_more : (other : List ℕ) → IsList h k least other → (key bytes input output scratch : List ℕ)
      → (seal_call key bytes other input output scratch).outcome.work ≤ work_behind blocks (length input)
  pub opens_no_more : (other : List ℕ) → IsList h k least other → (key bytes input output scratch : List ℕ)
      → (open_call key bytes other input output scratch).outcome.work ≤ work_behind blocks (length input - 16)

-- What a gym may rely on: for all figures, and whatever answer the promise allows.
pub record WorstHeaders : Type 0 where
  -- where 12 is not due, there is a worst list
  pub found : (h k least : ℕ) → 1 ≤ k → k ≤ 126 → least ≤ 1 → h ≤ 1048576 → k * least ≤ h
      → (places : List ℕ) × (blocks : ℕ) × IsWorstList h k least places blocks
  -- its blocks: one for each string, and one more for every 16 bytes beyond the first byte,
  -- or beyond one byte for each string where none may be empty
  pub figure : (h k least : ℕ) (outcome : Outcome) (places : List ℕ) (blocks : ℕ) → GivesWorst h k least outcome places blocks → outcome.number ≡ 0
      → blocks ≡ k + (h - max 1 (k * least)) / 16
  -- rule 16.3
  pub check1 : (outcome : Outcome) (places : List ℕ) (blocks : ℕ) → GivesWorst 17 126 0 outcome places blocks → blocks ≡ 127
  pub check2 : (outcome : Outcome) (places : List ℕ) (blocks : ℕ) → GivesWorst 142 126 1 outcome places blocks → blocks ≡ 127
  -- the figure is about the real calls
  pub reported : (h k least : ℕ) (outcome : Outcome) (places : List ℕ) (blocks : ℕ) → GivesWorst h k least outcome places blocks → outcome.number ≡ 0
      → AsReported h k least places blocks
