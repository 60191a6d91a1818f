-- Rules 13.2, 13.3, 13.5 and 15.5: a header list divided into a head and the rest gives what the undivided one gives.
-- Assumes nothing.
use Rattle.std.specs.Prelude.{◌≡◌, List, ◌++◌, ℕ, ◌+◌, take, drop}
use Rattle.head.specs.Head.{make_head, extend_head}
use Rattle.stream.specs.Steps.{StepResult}
use Rattle.demands.specs.Figures.{header_blocks}
use Rattle.demands.specs.Run.{Begin, undivided, divided, begun_from, first_head, rest_bytes, begun}
use Rattle.demands.specs.Second.{Admits}
use Rattle.demands.specs.Table.{answered}

-- two results are the same but for their work
pub record SameButWork (a b : StepResult) : Type 0 where
  pub number : a.outcome.number ≡ b.outcome.number
  pub count : a.outcome.count ≡ b.outcome.count
  pub state : a.state ≡ b.state
  pub output : a.output ≡ b.output

-- the first n strings of a list, and the others
pub record Split (key bytes lens : List ℕ) (n : ℕ) : Type 0 where
  -- the head of the first is made, and reports its work
  pub made : (first_head key bytes lens n).outcome ≡ answered 0 0 (2 + header_blocks (take n lens))
  -- a begin from it with the others gives answer and state of the undivided list's begin:
  -- a sealer's, and an opener's with any tag, one of a wrong length too
  pub begins : (begin : Begin) → SameButWork (begun key bytes lens (divided n) begin) (begun key bytes lens undivided begin)
  -- where it succeeds, its work and the head's are together that of the undivided list's begin
  pub works : (begin : Begin) → (begun key bytes lens (divided n) begin).outcome.number ≡ 0
      → (first_head key bytes lens n).outcome.work + (begun key bytes lens (divided n) begin).outcome.work ≡ (begun key bytes lens undivided begin).outcome.work
  -- and extended by the others it is the head of all
  pub extends : extend_head (first_head key bytes lens n).head (rest_bytes key bytes lens n) (drop n lens)
      ≡ record { outcome = answered 0 0 (header_blocks (drop n lens)); head = (make_head key bytes lens).head }

-- What a user of heads may rely on.
pub record Heads : Type 0 where
  -- any admitted key and header list, divided anywhere
  pub splits : (key bytes lens : List ℕ) → Admits key bytes lens → (n : ℕ) → Split key bytes lens n
  -- and whatever follows a head so made, admitted or not,
  -- a begin answers as with the joined list: 126 bounds both together
  pub joins : (key bytes lens more moreLens : List ℕ) → Admits key bytes lens → (begin : Begin)
      → SameButWork (begun_from (make_head key bytes lens).head more moreLens begin) (begun key (bytes ++ more) (lens ++ moreLens) undivided begin)
