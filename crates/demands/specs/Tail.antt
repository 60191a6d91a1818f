-- Rules 14.1 and 14.3: the tail's length is a field of the state, by rule 9.10;
-- every other answer is what it is without the field.
-- Assumes nothing.
use Rattle.std.specs.Prelude.{◌≡◌, List, ℕ}
use Rattle.head.specs.declared.Head.{Head}
use Rattle.stream.specs.declared.Stream.{Stream}
use Rattle.stream.specs.Steps.{StepResult}
use Rattle.demands.specs.Run.{Begin, Start, Call, begun_from, begun, call, run}
use Rattle.demands.specs.Steps.{NineButTailLength, ByRule, step_table, step_done}
use Rattle.demands.specs.Table.{FirstDue}

-- a state with n in the field, and nothing else changed
abbrev pub with_tail_len : ℕ → Stream → Stream
with_tail_len n s =
    record {
      stage = s.stage;
      width = s.width;
      mac_keys = s.mac_keys;
      ctr_keys = s.ctr_keys;
      l = s.l;
      d = s.d;
      chain = s.chain;
      v = s.v;
      kept = s.kept;
      total = s.total;
      written = s.written;
      tail_len = n;
      tail = s.tail;
    }

-- number, length, work and output are the same, and the state but for the field
pub record SameStep (a b : StepResult) : Type 0 where
  pub outcome : a.outcome ≡ b.outcome
  pub state : with_tail_len 0 a.state ≡ with_tail_len 0 b.state
  pub output : a.output ≡ b.output

-- What a user of the field may rely on. That any other figure gives 9 is in First.antt.
pub record TailShown : Type 0 where
  -- a call on any state with the rule's figure gives the number of the table in which 9 does not judge the field,
  -- with any n in its place
  pub unchanged : (s : Stream) (n : ℕ) (shared : List ℕ) (c : Call) → ByRule s
      → FirstDue (step_table NineButTailLength (with_tail_len n s) shared c) (call s shared c).outcome.number
  -- and what success gives does not depend on the field
  pub unread : (s : Stream) (n : ℕ) (shared : List ℕ) (c : Call) → SameStep (step_done s shared c) (step_done (with_tail_len n s) shared c)
  -- so it is for every call of every list
  pub lists : (s : Stream) (n : ℕ) (shared : List ℕ) (calls : List Call) (c : Call) → ByRule s
      → let r = run s shared calls in
      FirstDue (step_table NineButTailLength (with_tail_len n r.state) r.shared c) (call r.state r.shared c).outcome.number
  -- each state that a begin gives has the rule's figure,
  -- whatever key, head, list and tag are, and whether it was refused or not
  pub begins : (key bytes lens : List ℕ) (start : Start) (begin : Begin) → ByRule (begun key bytes lens start begin).state
  pub begins_from : (h : Head) (bytes lens : List ℕ) (begin : Begin) → ByRule (begun_from h bytes lens begin).state
  -- and no list of calls loses it
  pub stays : (s : Stream) (shared : List ℕ) (calls : List Call) → ByRule s → ByRule (run s shared calls).state
