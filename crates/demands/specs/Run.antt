-- Lists of piecewise calls, and what the calls' definitions make of one.
-- Assumes nothing.
use Rattle.std.specs.Prelude.{List, [], ◌∷◌, ℕ, take, drop}
use Rattle.answers.specs.Answer.{Outcome}
use Rattle.head.specs.declared.Head.{Head}
use Rattle.head.specs.Head.{MakeResult, make_head}
use Rattle.stream.specs.declared.Stream.{Stream}
use Rattle.stream.specs.Steps.{StepResult, begin_sealer, begin_opener, begin_sealer_from, begin_opener_from, add_step, turn_step, write_step, close_step, feed_step, finish_step}
use Rattle.demands.specs.Figures.{sum}

-- which begin a list of calls starts from; the opener's has a tag
pub data Begin : Type 0 where
  sealer : Begin
  opener : List ℕ → Begin

-- and from what: the key and the whole header list;
-- or a head, made from the key and the list's first n strings, and the others
pub data Start : Type 0 where
  undivided : Start
  divided : ℕ → Start

-- a call with its arguments but for the state;
-- turn and write bring the output that is lent to them, feed and finish share one
pub data Call : Type 0 where
  add : List ℕ → Call
  turn : List ℕ → Call
  write : List ℕ → List ℕ → Call
  close : Call
  feed : List ℕ → Call
  finish : Call

-- what begin gave, from a head and the strings that follow its own
abbrev pub begun_from : Head → List ℕ → List ℕ → Begin → StepResult
begun_from h bytes lens sealer = begin_sealer_from h bytes lens
begun_from h bytes lens (opener T) = begin_opener_from h bytes lens T

-- a key and a header list
module _ (key bytes lens : List ℕ) where
  -- the bytes of the first n strings, and of the others
  abbrev pub first_bytes : ℕ → List ℕ
  first_bytes n = take (sum (take n lens)) bytes

  abbrev pub rest_bytes : ℕ → List ℕ
  rest_bytes n = drop (sum (take n lens)) bytes

  -- what making a head from the first n strings gave
  abbrev pub first_head : ℕ → MakeResult
  first_head n = make_head key (first_bytes n) (take n lens)

  -- what begin gave
  abbrev pub begun : Start → Begin → StepResult
  begun undivided sealer = begin_sealer key bytes lens
  begun undivided (opener T) = begin_opener key bytes lens T
  begun (divided n) begin = begun_from (first_head n).head (rest_bytes n) (drop n lens) begin

-- what a call gives on a state, with the shared output
abbrev pub call : Stream → List ℕ → Call → StepResult
call s shared (add piece) = add_step s piece
call s shared (turn output) = turn_step s output
call s shared (write piece output) = write_step s piece output
call s shared close = close_step s
call s shared (feed piece) = feed_step s piece shared
call s shared finish = finish_step s shared

-- the output lent to a call; add and close are lent none
abbrev pub lent : List ℕ → Call → List ℕ
lent shared (add piece) = []
lent shared (turn output) = output
lent shared (write piece output) = output
lent shared close = []
lent shared (feed piece) = shared
lent shared finish = shared

-- the shared output after a call that left `last` in the output lent to it
abbrev pub shared_after : List ℕ → Call → List ℕ → List ℕ
shared_after shared (add piece) last = shared
shared_after shared (turn output) last = shared
shared_after shared (write piece output) last = shared
shared_after shared close last = shared
shared_after shared (feed piece) last = last
shared_after shared finish last = last

-- what a call gave: number, length and work, and the last contents of the output lent to it
pub record Entry : Type 0 where
  pub outcome : Outcome
  pub output : List ℕ

-- what a list of calls gave, the state after it and the shared output
pub record Run : Type 0 where
  pub entries : List Entry
  pub state : Stream
  pub shared : List ℕ

-- each call takes the state that came out of the one before,
-- and feed and finish the output as the last one left it
abbrev pub run : Stream → List ℕ → List Call → Run
run s shared [] = record { entries = []; state = s; shared = shared }
run s shared (c ∷ cs) =
    let r = call s shared c in
    let rest = run r.state (shared_after shared c r.output) cs in
    record { entries = record { outcome = r.outcome; output = r.output } ∷ rest.entries; state = rest.state; shared = rest.shared }
