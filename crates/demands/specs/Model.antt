-- The reference model, "the plain book" of the owner's document 01: what every list of piecewise calls gives,
-- told from the arguments of begin and of the calls alone (rules 10.2 to 10.8); the work is from lengths alone.
-- Assumes nothing.
use Rattle.std.specs.Prelude.{Bool, false, cond, ◌||◌, List, [], ◌∷◌, ◌++◌, ℕ, ◌+◌, ◌-◌, max, eqb, ltb, length, drop, replicate}
use Rattle.header.specs.Header.{strings}
use Rattle.whole.specs.Calls.{open_call}
use Rattle.whole.specs.Siv.{tag_of, streamed, opened}
use Rattle.demands.specs.Figures.{over, chained, sixteenths, tag_blocks}
use Rattle.demands.specs.Run.{Begin, sealer, opener, Call, add, turn, write, close, feed, finish, Entry}
use Rattle.demands.specs.Table.{answered}

-- what the model keeps: a stage, A, which is all that was added or fed, and W, all that was written
pub record ModelState : Type 0 where
  pub stage : ℕ
  pub A : List ℕ
  pub W : List ℕ

-- "1 or 3 at first", and both strings empty
abbrev pub fresh : Begin → ModelState
fresh sealer = record { stage = 1; A = []; W = [] }
fresh (opener T) = record { stage = 3; A = []; W = [] }

-- the stage that a call wants
abbrev pub wants : Call → ℕ
wants (add piece) = 1
wants (turn output) = 1
wants (write piece output) = 2
wants close = 2
wants (feed piece) = 3
wants finish = 3

-- what the model keeps after a call, and what the call gave
pub record After : Type 0 where
  pub model : ModelState
  pub entry : Entry

-- what a list of calls gave, and what the model keeps after it
pub record ModelRun : Type 0 where
  pub entries : List Entry
  pub model : ModelState

-- begin's arguments but for the opener's tag
module _ (key bytes lens : List ℕ) where
  -- the tag that sealing A gives
  abbrev pub seal_tag : List ℕ → List ℕ
  seal_tag A = tag_of key (strings bytes lens) A

  -- whether whole opening, with buffers as large as it needs, accepts T followed by A
  unfoldable pub whole_accepts : List ℕ → List ℕ → Bool
  whole_accepts T A = eqb (open_call key bytes lens (T ++ A) (replicate (length A) 0) (replicate (max (length A) 16) 0)).outcome.number 0

  -- which begin, and the output shared by feed and finish as it was at first
  module _ (begin : Begin) (shared : List ℕ) where
    -- the shared output, rule 10.8: an opener's has A deciphered at its front in stage 3,
    -- and after finish the plaintext, or for 8 zeros of the same length
    abbrev shown_by : Begin → ModelState → List ℕ
    shown_by sealer b = shared
    shown_by (opener T) b =
        cond (eqb b.stage 3) (over shared 0 (streamed key T b.A))
        (over shared 0 (cond (whole_accepts T b.A) (opened key (T ++ b.A)) (replicate (length b.A) 0)))

    -- the same, of the list's own begin
    abbrev pub shown : ModelState → List ℕ
    shown b = shown_by begin b

    -- whether finish accepts; a sealer has no stage that finish wants
    abbrev accepts_by : Begin → List ℕ → Bool
    accepts_by sealer A = false
    accepts_by (opener T) A = whole_accepts T A

    -- the number that a call gives in the stage that it wants
    abbrev pub judged : ModelState → Call → ℕ
    judged b (add piece) = cond (ltb 1048576 (length (b.A ++ piece))) 4 0
    judged b (turn output) = cond (ltb (length output) 16) 6 0
    judged b (write piece output) = cond (ltb (length b.A) (length (b.W ++ piece))) 4 (cond (ltb (length output) (length piece)) 6 0)
    judged b close = cond (ltb (length b.W) (length b.A)) 9 0
    judged b (feed piece) = cond (ltb 1048576 (length (b.A ++ piece))) 4 (cond (ltb (length shared) (length (b.A ++ piece))) 6 0)
    judged b finish = cond (accepts_by begin b.A) 0 8

    -- what the model keeps after success, and after 8
    abbrev pub model_after : ModelState → Call → ModelState
    model_after b (add piece) = record { stage = 1; A = b.A ++ piece; W = b.W }
    model_after b (turn output) = record { stage = 2; A = b.A; W = b.W }
    model_after b (write piece output) = record { stage = 2; A = b.A; W = b.W ++ piece }
    model_after b close = record { stage = 0; A = b.A; W = b.W }
    model_after b (feed piece) = record { stage = 3; A = b.A ++ piece; W = b.W }
    model_after b finish = record { stage = 0; A = b.A; W = b.W }

    -- the length of success
    abbrev pub count_after : ModelState → Call → ℕ
    count_after b (add piece) = 0
    count_after b (turn output) = 16
    count_after b (write piece output) = length piece
    count_after b close = 0
    count_after b (feed piece) = length piece
    count_after b finish = length b.A

    -- the work of success, and of 8: the blocks that join the chain,
    -- those that the tag is made with, and those of the key stream that are begun
    abbrev pub work_after : ModelState → Call → ℕ
    work_after b (add piece) = chained (length (b.A ++ piece)) - chained (length b.A)
    work_after b (turn output) = tag_blocks (length b.A)
    work_after b (write piece output) = sixteenths (length (b.W ++ piece)) - sixteenths (length b.W)
    work_after b close = 0
    work_after b (feed piece) =
        (sixteenths (length (b.A ++ piece)) - sixteenths (length b.A)) + (chained (length (b.A ++ piece)) - chained (length b.A))
    work_after b finish = tag_blocks (length b.A)

    -- the output lent to a call, before it; add and close are lent none
    abbrev pub output_before : ModelState → Call → List ℕ
    output_before b (add piece) = []
    output_before b (turn output) = output
    output_before b (write piece output) = output
    output_before b close = []
    output_before b (feed piece) = shown b
    output_before b finish = shown b

    -- and after success or 8: turn gives the tag of sealing A,
    -- and all writes together give W under the key stream of that tag, rule 10.7
    abbrev pub output_after : ModelState → Call → List ℕ
    output_after b (add piece) = []
    output_after b (turn output) = over output 0 (seal_tag b.A)
    output_after b (write piece output) = over output 0 (drop (length b.W) (streamed key (seal_tag b.A) (b.W ++ piece)))
    output_after b close = []
    output_after b (feed piece) = shown (model_after b (feed piece))
    output_after b finish = shown (model_after b finish)

    -- the number that a call gives in any stage: 9 in one that it does not want
    abbrev pub model_number : ModelState → Call → ℕ
    model_number b c = cond (eqb b.stage (wants c)) (judged b c) 9

    -- a call: a refusal has length 0 and, but for 8, no work, and changes neither what the model keeps nor outputs
    unfoldable pub model_step : ModelState → Call → After
    model_step b c =
        let n = model_number b c in
        cond (eqb n 0 || eqb n 8)
        (record {
          model = model_after b c;
          entry = record { outcome = answered n (cond (eqb n 0) (count_after b c) 0) (work_after b c); output = output_after b c };
        })
        (record { model = b; entry = record { outcome = answered n 0 0; output = output_before b c } })

    abbrev pub model_run : ModelState → List Call → ModelRun
    model_run b [] = record { entries = []; model = b }
    model_run b (c ∷ cs) =
        let a = model_step b c in
        let rest = model_run a.model cs in
        record { entries = a.entry ∷ rest.entries; model = rest.model }
