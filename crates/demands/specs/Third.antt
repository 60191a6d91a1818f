-- The third demand as one statement: whole opening accepts exactly what sealing gives,
-- and every list of piecewise calls behaves as the reference model.
-- Assumes nothing.
use Rattle.std.specs.Prelude.{◌≡◌, Bool, true, false, cond, List, [], ◌∷◌, ◌++◌, ℕ, ◌+◌, ◌-◌, ◌≤◌, max, eqb, length, take, drop, replicate}
use Rattle.aes.specs.Aes.{aes}
use Rattle.header.specs.Header.{strings}
use Rattle.whole.specs.Calls.{open_call}
use Rattle.whole.specs.Siv.{streamed, sealed}
use Rattle.stream.specs.declared.Stream.{Stream}
use Rattle.stream.specs.Steps.{StepResult, finish_step}
use Rattle.demands.specs.Figures.{over, header_blocks}
use Rattle.demands.specs.Model.{ModelState, fresh, ModelRun, seal_tag, shown, model_run}
use Rattle.demands.specs.Run.{Begin, sealer, opener, Start, undivided, divided, Call, add, turn, write, close, feed, finish, begun, Entry, Run, run}
use Rattle.demands.specs.Second.{Admits}
use Rattle.demands.specs.State.{second_half, block_begun, blank_state, state_of}
use Rattle.demands.specs.Table.{answered}
use Rattle.demands.specs.Whole.{ThirdWhole}

-- the same bytes in one piece, rule 10.9: in stage 1 a single add, in stage 2 a single add,
-- turn and a single write, in stage 3 a single feed
abbrev pub one_piece : ModelState → List Call
one_piece b =
    cond (eqb b.stage 1) (add b.A ∷ [])
    (cond (eqb b.stage 2) (add b.A ∷ turn (replicate 16 0) ∷ write b.W b.W ∷ []) (feed b.A ∷ []))

-- the bytes that a call gave: turn's and write's, as many as the answer's length says, from the front of the output
abbrev pub gave_by : Call → Entry → List ℕ
gave_by (add piece) e = []
gave_by (turn output) e = take e.outcome.count e.output
gave_by (write piece output) e = take e.outcome.count e.output
gave_by close e = []
gave_by (feed piece) e = []
gave_by finish e = []

abbrev pub gave : List Call → List Entry → List ℕ
gave [] es = []
gave (c ∷ cs) [] = []
gave (c ∷ cs) (e ∷ es) = gave_by c e ++ gave cs es

-- whether a list has no finish
abbrev pub no_finish : List Call → Bool
no_finish [] = true
no_finish (add piece ∷ cs) = no_finish cs
no_finish (turn output ∷ cs) = no_finish cs
no_finish (write piece output ∷ cs) = no_finish cs
no_finish (close ∷ cs) = no_finish cs
no_finish (feed piece ∷ cs) = no_finish cs
no_finish (finish ∷ cs) = false

-- the work of begin: 2 and the blocks of all header strings; from a head, those of the strings behind its own
abbrev pub begin_work : List ℕ → Start → ℕ
begin_work lens undivided = 2 + header_blocks lens
begin_work lens (divided n) = header_blocks (drop n lens)

module _ (key bytes lens : List ℕ) where
  -- the state that the model's stage and strings stand for: V is zero in stage 1, A's tag in stage 2, T in stage 3,
  -- whose plaintext is what was fed xor the key stream of T; the block that is begun is kept; all is zero in stage 0
  abbrev pub state_by : Begin → ModelState → Stream
  state_by sealer b =
      let ss = strings bytes lens in
      let v = seal_tag key bytes lens b.A in
      cond (eqb b.stage 1) (state_of key ss 1 (replicate 16 0) (replicate 16 0) 0 b.A)
      (cond (eqb b.stage 2) (state_of key ss 2 v (block_begun (aes (second_half key)) v (length b.W)) (length b.W) b.A) blank_state)
  state_by (opener T) b =
      let ss = strings bytes lens in
      cond (eqb b.stage 3) (state_of key ss 3 T (block_begun (aes (second_half key)) T (length b.A)) 0 (streamed key T b.A)) blank_state

  -- any list of calls, refused ones included, after either begin,
  -- from the whole list or from a head, with any shared output
  module _ (begin : Begin) (shared : List ℕ) (calls : List Call) where
    -- what the model says: it sees no head
    abbrev pub expected : ModelRun
    expected = model_run key bytes lens begin shared (fresh begin) calls

    module _ (start : Start) where
      -- what the calls' definitions make of the list, from the state that begin returned
      abbrev pub ran : Run
      ran = run (begun key bytes lens start begin).state shared calls

      pub record AsModel : Type 0 where
        -- begin succeeds, with the work of all strings, or of those behind the head's
        pub begins : (begun key bytes lens start begin).outcome ≡ answered 0 0 (begin_work lens start)
        -- all numbers, lengths, works and output bytes are the model's
        pub entries : ran.entries ≡ expected.entries
        pub output : ran.shared ≡ shown key bytes lens begin shared expected.model
        -- the state, field by field
        pub state : ran.state ≡ state_by begin expected.model
        -- it is the one after these bytes in one piece, from the begin with the whole list; all zero in stage 0
        pub one_piece_state : ran.state
            ≡ cond (eqb expected.model.stage 0) blank_state (run (begun key bytes lens undivided begin).state shared (one_piece expected.model)).state

  -- a sealer's list of calls
  module _ (shared : List ℕ) (calls : List Call) where
    abbrev sealer_model : ModelState
    sealer_model = (expected sealer shared calls).model

    module _ (start : Start) where
      abbrev sealer_gave : List ℕ
      sealer_gave = gave calls (ran sealer shared calls start).entries

      pub record AsSealed : Type 0 where
        -- turn gave the tag of sealing A, and all writes together W under the key stream of that tag, rule 10.7
        pub joined : sealer_gave
            ≡ cond (eqb sealer_model.stage 1) []
            (seal_tag key bytes lens sealer_model.A ++ streamed key (seal_tag key bytes lens sealer_model.A) sealer_model.W)
        -- and that is the beginning of A's sealed string, provided that the writes repeated A's beginning, rule 1.6
        pub first_bytes : take (length sealer_model.W) sealer_model.A ≡ sealer_model.W
            → sealer_gave ≡ take (cond (eqb sealer_model.stage 1) 0 (16 + length sealer_model.W)) (sealed key (strings bytes lens) sealer_model.A)

  -- all that was fed to an opener
  abbrev pub fed : List ℕ → List ℕ → List Call → List ℕ
  fed T shared calls = (expected (opener T) shared calls).model.A

  -- an opener's list of calls without a finish, then the first finish;
  -- and whole opening of the tag and all that was fed, with buffers large enough
  module _ (T shared : List ℕ) (calls : List Call) (output scratch : List ℕ) (start : Start) where
    abbrev pub finished : StepResult
    finished = finish_step (ran (opener T) shared calls start).state (ran (opener T) shared calls start).shared

    pub record AsOpened : Type 0 where
      -- finish gives the number and the length of whole opening
      pub number : finished.outcome.number ≡ (open_call key bytes lens (T ++ fed T shared calls) output scratch).outcome.number
      pub count : finished.outcome.count ≡ (open_call key bytes lens (T ++ fed T shared calls) output scratch).outcome.count
      -- and its plaintext or zeros, and nothing else
      pub plaintext : finished.output ≡ over shared 0 (take (length (fed T shared calls)) (open_call key bytes lens (T ++ fed T shared calls) output scratch).output)

-- The third demand: any admitted key and header list;
-- lists of calls start from all of it, or from a head of any of its first strings.
pub record Third (key bytes lens : List ℕ) : Type 0 where
  pub whole : (y output scratch : List ℕ) → length y - 16 ≤ length output → max (length y - 16) 16 ≤ length scratch → ThirdWhole key bytes lens y output scratch
  pub sealers : (start : Start) (shared : List ℕ) (calls : List Call) → AsModel key bytes lens sealer shared calls start
  pub openers : (start : Start) (T shared : List ℕ) (calls : List Call) → length T ≡ 16 → AsModel key bytes lens (opener T) shared calls start
  pub seals : (start : Start) (shared : List ℕ) (calls : List Call) → AsSealed key bytes lens shared calls start
  pub opens : (start : Start) (T shared : List ℕ) (calls : List Call) (output scratch : List ℕ) → length T ≡ 16 → no_finish calls ≡ true
      → length (fed key bytes lens T shared calls) ≤ length output → max (length (fed key bytes lens T shared calls)) 16 ≤ length scratch
      → AsOpened key bytes lens T shared calls output scratch start

abbrev pub ThirdDemand : Type 0
ThirdDemand = (key bytes lens : List ℕ) → Admits key bytes lens → Third key bytes lens
