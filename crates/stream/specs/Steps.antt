-- The piecewise calls on every state and input: number, length, work,
-- the state after the call and the last contents of the lent output, by rules 9.4 to 9.13 and 15.7.
-- Assumes nothing.
use Rattle.std.specs.Prelude.{◌≡◌, not, ◌&&◌, List, [], ◌∷◌, ◌++◌, ℕ, ◌+◌, eqb, ltb, length, replicate}
use Rattle.octets.specs.Octets.{put, same}
use Rattle.cmac.specs.Cmac.{zeros}
use Rattle.header.specs.Header.{strings}
use Rattle.keystream.specs.Pieces.{piece_work}
use Rattle.answers.specs.Answer.{Outcome, success, refusal, forged, outcome_of, Row, row, first, settle, forged_or}
use Rattle.whole.specs.Calls.{limit, header_rows}
use Rattle.head.specs.declared.Head.{Head}
use Rattle.head.specs.Head.{head_of, head_of_work, extended, extended_work, rest_rows}
use Rattle.stream.specs.declared.Step.{Step}
use Rattle.stream.specs.declared.Stream.{Stream}
use Rattle.stream.specs.State.{ended, start, fits, added, added_work, tag_of_state, tag_of_state_work, streamed_at, kept_at, streamed_with, turned}

-- everything that a call does; a call that is lent no output has the empty one
pub record StepResult : Type 0 where
  pub outcome : Outcome
  pub state : Stream
  pub output : List ℕ

-- a call gave what its definition says
pub record DidStep (result : StepResult) (step : Step) (lastOutput : List ℕ) : Type 0 where
  pub outcome : outcome_of step.answer step.work ≡ result.outcome
  pub state : step.state ≡ result.state
  pub output : lastOutput ≡ result.output

-- success, and a refusal, with state and output
abbrev pub done_step : ℕ → ℕ → Stream → List ℕ → StepResult
done_step n w s output = record { outcome = success n w; state = s; output = output }

abbrev pub refused_step : ℕ → Stream → List ℕ → StepResult
refused_step n s output = record { outcome = refusal n; state = s; output = output }

-- ---- begin

-- a begin whose rows give a number: the state that a head starts, or the refusal with the ended state
abbrev pub begin_by : ℕ → ℕ → Head → ℕ → List ℕ → StepResult
begin_by n w h stage v = settle n (done_step 0 w (start h stage v) []) (λ m. refused_step m ended [])

-- a tag has 16 bytes
abbrev pub tag_rows : ℕ → List Row
tag_rows tagLength = row 5 (not (eqb tagLength 16)) ∷ []

-- the sealer's, from the head of a key and a header list
unfoldable pub begin_sealer : List ℕ → List ℕ → List ℕ → StepResult
begin_sealer key bytes lens =
    begin_by (first (header_rows (length key) lens (length bytes))) (head_of_work (strings bytes lens)) (head_of key (strings bytes lens)) 1 zeros

-- the opener's, with a tag
unfoldable pub begin_opener : List ℕ → List ℕ → List ℕ → List ℕ → StepResult
begin_opener key bytes lens tag =
    begin_by (first (header_rows (length key) lens (length bytes) ++ tag_rows (length tag))) (head_of_work (strings bytes lens)) (head_of key (strings bytes lens)) 3 tag

-- the sealer's, from a head and the strings that follow its own; the head's work was reported when it was made
unfoldable pub begin_sealer_from : Head → List ℕ → List ℕ → StepResult
begin_sealer_from h bytes lens =
    begin_by (first (rest_rows h lens (length bytes))) (extended_work (strings bytes lens)) (extended h (strings bytes lens)) 1 zeros

-- the opener's, with a tag
unfoldable pub begin_opener_from : Head → List ℕ → List ℕ → List ℕ → StepResult
begin_opener_from h bytes lens tag =
    begin_by (first (rest_rows h lens (length bytes) ++ tag_rows (length tag))) (extended_work (strings bytes lens)) (extended h (strings bytes lens)) 3 tag

-- ---- the sealer's calls

abbrev pub add_rows : Stream → ℕ → List Row
add_rows s piece = row 9 (not (fits 1 s)) ∷ row 4 (ltb limit (s.total + piece)) ∷ []

-- add a piece
unfoldable pub add_step : Stream → List ℕ → StepResult
add_step s piece = settle (first (add_rows s (length piece))) (done_step 0 (added_work s (length piece)) (added s piece) []) (λ n. refused_step n s [])

abbrev pub turn_rows : Stream → ℕ → List Row
turn_rows s output = row 9 (not (fits 1 s)) ∷ row 6 (ltb output 16) ∷ []

-- turn: V goes to the first 16 bytes of the output
unfoldable pub turn_step : Stream → List ℕ → StepResult
turn_step s output =
    let v = tag_of_state s in
    settle (first (turn_rows s (length output))) (done_step 16 (tag_of_state_work s) (turned s v) (put output 0 v)) (λ n. refused_step n s output)

abbrev pub write_rows : Stream → ℕ → ℕ → List Row
write_rows s piece output = row 9 (not (fits 2 s)) ∷ row 4 (ltb s.total (s.written + piece)) ∷ row 6 (ltb output piece) ∷ []

-- the state with n bytes more written:
-- they are counted and the block that they leave is kept, and no other field changes
abbrev pub wrote : Stream → ℕ → Stream
wrote s n = streamed_with s (kept_at s s.written n) (s.written + n)

-- write a piece: its ciphertext goes to the front of the output
unfoldable pub write_step : Stream → List ℕ → List ℕ → StepResult
write_step s piece output =
    let c = streamed_at s s.written piece in
    settle (first (write_rows s (length piece) (length output)))
    (done_step (length piece) (piece_work s.written (length piece)) (wrote s (length piece)) (put output 0 c)) (λ n. refused_step n s output)

abbrev pub close_rows : Stream → List Row
close_rows s = row 9 (not (fits 2 s && not (ltb s.written s.total))) ∷ []

-- close
unfoldable pub close_step : Stream → StepResult
close_step s = settle (first (close_rows s)) (done_step 0 0 ended []) (λ n. refused_step n s [])

-- ---- the opener's calls

abbrev pub feed_rows : Stream → ℕ → ℕ → List Row
feed_rows s piece output = row 9 (not (fits 3 s)) ∷ row 4 (ltb limit (s.total + piece)) ∷ row 6 (ltb output (s.total + piece)) ∷ []

-- the state that has deciphered n bytes more: the block that they leave is kept
abbrev pub deciphered : Stream → ℕ → Stream
deciphered s n = streamed_with s (kept_at s s.total n) s.written

-- feed a piece: its plaintext goes to the output at offset total, and is added
unfoldable pub feed_step : Stream → List ℕ → List ℕ → StepResult
feed_step s piece output =
    let n = length piece in
    let p = streamed_at s s.total piece in
    settle (first (feed_rows s n (length output)))
    (done_step n (piece_work s.total n + added_work s n) (added (deciphered s n) p) (put output s.total p)) (λ m. refused_step m s output)

-- the refusals of finish but for a forged string
abbrev pub finish_rows : Stream → ℕ → List Row
finish_rows s output = row 9 (not (fits 3 s)) ∷ row 6 (ltb output s.total) ∷ []

-- all refusals of finish
abbrev pub finish_table : Stream → List ℕ → List Row
finish_table s output = finish_rows s (length output) ++ (row 8 (not (same (tag_of_state s) s.v)) ∷ [])

-- a forged string: as much work as for a genuine one, its plaintext wiped
abbrev pub forged_step : Stream → List ℕ → StepResult
forged_step s output = record { outcome = forged (tag_of_state_work s); state = ended; output = put output 0 (replicate s.total 0) }

-- finish: the verdict; the state is ended either way
unfoldable pub finish_step : Stream → List ℕ → StepResult
finish_step s output =
    settle (first (finish_table s output)) (done_step s.total (tag_of_state_work s) ended output) (forged_or (forged_step s output) (λ n. refused_step n s output))
