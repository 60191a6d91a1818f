-- Whole sealing and opening on every input: number, length,
-- work and the last contents of each lent buffer, by rules 8.1 to 8.5 and 15.2.
-- Assumes nothing.
use Rattle.std.specs.Prelude.{◌≡◌, Bool, not, ◌||◌, List, [], ◌∷◌, ◌++◌, ℕ, ◌+◌, ◌-◌, max, ltb, eqb, length, replicate}
use Rattle.octets.specs.Octets.{put, Lent, LentMut}
use Rattle.header.specs.Header.{total, strings}
use Rattle.answers.specs.Answer.{Outcome, success, refusal, forged, outcome_of, Row, row, first, settle, forged_or}
use Rattle.whole.specs.declared.Report.{Report}
use Rattle.whole.specs.Siv.{sealed, sealed_work, opened, genuine, genuine_work}

-- keys have 32, 48 or 64 bytes
unfoldable pub is_key_length : ℕ → Bool
is_key_length n = eqb n 32 || eqb n 48 || eqb n 64

-- the longest plaintext
abbrev pub limit : ℕ
limit = 1048576

-- the scratch that a plaintext of n bytes needs
abbrev pub scratch_need : ℕ → ℕ
scratch_need n = max n 16

-- a scratch with that many bytes of it zero
abbrev pub wiped : List ℕ → ℕ → List ℕ
wiped scratch n = put scratch 0 (replicate (scratch_need n) 0)

-- the refusals that judge key and header list
abbrev pub header_rows : ℕ → List ℕ → ℕ → List Row
header_rows key_length lens headerLength =
    row 1 (not (is_key_length key_length)) ∷ row 2 (ltb 126 (length lens)) ∷ row 3 (not (eqb (total lens) headerLength)) ∷ []

-- the refusals that judge a plaintext's length and the buffers lent to seal it
abbrev pub seal_rows : ℕ → ℕ → ℕ → List Row
seal_rows n output scratch = row 4 (ltb limit n) ∷ row 6 (ltb output (n + 16)) ∷ row 7 (ltb scratch (scratch_need n)) ∷ []

-- the refusals that judge a sealed string's length and the buffers lent to open it
abbrev pub open_rows : ℕ → ℕ → ℕ → List Row
open_rows y output scratch =
    row 5 (ltb y 16) ∷ row 4 (ltb (limit + 16) y) ∷ row 6 (ltb output (y - 16)) ∷ row 7 (ltb scratch (scratch_need (y - 16))) ∷ []

-- the refusals of opening that lengths alone tell
abbrev pub opening_rows : ℕ → List ℕ → ℕ → ℕ → ℕ → ℕ → List Row
opening_rows key_length lens headerLength y output scratch = header_rows key_length lens headerLength ++ open_rows y output scratch

-- everything that a whole call does: number, length and work, and the last contents of output and scratch
pub record CallResult : Type 0 where
  pub outcome : Outcome
  pub output : List ℕ
  pub scratch : List ℕ

-- a refusal with all lent memory untouched
abbrev pub refused_call : ℕ → List ℕ → List ℕ → CallResult
refused_call n output scratch = record { outcome = refusal n; output = output; scratch = scratch }

-- a call gave what its definition says
pub record DidCall (result : CallResult) (report : Report) (lastOutput lastScratch : List ℕ) : Type 0 where
  pub outcome : outcome_of report.answer report.work ≡ result.outcome
  pub output : lastOutput ≡ result.output
  pub scratch : lastScratch ≡ result.scratch

module _ (key bytes lens input output scratch : List ℕ) where
  -- sealing's refusals, and the number that it returns
  abbrev pub seal_table : List Row
  seal_table = header_rows (length key) lens (length bytes) ++ seal_rows (length input) (length output) (length scratch)

  unfoldable pub seal_number : ℕ
  seal_number = first seal_table

  -- what sealing leaves: input is the plaintext
  abbrev pub sealed_call : CallResult
  sealed_call =
      record {
        outcome = success (length input + 16) (sealed_work key (strings bytes lens) input);
        output = put output 0 (sealed key (strings bytes lens) input);
        scratch = wiped scratch (length input);
      }

  unfoldable pub seal_call : CallResult
  seal_call = settle seal_number sealed_call (λ n. refused_call n output scratch)

  -- opening's refusals, and the number that it returns
  abbrev pub open_table : List Row
  open_table =
      opening_rows (length key) lens (length bytes) (length input) (length output) (length scratch)
      ++ (row 8 (not (genuine key (strings bytes lens) input)) ∷ [])

  unfoldable pub open_number : ℕ
  open_number = first open_table

  -- what opening leaves of a genuine string, and of a forged one: input is the sealed string
  abbrev pub opened_call : CallResult
  opened_call =
      let n = length input - 16 in
      record { outcome = success n (genuine_work key (strings bytes lens) input); output = put output 0 (opened key input); scratch = wiped scratch n }

  abbrev pub forged_call : CallResult
  forged_call =
      let n = length input - 16 in
      record { outcome = forged (genuine_work key (strings bytes lens) input); output = put output 0 (replicate n 0); scratch = wiped scratch n }

  unfoldable pub open_call : CallResult
  open_call = settle open_number opened_call (forged_or forged_call (λ n. refused_call n output scratch))

-- what a whole call promises: with what the lent slices held at entry,
-- its report and what output and scratch hold at exit are the definition's
abbrev pub Performs : (List ℕ → List ℕ → List ℕ → List ℕ → List ℕ → List ℕ → CallResult) → Lent → Lent → Lent → Lent → LentMut → LentMut → Report → Type 0
Performs call key header lens input output scratch report =
    DidCall (call key.entry.now header.entry.now lens.entry.now input.entry.now output.entry.now scratch.entry.now) report
    output.exit.now scratch.exit.now
