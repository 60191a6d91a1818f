-- What a call answers: the table of docs/RULES.md, section 3.
-- Assumes nothing.
use Rattle.std.specs.Prelude.{◌≡◌, Bool, cond, List, [], ◌∷◌, ℕ, eqb, Result, Ok, Err}
use Rattle.answers.specs.declared.Refusal.{Refusal}
use Rattle.answers.specs.declared.Refusal.TheVariants.{KeyLength, HeaderCount, HeaderLengths, TooLong, SealedLength, OutputShort, ScratchShort, Forged, State, EmptyNonce, RingLength, HeaderPlan}

-- the number and the length that a call returns, and its work in blocks
pub record Outcome : Type 0 where
  pub number : ℕ
  pub count : ℕ
  pub work : ℕ

-- a refusal's number in the table
abbrev pub number_of : Refusal → ℕ
number_of KeyLength = 1
number_of HeaderCount = 2
number_of HeaderLengths = 3
number_of TooLong = 4
number_of SealedLength = 5
number_of OutputShort = 6
number_of ScratchShort = 7
number_of Forged = 8
number_of State = 9
number_of EmptyNonce = 10
number_of RingLength = 11
number_of HeaderPlan = 12

-- success with a count of bytes, or a refusal
abbrev pub Answer : Type 0
Answer = Result ℕ Refusal

-- nothing that stands against a call, or the refusal that does
abbrev pub Judgement : Type 0
Judgement = Result (Unit {0}) Refusal

-- success with a length and its work; a refusal by its number, with length 0 and no work; and 8, which has work.
-- No refusal has the number 0: `refusal 0` is success with length 0 and no work
abbrev pub success : ℕ → ℕ → Outcome
success n w = record { number = 0; count = n; work = w }

abbrev pub refusal : ℕ → Outcome
refusal n = record { number = n; count = 0; work = 0 }

abbrev pub forged : ℕ → Outcome
forged w = record { number = 8; count = 0; work = w }

-- every answer's number and length, with the work reported beside it
abbrev pub outcome_of : Answer → ℕ → Outcome
outcome_of (Ok n) w = success n w
outcome_of (Err r) w = record { number = number_of r; count = 0; work = w }

-- a judgement's number: 0 where nothing stands against the call, else the refusal's
abbrev pub judged : Judgement → ℕ
judged (Ok u) = 0
judged (Err r) = number_of r

-- a refusal with the condition under which it is due
pub record Row : Type 0 where
  pub number : ℕ
  pub due : Bool

abbrev pub row : ℕ → Bool → Row
row n b = record { number = n; due = b }

-- the number of the first row that is due, or 0
abbrev pub first : List Row → ℕ
first [] = 0
first (r ∷ rs) = cond r.due r.number (first rs)

-- what a call gives whose first due row has the number n:
-- the complete result where none is due, else what that refusal leaves
abbrev pub settle : {A : Type 0} → ℕ → A → (ℕ → A) → A
settle n complete refused = cond (eqb n 0) complete (refused n)

-- what a refusal leaves where 8 leaves something of its own
abbrev pub forged_or : {A : Type 0} → A → (ℕ → A) → ℕ → A
forged_or forgery refused n = cond (eqb n 8) forgery (refused n)

-- a judgement is that of these rows: the first due one's refusal, or none
abbrev pub Judges : List Row → Judgement → Type 0
Judges rows judgement = judged judgement ≡ first rows
