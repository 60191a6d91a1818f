-- The six piecewise calls on any given state, in figures.
-- Assumes nothing.
use mathlib.Core.Path.{◌≡◌, refl, ap, ap₂, sym, subst, ◌∙◌}
use mathlib.Core.Bool.{Bool, true, false, not, cond, true≢false, ◌&&◌, ◌||◌}
use mathlib.Core.List.{List, [], ◌∷◌, ◌++◌, append-nil}
use mathlib.Core.Logic.{◌⊎◌, inl, inr}
use Prim.{tt}
use Prim.Native.Nat.{ℕ, ◌+◌, ◌-◌, ◌*◌, ◌%◌, ◌≤◌}
use native.Mathlib.Decide.{dec_le}
use native.Mathlib.Omega.{arith}
use lib.Dec.{eqb, ltb}
use lib.ListN.{length, take, drop, replicate, drop_of_length-le}
use lib.Seq.{take_all}
use borrow.Author.Tests.{ne_eqb, lt-ltb, le-ltb}
use Rattle.octets.specs.Octets.{xors, put, same, all_zero}
use Rattle.aes.specs.Cipher.{cipher}
use Rattle.aes.proofs.Widths.{length-cipher}
use Rattle.cmac.specs.Cmac.{chain}
use Rattle.s2v.specs.S2v.{tail_length}
use Rattle.keystream.specs.KeyStream.{xor_stream}
use Rattle.keystream.specs.Pieces.{no_block, begun_block, left_over, piece_work, xor_piece, kept_after}
use Rattle.keystream.proofs.Laws.{xor_piece_within, xor_piece_beyond, kept_after_within, kept_after_beyond}
use Rattle.answers.specs.Answer.{Row, row, first, settle, forged_or}
use Rattle.answers.proofs.Laws.{lacks, first_not, settle_number}
use Rattle.whole.specs.Calls.{limit}
use Rattle.stream.specs.declared.Stream.{Stream}
use Rattle.stream.specs.State.{ended, kept_fits, fits, used_tail, state_with, added, added_work, tag_of_state, tag_of_state_work, streamed_at, kept_at, streamed_with, turned}
use Rattle.stream.specs.Steps.{StepResult, done_step, refused_step, add_step, turn_step, wrote, write_step, close_step, deciphered, feed_step, forged_step, finish_step}
use Rattle.tail.specs.Tail.{leaving_blocks}
use Rattle.demands.specs.Figures.{IsZero, over, tail_count, chained, sixteenths, tag_blocks}
use Rattle.demands.specs.Run.{Call, add, turn, write, close, feed, finish, call, lent}
use Rattle.demands.specs.State.{blank_state}
use Rattle.demands.specs.Steps.{place, NineButTailLength, ByRule, Nine, xored, kept_by, with_piece, with_written, stepped, step_table, step_done, step_left, Sized}
use Rattle.demands.specs.Table.{order, keeps, FirstDue, ByTable}
use Rattle.demands.proofs.Figures.{Tells, Fails, unless, below, not_below, equal, judges, otherwise, one_of, key_width, zeros, alike_bytes}
use Rattle.demands.proofs.Pieces.{front_zeros, passed_chained, piece_work_lem, added_work_lem, tag_of_state_work_lem}
use Rattle.demands.proofs.Table.{Told, first_due, forged_number, by_table}

-- ---- 9

-- a kept block is judged where whole blocks of the key stream are used
kept_fails : (n : ℕ) (kept : List ℕ) → Fails (not (eqb n 0) || all_zero kept) ((n ≡ 0) × (IsZero kept → ⊥))
kept_fails n kept = go (eqb n 0) (equal n 0)
  where
    go : (t : Bool) → Tells t (n ≡ 0) → Fails (not t || all_zero kept) ((n ≡ 0) × (IsZero kept → ⊥))
    go true told = record { holds = λ e. (told.holds refl, (zeros kept).fails e); fails = λ e p. p.1 ((zeros kept).holds e) }
    go false told = record { holds = λ e. absurd (true≢false e); fails = λ e p. told.fails refl p.0 }

-- the tests' order, and the statement's
stated : {A B C D E F G : Type 0} → ((((((A ⊎ B) ⊎ C) ⊎ D) ⊎ E) ⊎ F) ⊎ G) → (A ⊎ (B ⊎ (C ⊎ (D ⊎ (G ⊎ F))))) ⊎ E
stated (inl (inl (inl (inl (inl (inl a)))))) = inl (inl a)
stated (inl (inl (inl (inl (inl (inr b)))))) = inl (inr (inl b))
stated (inl (inl (inl (inl (inr c))))) = inl (inr (inr (inl c)))
stated (inl (inl (inl (inr d)))) = inl (inr (inr (inr (inl d))))
stated (inl (inl (inr e))) = inr e
stated (inl (inr f)) = inl (inr (inr (inr (inr (inr f)))))
stated (inr g) = inl (inr (inr (inr (inr (inl g)))))

tested : {A B C D E F G : Type 0} → (A ⊎ (B ⊎ (C ⊎ (D ⊎ (G ⊎ F))))) ⊎ E → ((((((A ⊎ B) ⊎ C) ⊎ D) ⊎ E) ⊎ F) ⊎ G)
tested (inl (inl a)) = inl (inl (inl (inl (inl (inl a)))))
tested (inl (inr (inl b))) = inl (inl (inl (inl (inl (inr b)))))
tested (inl (inr (inr (inl c)))) = inl (inl (inl (inl (inr c))))
tested (inl (inr (inr (inr (inl d))))) = inl (inl (inl (inr d)))
tested (inl (inr (inr (inr (inr (inl g)))))) = inr g
tested (inl (inr (inr (inr (inr (inr f)))))) = inl (inr f)
tested (inr e) = inl (inl (inr e))

nine : (wanted : ℕ) (s : Stream) → Fails (fits wanted s) (Nine wanted s)
unfolding fits kept_fits tail_length
nine wanted s =
    let stage = unless (equal s.stage wanted) in
    let width = unless (key_width s.width) in
    let total = not_below limit s.total in
    let written = not_below (cond (eqb wanted 2) s.total 0) s.written in
    let len = unless (equal s.tail_len (tail_count s.total)) in
    let kept = kept_fails (place wanted s % 16) s.kept in
    let tail = unless (zeros (drop (tail_count s.total) s.tail)) in
    let all = one_of (one_of (one_of (one_of (one_of (one_of stage width) total) written) len) kept) tail in
    record { holds = λ e. stated (all.holds e); fails = λ e n. all.fails e (tested n) }

-- where the tail's length follows the rule, 9 is due exactly by what it judges beside it
nine_aside : (wanted : ℕ) (s : Stream) → ByRule s → Fails (fits wanted s) (NineButTailLength wanted s)
nine_aside wanted s rule = record { holds = λ e. aside ((nine wanted s).holds e); fails = λ e n. (nine wanted s).fails e (inl n) }
  where
    aside : Nine wanted s → NineButTailLength wanted s
    aside (inl n) = n
    aside (inr other) = absurd (other rule)

-- ---- tables

-- the calls' rows, by a test for 9
abbrev step_rows : (ℕ → Bool) → Stream → List ℕ → Call → List Row
step_rows fit s shared (add piece) = row 9 (not (fit 1)) ∷ row 4 (ltb limit (s.total + length piece)) ∷ []
step_rows fit s shared (turn output) = row 9 (not (fit 1)) ∷ row 6 (ltb (length output) 16) ∷ []
step_rows fit s shared (write piece output) = row 9 (not (fit 2)) ∷ row 4 (ltb s.total (s.written + length piece)) ∷ row 6 (ltb (length output) (length piece)) ∷ []
step_rows fit s shared close = row 9 (not (fit 2 && not (ltb s.written s.total))) ∷ []
step_rows fit s shared (feed piece) = row 9 (not (fit 3)) ∷ row 4 (ltb limit (s.total + length piece)) ∷ row 6 (ltb (length shared) (s.total + length piece)) ∷ []
step_rows fit s shared finish = row 9 (not (fit 3)) ∷ row 6 (ltb (length shared) s.total) ∷ row 8 (not (same (tag_of_state s) s.v)) ∷ []

told_step : (N : ℕ → Stream → Type 0) (s : Stream) (shared : List ℕ) (c : Call) → ((wanted : ℕ) → Fails (fits wanted s) (N wanted s))
    → Told (step_rows (λ wanted. fits wanted s) s shared c) (step_table N s shared c)
unfolding tag_of_state tail_length
told_step N s shared (add piece) f = (refl, judges (f 1), (refl, below limit (s.total + length piece), tt))
told_step N s shared (turn output) f = (refl, judges (f 1), (refl, below (length output) 16, tt))
told_step N s shared (write piece output) f =
    (refl, judges (f 2), (refl, below s.total (s.written + length piece), (refl, below (length output) (length piece), tt)))
told_step N s shared close f = (refl, judges (one_of (f 2) (not_below s.written s.total)), tt)
told_step N s shared (feed piece) f =
    (refl, judges (f 3), (refl, below limit (s.total + length piece), (refl, below (length shared) (s.total + length piece), tt)))
told_step N s shared finish f = (refl, judges (f 3), (refl, below (length shared) s.total, (refl, otherwise (alike_bytes (tag_of_state s) s.v), tt)))

-- ---- what a piece leaves

module _ (s : Stream) (at : ℕ) (long : length s.kept ≡ 16) where
  abbrev E : List ℕ → List ℕ
  E = cipher s.width s.ctr_keys

  used : (piece : List ℕ) → streamed_at s at piece ≡ xored s at piece
  unfolding streamed_at xor_stream xors
  used piece = go (dec_le (left_over at) (length piece))
    where
      n : ℕ
      n = left_over at

      go : Dec (n ≤ length piece) → xor_piece E s.v s.kept at piece ≡ xors (take n piece) (drop (at % 16) s.kept) ++ xor_stream E s.v (at + n) (drop n piece)
      go (yes h) = xor_piece_beyond E (length-cipher _ _) s.v s.kept at piece long h
      go (no h) =
          let all : length piece ≤ n = omega (arith, h) in
          xor_piece_within E s.v s.kept at piece all
          ∙ sym (append-nil (xors piece (drop (at % 16) s.kept)))
          ∙ ap₂ (λ (a b : List ℕ). xors a (drop (at % 16) s.kept) ++ xor_stream E s.v (at + n) b) (sym (take_all n piece all)) (sym (drop_of_length-le piece all))

  stays : (n : ℕ) → kept_at s at n ≡ kept_by s at n
  unfolding kept_at begun_block
  stays n = go (dec_le (left_over at) n)
    where
      go : Dec (left_over at ≤ n) → kept_after E s.v s.kept at n ≡ cond (ltb n (left_over at)) s.kept (begun_block E s.v (at + n))
      go (yes h) = simp (le-ltb n (left_over at) h) (kept_after_beyond E (length-cipher _ _) s.v s.kept at n long h)
      go (no h) =
          let begun : (at + n) % 16 ≡ 0 → ⊥ = λ z. omega (arith, h, z) in
          simp (lt-ltb n (left_over at) (omega (arith, h)))
          (kept_after_within E s.v s.kept at n (omega (arith, h)) ∙ ap (λ (t : Bool). cond t no_block s.kept) (ne_eqb ((at + n) % 16) 0 begun))

-- a piece of plaintext more
added_figures : (s : Stream) (piece : List ℕ) → added s piece ≡ with_piece s s.kept piece
unfolding added tail_length
added_figures s piece =
    let total = s.total + length piece in
    let text = used_tail s ++ piece in
    let n : leaving_blocks s.total (length piece) ≡ chained total - chained s.total = ap₂ ◌-◌ (passed_chained total) (passed_chained s.total) in
    ap₂ (λ (k : ℕ) (tail : List ℕ). state_with s (chain (cipher s.width s.mac_keys) s.chain text k) total (tail_count total) tail) n
    (front_zeros 31 (drop (16 * leaving_blocks s.total (length piece)) text)
    ∙ ap (λ (k : ℕ). drop (16 * k) text ++ replicate (31 - length (drop (16 * k) text)) 0) n)

-- ---- the calls

number_in : StepResult → ℕ
number_in r = r.outcome.number

module _ (s : Stream) (shared : List ℕ) where
  abbrev rows : Call → List Row
  rows c = step_rows (λ wanted. fits wanted s) s shared c

  -- what a call gives, and what a refusal leaves, as it is defined
  abbrev gives : Call → StepResult
  gives (add piece) = done_step 0 (added_work s (length piece)) (added s piece) []
  gives (turn output) = done_step 16 (tag_of_state_work s) (turned s (tag_of_state s)) (put output 0 (tag_of_state s))
  gives (write piece output) =
      done_step (length piece) (piece_work s.written (length piece)) (wrote s (length piece)) (put output 0 (streamed_at s s.written piece))
  gives close = done_step 0 0 ended []
  gives (feed piece) =
      let p = streamed_at s s.total piece in
      done_step (length piece) (piece_work s.total (length piece) + added_work s (length piece)) (added (deciphered s (length piece)) p) (put shared s.total p)
  gives finish = done_step s.total (tag_of_state_work s) ended shared

  abbrev leaves : Call → ℕ → StepResult
  leaves (add piece) n = refused_step n s []
  leaves (turn output) n = refused_step n s output
  leaves (write piece output) n = refused_step n s output
  leaves close n = refused_step n s []
  leaves (feed piece) n = refused_step n s shared
  leaves finish n = forged_or (forged_step s shared) (λ m. refused_step m s shared) n

  settles : (c : Call) → call s shared c ≡ settle (first (rows c)) (gives c) (leaves c)
  unfolding add_step turn_step write_step close_step feed_step finish_step
  settles (add piece) = refl
  settles (turn output) = refl
  settles (write piece output) = refl
  settles close = refl
  settles (feed piece) = refl
  settles finish = refl

  gives_number : (c : Call) → number_in (gives c) ≡ 0
  unfolding number_in
  gives_number (add piece) = refl
  gives_number (turn output) = refl
  gives_number (write piece output) = refl
  gives_number close = refl
  gives_number (feed piece) = refl
  gives_number finish = refl

  leaves_number : (c : Call) (n : ℕ) → number_in (leaves c n) ≡ n
  unfolding number_in
  leaves_number (add piece) n = refl
  leaves_number (turn output) n = refl
  leaves_number (write piece output) n = refl
  leaves_number close n = refl
  leaves_number (feed piece) n = refl
  leaves_number finish n = forged_number number_in (forged_step s shared) (λ m. refused_step m s shared) refl (λ m. refl) n

  ordered : (c : Call) → keeps order (step_table Nine s shared c) ≡ true
  ordered (add piece) = refl
  ordered (turn output) = refl
  ordered (write piece output) = refl
  ordered close = refl
  ordered (feed piece) = refl
  ordered finish = refl

  -- in figures, where the arrays have their types' lengths
  module _ (z : Sized s) where
    complete : (c : Call) → gives c ≡ step_done s shared c
    unfolding tag_of_state tail_length put
    complete (add piece) = ap₂ (λ (w : ℕ) (t : Stream). stepped 0 0 w t []) (added_work_lem s (length piece)) (added_figures s piece)
    complete (turn output) =
        ap (λ (w : ℕ). stepped 0 16 w (turned s (tag_of_state s)) (over output 0 (tag_of_state s))) (tag_of_state_work_lem s z.d z.tail)
    complete (write piece output) =
        ap₂ (λ (w : ℕ) (k : List ℕ). stepped 0 (length piece) w (streamed_with s k (s.written + length piece)) (over output 0 (streamed_at s s.written piece)))
        (piece_work_lem s.written (length piece)) (stays s s.written z.kept (length piece))
        ∙ ap (λ (x : List ℕ). stepped 0 (length piece) (sixteenths (s.written + length piece) - sixteenths s.written) (with_written s (length piece)) (over output 0 x))
        (used s s.written z.kept piece)
    complete close = refl
    complete (feed piece) =
        ap₂ (λ (w : ℕ) (t : Stream). stepped 0 (length piece) w t (over shared s.total (streamed_at s s.total piece)))
        (ap₂ ◌+◌ (piece_work_lem s.total (length piece)) (added_work_lem s (length piece)))
        (added_figures (deciphered s (length piece)) (streamed_at s s.total piece)
        ∙ ap (λ (k : List ℕ). with_piece s k (streamed_at s s.total piece)) (stays s s.total z.kept (length piece)))
        ∙ ap (λ (x : List ℕ).
        stepped 0 (length piece) ((sixteenths (s.total + length piece) - sixteenths s.total) + (chained (s.total + length piece) - chained s.total))
        (with_piece s (kept_by s s.total (length piece)) x) (over shared s.total x))
        (used s s.total z.kept piece)
    complete finish = ap (λ (w : ℕ). stepped 0 s.total w ended shared) (tag_of_state_work_lem s z.d z.tail)

    -- a refusal but for 8 leaves state and output
    untouched : (c : Call) → lacks 8 (rows c) ≡ true → (n : ℕ) → first (rows c) ≡ n → refused_step n s (lent shared c) ≡ step_left s shared c n
    untouched c l n e =
        ap (λ (t : Bool). cond t (stepped 8 0 (tag_blocks s.total) blank_state (over shared 0 (replicate s.total 0))) (refused_step n s (lent shared c)))
        (sym (ne_eqb n 8 (λ p. first_not 8 (rows c) l (λ q. omega (arith, q)) (e ∙ p))))

    left : (c : Call) (n : ℕ) → first (rows c) ≡ n → leaves c n ≡ step_left s shared c n
    unfolding put
    left (add piece) = untouched (add piece) refl
    left (turn output) = untouched (turn output) refl
    left (write piece output) = untouched (write piece output) refl
    left close = untouched close refl
    left (feed piece) = untouched (feed piece) refl
    left finish = λ n e. ap (λ (w : ℕ). cond (eqb n 8) (stepped 8 0 w ended (over shared 0 (replicate s.total 0))) (refused_step n s shared)) (tag_of_state_work_lem s z.d z.tail)

  pub by_call : (c : Call) → Sized s
      → ByTable StepResult (step_table Nine s shared c) (call s shared c).outcome.number (call s shared c) (step_done s shared c) (step_left s shared c)
  unfolding number_in
  by_call c z =
      by_table StepResult number_in (rows c) (step_table Nine s shared c) (call s shared c) (gives c) (step_done s shared c) (leaves c) (step_left s shared c) (settles c)
      (told_step Nine s shared c (λ wanted. nine wanted s)) (ordered c) (gives_number c) (leaves_number c) (λ e. complete z c) (left z c)

  -- where the tail's length follows the rule, the number is that of the table in which 9 does not judge it
  pub number_aside : (c : Call) → ByRule s → FirstDue (step_table NineButTailLength s shared c) (call s shared c).outcome.number
  unfolding number_in
  number_aside c rule =
      subst (FirstDue (step_table NineButTailLength s shared c)) (sym (ap number_in (settles c) ∙ settle_number (first (rows c)) (gives c) (leaves c) number_in (gives_number c) (leaves_number c)))
      (first_due (rows c) _ (told_step NineButTailLength s shared c (λ wanted. nine_aside wanted s rule)))

  -- and a call keeps the rule
  gives_rule : (c : Call) → ByRule s → ByRule (gives c).state
  unfolding added tail_length
  gives_rule (add piece) e = refl
  gives_rule (turn output) e = e
  gives_rule (write piece output) e = e
  gives_rule close e = refl
  gives_rule (feed piece) e = refl
  gives_rule finish e = refl

  leaves_rule : (c : Call) (n : ℕ) → ByRule s → ByRule (leaves c n).state
  leaves_rule (add piece) n e = e
  leaves_rule (turn output) n e = e
  leaves_rule (write piece output) n e = e
  leaves_rule close n e = e
  leaves_rule (feed piece) n e = e
  leaves_rule finish n e = go (eqb n 8)
    where
      go : (t : Bool) → ByRule (cond t (forged_step s shared) (refused_step n s shared)).state
      go true = refl
      go false = e

  pub keeps_rule : (c : Call) → ByRule s → ByRule (call s shared c).state
  keeps_rule c e =
      subst (λ (r : StepResult). ByRule r.state) (sym (settles c)) (go (eqb (first (rows c)) 0))
    where
      go : (t : Bool) → ByRule (cond t (gives c) (leaves c (first (rows c)))).state
      go true = gives_rule c e
      go false = leaves_rule c (first (rows c)) e
