-- One call on a state that the model knows: it gives what the model says,
-- and the state after it is again one that the model knows.
-- Assumes nothing.
use mathlib.Core.Path.{◌≡◌, refl, ap, ap₂, sym, subst, ◌∙◌}
use mathlib.Core.Bool.{Bool, true, false, not, cond}
use mathlib.Core.List.{List, [], ◌++◌}
use Prim.Native.Nat.{ℕ, ◌+◌, ◌-◌, ◌≤◌}
use native.Mathlib.Omega.{arith}
use lib.Dec.{eqb, ltb}
use lib.ListN.{length, take, drop, replicate, length-append, length-replicate}
use lib.Seq.{take_at, drop_at}
use borrow.Author.Tests.{ltb-false, le-ltb}
use Rattle.octets.specs.Octets.{put, same, all_zero}
use Rattle.octets.proofs.Strings.{length-put, put-put}
use Rattle.aes.specs.Aes.{aes}
use Rattle.cmac.specs.Cmac.{zeros}
use Rattle.header.specs.Header.{strings}
use Rattle.keystream.specs.KeyStream.{xor_stream}
use Rattle.keystream.specs.Pieces.{begun_block, piece_work}
use Rattle.answers.specs.Answer.{first, settle, success, refusal, forged}
use Rattle.answers.proofs.Laws.{none_where}
use Rattle.whole.specs.Calls.{limit, scratch_need}
use Rattle.whole.specs.Siv.{ctr_key, tag_of, streamed, opened, genuine}
use Rattle.whole.proofs.Laws.{by_tag, open_numbered, length-streamed, put-over}
use Rattle.stream.specs.declared.Stream.{Stream}
use Rattle.stream.specs.State.{ended, kept_fits, fits, added, added_work, tag_of_state, tag_of_state_work, streamed_at, streamed_with, turned}
use Rattle.stream.specs.Steps.{StepResult, done_step, refused_step, feed_rows, wrote, deciphered, add_step, turn_step, write_step, close_step, feed_step, forged_step, finish_step}
use Rattle.stream.proofs.Laws.{length-streamed_at}
use Rattle.demands.specs.Figures.{over, chained, sixteenths, blocks}
use Rattle.demands.specs.Model.{ModelState, wants, After, whole_accepts, shown, output_before, output_after, model_after, count_after, work_after, model_step}
use Rattle.demands.specs.Run.{Begin, sealer, opener, Call, add, turn, write, close, feed, finish, call, lent, shared_after}
use Rattle.demands.specs.Second.{Admits}
use Rattle.demands.proofs.Figures.{keyed}
use Rattle.demands.proofs.Pieces.{begun_none, begun_zero, piece_work_lem, added_work_lem, built_of, adding_state, writing_state, feeding_state, join, fits_state, tag_state, tag_state_work, stream_state, kept_state, streamed-append, streamed_rest}
use Rattle.demands.proofs.Whole.{judged}

-- ---- a call in a stage that it does not want

misfit : (wanted : ℕ) (s : Stream) → eqb s.stage wanted ≡ false → fits wanted s ≡ false
unfolding fits
misfit wanted s e = simp e

-- a call on a state that does not fit it
call_misfit : (s : Stream) (o : List ℕ) (c : Call) → fits (wants c) s ≡ false → call s o c ≡ refused_step 9 s (lent o c)
unfolding add_step turn_step write_step close_step feed_step finish_step
call_misfit s o (add piece) e = simp e
call_misfit s o (turn output) e = simp e
call_misfit s o (write piece output) e = simp e
call_misfit s o close e = simp e
call_misfit s o (feed piece) e = simp e
call_misfit s o finish e = simp e

unchanged : (o : List ℕ) (c : Call) → shared_after o c (lent o c) ≡ o
unchanged o (add piece) = refl
unchanged o (turn output) = refl
unchanged o (write piece output) = refl
unchanged o close = refl
unchanged o (feed piece) = refl
unchanged o finish = refl

-- no call wants stage 0
pub unwanted : (c : Call) → eqb 0 (wants c) ≡ false
unwanted (add piece) = refl
unwanted (turn output) = refl
unwanted (write piece output) = refl
unwanted close = refl
unwanted (feed piece) = refl
unwanted finish = refl

abbrev pub model_of : ℕ → List ℕ → List ℕ → ModelState
model_of stage A W = record { stage = stage; A = A; W = W }

-- a state and a shared output that the model knows by what it keeps
pub data Known (key bytes lens shared : List ℕ) : Begin → ModelState → Stream → List ℕ → Type 0 where
  adding : (A : List ℕ) → length A ≤ limit → Known key bytes lens shared sealer (model_of 1 A []) (adding_state key (strings bytes lens) A) shared
  writing : (A W : List ℕ) → length A ≤ limit → length W ≤ length A
      → Known key bytes lens shared sealer (model_of 2 A W) (writing_state key (strings bytes lens) A W) shared
  closed : (A W : List ℕ) → Known key bytes lens shared sealer (model_of 0 A W) ended shared
  feeding : (T A : List ℕ) → length T ≡ 16 → length A ≤ limit → length A ≤ length shared
      → Known key bytes lens shared (opener T) (model_of 3 A []) (feeding_state key (strings bytes lens) T (streamed key T A)) (over shared 0 (streamed key T A))
  finished : (T A o : List ℕ) → o ≡ shown key bytes lens (opener T) shared (model_of 0 A []) → Known key bytes lens shared (opener T) (model_of 0 A []) ended o

module _ (key bytes lens shared : List ℕ) (a : Admits key bytes lens) where
  ss : List (List ℕ)
  ss = strings bytes lens

  -- the call gives what the model says, and leaves what the model knows
  pub record Steps (begin : Begin) (b : ModelState) (s : Stream) (o : List ℕ) (c : Call) : Type 0 where
    pub entry : record { outcome = (call s o c).outcome; output = (call s o c).output } ≡ (model_step key bytes lens begin shared b c).entry
    pub next : Known key bytes lens shared begin (model_step key bytes lens begin shared b c).model (call s o c).state (shared_after o c (call s o c).output)

  -- from what each of the two comes to
  steps : (begin : Begin) (b : ModelState) (s : Stream) (o : List ℕ) (c : Call) (r : StepResult) (m : After) → call s o c ≡ r → model_step key bytes lens begin shared b c ≡ m
      → record { outcome = r.outcome; output = r.output } ≡ m.entry → Known key bytes lens shared begin m.model r.state (shared_after o c r.output)
      → Steps begin b s o c
  steps begin b s o c r m p q e k =
      record {
        entry = ap (λ (x : StepResult). record { outcome = x.outcome; output = x.output }) p ∙ e ∙ ap (λ (x : After). x.entry) (sym q);
        next =
            subst (λ (x : After). Known key bytes lens shared begin x.model (call s o c).state (shared_after o c (call s o c).output)) (sym q)
            (subst (λ (x : StepResult). Known key bytes lens shared begin m.model x.state (shared_after o c x.output)) (sym p) k);
      }

  -- the model's refusal, and what it says of success and of 8
  abbrev pub refused_after : Begin → ModelState → Call → ℕ → After
  refused_after begin b c n = record { model = b; entry = record { outcome = refusal n; output = output_before key bytes lens begin shared b c } }

  abbrev pub done_after : Begin → ModelState → Call → ℕ → After
  done_after begin b c n =
      record {
        model = model_after key bytes lens begin shared b c;
        entry =
            record {
              outcome = record { number = n; count = cond (eqb n 0) (count_after key bytes lens begin shared b c) 0; work = work_after key bytes lens begin shared b c };
              output = output_after key bytes lens begin shared b c;
            };
      }

  pub model_wrong : (begin : Begin) (b : ModelState) (c : Call) → eqb b.stage (wants c) ≡ false
      → model_step key bytes lens begin shared b c ≡ refused_after begin b c 9
  unfolding model_step
  model_wrong begin b c e = simp e refl

  pub known_shown : (begin : Begin) (b : ModelState) (s : Stream) (o : List ℕ) → Known key bytes lens shared begin b s o → o ≡ shown key bytes lens begin shared b
  known_shown begin b s o (adding A l) = refl
  known_shown begin b s o (writing A W l w) = refl
  known_shown begin b s o (closed A W) = refl
  known_shown begin b s o (feeding T A t l r) = refl
  known_shown begin b s o (finished T A _ e) = e

  pub known_stage : (begin : Begin) (b : ModelState) (s : Stream) (o : List ℕ) → Known key bytes lens shared begin b s o → s.stage ≡ b.stage
  known_stage begin b s o (adding A l) = refl
  known_stage begin b s o (writing A W l w) = refl
  known_stage begin b s o (closed A W) = refl
  known_stage begin b s o (feeding T A t l r) = refl
  known_stage begin b s o (finished T A _ e) = refl

  lent_before : (begin : Begin) (b : ModelState) (o : List ℕ) (c : Call) → o ≡ shown key bytes lens begin shared b → lent o c ≡ output_before key bytes lens begin shared b c
  lent_before begin b o (add piece) e = refl
  lent_before begin b o (turn output) e = refl
  lent_before begin b o (write piece output) e = refl
  lent_before begin b o close e = refl
  lent_before begin b o (feed piece) e = e
  lent_before begin b o finish e = e

  wrong : (begin : Begin) (b : ModelState) (s : Stream) (o : List ℕ) (c : Call) → Known key bytes lens shared begin b s o → eqb b.stage (wants c) ≡ false → Steps begin b s o c
  wrong begin b s o c k e =
      steps begin b s o c (refused_step 9 s (lent o c)) (refused_after begin b c 9) (call_misfit s o c (misfit (wants c) s (ap (λ (n : ℕ). eqb n (wants c)) (known_stage begin b s o k) ∙ e))) (model_wrong begin b c e)
      (ap (λ (l : List ℕ). record { outcome = refusal 9; output = l }) (lent_before begin b o c (known_shown begin b s o k)))
      (subst (Known key bytes lens shared begin b s) (sym (unchanged o c)) k)

  -- ---- the sealer's calls in the stages that they want

  module _ (A : List ℕ) (within : length A ≤ limit) where
    S : Stream
    S = adding_state key ss A

    b : ModelState
    b = model_of 1 A []

    kept : kept_fits 1 (adding_state key ss A) ≡ true
    unfolding kept_fits all_zero
    kept = refl

    fitting : fits 1 S ≡ true
    unfolding S
    fitting = fits_state key ss (keyed a) 1 zeros zeros 0 A within (omega arith) kept

    add_step_lem : (piece : List ℕ) → Steps sealer (model_of 1 A []) (adding_state key (strings bytes lens) A) shared (add piece)
    unfolding add_step model_step S ss b
    add_step_lem piece = go (ltb limit (length A + length piece)) refl
      where
        total : length (A ++ piece) ≡ length A + length piece
        total = length-append A piece

        work : added_work S (length piece) ≡ work_after key bytes lens sealer shared b (add piece)
        work = added_work_lem (built_of key ss 1 zeros zeros 0 A) (length piece) ∙ ap (λ (n : ℕ). chained n - chained (length A)) (sym total)

        go : (t : Bool) → ltb limit (length A + length piece) ≡ t → Steps sealer (model_of 1 A []) (adding_state key (strings bytes lens) A) shared (add piece)
        go true e = steps sealer b S shared (add piece) (refused_step 4 S []) (refused_after sealer b (add piece) 4) (simp (fitting, e)) (simp (total, e)) refl (adding A within)
        go false e =
            steps sealer b S shared (add piece) (done_step 0 (work_after key bytes lens sealer shared b (add piece)) (adding_state key ss (A ++ piece)) []) (done_after sealer b (add piece) 0)
            (simp (fitting, e) (ap₂ (λ (w : ℕ) (s : Stream). done_step 0 w s []) work (join key ss 1 zeros zeros 0 A piece))) (simp (total, e)) refl
            (adding (A ++ piece) (omega (arith, total, ltb-false limit (length A + length piece) e)))

    turn_step_lem : (output : List ℕ) → Steps sealer (model_of 1 A []) (adding_state key (strings bytes lens) A) shared (turn output)
    unfolding turn_step model_step S ss b put
    turn_step_lem output = go (ltb (length output) 16) refl
      where
        go : (t : Bool) → ltb (length output) 16 ≡ t → Steps sealer (model_of 1 A []) (adding_state key (strings bytes lens) A) shared (turn output)
        go true e = steps sealer b S shared (turn output) (refused_step 6 S output) (refused_after sealer b (turn output) 6) (simp (fitting, e)) (simp e refl) refl (adding A within)
        go false e =
            let v : List ℕ = tag_of key ss A in
            let none : begun_block (aes (ctr_key key)) v 0 ≡ zeros = begun_zero (aes (ctr_key key)) v in
            steps sealer b S shared (turn output) (done_step 16 (work_after key bytes lens sealer shared b (turn output)) (writing_state key ss A []) (over output 0 v)) (done_after sealer b (turn output) 0)
            (simp (fitting, e)
            (ap₂ (λ (w : ℕ) (x : List ℕ). done_step 16 w (turned S x) (over output 0 x)) (tag_state_work key ss (keyed a) 1 zeros zeros 0 A) (tag_state key ss (keyed a) 1 zeros zeros 0 A)
            ∙ ap (λ (k : List ℕ). done_step 16 (work_after key bytes lens sealer shared b (turn output)) (built_of key ss 2 v k 0 A) (over output 0 v)) (sym none))) (simp e) refl
            (writing A [] within (omega arith))

  module _ (A W : List ℕ) (within : length A ≤ limit) (shorter : length W ≤ length A) where
    v : List ℕ
    v = tag_of key ss A

    SW : Stream
    SW = writing_state key ss A W

    bW : ModelState
    bW = model_of 2 A W

    kept_w : kept_fits 2 (writing_state key ss A W) ≡ true
    unfolding kept_fits
    kept_w = begun_none (aes (ctr_key key)) (tag_of key ss A) (length W)

    fitting_w : fits 2 SW ≡ true
    unfolding SW v
    fitting_w = fits_state key ss (keyed a) 2 v (begun_block (aes (ctr_key key)) v (length W)) (length W) A within shorter kept_w

    write_step_lem : (piece output : List ℕ)
        → Steps sealer (model_of 2 A W) (writing_state key (strings bytes lens) A W) shared (write piece output)
    unfolding write_step model_step SW ss bW v put
    write_step_lem piece output = go (ltb (length A) (length W + length piece)) refl (ltb (length output) (length piece)) refl
      where
        total : length (W ++ piece) ≡ length W + length piece
        total = length-append W piece

        text : streamed_at SW (length W) piece ≡ drop (length W) (streamed key v (W ++ piece))
        text = stream_state key ss (keyed a) 2 v (length W) A (length W) piece ∙ sym (streamed_rest key v W piece)

        work : piece_work (length W) (length piece) ≡ work_after key bytes lens sealer shared bW (write piece output)
        work = piece_work_lem (length W) (length piece) ∙ ap (λ (n : ℕ). sixteenths n - sixteenths (length W)) (sym total)

        state : wrote SW (length piece) ≡ writing_state key ss A (W ++ piece)
        state =
            ap (λ (k : List ℕ). streamed_with SW k (length W + length piece)) (kept_state key ss (keyed a) 2 v (length W) A (length W) (length piece))
            ∙ ap (λ (n : ℕ). built_of key ss 2 v (begun_block (aes (ctr_key key)) v n) n A) (sym total)

        go : (t : Bool) → ltb (length A) (length W + length piece) ≡ t → (u : Bool) → ltb (length output) (length piece) ≡ u
            → Steps sealer (model_of 2 A W) (writing_state key (strings bytes lens) A W) shared (write piece output)
        go true e u f =
            steps sealer bW SW shared (write piece output) (refused_step 4 SW output) (refused_after sealer bW (write piece output) 4) (simp (fitting_w, e)) (simp (total, e)) refl
            (writing A W within shorter)
        go false e true f =
            steps sealer bW SW shared (write piece output) (refused_step 6 SW output) (refused_after sealer bW (write piece output) 6) (simp (fitting_w, e, f)) (simp (total, e, f)) refl
            (writing A W within shorter)
        go false e false f =
            let last : List ℕ = over output 0 (drop (length W) (streamed key v (W ++ piece))) in
            let w : ℕ = work_after key bytes lens sealer shared bW (write piece output) in
            steps sealer bW SW shared (write piece output) (done_step (length piece) w (writing_state key ss A (W ++ piece)) last) (done_after sealer bW (write piece output) 0)
            (simp (fitting_w, e, f)
            (ap₂ (λ (n : ℕ) (s : Stream). done_step (length piece) n s (over output 0 (streamed_at SW (length W) piece))) work state
            ∙ ap (λ (x : List ℕ). done_step (length piece) w (writing_state key ss A (W ++ piece)) (over output 0 x)) text)) (simp (total, e, f)) refl
            (writing A (W ++ piece) within (omega (arith, total, ltb-false (length A) (length W + length piece) e)))

    close_step_lem : Steps sealer (model_of 2 A W) (writing_state key (strings bytes lens) A W) shared close
    unfolding close_step model_step SW ss bW v
    close_step_lem = go (ltb (length W) (length A)) refl
      where
        go : (t : Bool) → ltb (length W) (length A) ≡ t → Steps sealer (model_of 2 A W) (writing_state key (strings bytes lens) A W) shared close
        go true e = steps sealer bW SW shared close (refused_step 9 SW []) (refused_after sealer bW close 9) (simp (fitting_w, e)) (simp e refl) refl (writing A W within shorter)
        go false e = steps sealer bW SW shared close (done_step 0 0 ended []) (done_after sealer bW close 0) (simp (fitting_w, e)) (simp e) refl (closed A W)

  -- ---- the opener's calls in the stage that they want

  module _ (T A : List ℕ) (tagged : length T ≡ 16) (within : length A ≤ limit) (output_fits : length A ≤ length shared) where
    P : List ℕ
    P = streamed key T A

    SF : Stream
    SF = feeding_state key ss T P

    bF : ModelState
    bF = model_of 3 A []

    o : List ℕ
    o = over shared 0 P

    long : length P ≡ length A
    unfolding P
    long = length-streamed key T A

    longer : length o ≡ length shared
    unfolding o put
    longer = length-put shared 0 P (omega (arith, long))

    kept_f : kept_fits 3 (feeding_state key ss T P) ≡ true
    unfolding kept_fits
    kept_f = begun_none (aes (ctr_key key)) T (length P)

    fitting_f : fits 3 SF ≡ true
    unfolding SF
    fitting_f = fits_state key ss (keyed a) 3 T (begun_block (aes (ctr_key key)) T (length P)) 0 P (omega (arith, long)) (omega arith) kept_f

    feed_step_lem : (piece : List ℕ) → Steps (opener T) (model_of 3 A []) (feeding_state key (strings bytes lens) T (streamed key T A)) (over shared 0 (streamed key T A)) (feed piece)
    unfolding feed_step model_step SF ss bF P o put
    feed_step_lem piece = go (ltb limit (length A + length piece)) refl (ltb (length shared) (length A + length piece)) refl
      where
        total : length (A ++ piece) ≡ length A + length piece
        total = length-append A piece

        text : streamed_at SF (length P) piece ≡ xor_stream (aes (ctr_key key)) T (length A) piece
        text = stream_state key ss (keyed a) 3 T 0 P (length P) piece ∙ ap (λ (n : ℕ). xor_stream (aes (ctr_key key)) T n piece) long

        joined : P ++ streamed_at SF (length P) piece ≡ streamed key T (A ++ piece)
        joined = ap (λ (x : List ℕ). P ++ x) text ∙ sym (streamed-append key T A piece)

        count : length P + length piece ≡ length (P ++ streamed_at SF (length P) piece)
        count = ap (λ (n : ℕ). length P + n) (sym (length-streamed_at SF (length P) piece)) ∙ sym (length-append P (streamed_at SF (length P) piece))

        state : added (deciphered SF (length piece)) (streamed_at SF (length P) piece) ≡ feeding_state key ss T (streamed key T (A ++ piece))
        state =
            ap (λ (k : List ℕ). added (streamed_with SF k 0) (streamed_at SF (length P) piece)) (kept_state key ss (keyed a) 3 T 0 P (length P) (length piece))
            ∙ join key ss 3 T (begun_block (aes (ctr_key key)) T (length P + length piece)) 0 P (streamed_at SF (length P) piece)
            ∙ ap (λ (n : ℕ). built_of key ss 3 T (begun_block (aes (ctr_key key)) T n) 0 (P ++ streamed_at SF (length P) piece)) count
            ∙ ap (feeding_state key ss T) joined

        work : piece_work (length P) (length piece) + added_work SF (length piece) ≡ work_after key bytes lens (opener T) shared bF (feed piece)
        work =
            ap₂ ◌+◌ (piece_work_lem (length P) (length piece)) (added_work_lem (built_of key ss 3 T (begun_block (aes (ctr_key key)) T (length P)) 0 P) (length piece))
            ∙ ap (λ (n : ℕ). (sixteenths (n + length piece) - sixteenths n) + (chained (n + length piece) - chained n)) long
            ∙ ap (λ (n : ℕ). (sixteenths n - sixteenths (length A)) + (chained n - chained (length A))) (sym total)

        last : over o (length P) (streamed_at SF (length P) piece) ≡ over shared 0 (streamed key T (A ++ piece))
        last =
            let place : length P ≡ 0 + length P = omega arith in
            ap (λ (n : ℕ). over o n (streamed_at SF (length P) piece)) place
            ∙ put-put shared 0 P (streamed_at SF (length P) piece) (omega (arith, long))
            ∙ ap (over shared 0) joined

        number : first (feed_rows SF (length piece) (length o)) ≡ cond (ltb limit (length A + length piece)) 4 (cond (ltb (length shared) (length A + length piece)) 6 0)
        number =
            ap (λ (t : Bool). cond (not t) 9 (cond (ltb limit (length P + length piece)) 4 (cond (ltb (length o) (length P + length piece)) 6 0))) fitting_f
            ∙ ap₂ (λ (n m : ℕ). cond (ltb limit (n + length piece)) 4 (cond (ltb m (n + length piece)) 6 0)) long longer

        settled : (n : ℕ) → cond (ltb limit (length A + length piece)) 4 (cond (ltb (length shared) (length A + length piece)) 6 0) ≡ n
            → call SF o (feed piece)
            ≡ settle n
            (done_step (length piece) (work_after key bytes lens (opener T) shared bF (feed piece)) (feeding_state key ss T (streamed key T (A ++ piece))) (over shared 0 (streamed key T (A ++ piece)))) (λ m. refused_step m SF o)
        settled n e =
            ap₂ (λ (k : ℕ) (r : StepResult). settle k r (λ m. refused_step m SF o)) (number ∙ e)
            (ap₂ (λ (s : Stream) (x : List ℕ). done_step (length piece) (piece_work (length P) (length piece) + added_work SF (length piece)) s x) state last
            ∙ ap (λ (w : ℕ). done_step (length piece) w (feeding_state key ss T (streamed key T (A ++ piece))) (over shared 0 (streamed key T (A ++ piece)))) work)

        go : (t : Bool) → ltb limit (length A + length piece) ≡ t → (u : Bool) → ltb (length shared) (length A + length piece) ≡ u
            → Steps (opener T) (model_of 3 A []) (feeding_state key (strings bytes lens) T (streamed key T A)) (over shared 0 (streamed key T A)) (feed piece)
        go true e u f =
            steps (opener T) bF SF o (feed piece) (refused_step 4 SF o) (refused_after (opener T) bF (feed piece) 4) (settled 4 (simp e)) (simp (total, e)) refl
            (feeding T A tagged within output_fits)
        go false e true f =
            steps (opener T) bF SF o (feed piece) (refused_step 6 SF o) (refused_after (opener T) bF (feed piece) 6) (settled 6 (simp (e, f))) (simp (total, e, f)) refl
            (feeding T A tagged within output_fits)
        go false e false f =
            steps (opener T) bF SF o (feed piece)
            (done_step (length piece) (work_after key bytes lens (opener T) shared bF (feed piece)) (feeding_state key ss T (streamed key T (A ++ piece))) (over shared 0 (streamed key T (A ++ piece))))
            (done_after (opener T) bF (feed piece) 0) (settled 0 (simp (e, f))) (simp (total, e, f)) refl
            (feeding T (A ++ piece) tagged (omega (arith, total, ltb-false limit (length A + length piece) e)) (omega (arith, total, ltb-false (length shared) (length A + length piece) f)))

    y : List ℕ
    y = T ++ A

    front : take 16 y ≡ T
    unfolding y
    front = take_at T A 16 tagged

    opened_fed : opened key (T ++ A) ≡ P
    unfolding opened y P
    opened_fed = ap₂ (streamed key) front (drop_at T A 16 tagged)

    -- finish compares the tags that whole opening compares
    genuine_fed : same (tag_of_state SF) T ≡ genuine key ss (T ++ A)
    unfolding genuine SF y
    genuine_fed = ap₂ same (tag_state key ss (keyed a) 3 T (begun_block (aes (ctr_key key)) T (length P)) 0 P ∙ ap (tag_of key ss) (sym opened_fed)) (sym front)

    pub accepts_genuine : whole_accepts key bytes lens T A ≡ genuine key (strings bytes lens) (T ++ A)
    unfolding whole_accepts
    accepts_genuine =
        let room : List ℕ = replicate (length A) 0 in
        let scratch : List ℕ = replicate (scratch_need (length A)) 0 in
        let count : length (T ++ A) ≡ 16 + length A = length-append T A ∙ omega arith in
        let number = open_numbered key bytes lens (T ++ A) room scratch ∙ by_tag key bytes lens (T ++ A) room scratch
        (judged key bytes lens (T ++ A) room scratch a
        (omega (arith, count, length-replicate {A = ℕ} (length A) 0))
        (omega (arith, count, length-replicate {A = ℕ} (scratch_need (length A)) 0))
        (omega (arith, count))
        (omega (arith, count))) in
        ap (λ (n : ℕ). eqb n 0) number ∙ none_where (genuine key (strings bytes lens) (T ++ A))

    wiped : over o 0 (replicate (length P) 0) ≡ over shared 0 (replicate (length A) 0)
    unfolding o put
    wiped =
        put-over shared P (replicate (length P) 0) (omega (arith, length-replicate {A = ℕ} (length P) 0))
        ∙ ap (λ (n : ℕ). over shared 0 (replicate n 0)) long

    enough : ltb (length o) (length P) ≡ false
    enough = le-ltb (length o) (length P) (omega (arith, long, longer))

    finish_step_lem : Steps (opener T) (model_of 3 A []) (feeding_state key (strings bytes lens) T (streamed key T A)) (over shared 0 (streamed key T A)) finish
    unfolding finish_step model_step SF ss bF P o put
    finish_step_lem = go (genuine key (strings bytes lens) (T ++ A)) genuine_fed accepts_genuine
      where
        verdict : tag_of_state_work SF ≡ work_after key bytes lens (opener T) shared bF finish
        verdict = tag_state_work key ss (keyed a) 3 T (begun_block (aes (ctr_key key)) T (length P)) 0 P ∙ ap (λ (n : ℕ). blocks n - chained n) long

        go : (t : Bool) → same (tag_of_state SF) T ≡ t → whole_accepts key bytes lens T A ≡ t
            → Steps (opener T) (model_of 3 A []) (feeding_state key (strings bytes lens) T (streamed key T A)) (over shared 0 (streamed key T A)) finish
        go true g h =
            let last : o ≡ shown key bytes lens (opener T) shared (model_of 0 A []) =
            ap (over shared 0) (sym (ap (λ (t : Bool). cond t (opened key (T ++ A)) (replicate (length A) 0)) h ∙ opened_fed)) in
            steps (opener T) bF SF o finish (done_step (length P) (tag_of_state_work SF) ended o) (done_after (opener T) bF finish 0) (simp (fitting_f, enough, g)) (simp h)
            (ap₂ (λ (n : ℕ) (x : List ℕ). record { outcome = success n (tag_of_state_work SF); output = x }) long last
            ∙ ap (λ (w : ℕ). record { outcome = success (length A) w; output = shown key bytes lens (opener T) shared (model_of 0 A []) }) verdict)
            (finished T A o last)
        go false g h =
            let last : over o 0 (replicate (length P) 0) ≡ shown key bytes lens (opener T) shared (model_after key bytes lens (opener T) shared bF finish) =
            wiped ∙ ap (over shared 0) (sym (ap (λ (t : Bool). cond t (opened key (T ++ A)) (replicate (length A) 0)) h)) in
            steps (opener T) bF SF o finish (forged_step SF o) (done_after (opener T) bF finish 8) (simp (fitting_f, enough, g)) (simp h refl)
            (ap₂ (λ (w : ℕ) (x : List ℕ). record { outcome = forged w; output = x }) verdict last)
            (finished T A (over o 0 (replicate (length P) 0)) last)

  -- ---- any call

  pub step : (begin : Begin) (b : ModelState) (s : Stream) (o : List ℕ) (c : Call) → Known key bytes lens shared begin b s o → Steps begin b s o c
  step begin b s o (add piece) (adding A l) = add_step_lem A l piece
  step begin b s o (turn output) (adding A l) = turn_step_lem A l output
  step begin b s o (write piece output) (adding A l) = wrong _ _ _ _ (write piece output) (adding A l) refl
  step begin b s o close (adding A l) = wrong _ _ _ _ close (adding A l) refl
  step begin b s o (feed piece) (adding A l) = wrong _ _ _ _ (feed piece) (adding A l) refl
  step begin b s o finish (adding A l) = wrong _ _ _ _ finish (adding A l) refl
  step begin b s o (add piece) (writing A W l w) = wrong _ _ _ _ (add piece) (writing A W l w) refl
  step begin b s o (turn output) (writing A W l w) = wrong _ _ _ _ (turn output) (writing A W l w) refl
  step begin b s o (write piece output) (writing A W l w) = write_step_lem A W l w piece output
  step begin b s o close (writing A W l w) = close_step_lem A W l w
  step begin b s o (feed piece) (writing A W l w) = wrong _ _ _ _ (feed piece) (writing A W l w) refl
  step begin b s o finish (writing A W l w) = wrong _ _ _ _ finish (writing A W l w) refl
  step begin b s o (add piece) (feeding T A t l r) = wrong _ _ _ _ (add piece) (feeding T A t l r) refl
  step begin b s o (turn output) (feeding T A t l r) = wrong _ _ _ _ (turn output) (feeding T A t l r) refl
  step begin b s o (write piece output) (feeding T A t l r) = wrong _ _ _ _ (write piece output) (feeding T A t l r) refl
  step begin b s o close (feeding T A t l r) = wrong _ _ _ _ close (feeding T A t l r) refl
  step begin b s o (feed piece) (feeding T A t l r) = feed_step_lem T A t l r piece
  step begin b s o finish (feeding T A t l r) = finish_step_lem T A t l r
  step begin b s o c (closed A W) = wrong _ _ _ _ c (closed A W) (unwanted c)
  step begin b s o c (finished T A _ e) = wrong _ _ _ _ c (finished T A _ e) (unwanted c)
