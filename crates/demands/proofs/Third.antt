-- The third demand holds: by induction over the list of calls,
-- from one relation between a state and what the model keeps.
-- Assumes nothing.
use mathlib.Core.Path.{◌≡◌, refl, ap, ap₂, sym, subst, ◌∙◌}
use mathlib.Core.Bool.{Bool, true, false, not, true≢false, false≢true, cond, ◌||◌}
use mathlib.Core.List.{List, [], ◌∷◌, ◌++◌, append_assoc, append-nil}
use Prim.Native.Nat.{ℕ, ◌+◌, ◌-◌, ◌≤◌, max}
use native.Mathlib.Omega.{arith}
use lib.Dec.{eqb, ltb}
use lib.ListN.{length, take, drop, replicate, length-append, length-drop, length-replicate, take-append-drop}
use lib.Seq.{take_at, take-append-add}
use borrow.Author.Tests.{ltb-false, eq-eqb, le-ltb}
use Rattle.octets.specs.Octets.{xors, put}
use Rattle.octets.proofs.Strings.{take_put}
use Rattle.aes.specs.Aes.{aes}
use Rattle.cmac.specs.Cmac.{zeros}
use Rattle.header.specs.Header.{strings}
use Rattle.keystream.specs.KeyStream.{xor_stream}
use Rattle.keystream.specs.Pieces.{begun_block}
use Rattle.answers.specs.Answer.{Outcome, success, refusal}
use Rattle.answers.proofs.Laws.{first_pass}
use Rattle.whole.specs.Calls.{limit, header_rows, open_call}
use Rattle.whole.specs.Siv.{ctr_key, tag_of, streamed, sealed, opened, genuine}
use Rattle.whole.proofs.Laws.{open_judged, length-streamed, length-opened}
use Rattle.head.specs.Head.{head_of}
use Rattle.head.proofs.Laws.{head_lengths}
use Rattle.stream.specs.declared.Stream.{Stream}
use Rattle.stream.specs.State.{ended}
use Rattle.stream.specs.Steps.{StepResult, done_step, tag_rows, begin_by, begin_sealer, begin_opener}
use Rattle.demands.specs.Figures.{over, header_blocks, whole_work}
use Rattle.demands.specs.Model.{ModelState, After, fresh, wants, whole_accepts, output_before, work_after, model_number, model_step, model_run}
use Rattle.demands.specs.Run.{Begin, sealer, opener, Start, undivided, divided, Call, add, turn, write, close, feed, finish, begun, Entry, run}
use Rattle.demands.specs.Third.{begin_work, one_piece, gave_by, gave, no_finish, state_by, AsModel, AsSealed, fed, AsOpened, ThirdDemand}
use Rattle.demands.specs.Second.{Admits}
use Rattle.demands.specs.State.{state_of}
use Rattle.demands.proofs.Figures.{blocks_all, keyed, sums}
use Rattle.demands.proofs.Head.{admitted, begun_work, divided_as_undivided}
use Rattle.demands.proofs.Pieces.{begun_zero, built_of, state_figures, adding_state, writing_state, feeding_state, begin_state, streamed-append, streamed_rest}
use Rattle.demands.proofs.Siv.{length-tag}
use Rattle.demands.proofs.Steps.{model_of, Known, adding, writing, closed, feeding, finished, Steps, step, known_shown, accepts_genuine, refused_after, done_after, model_wrong, unwanted}
use Rattle.demands.proofs.Whole.{judged, open_gives, open_wipes, accepts_the_sealed}

streamed_nil : (key v : List ℕ) → streamed key v [] ≡ []
unfolding streamed xor_stream xors
streamed_nil key v = refl

over_nil : (l : List ℕ) → over l 0 [] ≡ l
over_nil l = refl

module _ (key bytes lens : List ℕ) (a : Admits key bytes lens) where
  -- ---- begin

  -- a begin from a head gives what the begin from the whole list gives, but for its work
  from : (start : Start) (begin : Begin) (s : Stream) → begun key bytes lens undivided begin ≡ done_step 0 (begin_work lens undivided) s []
      → begun key bytes lens start begin ≡ done_step 0 (begin_work lens start) s []
  from undivided begin s e = e
  from (divided n) begin s e =
      let same = (divided_as_undivided.splits key bytes lens a n).begins begin in
      let number = same.number ∙ ap (λ (r : StepResult). r.outcome.number) e in
      let count = same.count ∙ ap (λ (r : StepResult). r.outcome.count) e in
      let work = begun_work key bytes lens (divided n) begin number in
      let state = same.state ∙ ap (λ (r : StepResult). r.state) e in
      let output = same.output ∙ ap (λ (r : StepResult). r.output) e in
      λ i. record { outcome = record { number = number i; count = count i; work = work i }; state = state i; output = output i }

  sealer_begins : (start : Start) → begun key bytes lens start sealer ≡ done_step 0 (begin_work lens start) (adding_state key (strings bytes lens) []) []
  unfolding begin_sealer
  sealer_begins start =
      from start sealer (adding_state key (strings bytes lens) [])
      (ap₂ (λ (n w : ℕ). begin_by n w (head_of key (strings bytes lens)) 1 zeros) (admitted key bytes lens a) (head_lengths bytes lens (omega (arith, sums a)) ∙ ap (λ (n : ℕ). 2 + n) (blocks_all lens))
      ∙ ap (λ (s : Stream). done_step 0 (2 + header_blocks lens) s []) (begin_state key (strings bytes lens) 1 zeros))

  opener_begins : (start : Start) (T : List ℕ) → length T ≡ 16 → begun key bytes lens start (opener T) ≡ done_step 0 (begin_work lens start) (feeding_state key (strings bytes lens) T []) []
  unfolding begin_opener
  opener_begins start T t =
      from start (opener T) (feeding_state key (strings bytes lens) T [])
      (ap₂ (λ (n w : ℕ). begin_by n w (head_of key (strings bytes lens)) 3 T)
      (first_pass (header_rows (length key) lens (length bytes)) (tag_rows (length T)) refl (admitted key bytes lens a)
      ∙ ap (λ (b : Bool). cond (not b) 5 0) (eq-eqb (length T) 16 t))
      (head_lengths bytes lens (omega (arith, sums a)) ∙ ap (λ (n : ℕ). 2 + n) (blocks_all lens))
      ∙ ap (λ (s : Stream). done_step 0 (2 + header_blocks lens) s [])
      (begin_state key (strings bytes lens) 3 T ∙ ap (λ (k : List ℕ). built_of key (strings bytes lens) 3 T k 0 []) (sym (begun_zero (aes (ctr_key key)) T))))

  module _ (shared : List ℕ) where
    pub sealer_known : (start : Start) → Known key bytes lens shared sealer (fresh sealer) (begun key bytes lens start sealer).state shared
    sealer_known start =
        subst (λ (r : StepResult). Known key bytes lens shared sealer (fresh sealer) r.state shared) (sym (sealer_begins start)) (adding [] (omega arith))

    pub opener_known : (start : Start) (T : List ℕ) → length T ≡ 16 → Known key bytes lens shared (opener T) (fresh (opener T)) (begun key bytes lens start (opener T)).state shared
    opener_known start T t =
        subst (λ (r : StepResult). Known key bytes lens shared (opener T) (fresh (opener T)) r.state shared) (sym (opener_begins start T t))
        (subst (Known key bytes lens shared (opener T) (fresh (opener T)) (feeding_state key (strings bytes lens) T [])) (ap (over shared 0) (streamed_nil key T) ∙ over_nil shared)
        (subst (λ (P : List ℕ). Known key bytes lens shared (opener T) (fresh (opener T)) (feeding_state key (strings bytes lens) T P) (over shared 0 (streamed key T []))) (streamed_nil key T)
        (feeding T [] t (omega arith) (omega arith))))

    -- ---- any list of calls

    pub runs : (begin : Begin) (calls : List Call) (b : ModelState) (s : Stream) (o : List ℕ) → Known key bytes lens shared begin b s o
        → ((run s o calls).entries ≡ (model_run key bytes lens begin shared b calls).entries)
        × Known key bytes lens shared begin (model_run key bytes lens begin shared b calls).model (run s o calls).state (run s o calls).shared
    runs begin [] b s o k = (refl, k)
    runs begin (c ∷ cs) b s o k =
        let here : Steps key bytes lens shared a begin b s o c = step key bytes lens shared a begin b s o c k in
        let rest = runs begin cs _ _ _ here.next in
        (ap₂ (λ (e : Entry) (es : List Entry). e ∷ es) here.entry rest.0, rest.1)

    -- the state that stands for what the model keeps
    abbrev built_by : Begin → ModelState → Stream
    built_by sealer b =
        cond (eqb b.stage 1) (adding_state key (strings bytes lens) b.A) (cond (eqb b.stage 2) (writing_state key (strings bytes lens) b.A b.W) ended)
    built_by (opener T) b = cond (eqb b.stage 3) (feeding_state key (strings bytes lens) T (streamed key T b.A)) ended

    known_state : (begin : Begin) (b : ModelState) (s : Stream) (o : List ℕ) → Known key bytes lens shared begin b s o → s ≡ built_by begin b
    known_state begin b s o (adding A l) = refl
    known_state begin b s o (writing A W l w) = refl
    known_state begin b s o (closed A W) = refl
    known_state begin b s o (feeding T A t l r) = refl
    known_state begin b s o (finished T A _ e) = refl

    -- in figures
    known_figures : (begin : Begin) (b : ModelState) (s : Stream) (o : List ℕ) → Known key bytes lens shared begin b s o → s ≡ state_by key bytes lens begin b
    unfolding begun_block
    known_figures begin b s o (adding A l) = state_figures key (strings bytes lens) (keyed a) 1 zeros zeros 0 A
    known_figures begin b s o (writing A W l w) =
        let v = tag_of key (strings bytes lens) A in
        state_figures key (strings bytes lens) (keyed a) 2 v (begun_block (aes (ctr_key key)) v (length W)) (length W) A
    known_figures begin b s o (closed A W) = refl
    known_figures begin b s o (feeding T A t l r) =
        let P = streamed key T A in
        state_figures key (strings bytes lens) (keyed a) 3 T (begun_block (aes (ctr_key key)) T (length P)) 0 P
        ∙ ap (λ (n : ℕ). state_of key (strings bytes lens) 3 T (begun_block (aes (ctr_key key)) T n) 0 P) (length-streamed key T A)
    known_figures begin b s o (finished T A _ e) = refl

    -- of the same bytes in one piece the model keeps the same
    one_model : (begin : Begin) (b : ModelState) (s : Stream) (o : List ℕ) → Known key bytes lens shared begin b s o → eqb b.stage 0 ≡ false
        → (model_run key bytes lens begin shared (fresh begin) (one_piece b)).model ≡ b
    unfolding model_step
    one_model begin b s o (adding A l) z = simp (le-ltb limit (length A) l)
    one_model begin b s o (writing A W l w) z = simp (le-ltb limit (length A) l, le-ltb (length A) (length W) w, le-ltb (length W) (length W) (omega arith)) refl
    one_model begin b s o (closed A W) z = absurd (true≢false z)
    one_model begin b s o (feeding T A t l r) z = simp (le-ltb limit (length A) l, le-ltb (length shared) (length A) r)
    one_model begin b s o (finished T A _ e) z = absurd (true≢false z)

    zero_state : (begin : Begin) (b : ModelState) (s : Stream) (o : List ℕ) → Known key bytes lens shared begin b s o → eqb b.stage 0 ≡ true → built_by begin b ≡ ended
    zero_state begin b s o (adding A l) z = absurd (false≢true z)
    zero_state begin b s o (writing A W l w) z = absurd (false≢true z)
    zero_state begin b s o (closed A W) z = refl
    zero_state begin b s o (feeding T A t l r) z = absurd (false≢true z)
    zero_state begin b s o (finished T A _ e) z = refl

    as_one_piece : (begin : Begin) (s₀ : Stream) → Known key bytes lens shared begin (fresh begin) s₀ shared → (b : ModelState) (s : Stream) (o : List ℕ) → Known key bytes lens shared begin b s o
        → s ≡ cond (eqb b.stage 0) ended (run s₀ shared (one_piece b)).state
    as_one_piece begin s₀ k₀ b s o k = go (eqb b.stage 0) refl
      where
        go : (t : Bool) → eqb b.stage 0 ≡ t → s ≡ cond t ended (run s₀ shared (one_piece b)).state
        go true z = known_state begin b s o k ∙ zero_state begin b s o k z
        go false z =
            known_state begin b s o k
            ∙ ap (built_by begin) (sym (one_model begin b s o k z))
            ∙ sym (known_state begin _ _ _ (runs begin (one_piece b) (fresh begin) s₀ shared k₀).1)

    as_model : (start : Start) (begin : Begin) (s : Stream) → begun key bytes lens start begin ≡ done_step 0 (begin_work lens start) s []
        → ((start : Start) → Known key bytes lens shared begin (fresh begin) (begun key bytes lens start begin).state shared) → (calls : List Call)
        → AsModel key bytes lens begin shared calls start
    as_model start begin s e k calls =
        let r = runs begin calls (fresh begin) (begun key bytes lens start begin).state shared (k start) in
        record {
          begins = ap (λ (r : StepResult). r.outcome) e;
          entries = r.0;
          output = known_shown key bytes lens shared a begin _ _ _ r.1;
          state = known_figures begin _ _ _ r.1;
          one_piece_state = as_one_piece begin (begun key bytes lens undivided begin).state (k undivided) _ _ _ r.1;
        }

    -- ---- what turn and the writes gave

    -- what a sealer has given when the model keeps b
    abbrev so_far : ModelState → List ℕ
    so_far b =
        cond (eqb b.stage 1) []
        (tag_of key (strings bytes lens) b.A ++ streamed key (tag_of key (strings bytes lens) b.A) b.W)

    -- a call gave what the model shows more
    abbrev Gave : ModelState → Call → Type 0
    Gave b c = so_far b ++ gave_by c (model_step key bytes lens sealer shared b c).entry ≡ so_far (model_step key bytes lens sealer shared b c).model

    -- from what the model comes to
    gave_by_lem : (b : ModelState) (c : Call) (m : After) → model_step key bytes lens sealer shared b c ≡ m → so_far b ++ gave_by c m.entry ≡ so_far m.model → Gave b c
    gave_by_lem b c m e p = ap (λ (x : After). so_far b ++ gave_by c x.entry) e ∙ p ∙ ap (λ (x : After). so_far x.model) (sym e)

    -- a refused call gave nothing and leaves the model
    refused_gave : (b : ModelState) (c : Call) (n : ℕ) → model_step key bytes lens sealer shared b c ≡ refused_after key bytes lens shared a sealer b c n → Gave b c
    refused_gave b c n e =
        gave_by_lem b c (refused_after key bytes lens shared a sealer b c n) e
        (ap (λ (l : List ℕ). so_far b ++ l) (none c (output_before key bytes lens sealer shared b c)) ∙ append-nil (so_far b))
      where
        none : (c : Call) (l : List ℕ) → gave_by c (record { outcome = refusal n; output = l }) ≡ []
        none (add piece) l = refl
        none (turn output) l = refl
        none (write piece output) l = refl
        none close l = refl
        none (feed piece) l = refl
        none finish l = refl

    wrong_gave : (b : ModelState) (c : Call) → eqb b.stage (wants c) ≡ false → Gave b c
    wrong_gave b c e = refused_gave b c 9 (model_wrong key bytes lens shared a sealer b c e)

    -- what turn and write over to the front of an output is read off it
    read_front : (output s : List ℕ) (n : ℕ) → length s ≡ n → n ≤ length output → take n (over output 0 s) ≡ s
    unfolding put
    read_front output s n e h =
        let count : n ≡ 0 + length s = omega arith in
        ap (λ (k : ℕ). take k (over output 0 s)) count ∙ take_put output 0 s (omega arith)

    add-gave : (A piece : List ℕ) → Gave (model_of 1 A []) (add piece)
    unfolding model_step
    add-gave A piece = go (ltb limit (length (A ++ piece))) refl
      where
        go : (t : Bool) → ltb limit (length (A ++ piece)) ≡ t → Gave (model_of 1 A []) (add piece)
        go true e = refused_gave (model_of 1 A []) (add piece) 4 (simp e)
        go false e = gave_by_lem (model_of 1 A []) (add piece) (done_after key bytes lens shared a sealer (model_of 1 A []) (add piece) 0) (simp e) refl

    turn_gave : (A output : List ℕ) → Gave (model_of 1 A []) (turn output)
    unfolding model_step
    turn_gave A output = go (ltb (length output) 16) refl
      where
        go : (t : Bool) → ltb (length output) 16 ≡ t → Gave (model_of 1 A []) (turn output)
        go true e = refused_gave (model_of 1 A []) (turn output) 6 (simp e)
        go false e =
            let v : List ℕ = tag_of key (strings bytes lens) A in
            gave_by_lem (model_of 1 A []) (turn output) (done_after key bytes lens shared a sealer (model_of 1 A []) (turn output) 0) (simp e)
            (read_front output v 16 (length-tag key (strings bytes lens) A) (ltb-false (length output) 16 e)
            ∙ sym (ap (λ (l : List ℕ). v ++ l) (streamed_nil key v) ∙ append-nil v))

    write_gave : (A W piece output : List ℕ) → Gave (model_of 2 A W) (write piece output)
    unfolding model_step
    write_gave A W piece output = go (ltb (length A) (length (W ++ piece))) refl (ltb (length output) (length piece)) refl
      where
        v : List ℕ
        v = tag_of key (strings bytes lens) A

        rest : List ℕ
        rest = drop (length W) (streamed key v (W ++ piece))

        long : length rest ≡ length piece
        long = length-drop (length W) (streamed key v (W ++ piece)) ∙ omega (arith, length-streamed key v (W ++ piece), length-append W piece)

        joined : streamed key v W ++ rest ≡ streamed key v (W ++ piece)
        joined = ap (λ (l : List ℕ). streamed key v W ++ l) (streamed_rest key v W piece) ∙ sym (streamed-append key v W piece)

        go : (t : Bool) → ltb (length A) (length (W ++ piece)) ≡ t → (u : Bool) → ltb (length output) (length piece) ≡ u → Gave (model_of 2 A W) (write piece output)
        go true e u f = refused_gave (model_of 2 A W) (write piece output) 4 (simp e)
        go false e true f = refused_gave (model_of 2 A W) (write piece output) 6 (simp (e, f))
        go false e false f =
            gave_by_lem (model_of 2 A W) (write piece output) (done_after key bytes lens shared a sealer (model_of 2 A W) (write piece output) 0) (simp (e, f))
            (ap (λ (l : List ℕ). v ++ streamed key v W ++ l) (read_front output rest (length piece) long (ltb-false (length output) (length piece) f))
            ∙ append_assoc v (streamed key v W) rest
            ∙ ap (λ (l : List ℕ). v ++ l) joined)

    close_gave : (A W : List ℕ) → Gave (model_of 2 A W) close
    unfolding model_step
    close_gave A W = go (ltb (length W) (length A)) refl
      where
        go : (t : Bool) → ltb (length W) (length A) ≡ t → Gave (model_of 2 A W) close
        go true e = refused_gave (model_of 2 A W) close 9 (simp e)
        go false e = gave_by_lem (model_of 2 A W) close (done_after key bytes lens shared a sealer (model_of 2 A W) close 0) (simp e) (append-nil (so_far (model_of 2 A W)))

    gave_step : (b : ModelState) (s : Stream) (o : List ℕ) (c : Call) → Known key bytes lens shared sealer b s o → Gave b c
    gave_step b s o (add piece) (adding A l) = add-gave A piece
    gave_step b s o (turn output) (adding A l) = turn_gave A output
    gave_step b s o (write piece output) (adding A l) = wrong_gave (model_of 1 A []) (write piece output) refl
    gave_step b s o close (adding A l) = wrong_gave (model_of 1 A []) close refl
    gave_step b s o (feed piece) (adding A l) = wrong_gave (model_of 1 A []) (feed piece) refl
    gave_step b s o finish (adding A l) = wrong_gave (model_of 1 A []) finish refl
    gave_step b s o (add piece) (writing A W l w) = wrong_gave (model_of 2 A W) (add piece) refl
    gave_step b s o (turn output) (writing A W l w) = wrong_gave (model_of 2 A W) (turn output) refl
    gave_step b s o (write piece output) (writing A W l w) = write_gave A W piece output
    gave_step b s o close (writing A W l w) = close_gave A W
    gave_step b s o (feed piece) (writing A W l w) = wrong_gave (model_of 2 A W) (feed piece) refl
    gave_step b s o finish (writing A W l w) = wrong_gave (model_of 2 A W) finish refl
    gave_step b s o c (closed A W) = wrong_gave (model_of 0 A W) c (unwanted c)

    gave_run : (calls : List Call) (b : ModelState) (s : Stream) (o : List ℕ) → Known key bytes lens shared sealer b s o
        → so_far b ++ gave calls (model_run key bytes lens sealer shared b calls).entries ≡ so_far (model_run key bytes lens sealer shared b calls).model
    gave_run [] b s o k = append-nil (so_far b)
    gave_run (c ∷ cs) b s o k =
        let m : After = model_step key bytes lens sealer shared b c in
        let rest : List ℕ = gave cs (model_run key bytes lens sealer shared m.model cs).entries in
        sym (append_assoc (so_far b) (gave_by c m.entry) rest)
        ∙ ap (λ (l : List ℕ). l ++ rest) (gave_step b s o c k)
        ∙ gave_run cs m.model _ _ (step key bytes lens shared a sealer b s o c k).next

    -- the first bytes of a sealed string
    sealed_front : (A W : List ℕ) → take (length W) A ≡ W
        → tag_of key (strings bytes lens) A ++ streamed key (tag_of key (strings bytes lens) A) W ≡ take (16 + length W) (sealed key (strings bytes lens) A)
    unfolding sealed
    sealed_front A W e =
        let v : List ℕ = tag_of key (strings bytes lens) A in
        let n : ℕ = length W in
        let tagged : length v ≡ 16 = length-tag key (strings bytes lens) A in
        let place : length v + n ≡ 16 + n = omega arith in
        let halves : streamed key v A ≡ streamed key v W ++ xor_stream (aes (ctr_key key)) v (length W) (drop n A) =
        ap (streamed key v) (sym (take-append-drop n A) ∙ ap (λ (l : List ℕ). l ++ drop n A) e) ∙ streamed-append key v W (drop n A) in
        ap (λ (l : List ℕ). v ++ l) (sym (ap (take n) halves ∙ take_at (streamed key v W) (xor_stream (aes (ctr_key key)) v (length W) (drop n A)) n (length-streamed key v W)))
        ∙ sym (take-append-add v (streamed key v A) n)
        ∙ ap (λ (k : ℕ). take k (v ++ streamed key v A)) place

    as_sealed : (start : Start) (calls : List Call) → AsSealed key bytes lens shared calls start
    as_sealed start calls =
        let r = runs sealer calls (fresh sealer) (begun key bytes lens start sealer).state shared (sealer_known start) in
        let b : ModelState = (model_run key bytes lens sealer shared (fresh sealer) calls).model in
        let joined = ap (gave calls) r.0 ∙ gave_run calls (fresh sealer) (begun key bytes lens start sealer).state shared (sealer_known start) in
        record { joined = joined; first_bytes = λ e. joined ∙ go b e (eqb b.stage 1) }
      where
        go : (b : ModelState) → take (length b.W) b.A ≡ b.W → (t : Bool)
            → cond t [] (tag_of key (strings bytes lens) b.A ++ streamed key (tag_of key (strings bytes lens) b.A) b.W)
            ≡ take (cond t 0 (16 + length b.W)) (sealed key (strings bytes lens) b.A)
        go b e true = refl
        go b e false = sealed_front b.A b.W e

    -- ---- the first finish

    module _ (T : List ℕ) (tagged : length T ≡ 16) where
      wrong_stays : (b : ModelState) (c : Call) → b.stage ≡ 3 → eqb b.stage (wants c) ≡ false → (model_step key bytes lens (opener T) shared b c).model.stage ≡ 3
      wrong_stays b c e w = ap (λ (m : After). m.model.stage) (model_wrong key bytes lens shared a (opener T) b c w) ∙ e

      feed_stays : (b : ModelState) (piece : List ℕ) → b.stage ≡ 3 → (model_step key bytes lens (opener T) shared b (feed piece)).model.stage ≡ 3
      unfolding model_step
      feed_stays b piece e = go (eqb (model_number key bytes lens (opener T) shared b (feed piece)) 0 || eqb (model_number key bytes lens (opener T) shared b (feed piece)) 8)
        where
          done : After
          done = done_after key bytes lens shared a (opener T) b (feed piece) (model_number key bytes lens (opener T) shared b (feed piece))

          left : After
          left = refused_after key bytes lens shared a (opener T) b (feed piece) (model_number key bytes lens (opener T) shared b (feed piece))

          go : (t : Bool) → (cond t done left).model.stage ≡ 3
          go true = refl
          go false = e

      -- an opener stays in stage 3 until a finish
      stays : (b : ModelState) (c : Call) → b.stage ≡ 3 → no_finish (c ∷ []) ≡ true → (model_step key bytes lens (opener T) shared b c).model.stage ≡ 3
      stays b (add piece) e n = wrong_stays b (add piece) e (ap (λ (k : ℕ). eqb k 1) e)
      stays b (turn output) e n = wrong_stays b (turn output) e (ap (λ (k : ℕ). eqb k 1) e)
      stays b (write piece output) e n = wrong_stays b (write piece output) e (ap (λ (k : ℕ). eqb k 2) e)
      stays b close e n = wrong_stays b close e (ap (λ (k : ℕ). eqb k 2) e)
      stays b (feed piece) e n = feed_stays b piece e
      stays b finish e n = absurd (false≢true n)

      stays_run : (calls : List Call) (b : ModelState) → b.stage ≡ 3 → no_finish calls ≡ true → (model_run key bytes lens (opener T) shared b calls).model.stage ≡ 3
      stays_run [] b e n = e
      stays_run (add piece ∷ cs) b e n = stays_run cs _ (stays b (add piece) e refl) n
      stays_run (turn output ∷ cs) b e n = stays_run cs _ (stays b (turn output) e refl) n
      stays_run (write piece output ∷ cs) b e n = stays_run cs _ (stays b (write piece output) e refl) n
      stays_run (close ∷ cs) b e n = stays_run cs _ (stays b close e refl) n
      stays_run (feed piece ∷ cs) b e n = stays_run cs _ (stays b (feed piece) e refl) n
      stays_run (finish ∷ cs) b e n = absurd (false≢true n)

      -- what is fed lies within the limit and within the output
      limits : (begin : Begin) (b : ModelState) (s : Stream) (o : List ℕ) → Known key bytes lens shared begin b s o → b.stage ≡ 3 → (length b.A ≤ limit) × (length b.A ≤ length shared)
      limits begin b s o (adding A l) e = absurd (omega (arith, e))
      limits begin b s o (writing A W l w) e = absurd (omega (arith, e))
      limits begin b s o (closed A W) e = absurd (omega (arith, e))
      limits begin b s o (feeding T A t l r) e = (l, r)
      limits begin b s o (finished T A _ x) e = absurd (omega (arith, e))

      -- finish, as the model has it, against whole opening of the tag and all that was fed
      module _ (b : ModelState) (at : b.stage ≡ 3) (within : length b.A ≤ limit) (output_fits : length b.A ≤ length shared) (output scratch : List ℕ)
          (large : length b.A ≤ length output) (scratch_fits : max (length b.A) 16 ≤ length scratch) where
        y : List ℕ
        y = T ++ b.A

        long : length y ≡ 16 + length b.A
        unfolding y
        long = length-append T b.A ∙ omega arith

        passes : open_judged key bytes lens y output scratch ≡ 0
        passes = judged key bytes lens y output scratch a (omega (arith, long)) (omega (arith, long)) (omega (arith, long)) (omega (arith, long))

        said : (t : Bool) → whole_accepts key bytes lens T b.A ≡ t
            → (model_step key bytes lens (opener T) shared b finish).entry
            ≡ record {
              outcome = record { number = cond (not t) 8 0; count = cond t (length b.A) 0; work = work_after key bytes lens (opener T) shared b finish };
              output = over shared 0 (cond t (opened key (T ++ b.A)) (replicate (length b.A) 0));
            }
        unfolding model_step
        said true h = simp (eq-eqb b.stage 3 at, h)
        said false h = simp (eq-eqb b.stage 3 at, h)

        -- finish has the number and the length of an outcome, and its own work
        abbrev entry : Outcome → List ℕ → Entry
        entry o s =
            record {
              outcome = record { number = o.number; count = o.count; work = work_after key bytes lens (opener T) shared b finish };
              output = over shared 0 s;
            }

        agrees : (model_step key bytes lens (opener T) shared b finish).entry
            ≡ entry (open_call key bytes lens (T ++ b.A) output scratch).outcome (take (length b.A) (open_call key bytes lens (T ++ b.A) output scratch).output)
        unfolding y
        agrees = go (genuine key (strings bytes lens) y) refl
          where
            n : ℕ
            n = length b.A

            count : length (opened key y) ≡ n
            count = length-opened key y ∙ omega (arith, long)

            go : (t : Bool) → genuine key (strings bytes lens) y ≡ t
                → (model_step key bytes lens (opener T) shared b finish).entry
                ≡ entry (open_call key bytes lens y output scratch).outcome (take n (open_call key bytes lens y output scratch).output)
            go true g =
                let gives = open_gives key bytes lens y output scratch passes g in
                said true (accepts_genuine key bytes lens shared a T b.A tagged within output_fits ∙ g)
                ∙ ap₂ entry (sym (gives.0 ∙ ap (λ (k : ℕ). success k (whole_work lens (length y - 16))) count)) (sym (ap (take n) gives.1 ∙ read_front output (opened key y) n count large))
            go false g =
                let wipes = open_wipes key bytes lens y output scratch passes g in
                let zeroed : length y - 16 ≡ n = omega (arith, long) in
                said false (accepts_genuine key bytes lens shared a T b.A tagged within output_fits ∙ g)
                ∙ ap₂ entry (sym wipes.0)
                (sym (ap (take n) (wipes.1 ∙ ap (λ (k : ℕ). over output 0 (replicate k 0)) zeroed) ∙ read_front output (replicate n 0) n (length-replicate {A = ℕ} n 0) large))

      as_opened : (start : Start) (calls : List Call) (output scratch : List ℕ) → no_finish calls ≡ true → length (fed key bytes lens T shared calls) ≤ length output
          → max (length (fed key bytes lens T shared calls)) 16 ≤ length scratch → AsOpened key bytes lens T shared calls output scratch start
      as_opened start calls output scratch none large scratch_fits =
          let r = runs (opener T) calls (fresh (opener T)) (begun key bytes lens start (opener T)).state shared (opener_known start T tagged) in
          let at = stays_run calls (fresh (opener T)) refl none in
          let lim = limits (opener T) _ _ _ r.1 at in
          let whole = (step key bytes lens shared a (opener T) _ _ _ finish r.1).entry ∙ agrees (model_run key bytes lens (opener T) shared (fresh (opener T)) calls).model at lim.0 lim.1 output scratch large scratch_fits in
          record { number = ap (λ (e : Entry). e.outcome.number) whole; count = ap (λ (e : Entry). e.outcome.count) whole; plaintext = ap (λ (e : Entry). e.output) whole }

pub accepts_the_sealed_and_follows_the_model : ThirdDemand
accepts_the_sealed_and_follows_the_model key bytes lens a =
    record {
      whole = λ y output scratch. accepts_the_sealed key bytes lens y output scratch a;
      sealers = λ start shared. as_model key bytes lens a shared start sealer _ (sealer_begins key bytes lens a start) (sealer_known key bytes lens a shared);
      openers = λ start T shared calls t.
          as_model key bytes lens a shared start (opener T) _ (opener_begins key bytes lens a start T t) (λ begun. opener_known key bytes lens a shared begun T t) calls;
      seals = λ start shared. as_sealed key bytes lens a shared start;
      opens = λ start T shared calls output scratch t. as_opened key bytes lens a shared T t start calls output scratch;
    }
