-- Laws of what refusal 9 judges, of the tail and of the calls' results.
-- Assumes nothing.
use mathlib.Core.Path.{◌≡◌, refl, ap, ap₂, sym, subst, ◌∙◌}
use mathlib.Core.Bool.{Bool, true, false, not, cond, ◌&&◌, and-eq-true_iff}
use mathlib.Core.List.{List, [], ◌∷◌, ◌++◌, append_assoc}
use native.Mathlib.Nat.{zero-add}
use Prim.Native.Nat.{ℕ, ◌+◌, ◌-◌, ◌≤◌}
use native.Mathlib.Decide.{ℕ_discrete}
use native.Mathlib.Omega.{arith}
use lib.Dec.{eqb, ltb}
use lib.ListN.{length, take, drop, replicate}
use lib.Seq.{length-take-le, take_at, drop_at}
use borrow.Author.Tests.{eqb-true, eq-eqb, ne_eqb, ltb-false, not-true, not-false}
use Rattle.octets.specs.Octets.{put, same}
use Rattle.octets.proofs.Strings.{part_to}
use Rattle.aes.specs.Aes.{is_width}
use Rattle.aes.specs.Cipher.{cipher}
use Rattle.aes.proofs.Widths.{width}
use Rattle.s2v.specs.S2v.{tail_length}
use Rattle.keystream.proofs.Laws.{length-xor_piece}
use Rattle.std.specs.Prelude.{Err}
use Rattle.std.specs.Array.{IsWholeChunk}
use Rattle.answers.specs.declared.Refusal.{Refusal}
use Rattle.answers.specs.Answer.{Outcome, Row, row, first, settle, Judges, Judgement, judged, number_of, outcome_of}
use Rattle.answers.proofs.Laws.{was_due, lacks, outcome_number, outcome_work, not_due, first-append, settle_complete, settle_refused, by_complete, by_refusal, settle_rows, settle_test}
use Rattle.tail.specs.declared.Absorbed.{Absorbed}
use Rattle.tail.specs.Tail.{AfterPiece}
use Rattle.whole.specs.Calls.{limit}
use Rattle.head.specs.declared.Head.{Head}
use Rattle.head.specs.declared.Made.{Made}
use Rattle.head.specs.Head.{MakeResult, DidMake, made_head, refused_head}
use Rattle.head.proofs.Laws.{Zeros, zeros_by_default}
use Rattle.stream.specs.declared.Step.{Step}
use Rattle.stream.specs.declared.Stream.{Stream}
use Rattle.stream.specs.State.{written_limit, kept_fits, fits, Fit, state_with, Absorbs, added, added_work, ended, start, tag_of_state, tag_of_state_work, streamed_at}
use Rattle.stream.specs.Steps.{StepResult, DidStep, done_step, refused_step, forged_step, begin_by, tag_rows, finish_step, write_rows, finish_rows}

-- ---- what refusal 9 judges

pub fit : (wanted : ℕ) (s : Stream) → fits wanted s ≡ true → Fit s
unfolding fits
fit wanted s e =
    let judged =
    eqb s.stage wanted && is_width s.width && not (ltb limit s.total) && not (ltb (written_limit wanted s.total) s.written) && eqb s.tail_len (tail_length s.total) in
    let k = (and-eq-true_iff judged (kept_fits wanted s)).0 ((and-eq-true_iff (judged && kept_fits wanted s) _).0 e).0 in
    let t = (and-eq-true_iff _ (eqb s.tail_len (tail_length s.total))).0 k.0 in
    let b = (and-eq-true_iff _ (not (ltb (written_limit wanted s.total) s.written))).0 t.0 in
    let d = (and-eq-true_iff _ (not (ltb limit s.total))).0 b.0 in
    record {
      width = (width s.width ((and-eq-true_iff (eqb s.stage wanted) (is_width s.width)).0 d.0).1).high;
      total = ltb-false limit s.total (not-true (ltb limit s.total) d.1);
      tail_len = eqb-true s.tail_len (tail_length s.total) t.1;
    }

-- what was judged of a state by a test that says whether it fits
pub judged_by : (wanted : ℕ) (s : Stream) (rest : ℕ) {f : Bool} {n : ℕ} → f ≡ fits wanted s → n ≡ cond (not f) 9 rest → n ≡ cond (not (fits wanted s)) 9 rest
judged_by wanted s rest e o = o ∙ ap (λ (f : Bool). cond (not f) 9 rest) e

-- a write's, whose output is filled from place 0 on
pub write_judged : (s : Stream) (n output : ℕ) {f : Bool} {k : ℕ} → f ≡ fits 2 s
    → k ≡ first (row 9 (not f) ∷ row 4 (ltb s.total (s.written + n)) ∷ row 6 (ltb output (0 + n)) ∷ []) → k ≡ first (write_rows s n output)
write_judged s n output e o = simp zero-add at (judged_by 2 s _ e o)

-- ---- the calls' results

module _ (n : ℕ) (result : StepResult) (s : Stream) (output : List ℕ) {step : Step} {last : List ℕ} where
  pub refused : (r : Refusal) → number_of r ≡ n → DidStep (refused_step (number_of r) s output) step last → DidStep (settle n result (λ m. refused_step m s output)) step last
  refused r k d = by_refusal n result (λ o. record { outcome = o; state = s; output = output }) (λ (g : StepResult). DidStep g step last) r k d

  pub done : 0 ≡ n → DidStep result step last → DidStep (settle n result (λ m. refused_step m s output)) step last
  done e d = by_complete n result (λ m. refused_step m s output) (λ (g : StepResult). DidStep g step last) (sym e) d

-- a state that is another is handed back as that
pub in_state : {o : Outcome} {s t : Stream} {output last : List ℕ} {step : Step} → s ≡ t → DidStep (record { outcome = o; state = s; output = output }) step last
    → DidStep (record { outcome = o; state = t; output = output }) step last
in_state e d = record { outcome = d.outcome; state = d.state ∙ e; output = d.output }

-- the default of each field makes the ended state
pub ended_by_default : (s : Stream)
    → (s.stage ≡ 0) × ((s.width ≡ 0) × (Zeros s.mac_keys 240 × (Zeros s.ctr_keys 240 × (Zeros s.l 16 × (Zeros s.d 16 × (Zeros s.chain 16 × (Zeros s.v 16
    × (Zeros s.kept 16 × ((s.total ≡ 0) × ((s.written ≡ 0) × ((s.tail_len ≡ 0) × Zeros s.tail 31)))))))))))
    → s ≡ ended
ended_by_default s (stage, (width, (macs, (ctrs, (l, (d, (chain, (v, (kept, (total, (written, (len, tail)))))))))))) =
    let z : (n : ℕ) (xs : List ℕ) → Zeros xs n → xs ≡ replicate n 0 = zeros_by_default in
    let made : state_with s s.chain s.total s.tail_len s.tail ≡ ended =
    simp (stage, width, z _ _ macs, z _ _ ctrs, z _ _ l, z _ _ d, z _ _ chain, z _ _ v, z _ _ kept, total, written, len, z _ _ tail) refl in
    made

-- ---- what the refusals leave

-- a state that is not refused fits
pub admits : (wanted rest : ℕ) {s : Stream} {f : Bool} → f ≡ fits wanted s → 0 ≡ cond (not f) 9 rest → Fit s
admits wanted rest {s} e none = fit wanted s (sym e ∙ not-false _ (not_due _ 8 rest (sym none)).0)

-- a piece that is not refused is within its limit, and has room in the output
pub piece_admits : (f : Bool) (most used n at output : ℕ)
    → 0 ≡ first (row 9 (not f) ∷ row 4 (ltb most (used + n)) ∷ row 6 (ltb output (at + n)) ∷ []) → (used + n ≤ most) × (at + n ≤ output)
piece_admits f most used n at output e =
    let b = not_due (ltb most (used + n)) 3 _ (not_due (not f) 8 _ (sym e)).1 in
    (ltb-false most (used + n) b.0, ltb-false output (at + n) (not_due (ltb output (at + n)) 5 0 b.1).0)

-- ---- what is done once a call is admitted

-- with the fields that a piece leaves, a state is the one with the piece
pub absorbed : (s : Stream) (text : List ℕ) {left : Absorbed} → AfterPiece (cipher s.width s.mac_keys) s.chain s.total s.tail text left → Absorbs s text left
unfolding added added_work
absorbed s text l = record { state = simp (l.chain.block, l.total, l.tail_len, l.tail); work = l.chain.work }

-- ---- feed and finish

pub length-streamed_at : (s : Stream) (place : ℕ) (text : List ℕ) → length (streamed_at s place text) ≡ length text
unfolding streamed_at
length-streamed_at s place text = length-xor_piece (cipher s.width s.ctr_keys) s.v s.kept place text

-- what was written to a slice is read from there
pub read_back : (l : List ℕ) (at n : ℕ) (p : List ℕ) {last : List ℕ} → last ≡ put l at p → length p ≡ n → at + n ≤ length l → take (at + n - at) (drop at last) ≡ p
unfolding put
read_back l at n p e long room =
    let front : length (take at l) ≡ at = length-take-le at l (omega arith) in
    ap (λ (x : List ℕ). take (at + n - at) (drop at x)) (e ∙ append_assoc (take at l) p (drop (at + length p) l))
    ∙ part_to (take at l ++ (p ++ drop (at + length p) l)) at n
    ∙ ap (take n) (drop_at (take at l) (p ++ drop (at + length p) l) at front)
    ∙ take_at p (drop (at + length p) l) n long

module _ (s : Stream) (output : List ℕ) where
  abbrev table : List Row
  table = finish_rows s (length output)

  abbrev test : Bool
  test = same (tag_of_state s) s.v

  abbrev complete : StepResult
  complete = done_step s.total (tag_of_state_work s) ended output

  abbrev untouched : ℕ → StepResult
  untouched n = refused_step n s output

  pub finish_refused : (r : Refusal) {step : Step} → Judges (finish_rows s (length output)) (Err r) → DidStep (refused_step (number_of r) s output) step output
      → DidStep (finish_step s output) step output
  unfolding finish_step
  finish_refused r {step} e d =
      subst (λ (g : StepResult). DidStep g step output)
      (ap (λ (n : ℕ). refused_step n s output) e ∙ sym (settle_rows table test complete (forged_step s output) untouched refl (was_due r (first table) e))) d

  -- past its refusals finish is by the tag
  pub finish_told : (t : Bool) → same (tag_of_state s) s.v ≡ t → 0 ≡ first (finish_rows s (length output))
      → {step : Step} {last : List ℕ} → DidStep (cond t (done_step s.total (tag_of_state_work s) ended output) (forged_step s output)) step last → DidStep (finish_step s output) step last
  unfolding finish_step
  finish_told t e none {step} {last} d =
      subst (λ (r : StepResult). DidStep r step last) (sym (settle_test table test complete (forged_step s output) untouched refl t e (sym none))) d

-- ---- begin

-- a begin with what making a head gave is the begin with the head, its work and its rows' number
begun_made : (n w : ℕ) (h : Head) (made : Made) (stage : ℕ) (v : List ℕ) → DidMake (settle n (made_head w h) refused_head) made
    → begin_by (outcome_of made.answer 0).number made.work made.head stage v ≡ begin_by n w h stage v
begun_made n w h made stage v d = go (ℕ_discrete n 0)
  where
    -- by what the head settles to
    by : (r : MakeResult) → settle n (made_head w h) refused_head ≡ r
        → begin_by (outcome_of made.answer 0).number made.work made.head stage v ≡ begin_by r.outcome.number r.outcome.work r.head stage v
    by r e =
        let outcome : outcome_of made.answer made.work ≡ r.outcome = d.outcome ∙ ap (λ (x : MakeResult). x.outcome) e in
        ap₂ (λ (m k : ℕ). begin_by m k made.head stage v) (outcome_number made.answer 0 made.work ∙ ap (λ (o : Outcome). o.number) outcome)
        (sym (outcome_work made.answer made.work) ∙ ap (λ (o : Outcome). o.work) outcome)
        ∙ ap (λ (g : Head). begin_by r.outcome.number r.outcome.work g stage v) (d.head ∙ ap (λ (x : MakeResult). x.head) e)

    go : Dec (n ≡ 0) → begin_by (outcome_of made.answer 0).number made.work made.head stage v ≡ begin_by n w h stage v
    go (yes z) = by _ (settle_complete n (made_head w h) refused_head z) ∙ ap (λ (m : ℕ). begin_by m w h stage v) (sym z)
    go (no z) = by _ (settle_refused n (made_head w h) refused_head z) ∙ simp (ne_eqb n 0 z)

pub begins : (n w : ℕ) (h : Head) (made : Made) (stage : ℕ) (v : List ℕ) {step : Step} → DidMake (settle n (made_head w h) refused_head) made
    → DidStep (begin_by (outcome_of made.answer 0).number made.work made.head stage v) step [] → DidStep (begin_by n w h stage v) step []
begins n w h made stage v {step} m d = subst (λ (r : StepResult). DidStep r step []) (begun_made n w h made stage v m) d

-- ---- an opener's begin, whose tag is judged last

module _ (rows : List Row) (present : lacks 0 rows ≡ true) (w : ℕ) (h : Head) (tag : List ℕ) where
  by_length : (t : Bool) → eqb (length tag) 16 ≡ t → first (rows ++ tag_rows (length tag)) ≡ cond (eqb (first rows) 0) (cond (not t) 5 0) (first rows)
  by_length t e = first-append rows (tag_rows (length tag)) present ∙ ap (λ (u : Bool). cond (eqb (first rows) 0) (cond (not u) 5 0) (first rows)) e

  -- a tag of 16 bytes leaves the number to the rows before it
  pub begins_tagged : (made : Made) (v : List ℕ) {step : Step} → IsWholeChunk tag v 16 → DidMake (settle (first rows) (made_head w h) refused_head) made
      → DidStep (begin_by (outcome_of made.answer 0).number made.work made.head 3 v) step [] → DidStep (begin_by (first (rows ++ tag_rows (length tag))) w h 3 tag) step []
  begins_tagged made v {step} whole m d =
      subst (λ (r : StepResult). DidStep r step []) (ap₂ (λ (n : ℕ) (x : List ℕ). begin_by n w h 3 x) (sym (by_length true (eq-eqb (length tag) 16 whole.long) ∙ kept (eqb (first rows) 0) refl)) whole.same)
      (begins (first rows) w h made 3 v m d)
    where
      kept : (t : Bool) → eqb (first rows) 0 ≡ t → cond t 0 (first rows) ≡ first rows
      kept true z = sym (eqb-true (first rows) 0 z)
      kept false z = refl

  -- any other is refused, with 5 where no row before it is due
  pub begins_refused_tag : (before : Judgement) {step : Step} → (length tag ≡ 16 → ⊥) → Judges rows before
      → DidStep (refused_step (settle (judged before) 5 (λ m. m)) ended []) step []
      → DidStep (begin_by (first (rows ++ tag_rows (length tag))) w h 3 tag) step []
  begins_refused_tag before {step} other o d =
      let e = ne_eqb (length tag) 16 other in
      let same_number = ap (λ (m : ℕ). settle m 5 (λ i. i)) o ∙ sym (by_length false e) in
      subst (λ (r : StepResult). DidStep r step [])
      (ap (λ (m : ℕ). refused_step m ended []) same_number
      ∙ sym (settle_refused _ (done_step 0 w (start h 3 tag) []) (λ m. refused_step m ended []) (λ z. some (ℕ_discrete (first rows) 0) (sym (by_length false e) ∙ z)))) d
    where
      some : Dec (first rows ≡ 0) → settle (first rows) 5 (λ m. m) ≡ 0 → ⊥
      some (yes y) z = omega (arith, sym (settle_complete (first rows) 5 (λ m. m) y) ∙ z)
      some (no y) z = y (sym (settle_refused (first rows) 5 (λ m. m) y) ∙ z)
