-- Rules 15.4, 15.6 and 15.9 hold: calls report what was planned, and the answers of a list add up.
-- Assumes nothing.
use mathlib.Core.Path.{◌≡◌, refl, ap, ap₂, sym, ◌∙◌}
use mathlib.Core.Bool.{Bool, true, false, cond, ◌&&◌, or-true}
use mathlib.Core.List.{List, [], ◌∷◌, ◌++◌}
use mathlib.Core.Logic.{◌⊎◌, inl, inr}
use Prim.Native.Nat.{ℕ, ◌+◌, ◌-◌, ◌*◌, ◌≤◌, ◌<◌}
use native.Mathlib.Nat.{zero-add}
use native.Mathlib.Omega.{arith}
use lib.Dec.{eqb, ltb}
use lib.ListN.{length, take, drop, length-append, take-append-drop}
use borrow.Author.Tests.{le-ltb, ltb-false, eq-eqb, ne_eqb, lt-ltb}
use Rattle.header.specs.Blocks.{blocks_of_all}
use Rattle.header.proofs.Laws.{blocks-append}
use Rattle.answers.specs.Answer.{Outcome, Row, row, first}
use Rattle.answers.proofs.Laws.{lacks, first_not, first_none, not_due}
use Rattle.whole.specs.Calls.{CallResult, refused_call, is_key_length, limit, seal_table, seal_number, seal_call, open_number, open_call}
use Rattle.whole.specs.Ring.{ring_rows, slot_count, slot_key, RingResult}
use Rattle.whole.specs.Work.{planned_work}
use Rattle.whole.proofs.Laws.{seal_admits, seal_numbered, open_judged, open_admits, open_passed, open_forged, open_numbered}
use Rattle.whole.proofs.Ring.{RingCase, tries, refuses, open_ring_case}
use Rattle.stream.specs.declared.Stream.{Stream}
use Rattle.stream.specs.State.{ended}
use Rattle.kinphlor.specs.Interface.{empty_nonce, from_c, seal_from_c, open_from_c, open_ring_from_c, planned_from_c}
use Rattle.demands.specs.Figures.{chained, sixteenths, blocks, header_blocks, whole_work}
use Rattle.demands.specs.First.{FirstRing}
use Rattle.demands.specs.Model.{ModelState, fresh, wants, After, whole_accepts, model_step, model_run}
use Rattle.demands.specs.Run.{Begin, sealer, opener, Start, undivided, divided, Call, add, turn, write, close, feed, finish, begun, call}
use Rattle.demands.specs.Third.{begin_work, AsModel}
use Rattle.demands.specs.Second.{Admits}
use Rattle.demands.specs.Work.{Reported, ReportedRing, work_of, head_work, AddsUp, BlockWork}
use Rattle.demands.proofs.Figures.{blocks_all, work_all}
use Rattle.demands.proofs.First.{answers_or_first_refusal}
use Rattle.demands.proofs.Head.{divided_as_undivided}
use Rattle.demands.proofs.Slots.{ring_case_from_c}
use Rattle.demands.proofs.Steps.{model_of, Known, adding, writing, closed, feeding, finished, known_stage, model_wrong, unwanted, step}
use Rattle.demands.proofs.Third.{runs, sealer_known, opener_known, accepts_the_sealed_and_follows_the_model}

-- ---- planning

-- where no length is refused, the plan is the sum
planned : (lens : List ℕ) (n : ℕ) → length lens ≤ 126 → n ≤ limit → whole_work lens n ≡ planned_work lens n
unfolding planned_work
planned lens n count_fits within = sym (work_all lens n) ∙ simp (le-ltb 126 (length lens) count_fits, le-ltb limit n within)

plans_none : (lens : List ℕ) (n : ℕ) → (126 < length lens) ⊎ (1048576 < n) → planned_work lens n ≡ 0
unfolding planned_work
plans_none lens n (inl many) = simp (lt-ltb 126 (length lens) many)
plans_none lens n (inr long) = simp (lt-ltb limit n long, or-true)

plans_from_c : (ad nonce n : ℕ) → (nonce ≡ 0 → ⊥) → n ≤ 1048576 → planned_from_c ad nonce n ≡ whole_work (ad ∷ nonce ∷ []) n
unfolding planned_from_c
plans_from_c ad nonce n some within = simp (ne_eqb nonce 0 some) (sym (planned (ad ∷ nonce ∷ []) n (omega arith) within))

plans_none_from_c : (ad nonce n : ℕ) → (nonce ≡ 0) ⊎ (1048576 < n) → planned_from_c ad nonce n ≡ 0
unfolding planned_from_c
plans_none_from_c ad nonce n (inl empty) = simp (eq-eqb nonce 0 empty)
plans_none_from_c ad nonce n (inr long) = go (eqb nonce 0)
  where
    go : (t : Bool) → cond t 0 (planned_work (ad ∷ nonce ∷ []) n) ≡ 0
    go true = refl
    go false = plans_none (ad ∷ nonce ∷ []) n (inr long)

module _ (key bytes lens input output scratch : List ℕ) where
  seals : Reported (seal_call key bytes lens input output scratch) (planned_work lens (length input))
  unfolding seal_number
  seals =
      let number = sym (seal_numbered key bytes lens input output scratch) in
      record {
        done = λ e.
            let admitted = seal_admits key bytes lens input output scratch (number ∙ e) in
            ap (λ (r : CallResult). r.outcome.work) ((answers_or_first_refusal.sealing key bytes lens input output scratch).done e) ∙ planned lens (length input) admitted.count_fits admitted.limited;
        forged = λ e. absurd (first_not 8 (seal_table key bytes lens input output scratch) refl (λ z. omega (arith, z)) (number ∙ e));
      }

  -- opening reports the sum of its lengths, for 8 as for success
  pub opened_work : Reported (open_call key bytes lens input output scratch) (whole_work lens (length input - 16))
  opened_work =
      record {
        done = λ e. ap (λ (r : CallResult). r.outcome.work) ((answers_or_first_refusal.opening key bytes lens input output scratch).done e);
        forged = λ e. ap (λ (r : CallResult). r.outcome.work) ((answers_or_first_refusal.opening key bytes lens input output scratch).refused 8 e (λ z. omega (arith, z)));
      }

  open_planned : open_judged key bytes lens input output scratch ≡ 0 → whole_work lens (length input - 16) ≡ planned_work lens (length input - 16)
  open_planned z =
      let admitted = open_admits key bytes lens input output scratch z in
      planned lens (length input - 16) admitted.count_fits (omega (arith, admitted.limited))

  opens : Reported (open_call key bytes lens input output scratch) (planned_work lens (length input - 16))
  opens =
      let number = sym (open_numbered key bytes lens input output scratch) in
      record {
        done = λ e. opened_work.done e ∙ open_planned (open_passed key bytes lens input output scratch (number ∙ e));
        forged = λ e. opened_work.forged e ∙ open_planned (open_forged key bytes lens input output scratch (number ∙ e));
      }

-- from C: where the key is none to refuse, an empty nonce is refused
from_c_lem : (key output scratch : List ℕ) (ad nonce n : ℕ) (call : CallResult) → Reported call (planned_work (ad ∷ nonce ∷ []) n) → (is_key_length (length key) ≡ false → call.outcome.number ≡ 1)
    → Reported (from_c nonce key output scratch call) (planned_from_c ad nonce n)
unfolding from_c empty_nonce planned_from_c
from_c_lem key output scratch ad nonce n call r unkeyed = go (is_key_length (length key)) unkeyed (eqb nonce 0)
  where
    go : (k : Bool) → (k ≡ false → call.outcome.number ≡ 1) → (z : Bool) → Reported (cond (k && z) (refused_call 10 output scratch) call) (cond z 0 (planned_work (ad ∷ nonce ∷ []) n))
    go true u true = record { done = λ e. omega (arith, e); forged = λ e. omega (arith, e) }
    go true u false = r
    go false u z = record { done = λ e. absurd (omega (arith, e, u refl)); forged = λ e. absurd (omega (arith, e, u refl)) }

module _ (key header input output scratch : List ℕ) (ad nonce : ℕ) where
  seals_from_c : Reported (seal_from_c key header ad nonce input output scratch) (planned_from_c ad nonce (length input))
  unfolding seal_number
  seals_from_c =
      from_c_lem key output scratch ad nonce (length input) _ (seals key header (ad ∷ nonce ∷ []) input output scratch)
      (λ k. seal_numbered key header (ad ∷ nonce ∷ []) input output scratch ∙ simp k)

  opens_from_c : Reported (open_from_c key header ad nonce input output scratch) (planned_from_c ad nonce (length input - 16))
  unfolding open_number
  opens_from_c =
      from_c_lem key output scratch ad nonce (length input - 16) _ (opens key header (ad ∷ nonce ∷ []) input output scratch)
      (λ k. open_numbered key header (ad ∷ nonce ∷ []) input output scratch ∙ simp k)

-- ---- a ring

module _ (key_length : ℕ) (ring bytes lens input output scratch : List ℕ) (behind : List Row) (E : Type 0) where
  -- a ring whose rows, with those put behind them, do not refuse it reports one plan for each key that it tries
  ring_reports : {result : RingResult} (plan : ℕ) → lacks 8 behind ≡ true
      → RingCase key_length ring bytes lens input output scratch (first (ring_rows key_length (length ring) ++ behind)) result
      → FirstRing key_length ring bytes lens input output scratch E result
      → (first (ring_rows key_length (length ring) ++ behind) ≡ 0 → planned_work lens (length input - 16) ≡ plan) → ReportedRing (slot_count key_length (length ring)) result plan
  ring_reports plan l (refuses z) f p =
      record { done = λ e. absurd (z e); forged = λ e. absurd (first_not 8 (ring_rows key_length (length ring) ++ behind) l (λ k. omega (arith, k)) e) }
  ring_reports plan l (tries {s} z g) f p =
      let number = sym (open_numbered (slot_key key_length ring s) bytes lens input output scratch) in
      record {
        done = λ e. ap (λ (r : RingResult). r.call.outcome.work) (f.done e) ∙ ap (λ (w : ℕ). (s + 1) * w) (as_planned (open_passed (slot_key key_length ring s) bytes lens input output scratch (number ∙ e)));
        forged = λ e.
            ap (λ (r : RingResult). r.call.outcome.work) (f.refused 8 e (λ k. omega (arith, k))) ∙ ap (λ (w : ℕ). slot_count key_length (length ring) * w) (as_planned (open_forged (slot_key key_length ring s) bytes lens input output scratch (number ∙ e)));
      }
    where
      as_planned : open_judged (slot_key key_length ring s) bytes lens input output scratch ≡ 0 → whole_work lens (length input - 16) ≡ plan
      as_planned e =
          let admitted = open_admits (slot_key key_length ring s) bytes lens input output scratch e in
          planned lens (length input - 16) admitted.count_fits (omega (arith, admitted.limited)) ∙ p z

ring_from_c : (key_length : ℕ) (ring header input output scratch : List ℕ) (ad nonce : ℕ)
    → ReportedRing (slot_count key_length (length ring)) (open_ring_from_c key_length ring header ad nonce input output scratch) (planned_from_c ad nonce (length input - 16))
unfolding planned_from_c
ring_from_c key_length ring header input output scratch ad nonce =
    ring_reports key_length ring header (ad ∷ nonce ∷ []) input output scratch (row 10 (eqb nonce 0) ∷ []) (nonce ≡ 0) _ refl (ring_case_from_c key_length ring header input output scratch ad nonce)
    (answers_or_first_refusal.opening_ring_from_c key_length ring header input output scratch ad nonce)
    (λ z. simp (not_due (eqb nonce 0) 9 0 (first_none (ring_rows key_length (length ring)) (row 10 (eqb nonce 0) ∷ []) refl z).1).0)

-- ---- lists of calls

-- what was reported since begin, by what the model keeps
abbrev reported : Begin → ModelState → ℕ
reported sealer b =
    cond (eqb b.stage 1) (chained (length b.A))
    (cond (eqb b.stage 2) (blocks (length b.A) + sixteenths (length b.W)) (blocks (length b.A) + sixteenths (length b.A)))
reported (opener T) b = cond (eqb b.stage 3) (chained (length b.A) + sixteenths (length b.A)) (blocks (length b.A) + sixteenths (length b.A))

module _ (key bytes lens shared : List ℕ) (a : Admits key bytes lens) where
  -- a call reports what it adds
  abbrev Adds : Begin → ModelState → Call → Type 0
  Adds begin b c =
      (model_step key bytes lens begin shared b c).entry.outcome.work + reported begin b ≡ reported begin (model_step key bytes lens begin shared b c).model

  -- a refused one none
  wrong : (begin : Begin) (b : ModelState) (c : Call) → eqb b.stage (wants c) ≡ false → Adds begin b c
  wrong begin b c e =
      let refused = model_wrong key bytes lens shared a begin b c e in
      ap₂ ◌+◌ (ap (λ (x : After). x.entry.outcome.work) refused) refl ∙ zero-add (reported begin b) ∙ ap (λ (x : After). reported begin x.model) (sym refused)

  add_adds : (A piece : List ℕ) → Adds sealer (model_of 1 A []) (add piece)
  unfolding model_step
  add_adds A piece = go (ltb limit (length (A ++ piece))) refl
    where
      go : (t : Bool) → ltb limit (length (A ++ piece)) ≡ t → Adds sealer (model_of 1 A []) (add piece)
      go true e = simp e (zero-add _)
      go false e = simp e (omega (arith, length-append A piece))

  turn_adds : (A output : List ℕ) → Adds sealer (model_of 1 A []) (turn output)
  unfolding model_step
  turn_adds A output = go (ltb (length output) 16) refl
    where
      go : (t : Bool) → ltb (length output) 16 ≡ t → Adds sealer (model_of 1 A []) (turn output)
      go true e = simp e (zero-add _)
      go false e = simp e (omega arith)

  write_adds : (A W piece output : List ℕ) → Adds sealer (model_of 2 A W) (write piece output)
  unfolding model_step
  write_adds A W piece output = go (ltb (length A) (length (W ++ piece))) refl (ltb (length output) (length piece)) refl
    where
      go : (t : Bool) → ltb (length A) (length (W ++ piece)) ≡ t → (u : Bool) → ltb (length output) (length piece) ≡ u → Adds sealer (model_of 2 A W) (write piece output)
      go true e u f = simp e (zero-add _)
      go false e true f = simp (e, f) (zero-add _)
      go false e false f = simp (e, f) (omega (arith, length-append W piece))

  close_adds : (A W : List ℕ) → length W ≤ length A → Adds sealer (model_of 2 A W) close
  unfolding model_step
  close_adds A W shorter = go (ltb (length W) (length A)) refl
    where
      go : (t : Bool) → ltb (length W) (length A) ≡ t → Adds sealer (model_of 2 A W) close
      go true e = simp e (zero-add _)
      go false e =
          let all : length W ≡ length A = omega (arith, ltb-false (length W) (length A) e) in
          simp e (zero-add _ ∙ ap (λ (n : ℕ). blocks (length A) + sixteenths n) all)

  feed_adds : (T A piece : List ℕ) → Adds (opener T) (model_of 3 A []) (feed piece)
  unfolding model_step
  feed_adds T A piece = go (ltb limit (length (A ++ piece))) refl (ltb (length shared) (length (A ++ piece))) refl
    where
      go : (t : Bool) → ltb limit (length (A ++ piece)) ≡ t → (u : Bool) → ltb (length shared) (length (A ++ piece)) ≡ u → Adds (opener T) (model_of 3 A []) (feed piece)
      go true e u f = simp e (zero-add _)
      go false e true f = simp (e, f) (zero-add _)
      go false e false f = simp (e, f) (omega (arith, length-append A piece))

  finish_adds : (T A : List ℕ) → Adds (opener T) (model_of 3 A []) finish
  unfolding model_step
  finish_adds T A = go (whole_accepts key bytes lens T A) refl
    where
      go : (t : Bool) → whole_accepts key bytes lens T A ≡ t → Adds (opener T) (model_of 3 A []) finish
      go true e = simp e (omega arith)
      go false e = simp e (omega arith)

  adds : (begin : Begin) (b : ModelState) (s : Stream) (o : List ℕ) (c : Call) → Known key bytes lens shared begin b s o → Adds begin b c
  adds begin b s o (add piece) (adding A l) = add_adds A piece
  adds begin b s o (turn output) (adding A l) = turn_adds A output
  adds begin b s o (write piece output) (adding A l) = wrong sealer (model_of 1 A []) (write piece output) refl
  adds begin b s o close (adding A l) = wrong sealer (model_of 1 A []) close refl
  adds begin b s o (feed piece) (adding A l) = wrong sealer (model_of 1 A []) (feed piece) refl
  adds begin b s o finish (adding A l) = wrong sealer (model_of 1 A []) finish refl
  adds begin b s o (add piece) (writing A W l w) = wrong sealer (model_of 2 A W) (add piece) refl
  adds begin b s o (turn output) (writing A W l w) = wrong sealer (model_of 2 A W) (turn output) refl
  adds begin b s o (write piece output) (writing A W l w) = write_adds A W piece output
  adds begin b s o close (writing A W l w) = close_adds A W w
  adds begin b s o (feed piece) (writing A W l w) = wrong sealer (model_of 2 A W) (feed piece) refl
  adds begin b s o finish (writing A W l w) = wrong sealer (model_of 2 A W) finish refl
  adds begin b s o (add piece) (feeding T A t l r) = wrong (opener T) (model_of 3 A []) (add piece) refl
  adds begin b s o (turn output) (feeding T A t l r) = wrong (opener T) (model_of 3 A []) (turn output) refl
  adds begin b s o (write piece output) (feeding T A t l r) = wrong (opener T) (model_of 3 A []) (write piece output) refl
  adds begin b s o close (feeding T A t l r) = wrong (opener T) (model_of 3 A []) close refl
  adds begin b s o (feed piece) (feeding T A t l r) = feed_adds T A piece
  adds begin b s o finish (feeding T A t l r) = finish_adds T A
  adds begin b s o c (closed A W) = wrong sealer (model_of 0 A W) c (unwanted c)
  adds begin b s o c (finished T A _ e) = wrong (opener T) (model_of 0 A []) c (unwanted c)

  -- and so does a list of calls
  all_add : (begin : Begin) (calls : List Call) (b : ModelState) (s : Stream) (o : List ℕ) → Known key bytes lens shared begin b s o
      → work_of (model_run key bytes lens begin shared b calls).entries + reported begin b ≡ reported begin (model_run key bytes lens begin shared b calls).model
  all_add begin [] b s o k = zero-add (reported begin b)
  all_add begin (c ∷ cs) b s o k =
      let rest = all_add begin cs _ _ _ (step key bytes lens shared a begin b s o c k).next in
      omega (arith, adds begin b s o c k, rest)

  -- the head's work and begin's are those of all header strings
  begin_adds : (start : Start) → head_work key bytes lens start + begin_work lens start ≡ 2 + header_blocks lens
  begin_adds undivided = zero-add _
  begin_adds (divided n) =
      omega (
        arith,
        ap (λ (o : Outcome). o.work) (divided_as_undivided.splits key bytes lens a n).made,
        sym (blocks-append (take n lens) (drop n lens)) ∙ ap blocks_of_all (take-append-drop n lens),
        blocks_all (take n lens),
        blocks_all (drop n lens),
        blocks_all lens,
      )

  -- in stage 0 all of the sum is reported
  at_end : (begin : Begin) (b : ModelState) → b.stage ≡ 0 → reported begin b ≡ blocks (length b.A) + sixteenths (length b.A)
  at_end sealer b e = simp e
  at_end (opener T) b e = simp e

  none_yet : (begin : Begin) → reported begin (fresh begin) ≡ 0
  none_yet sealer = refl
  none_yet (opener T) = refl

  adds_up : (begin : Begin) (calls : List Call) (start : Start) → AsModel key bytes lens begin shared calls start
      → Known key bytes lens shared begin (fresh begin) (begun key bytes lens start begin).state shared → AddsUp key bytes lens begin shared calls start
  adds_up begin calls start m k ended =
      let b = (model_run key bytes lens begin shared (fresh begin) calls).model in
      let last = (runs key bytes lens a shared begin calls (fresh begin) _ shared k).1 in
      omega (
        arith,
        begin_adds start,
        ap (λ (o : Outcome). o.work) m.begins,
        ap work_of m.entries,
        all_add begin calls (fresh begin) _ shared k,
        none_yet begin,
        at_end begin b (sym (known_stage key bytes lens shared a begin b _ _ last) ∙ ended),
      )

pub reports_and_adds_up : BlockWork
reports_and_adds_up =
    record {
      seals = seals;
      opens = opens;
      seals_from_c = seals_from_c;
      opens_ring = λ key_length ring bytes lens input output scratch.
          ring_reports key_length ring bytes lens input output scratch [] ⊥ _ refl (open_ring_case key_length ring bytes lens input output scratch)
          (answers_or_first_refusal.opening_ring key_length ring bytes lens input output scratch) (λ z. refl);
      opens_from_c = opens_from_c;
      opens_ring_from_c = ring_from_c;
      plans = λ lens n count_fits within. sym (planned lens n count_fits within);
      plans_none = plans_none;
      plans_from_c = plans_from_c;
      plans_none_from_c = plans_none_from_c;
      sealers = λ key bytes lens a start shared calls.
          adds_up key bytes lens shared a sealer calls start ((accepts_the_sealed_and_follows_the_model key bytes lens a).sealers start shared calls) (sealer_known key bytes lens a shared start);
      openers = λ key bytes lens a start T shared calls t.
          adds_up key bytes lens shared a (opener T) calls start ((accepts_the_sealed_and_follows_the_model key bytes lens a).openers start T shared calls t) (opener_known key bytes lens a shared start T t);
    }
