-- The first demand holds.
-- Assumes nothing.
use mathlib.Core.Path.{◌≡◌, refl, ap, ap₂, sym, subst, ◌∙◌}
use mathlib.Core.Bool.{Bool, true, false, not, cond, ◌&&◌}
use mathlib.Core.List.{List, [], ◌∷◌, ◌++◌}
use mathlib.Core.Logic.{◌⊎◌, inl, inr}
use Prim.{tt}
use Prim.Native.Nat.{ℕ, pred, ◌+◌, ◌-◌, ◌*◌, ◌<◌, max}
use native.Mathlib.Decide.{ℕ_discrete}
use native.Mathlib.Omega.{arith}
use lib.Dec.{ltb, eqb}
use lib.ListN.{length, get_or, replicate}
use borrow.Author.Tests.{eqb-true, eqb-false, eq-eqb, ne_eqb, not-false}
use Rattle.octets.specs.Octets.{put}
use Rattle.cmac.specs.Cmac.{zeros}
use Rattle.header.specs.Header.{total, strings}
use Rattle.std.specs.Prelude.{Ok, Err}
use Rattle.answers.specs.declared.Refusal.{Refusal}
use Rattle.answers.specs.declared.Refusal.TheVariants.{KeyLength, HeaderCount, HeaderLengths, TooLong, SealedLength, OutputShort, ScratchShort, Forged, State, EmptyNonce, RingLength, HeaderPlan}
use Rattle.answers.specs.Answer.{Answer, Outcome, Row, row, first, settle, forged_or, number_of, outcome_of}
use Rattle.answers.proofs.Laws.{first_not, first_pass, first_stop, first_none, refusal_number, outcome_work, none_where}
use Rattle.whole.specs.Calls.{CallResult, is_key_length, limit, header_rows, seal_rows, open_rows, refused_call, sealed_call, opened_call, forged_call, seal_number, seal_call, open_number, open_call}
use Rattle.whole.specs.Ring.{slot_count, slot_key, ring_rows, tried_work, RingResult, open_slot, opens_at, work_at}
use Rattle.whole.specs.Siv.{genuine, genuine_work}
use Rattle.whole.proofs.Laws.{header_admits, seal_count, open_judged, open_passed, open_forged, open_unpassed, open_numbered, open_count}
use Rattle.whole.proofs.Lengths.{sealed_lengths, genuine_lengths}
use Rattle.whole.proofs.Ring.{RingWhole, ring_admits, slot_keyed, Chosen, chosen_within, chosen_closed, chosen_same, RingCase, tries, refuses, open_ring_case, ring_idle, ring_work_lem}
use Rattle.head.specs.declared.Head.{Head}
use Rattle.head.specs.Head.{head_of, head_of_work, extended, extended_work, fits_head, rest_rows, MakeResult, made_head, refused_head, make_head, extend_head}
use Rattle.head.proofs.Laws.{head_lengths, extended_lengths, rest_admits}
use Rattle.stream.specs.State.{ended, start}
use Rattle.stream.specs.Steps.{StepResult, done_step, refused_step, begin_by, begin_sealer, begin_opener, begin_sealer_from, begin_opener_from}
use Rattle.kinphlor.specs.Interface.{empty_nonce, from_c}
use Rattle.demands.specs.Figures.{over, sum, header_blocks, whole_work}
use Rattle.demands.specs.First.{called, cleared, sealing_table, FirstSeal, opening_table, FirstOpen, ring_table, FirstRing, header_table, rest_table, FirstHead, FirstBegin, First}
use Rattle.demands.specs.State.{prepared_head, longer_head, begun_state}
use Rattle.demands.specs.Steps.{stepped}
use Rattle.demands.specs.Table.{answered, FirstDue}
use Rattle.demands.proofs.Figures.{Tells, never, below, not_below, equal, otherwise, unless, judges, one_of, key_length_lem, key_width, ring-length, total-sum, blocks_all, work_all}
use Rattle.demands.proofs.Given.{by_call}
use Rattle.demands.proofs.Parts.{from_c_parts, ring_parts}
use Rattle.demands.proofs.Pieces.{head_figures}
use Rattle.demands.proofs.Plans.{by_plan}
use Rattle.demands.proofs.Slots.{no_slot, is_genuine, none_genuine, chosen_no_slot, ring_case_from_c}
use Rattle.demands.proofs.Table.{Told, first_due, skips, forged_number, by_table}

-- ---- the header list

-- the lengths sum to the header bytes, or 3 is due
summed : (lens : List ℕ) (n : ℕ) → Tells (not (eqb (total lens) n)) (sum lens ≡ n → ⊥)
summed lens n = subst (λ (m : ℕ). Tells (not (eqb m n)) (sum lens ≡ n → ⊥)) (sym (total-sum lens)) (otherwise (equal (sum lens) n))

-- a number that is neither 0 nor 8 is not that of success or of 8
past : {m : ℕ} → (m ≡ 0) ⊎ (m ≡ 8) → (n : ℕ) → eqb n 0 ≡ false → eqb n 8 ≡ false → n ≡ m → ⊥
past (inl z) n a b p = eqb-false n 0 a (p ∙ z)
past (inr z) n a b p = eqb-false n 8 b (p ∙ z)

-- ---- whole calls

number_in : CallResult → ℕ
number_in r = r.outcome.number

module _ (key bytes lens input output scratch : List ℕ) where
  abbrev ss : List (List ℕ)
  ss = strings bytes lens

  abbrev list_rows : List Row → List Row
  list_rows rest = row 2 (ltb 126 (length lens)) ∷ row 3 (not (eqb (total lens) (length bytes))) ∷ rest

  -- with a test for an empty nonce
  abbrev head_rows : Bool → List Row → List Row
  head_rows empty rest = row 1 (not (is_key_length (length key))) ∷ row 10 empty ∷ list_rows rest

  sums_past : (empty : Bool) (rest : List Row) (m : ℕ) → (m ≡ 0) ⊎ (m ≡ 8) → first (head_rows empty rest) ≡ m → total lens ≡ length bytes
  sums_past empty rest m z e =
      let past1 = skips (not (is_key_length (length key))) 1 _ m (past z 1 refl refl) e in
      let past10 = skips empty 10 _ m (past z 10 refl refl) past1.1 in
      let past2 = skips (ltb 126 (length lens)) 2 _ m (past z 2 refl refl) past10.1 in
      eqb-true (total lens) (length bytes) (not-false _ (skips (not (eqb (total lens) (length bytes))) 3 _ m (past z 3 refl refl) past2.1).0)

  abbrev sealing_rows : Bool → List Row
  sealing_rows empty = head_rows empty (seal_rows (length input) (length output) (length scratch))

  seal_told : (empty : Bool) (E : Type 0) → Tells empty E → Told (sealing_rows empty) (sealing_table key bytes lens input output scratch E)
  seal_told empty E tells =
      let is_key = otherwise (key_length_lem (length key)) in
      let count = below 126 (length lens) in
      let sums = summed lens (length bytes) in
      let long = below limit (length input) in
      let room = below (length output) (length input + 16) in
      let need = below (length scratch) (max (length input) 16) in
      (refl, is_key, (refl, tells, (refl, count, (refl, sums, (refl, long, (refl, room, (refl, need, tt)))))))

  by_seal : (empty : Bool) (E : Type 0) → Tells empty E → (result : CallResult)
      → result ≡ settle (first (sealing_rows empty)) (sealed_call key bytes lens input output scratch) (λ n. refused_call n output scratch)
      → FirstSeal key bytes lens input output scratch E result
  unfolding put number_in
  by_seal empty E tells result settled =
      by_table CallResult number_in (sealing_rows empty) (sealing_table key bytes lens input output scratch E) result (sealed_call key bytes lens input output scratch) _ (λ n. refused_call n output scratch) _ settled
      (seal_told empty E tells)
      refl refl (λ n. refl)
      (λ e.
      let works = sealed_lengths key bytes lens input (omega (arith, sums_past empty (seal_rows (length input) (length output) (length scratch)) 0 (inl refl) e)) ∙ work_all lens (length input) in
      ap (λ (w : ℕ). called 0 (length input + 16) w (sealed_call key bytes lens input output scratch).output (cleared scratch (length input))) works)
      (λ n e. refl)

  abbrev text_rows : List Row
  text_rows = open_rows (length input) (length output) (length scratch) ++ (row 8 (not (genuine key ss input)) ∷ [])

  abbrev opening_rows : Bool → List Row
  opening_rows empty = head_rows empty text_rows

  open_told : (empty : Bool) (E : Type 0) → Tells empty E → Told (opening_rows empty) (opening_table key bytes lens input output scratch E)
  open_told empty E tells =
      let is_key = otherwise (key_length_lem (length key)) in
      let count = below 126 (length lens) in
      let sums = summed lens (length bytes) in
      let short = below (length input) 16 in
      let long = below 1048592 (length input) in
      let room = below (length output) (length input - 16) in
      let need = below (length scratch) (max (length input - 16) 16) in
      let forged = otherwise (is_genuine key ss input) in
      (refl, is_key, (refl, tells, (refl, count, (refl, sums, (refl, short, (refl, long, (refl, room, (refl, need, (refl, forged, tt)))))))))

  abbrev refused : ℕ → CallResult
  refused = forged_or (forged_call key bytes lens input output scratch) (λ n. refused_call n output scratch)

  abbrev refused_by : ℕ → ℕ → CallResult
  refused_by n w = cond (eqb n 8) (called 8 0 w (over output 0 (replicate (length input - 16) 0)) (cleared scratch (length input - 16))) (called n 0 0 output scratch)

  by_open : (empty : Bool) (E : Type 0) → Tells empty E → (result : CallResult)
      → result ≡ settle (first (opening_rows empty)) (opened_call key bytes lens input output scratch) refused
      → FirstOpen key bytes lens input output scratch E result
  unfolding put number_in
  by_open empty E tells result settled =
      by_table CallResult number_in (opening_rows empty) (opening_table key bytes lens input output scratch E) result (opened_call key bytes lens input output scratch) _ refused _ settled
      (open_told empty E tells)
      refl refl (forged_number number_in (forged_call key bytes lens input output scratch) (λ n. refused_call n output scratch) refl (λ n. refl))
      (λ e. ap (λ (w : ℕ). called 0 (length input - 16) w (opened_call key bytes lens input output scratch).output (cleared scratch (length input - 16))) (works 0 (inl refl) e))
      (λ n e. leaves n e (ℕ_discrete n 8))
    where
      works : (m : ℕ) → (m ≡ 0) ⊎ (m ≡ 8) → first (opening_rows empty) ≡ m → genuine_work key ss input ≡ whole_work lens (length input - 16)
      works m z e = genuine_lengths key bytes lens input (omega (arith, sums_past empty text_rows m z e)) ∙ work_all lens (length input - 16)

      leaves : (n : ℕ) → first (opening_rows empty) ≡ n → Dec (n ≡ 8) → refused n ≡ refused_by n (whole_work lens (length input - 16))
      leaves n e (yes z) = ap (refused_by n) (works n (inr z) e)
      leaves n e (no z) = simp (ne_eqb n 8 z)

  sealing : FirstSeal key bytes lens input output scratch ⊥ (seal_call key bytes lens input output scratch)
  unfolding seal_call seal_number
  sealing = by_seal false ⊥ never _ refl

  opening : FirstOpen key bytes lens input output scratch ⊥ (open_call key bytes lens input output scratch)
  unfolding open_call open_number
  opening = by_open false ⊥ never _ refl

-- ---- the C interface

-- an empty nonce is judged behind the key
from_c_lem : (rest : List Row) (nonce : ℕ) (key output scratch : List ℕ) (done : CallResult) (gone : ℕ → CallResult) → gone 10 ≡ refused_call 10 output scratch
    → from_c nonce key output scratch (settle (first (row 1 (not (is_key_length (length key))) ∷ rest)) done gone)
    ≡ settle (first (row 1 (not (is_key_length (length key))) ∷ row 10 (eqb nonce 0) ∷ rest)) done gone
unfolding from_c empty_nonce
from_c_lem rest nonce key output scratch done gone e = go (is_key_length (length key)) (eqb nonce 0)
  where
    go : (k z : Bool) → cond (k && z) (refused_call 10 output scratch) (settle (first (row 1 (not k) ∷ rest)) done gone) ≡ settle (first (row 1 (not k) ∷ row 10 z ∷ rest)) done gone
    go false z = refl
    go true true = sym e
    go true false = refl

-- ---- a ring of keys

-- a call with another work
abbrev with_work : CallResult → ℕ → CallResult
with_work c w = record { outcome = answered c.outcome.number c.outcome.count w; output = c.output; scratch = c.scratch }

module _ (key_length : ℕ) (ring bytes lens input output scratch : List ℕ) where
  abbrev count : ℕ
  count = slot_count key_length (length ring)

  abbrev genuine_at : ℕ → Bool
  genuine_at i = genuine (slot_key key_length ring i) (strings bytes lens) input

  -- the rows behind the ring's: those of the lengths, then 8
  abbrev length_rows : List Row
  length_rows =
      (row 2 (ltb 126 (length lens)) ∷ row 3 (not (eqb (total lens) (length bytes))) ∷ []) ++ open_rows (length input) (length output) (length scratch)

  abbrev forged_row : Bool → List Row
  forged_row forged = row 8 forged ∷ []

  -- with a slot's key the lengths decide, and past them the tag
  slot_number : (i : ℕ) → is_key_length (length (slot_key key_length ring i)) ≡ true
      → (open_slot key_length ring bytes lens input output scratch i).outcome.number ≡ first (length_rows ++ forged_row (not (genuine_at i)))
  unfolding open_number
  slot_number i k = open_numbered (slot_key key_length ring i) bytes lens input output scratch ∙ simp k

  -- so whole opening with the slot given has the table's number
  chosen_number : {s : ℕ} → first (ring_rows key_length (length ring)) ≡ 0 → Chosen (opens_at key_length ring bytes lens input output scratch) count s
      → (open_slot key_length ring bytes lens input output scratch s).outcome.number ≡ first (length_rows ++ forged_row (no_slot genuine_at count))
  chosen_number {s} e g = number s (chosen_within _ count a.1.some g) ∙ go (ℕ_discrete (first length_rows) 0)
    where
      a : (is_key_length key_length ≡ true) × RingWhole key_length (length ring)
      a = ring_admits key_length (length ring) e

      number : (i : ℕ) → i < count → (open_slot key_length ring bytes lens input output scratch i).outcome.number ≡ first (length_rows ++ forged_row (not (genuine_at i)))
      number i h = slot_number i (slot_keyed key_length count ring i a.0 (sym a.1.whole) h)

      go : Dec (first length_rows ≡ 0) → first (length_rows ++ forged_row (not (genuine_at s))) ≡ first (length_rows ++ forged_row (no_slot genuine_at count))
      go (yes z) =
          let agree : (i : ℕ) → i < count → opens_at key_length ring bytes lens input output scratch i ≡ genuine_at i = λ i h.
          ap (λ (m : ℕ). eqb m 0) (number i h ∙ first_pass length_rows (forged_row (not (genuine_at i))) refl z) ∙ none_where (genuine_at i) in
          ap (λ (b : Bool). first (length_rows ++ forged_row b)) (chosen_no_slot genuine_at count a.1.some (chosen_same _ count genuine_at agree g))
      go (no z) = first_stop length_rows (forged_row (not (genuine_at s))) z ∙ sym (first_stop length_rows (forged_row (no_slot genuine_at count)) z)

  -- with a test for an empty nonce
  module _ (empty : Bool) (E : Type 0) (tells : Tells empty E) where
    abbrev front : List Row
    front = ring_rows key_length (length ring) ++ (row 10 empty ∷ [])

    abbrev back : List Row
    back = length_rows ++ forged_row (no_slot genuine_at count)

    due : FirstDue (ring_table key_length ring bytes lens input output scratch E) (first (front ++ back))
    due =
        let is_key = otherwise (key_length_lem key_length) in
        let is-ring = otherwise (ring-length key_length (length ring)) in
        let sums = summed lens (length bytes) in
        let short = below (length input) 16 in
        let long = below 1048592 (length input) in
        let room = below (length output) (length input - 16) in
        let need = below (length scratch) (max (length input - 16) 16) in
        let forged = none_genuine key_length ring (strings bytes lens) input count in
        let many = below 126 (length lens) in
        first_due (front ++ back) (ring_table key_length ring bytes lens input output scratch E)
        (refl, is_key, (refl, is-ring, (refl, tells, (refl, many, (refl, sums, (refl, short, (refl, long, (refl, room, (refl, need, (refl, forged, tt))))))))))

    abbrev work : ℕ
    work = whole_work lens (length input - 16)

    -- what 8, with the work of all keys, and any other refusal leave
    abbrev refused_ring : ℕ → RingResult
    refused_ring n =
        record { slot = 0; call = cond (eqb n 8) (called 8 0 (count * work) (over output 0 (replicate (length input - 16) 0)) (cleared scratch (length input - 16))) (called n 0 0 output scratch) }

    by_ring : {result : RingResult} → RingCase key_length ring bytes lens input output scratch (first front) result → FirstRing key_length ring bytes lens input output scratch E result
    by_ring (refuses z) =
        record {
          ordered = refl;
          first = subst (FirstDue (ring_table key_length ring bytes lens input output scratch E)) (first_stop front back z) due;
          done = λ e. absurd (z e);
          refused = λ n e d.
              ap (λ (m : ℕ). record { slot = 0; call = called m 0 0 output scratch }) e
              ∙ sym (simp (ne_eqb n 8 (λ p. first_not 8 front refl (λ q. omega (arith, q)) (e ∙ p))));
        }
    by_ring (tries {s} z g) =
        record {
          ordered = refl;
          first = subst (FirstDue (ring_table key_length ring bytes lens input output scratch E)) (first_pass front back refl z ∙ sym (chosen_number ring_passes g)) due;
          done = λ e.
              ap (λ (c : CallResult). record { slot = s; call = c })
              (ap₂ with_work (one.done e) (tried (open_passed (slot_key key_length ring s) bytes lens input output scratch (number ∙ e)) ∙ ap (λ (t : Bool). cond t (s + 1) count * work) (eq-eqb _ 0 e)));
          refused = λ n e d. at n e d (ℕ_discrete n 8);
        }
      where
        ring_passes : first (ring_rows key_length (length ring)) ≡ 0
        ring_passes = (first_none (ring_rows key_length (length ring)) (row 10 empty ∷ []) refl z).0

        one : FirstOpen (slot_key key_length ring s) bytes lens input output scratch ⊥ (open_call (slot_key key_length ring s) bytes lens input output scratch)
        one = opening (slot_key key_length ring s) bytes lens input output scratch

        number : open_number (slot_key key_length ring s) bytes lens input output scratch ≡ (open_call (slot_key key_length ring s) bytes lens input output scratch).outcome.number
        number = sym (open_numbered (slot_key key_length ring s) bytes lens input output scratch)

        -- the work of all keys that were tried
        tried : open_judged (slot_key key_length ring s) bytes lens input output scratch ≡ 0
            → tried_work (opens_at key_length ring bytes lens input output scratch) (work_at key_length ring bytes lens input output scratch) 0 count
            ≡ cond (opens_at key_length ring bytes lens input output scratch s) (s + 1) count * work
        tried judged =
            ring_work_lem key_length ring bytes lens input output scratch ring_passes g judged
            ∙ ap (λ (w : ℕ). cond (opens_at key_length ring bytes lens input output scratch s) (s + 1) count * w) (work_all lens (length input - 16))

        at : (n : ℕ) → (open_call (slot_key key_length ring s) bytes lens input output scratch).outcome.number ≡ n → (n ≡ 0 → ⊥) → Dec (n ≡ 8)
            → record { slot = s; call = with_work (open_call (slot_key key_length ring s) bytes lens input output scratch) (tried_work (opens_at key_length ring bytes lens input output scratch) (work_at key_length ring bytes lens input output scratch) 0 count) }
            ≡ refused_ring n
        at n e d (yes z) =
            let shut = ne_eqb _ 0 (λ p. d (sym e ∙ p)) in
            ap₂ (λ (i : ℕ) (c : CallResult). record { slot = i; call = c }) (chosen_closed _ count g shut)
            (ap₂ with_work (one.refused n e d) (tried (open_forged (slot_key key_length ring s) bytes lens input output scratch (number ∙ e ∙ z)) ∙ ap (λ (t : Bool). cond t (s + 1) count * work) shut)
            ∙ simp (eq-eqb n 8 z))
        at n e d (no z) =
            let unread = open_unpassed (slot_key key_length ring s) bytes lens input output scratch (λ p. d (sym (number ∙ e) ∙ p)) (λ p. z (sym (number ∙ e) ∙ p)) in
            let within = chosen_within _ count (ring_admits key_length (length ring) ring_passes).1.some g in
            ap₂ (λ (i : ℕ) (c : CallResult). record { slot = i; call = c }) (chosen_closed _ count g (ne_eqb _ 0 (λ p. d (sym e ∙ p))))
            (ap₂ with_work (one.refused n e d) (ring_idle key_length ring bytes lens input output scratch ring_passes s within unread) ∙ simp (ne_eqb n 8 z))

-- ---- heads and begins

module _ (key bytes lens : List ℕ) where
  -- with a test for an opener's tag
  abbrev header_rows_with : Bool → List Row
  header_rows_with other = header_rows (length key) lens (length bytes) ++ (row 5 other ∷ [])

  header_told : (other : Bool) (B : Type 0) → Tells other B → Told (header_rows_with other) (header_table key bytes lens B)
  header_told other B tells =
      let is_key = otherwise (key_length_lem (length key)) in
      let count = below 126 (length lens) in
      let sums = summed lens (length bytes) in
      (refl, is_key, (refl, count, (refl, sums, (refl, tells, tt))))

  -- the head of an admitted list, and its work
  made : (other : Bool) → first (header_rows_with other) ≡ 0
      → (head_of key (strings bytes lens) ≡ prepared_head key (strings bytes lens)) × (head_of_work (strings bytes lens) ≡ 2 + header_blocks lens)
  made other e =
      let admits = header_admits (length key) lens (length bytes) (first_none (header_rows (length key) lens (length bytes)) (row 5 other ∷ []) refl e).0 in
      (head_figures key (strings bytes lens) admits.0, head_lengths bytes lens (omega (arith, admits.1)) ∙ ap (λ (n : ℕ). 2 + n) (blocks_all lens))

  by_begin : (other : Bool) (B : Type 0) → Tells other B → (stage : ℕ) (v : List ℕ) (result : StepResult)
      → result ≡ begin_by (first (header_rows_with other)) (head_of_work (strings bytes lens)) (head_of key (strings bytes lens)) stage v
      → FirstBegin (header_table key bytes lens B) result (2 + header_blocks lens) (begun_state (prepared_head key (strings bytes lens)) stage v)
  by_begin other B tells stage v result settled =
      by_table StepResult (λ (r : StepResult). r.outcome.number) (header_rows_with other) (header_table key bytes lens B) result (done_step 0 (head_of_work (strings bytes lens)) (start (head_of key (strings bytes lens)) stage v) []) _
      (λ n. refused_step n ended []) _ settled (header_told other B tells) refl refl (λ n. refl)
      (λ e. ap₂ (λ (w : ℕ) (h : Head). stepped 0 0 w (begun_state h stage v) []) (made other e).1 (made other e).0) (λ n e. refl)

  making : FirstHead (header_table key bytes lens ⊥) (make_head key bytes lens) (2 + header_blocks lens) (prepared_head key (strings bytes lens))
  unfolding make_head
  making =
      by_table MakeResult (λ (r : MakeResult). r.outcome.number) (header_rows_with false) (header_table key bytes lens ⊥) _ (made_head (head_of_work (strings bytes lens)) (head_of key (strings bytes lens))) _ refused_head _ refl
      (header_told false ⊥ never) refl refl (λ n. refl)
      (λ e. ap₂ made_head (made false e).1 (made false e).0) (λ n e. refl)

module _ (h : Head) (bytes lens : List ℕ) where
  abbrev rest_rows_with : Bool → List Row
  rest_rows_with other = rest_rows h lens (length bytes) ++ (row 5 other ∷ [])

  rest_told : (other : Bool) (B : Type 0) → Tells other B → Told (rest_rows_with other) (rest_table h bytes lens B)
  unfolding fits_head
  rest_told other B tells =
      let fits = judges (one_of (unless (key_width h.width)) (not_below 126 h.count)) in
      let count = below 126 (h.count + length lens) in
      let sums = summed lens (length bytes) in
      (refl, fits, (refl, count, (refl, sums, (refl, tells, tt))))

  rest_work : (other : Bool) → first (rest_rows_with other) ≡ 0 → extended_work (strings bytes lens) ≡ header_blocks lens
  rest_work other e =
      let admits = rest_admits h lens (length bytes) (first_none (rest_rows h lens (length bytes)) (row 5 other ∷ []) refl e).0 in
      extended_lengths bytes lens (omega (arith, admits.sums)) ∙ blocks_all lens

  by_begin_from : (other : Bool) (B : Type 0) → Tells other B → (stage : ℕ) (v : List ℕ) (result : StepResult)
      → result ≡ begin_by (first (rest_rows_with other)) (extended_work (strings bytes lens)) (extended h (strings bytes lens)) stage v
      → FirstBegin (rest_table h bytes lens B) result (header_blocks lens) (begun_state (longer_head h (strings bytes lens)) stage v)
  unfolding extended
  by_begin_from other B tells stage v result settled =
      by_table StepResult (λ (r : StepResult). r.outcome.number) (rest_rows_with other) (rest_table h bytes lens B) result (done_step 0 (extended_work (strings bytes lens)) (start (extended h (strings bytes lens)) stage v) []) _
      (λ n. refused_step n ended []) _ settled (rest_told other B tells) refl refl (λ n. refl)
      (λ e. ap (λ (w : ℕ). stepped 0 0 w (begun_state (longer_head h (strings bytes lens)) stage v) []) (rest_work other e)) (λ n e. refl)

  extending : FirstHead (rest_table h bytes lens ⊥) (extend_head h bytes lens) (header_blocks lens) (longer_head h (strings bytes lens))
  unfolding extend_head extended
  extending =
      by_table MakeResult (λ (r : MakeResult). r.outcome.number) (rest_rows_with false) (rest_table h bytes lens ⊥) _ (made_head (extended_work (strings bytes lens)) (extended h (strings bytes lens))) _ refused_head _ refl
      (rest_told false ⊥ never) refl refl (λ n. refl)
      (λ e. ap (λ (w : ℕ). made_head w (longer_head h (strings bytes lens))) (rest_work false e)) (λ n e. refl)

-- an opener's tag has 16 bytes, or 5 is due
tagged : (tag : List ℕ) → Tells (not (eqb (length tag) 16)) (length tag ≡ 16 → ⊥)
tagged tag = otherwise (equal (length tag) 16)

-- ---- answers

-- a refusal by its number
refusal_of : ℕ → Refusal
refusal_of n =
    get_or (KeyLength ∷ HeaderCount ∷ HeaderLengths ∷ TooLong ∷ SealedLength ∷ OutputShort ∷ ScratchShort ∷ Forged ∷ State ∷ EmptyNonce ∷ RingLength ∷ []) (pred n) HeaderPlan

by_number : (r : Refusal) → refusal_of (number_of r) ≡ r
unfolding refusal_of
by_number KeyLength = refl
by_number HeaderCount = refl
by_number HeaderLengths = refl
by_number TooLong = refl
by_number SealedLength = refl
by_number OutputShort = refl
by_number ScratchShort = refl
by_number Forged = refl
by_number State = refl
by_number EmptyNonce = refl
by_number RingLength = refl
by_number HeaderPlan = refl

answer_tells : (a b : Answer) (w w' : ℕ) → outcome_of a w ≡ outcome_of b w' → a ≡ b
answer_tells (Ok m) (Ok n) w w' e = ap (λ (k : ℕ). Ok k) (ap (λ (o : Outcome). o.count) e)
answer_tells (Ok m) (Err r) w w' e = absurd (refusal_number r (sym (ap (λ (o : Outcome). o.number) e)))
answer_tells (Err r) (Ok n) w w' e = absurd (refusal_number r (ap (λ (o : Outcome). o.number) e))
answer_tells (Err r) (Err s) w w' e =
    ap (λ (x : Refusal). Err x) (sym (by_number r) ∙ ap (λ (o : Outcome). refusal_of o.number) e ∙ by_number s)

outcome_tells : (a b : Answer) (w w' : ℕ) → outcome_of a w ≡ outcome_of b w' → (a ≡ b) × (w ≡ w')
outcome_tells a b w w' e = (answer_tells a b w w' e, sym (outcome_work a w) ∙ ap (λ (o : Outcome). o.work) e ∙ outcome_work b w')

pub answers_or_first_refusal : First
unfolding seal_call seal_number open_call open_number begin_sealer begin_opener begin_sealer_from begin_opener_from strings
answers_or_first_refusal =
    record {
      numbers = λ w.
          record {
            ok = λ n. refl;
            key_length = refl;
            header_count = refl;
            header_lengths = refl;
            too_long = refl;
            sealed_length = refl;
            output_short = refl;
            scratch_short = refl;
            forged = refl;
            state = refl;
            empty_nonce = refl;
            ring_length = refl;
            header_plan = refl;
          };
      outcome_tells = outcome_tells;
      header_strings = record { none = λ bytes. refl; next = λ n bytes lens. refl };
      sealing = sealing;
      opening = opening;
      opening_ring = λ key_length ring bytes lens input output scratch. by_ring key_length ring bytes lens input output scratch false ⊥ never (open_ring_case key_length ring bytes lens input output scratch);
      sealing_from_c = λ key header input output scratch ad nonce.
          by_seal key header (ad ∷ nonce ∷ []) input output scratch (eqb nonce 0) (nonce ≡ 0) (equal nonce 0) _
          (from_c_lem (list_rows key header (ad ∷ nonce ∷ []) input output scratch (seal_rows (length input) (length output) (length scratch))) nonce key output scratch
          (sealed_call key header (ad ∷ nonce ∷ []) input output scratch) (λ n. refused_call n output scratch) refl);
      opening_from_c = λ key header input output scratch ad nonce.
          by_open key header (ad ∷ nonce ∷ []) input output scratch (eqb nonce 0) (nonce ≡ 0) (equal nonce 0) _
          (from_c_lem (list_rows key header (ad ∷ nonce ∷ []) input output scratch (text_rows key header (ad ∷ nonce ∷ []) input output scratch)) nonce key output scratch
          (opened_call key header (ad ∷ nonce ∷ []) input output scratch) (refused key header (ad ∷ nonce ∷ []) input output scratch) refl);
      opening_ring_from_c = λ key_length ring header input output scratch ad nonce.
          by_ring key_length ring header (ad ∷ nonce ∷ []) input output scratch (eqb nonce 0) (nonce ≡ 0) (equal nonce 0) (ring_case_from_c key_length ring header input output scratch ad nonce);
      sealing_parts = λ key header input output scratch ad nonce. from_c_parts nonce key output scratch _ (seal_count key header (ad ∷ nonce ∷ []) input output scratch);
      opening_parts = λ key header input output scratch ad nonce. from_c_parts nonce key output scratch _ (omega (arith, open_count key header (ad ∷ nonce ∷ []) input output scratch));
      opening_ring_parts = λ key_length ring header input output scratch ad nonce.
          ring_parts key_length ring header (ad ∷ nonce ∷ []) input output scratch (row 10 (eqb nonce 0) ∷ [])
          (ring_case_from_c key_length ring header input output scratch ad nonce);
      finding_worst = λ h k least outcome places blocks g. by_plan h k least g;
      finding_worst_from_c = λ h k least places given g. by_plan h k least g;
      making_head = making;
      extending_head = extending;
      beginning_sealer = λ key bytes lens. by_begin key bytes lens false ⊥ never 1 zeros _ refl;
      beginning_opener = λ key bytes lens tag. by_begin key bytes lens (not (eqb (length tag) 16)) (length tag ≡ 16 → ⊥) (tagged tag) 3 tag _ refl;
      beginning_sealer_from = λ h bytes lens. by_begin_from h bytes lens false ⊥ never 1 zeros _ refl;
      beginning_opener_from = λ h bytes lens tag. by_begin_from h bytes lens (not (eqb (length tag) 16)) (length tag ≡ 16 → ⊥) (tagged tag) 3 tag _ refl;
      calling = by_call;
    }
