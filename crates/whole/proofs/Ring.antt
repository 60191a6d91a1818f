-- Laws of a ring of keys.
-- Assumes nothing.
use mathlib.Core.Path.{◌≡◌, refl, ap, ap₂, sym, subst, ◌∙◌}
use mathlib.Core.Bool.{Bool, true, false, false≢true, not, cond, ◌&&◌, or-true}
use mathlib.Core.List.{List, ◌++◌}
use Prim.Native.Nat.{ℕ, zero, suc, ◌+◌, ◌-◌, ◌*◌, ◌/◌, ◌%◌, ◌≤◌, ◌<◌}
use native.Mathlib.Decide.{ℕ_discrete, dec_lt}
use native.Mathlib.Nat.{suc-add, add-zero, add-suc, zero-mul, mul-zero, suc-mul, add-mul, div-eq_of_eq-mul_left, mul-le-mul_right}
use native.Mathlib.Omega.{arith}
use lib.Dec.{eqb}
use lib.ListN.{length, take, drop, replicate, length-take, length-drop}
use borrow.Author.Tests.{eq-eqb, ne_eqb}
use lib.Dec.{leb}
use native.Mathlib.Nat.{pos_of_ne-zero, div-add-mod'}
use Rattle.std.proofs.Common.{add-one}
use Rattle.std.proofs.lemmas.Bool.Decides.{nat_tests}
use Rattle.std.specs.Cmp.{both_ways}
use Rattle.octets.specs.Octets.{put}
use Rattle.octets.proofs.Strings.{part_to}
use Rattle.header.specs.Header.{strings}
use Rattle.std.specs.Prelude.{Err, Option, None, Some}
use Rattle.std.specs.Option.{is_some, unwrap_or}
use Rattle.answers.specs.declared.Refusal.{Refusal}
use Rattle.answers.specs.Answer.{Outcome, Row, first, settle, number_of, outcome_of, success, refusal, forged}
use Rattle.answers.proofs.Laws.{was_due, first_none, first_pass, first_stop, settle_complete, settle_refused, outcome_with}
use Rattle.whole.specs.declared.Found.{Found}
use Rattle.whole.specs.declared.RingAnswer.{RingAnswer}
use Rattle.whole.specs.Calls.{is_key_length, limit, scratch_need, header_rows, open_rows, CallResult}
use Rattle.whole.specs.Ring.{is_ring, slot_count, slot_key, try_slots, tried_work, given_slot, HasSlots, ring_rows, RingResult, refused_ring, DidRing, open_slot, opens_at, work_at, open_slot_with, open_ring}
use Rattle.whole.specs.Siv.{opened, genuine, genuine_work, Openable}
use Rattle.whole.specs.Work.{block_work}
use Rattle.whole.proofs.Lengths.{genuine_lengths}
use Rattle.whole.proofs.Laws.{open_judged, open_admits, open_due, open_count, open_number_lem, open_work, open_refused, open_released, length-opened, text_read, scratch_wiped}

-- ---- lengths

pub key_length_some : (n : ℕ) → is_key_length n ≡ true → 0 < n
unfolding is_key_length
key_length_some n e = grind (arith, nat_tests)

-- the stated key length is judged before the ring
pub ring_key_due : (key_length n : ℕ) → not (is_key_length key_length) ≡ true → first (ring_rows key_length n) ≡ 1
ring_key_due key_length n e = simp e

pub ring_due : (key_length n : ℕ) → not (is_key_length key_length) ≡ false → is_ring key_length n ≡ false → first (ring_rows key_length n) ≡ 11
ring_due key_length n e k = simp (e, k)

-- a slot's bytes of the ring are its key
pub slot_read : (key_length : ℕ) (ring : List ℕ) (i : ℕ) → take (i * key_length + key_length - i * key_length) (drop (i * key_length) ring) ≡ slot_key key_length ring i
slot_read key_length ring i = part_to ring (i * key_length) key_length

-- a ring is one to four slots, and nothing behind them
pub record RingWhole (key_length n : ℕ) : Type 0 where
  pub whole : slot_count key_length n * key_length ≡ n
  pub some : 1 ≤ slot_count key_length n
  pub most : slot_count key_length n ≤ 4

pub ring_whole : (key_length n : ℕ) → 0 < key_length → is_ring key_length n ≡ true → RingWhole key_length n
unfolding is_ring
ring_whole key_length n k r = grind (arith, nat_tests, at 1, at 2, at 3, at 4)
  where
    at : (s : ℕ) → n ≡ s * key_length → 1 ≤ s → s ≤ 4 → RingWhole key_length n
    at s e some most =
        let count : slot_count key_length n ≡ s = div-eq_of_eq-mul_left k e in
        record { whole = ap (λ (m : ℕ). m * key_length) count ∙ sym e; some = omega arith; most = omega arith }

pub whole_ring : (key_length slots n : ℕ) → 0 < key_length → n ≡ slots * key_length → 1 ≤ slots → slots ≤ 4 → (is_ring key_length n ≡ true) × (slot_count key_length n ≡ slots)
unfolding is_ring
whole_ring key_length slots n k e some most = (go slots e some most, div-eq_of_eq-mul_left k e)
  where
    go : (s : ℕ) → n ≡ s * key_length → 1 ≤ s → s ≤ 4 → is_ring key_length n ≡ true
    go zero e some most = absurd (omega arith)
    go (suc zero) e some most = simp (eq-eqb n key_length (omega arith))
    go (suc (suc zero)) e some most = simp (eq-eqb n (2 * key_length) e, or-true)
    go (suc (suc (suc zero))) e some most = simp (eq-eqb n (3 * key_length) e, or-true)
    go (suc (suc (suc (suc zero)))) e some most = simp (eq-eqb n (4 * key_length) e, or-true)
    go (suc (suc (suc (suc (suc s))))) e some most = absurd (omega arith)

-- a ring by division
ring_tested : (key_length n : ℕ) → RingWhole key_length n → (eqb (n % key_length) 0 && leb key_length n && leb (n / key_length) 4) ≡ true
ring_tested key_length n r =
    let none : n % key_length ≡ 0 = omega (arith, r.whole, div-add-mod' n key_length) in
    let one : key_length ≤ n = omega (arith, r.whole, mul-le-mul_right key_length r.some) in
    let few : n / key_length ≤ 4 = r.most in
    grind (arith, nat_tests)

tested_ring : (key_length n : ℕ) → 0 < key_length → (eqb (n % key_length) 0 && leb key_length n && leb (n / key_length) 4) ≡ true → is_ring key_length n ≡ true
tested_ring key_length n k t =
    let none : n % key_length ≡ 0 = grind (arith, nat_tests) in
    let one : key_length ≤ n = grind (arith, nat_tests) in
    let few : n / key_length ≤ 4 = grind (arith, nat_tests) in
    let whole : n ≡ n / key_length * key_length = omega (arith, div-add-mod' n key_length) in
    (whole_ring key_length (n / key_length) n k whole (pos_of_ne-zero (λ z. omega (arith, whole, ap (λ (m : ℕ). m * key_length) z, zero-mul key_length))) few).0

pub ring_test : (key_length n : ℕ) → 0 < key_length → is_ring key_length n ≡ (eqb (n % key_length) 0 && leb key_length n && leb (n / key_length) 4)
ring_test key_length n k = both_ways _ _ (λ e. ring_tested key_length n (ring_whole key_length n k e)) (tested_ring key_length n k)

-- what the refusals of the stated length and the ring leave
pub ring_admits : (key_length n : ℕ) → first (ring_rows key_length n) ≡ 0 → (is_key_length key_length ≡ true) × RingWhole key_length n
ring_admits key_length n e = grind (arith, nat_tests, key_length_some, ring_whole key_length n)

pub slot_within : (i slots key_length : ℕ) → i < slots → i * key_length + key_length ≤ slots * key_length
slot_within i slots key_length h = omega (arith, mul-le-mul_right key_length h)

pub length-slot_key : (key_length : ℕ) (ring : List ℕ) (i : ℕ) → i * key_length + key_length ≤ length ring → length (slot_key key_length ring i) ≡ key_length
length-slot_key key_length ring i h = simp (length-take, length-drop) (omega (arith, h))

-- the key of a ring's slot is a key
pub slot_keyed : (key_length slots : ℕ) (ring : List ℕ) (i : ℕ) → is_key_length key_length ≡ true → length ring ≡ slots * key_length → i < slots
    → is_key_length (length (slot_key key_length ring i)) ≡ true
slot_keyed key_length slots ring i k e h =
    ap is_key_length (length-slot_key key_length ring i (omega (arith, slot_within i slots key_length h))) ∙ k

-- ---- trying the slots

-- where trying n slots from i on ends: at one that passes and none before it does, or past them where none does
pub data Ends (test : ℕ → Bool) (i n : ℕ) : Option ℕ → Type 0 where
  stops : {s : ℕ} → i ≤ s → s < i + n → test s ≡ true → ((j : ℕ) → i ≤ j → j < s → test j ≡ false) → Ends test i n (Some s)
  past : ((j : ℕ) → i ≤ j → j < i + n → test j ≡ false) → Ends test i n None

-- how many slots were tried of those below a bound
abbrev pub tried_to : ℕ → Option ℕ → ℕ
tried_to bound None = bound
tried_to bound (Some s) = s + 1

module _ (test : ℕ → Bool) (work : ℕ → ℕ) where
  pub ends : (i sum n : ℕ) → Ends test i n (try_slots test work i sum n).slot
  ends i sum zero = past (λ j l h. absurd (omega arith))
  ends i sum (suc n) = go (test i) refl (ends (suc i) (sum + work i) n)
    where
      rest : Found
      rest = try_slots test work (suc i) (sum + work i) n

      before : test i ≡ false → {m : ℕ} → ((j : ℕ) → suc i ≤ j → j < m → test j ≡ false) → (j : ℕ) → i ≤ j → j < m → test j ≡ false
      before e p j l h = here (ℕ_discrete j i)
        where
          here : Dec (j ≡ i) → test j ≡ false
          here (yes q) = ap test q ∙ e
          here (no q) = p j (omega arith) h

      go : (t : Bool) → test i ≡ t → Ends test (suc i) n rest.slot → Ends test i (suc n) (cond t (record { slot = Some i; work = sum + work i }) rest).slot
      go true e ih = stops (omega arith) (omega arith) e (λ j l h. absurd (omega arith))
      go false e ih = more ih
        where
          more : {o : Option ℕ} → Ends test (suc i) n o → Ends test i (suc n) o
          more (stops l h t p) = stops (omega arith) (omega arith) t (before e p)
          more (past p) = past (λ j l h. before e p j l (omega arith))

  -- where each slot has the same work, it is that times the slots up to the end, and the one that passed
  try_work : (w i sum n : ℕ) → ((j : ℕ) → j < i + n → work j ≡ w)
      → let found = try_slots test work i sum n in
      found.work + i * w ≡ sum + tried_to (i + n) found.slot * w
  try_work w i sum zero each = ap (λ (k : ℕ). sum + k * w) (sym (add-zero i))
  try_work w i sum (suc n) each = go (test i) (try_work w (suc i) (sum + work i) n (λ j h. each j (omega arith)))
    where
      rest : Found
      rest = try_slots test work (suc i) (sum + work i) n

      go : (t : Bool) → rest.work + suc i * w ≡ sum + work i + tried_to (suc i + n) rest.slot * w
          → let found = cond t (record { slot = Some i; work = sum + work i }) rest in
          found.work + i * w ≡ sum + tried_to (i + suc n) found.slot * w
      go true ih = omega (arith, each i (omega arith), add-mul i 1 w)
      go false ih =
          omega (arith, each i (omega arith), suc-mul i w, ih) ∙ ap (λ (m : ℕ). sum + tried_to m rest.slot * w) (suc-add i n ∙ sym (add-suc i n))

-- tests and works that agree on the slots end alike
try_same : (test test' : ℕ → Bool) (work work' : ℕ → ℕ) (i sum n : ℕ) → ((j : ℕ) → j < i + n → test j ≡ test' j) → ((j : ℕ) → j < i + n → work j ≡ work' j)
    → try_slots test work i sum n ≡ try_slots test' work' i sum n
try_same test test' work work' i sum zero t w = refl
try_same test test' work work' i sum (suc n) t w =
    ap₂ (λ (b : Bool) (k : ℕ). cond b (record { slot = Some i; work = sum + k }) (try_slots test work (suc i) (sum + k) n)) (t i (omega arith)) (w i (omega arith))
    ∙ ap (λ (r : Found). cond (test' i) (record { slot = Some i; work = sum + work' i }) r) (try_same test test' work work' (suc i) (sum + work' i) n (λ j h. t j (omega arith)) (λ j h. w j (omega arith)))

-- how far the search is before slot i:
-- the rest ends where all do, and of the scratch only the first n bytes were used
pub record Trying (test : ℕ → Bool) (work : ℕ → ℕ) (most count n : ℕ) (scratch used : List ℕ) (i sum : ℕ) : Type 0 where
  pub within : i ≤ count
  pub long : length used ≡ length scratch
  pub rest : drop n used ≡ drop n scratch
  pub same : try_slots test work i sum (count - i) ≡ try_slots test work 0 0 count
  pub small : sum ≤ i * most

module _ (test : ℕ → Bool) (work : ℕ → ℕ) (most count n : ℕ) (scratch : List ℕ) where
  -- the end of those that are left, where the first of them passes or not
  next_ends : {used : List ℕ} {i sum w : ℕ} → Trying test work most count n scratch used i sum → i < count → (t : Bool) → test i ≡ t → w ≡ work i
      → cond t (record { slot = Some i; work = sum + w }) (try_slots test work (suc i) (sum + w) (count - suc i)) ≡ try_slots test work 0 0 count
  next_ends {i = i} {sum = sum} s h t e u =
      let left : suc (count - suc i) ≡ count - i = omega arith in
      sym (ap₂ (λ (b : Bool) (k : ℕ). cond b (record { slot = Some i; work = sum + k }) (try_slots test work (suc i) (sum + k) (count - suc i))) e (sym u))
      ∙ ap (try_slots test work i sum) left
      ∙ s.same

  pub trying_more : (used used' : List ℕ) (i sum w : ℕ) → Trying test work most count n scratch used i sum → i < count → test i ≡ false
      → w ≡ work i → w ≤ most → length used' ≡ length used → drop n used' ≡ drop n used → Trying test work most count n scratch used' (i + 1) (sum + w)
  trying_more used used' i sum w s h t e m l r =
      rw add-one
      (record { within = omega arith; long = l ∙ s.long; rest = r ∙ s.rest; same = next_ends s h false t e; small = omega (arith, s.small, m, suc-mul i most) })

  pub trying_found : (used : List ℕ) (i sum w : ℕ) → Trying test work most count n scratch used i sum → i < count → test i ≡ true → w ≡ work i
      → ◌≡◌ {A = Found} (record { slot = Some i; work = sum + w }) (try_slots test work 0 0 count)
  trying_found used i sum w s h t e = next_ends s h true t e

-- ---- the slot that is chosen

-- the first of n slots that passes a test, or slot 0 where none does
pub data Chosen (test : ℕ → Bool) (n : ℕ) : ℕ → Type 0 where
  found : {s : ℕ} → s < n → test s ≡ true → ((i : ℕ) → i < s → test i ≡ false) → Chosen test n s
  none : ((i : ℕ) → i < n → test i ≡ false) → Chosen test n 0

module _ (test : ℕ → Bool) (n : ℕ) where
  pub chosen_within : {s : ℕ} → 0 < n → Chosen test n s → s < n
  chosen_within z (found h t p) = h
  chosen_within z (none p) = z

  -- a slot chosen that does not pass is slot 0
  pub chosen_closed : {s : ℕ} → Chosen test n s → test s ≡ false → s ≡ 0
  chosen_closed (found h t p) e = absurd (false≢true (sym e ∙ t))
  chosen_closed (none p) e = refl

  -- tests that agree on the slots give the same one
  pub chosen_same : {s : ℕ} (test' : ℕ → Bool) → ((i : ℕ) → i < n → test i ≡ test' i) → Chosen test n s → Chosen test' n s
  chosen_same test' same (found {s} h t p) = found h (sym (same s h) ∙ t) (λ i l. sym (same i (omega arith)) ∙ p i l)
  chosen_same test' same (none p) = none (λ i h. sym (same i h) ∙ p i h)

  module _ (work : ℕ → ℕ) where
    abbrev end : Found
    end = try_slots test work 0 0 n

    -- trying them gives it
    chosen : Chosen test n (given_slot end)
    chosen = go (ends test work 0 0 n)
      where
        go : {o : Option ℕ} → Ends test 0 n o → Chosen test n (unwrap_or o 0)
        go (stops l h t p) = found (omega arith) t (λ i h. p i (omega arith) h)
        go (past p) = none (λ i h. p i (omega arith) (omega arith))

    -- the slots up to it where it passes, or all, are those that were tried
    pub chosen_tried : {s : ℕ} → 0 < n → Chosen test n s → cond (test s) (s + 1) n ≡ tried_to (0 + n) end.slot
    chosen_tried z c = go z c (ends test work 0 0 n)
      where
        go : {s : ℕ} {o : Option ℕ} → 0 < n → Chosen test n s → Ends test 0 n o → cond (test s) (s + 1) n ≡ tried_to (0 + n) o
        go z (found {s} h t p) (stops {s = s'} l h' t' p') = simp t (same (dec_lt s' s) (dec_lt s s'))
          where
            same : Dec (s' < s) → Dec (s < s') → s + 1 ≡ s' + 1
            same (yes k) d = absurd (false≢true (sym (p s' k) ∙ t'))
            same (no k) (yes k') = absurd (false≢true (sym (p' s (omega arith) k') ∙ t))
            same (no k) (no k') = omega arith
        go z (found {s} h t p) (past p') = absurd (false≢true (sym (p' s (omega arith) (omega arith)) ∙ t))
        go z (none p) (stops {s = s'} l h' t' p') = absurd (false≢true (sym (p s' (omega arith)) ∙ t'))
        go z (none p) (past p') = simp (p 0 z) (omega arith)

-- ---- the call

module _ (key_length : ℕ) (ring bytes lens input output scratch : List ℕ) where
  abbrev count : ℕ
  count = slot_count key_length (length ring)

  -- which slot's key opens, and what each takes
  abbrev opens : ℕ → Bool
  opens = opens_at key_length ring bytes lens input output scratch

  abbrev works : ℕ → ℕ
  works = work_at key_length ring bytes lens input output scratch

  -- the work of all keys that are tried
  abbrev ring_work : ℕ
  ring_work = tried_work opens works 0 count

  abbrev with_slot : ℕ → RingResult
  with_slot s = record { slot = s; call = open_slot_with key_length ring bytes lens input output scratch s ring_work }

  -- the call where n is the number of the refusals that judge the ring, and its two cases
  abbrev pub ring_by : ℕ → RingResult
  ring_by n = settle n (with_slot (given_slot (try_slots opens works 0 0 count))) (λ m. refused_ring m output scratch)

  pub data RingCase (n : ℕ) : RingResult → Type 0 where
    tries : {s : ℕ} → n ≡ 0 → Chosen opens count s → RingCase n (with_slot s)
    refuses : (n ≡ 0 → ⊥) → RingCase n (refused_ring n output scratch)

  pub ring_case : (n : ℕ) → RingCase n (ring_by n)
  ring_case n = go (ℕ_discrete n 0)
    where
      go : Dec (n ≡ 0) → RingCase n (ring_by n)
      go (yes e) = subst (RingCase n) (sym (settle_complete n _ (λ m. refused_ring m output scratch) e)) (tries e (chosen opens count works))
      go (no e) = subst (RingCase n) (sym (settle_refused n _ (λ m. refused_ring m output scratch) e)) (refuses e)

  pub open_ring_case : RingCase (first (ring_rows key_length (length ring))) (open_ring key_length ring bytes lens input output scratch)
  unfolding open_ring
  open_ring_case = ring_case (first (ring_rows key_length (length ring)))

  -- ---- its judgement

  -- the rows behind the ring's
  abbrev rest_rows : List Row
  rest_rows = header_rows key_length lens (length bytes) ++ open_rows (length input) (length output) (length scratch)

  -- the number that the judgement gives
  abbrev pub ring_judged : ℕ
  ring_judged = first (ring_rows key_length (length ring) ++ rest_rows)

  pub ring_judged_lem : ring_judged ≡ 0 → (first (ring_rows key_length (length ring)) ≡ 0) × (first rest_rows ≡ 0)
  ring_judged_lem e = first_none (ring_rows key_length (length ring)) rest_rows refl e

  -- with any slot's key the judgement is the same
  slot_judged : first (ring_rows key_length (length ring)) ≡ 0 → (i : ℕ) → i < count → open_judged (slot_key key_length ring i) bytes lens input output scratch ≡ first rest_rows
  slot_judged z i h =
      ap (λ (m : ℕ). first (header_rows m lens (length bytes) ++ open_rows (length input) (length output) (length scratch)))
      (length-slot_key key_length ring i (omega (arith, slot_within i count key_length h, (ring_admits key_length (length ring) z).1.whole)))

  pub slot_passed : ring_judged ≡ 0 → (i : ℕ) → i < count → open_judged (slot_key key_length ring i) bytes lens input output scratch ≡ 0
  slot_passed e i h = slot_judged (ring_judged_lem e).0 i h ∙ (ring_judged_lem e).1

  -- so the slots can be tried
  pub ring_passed : ring_judged ≡ 0 → HasSlots key_length ring count × Openable input scratch
  ring_passed e =
      let whole = ring_admits key_length (length ring) (ring_judged_lem e).0 in
      let admits = open_admits (slot_key key_length ring 0) bytes lens input output scratch (slot_passed e 0 whole.1.some) in
      ((whole.0, whole.1.whole, whole.1.most), (admits.tagged, omega (arith, admits.scratch_fits)))

  -- where one key is refused by it, no key has work
  pub ring_idle : first (ring_rows key_length (length ring)) ≡ 0 → (s : ℕ) → s < count
      → (open_judged (slot_key key_length ring s) bytes lens input output scratch ≡ 0 → ⊥) → ring_work ≡ 0
  ring_idle z s h due =
      let each : (j : ℕ) → j < 0 + count → works j ≡ 0 = λ j k.
      ap (λ (r : CallResult). r.outcome.work) (open_due (slot_key key_length ring j) bytes lens input output scratch (λ y. due (slot_judged z s h ∙ sym (slot_judged z j (omega arith)) ∙ y))) in
      omega (arith, try_work opens works 0 0 0 count each, mul-zero (tried_to (0 + count) (try_slots opens works 0 0 count).slot))

  -- past it the work is one key's, times the keys tried
  pub ring_work_lem : first (ring_rows key_length (length ring)) ≡ 0 → {s : ℕ} → Chosen opens count s → open_judged (slot_key key_length ring s) bytes lens input output scratch ≡ 0
      → ring_work ≡ cond (opens s) (s + 1) count * block_work lens (length input - 16)
  ring_work_lem z {s} g judged =
      let some = (ring_admits key_length (length ring) z).1.some in
      let w = block_work lens (length input - 16) in
      let each : (j : ℕ) → j < 0 + count → works j ≡ w = λ j h.
      let passed = slot_judged z j (omega arith) ∙ sym (slot_judged z s (chosen_within opens count some g)) ∙ judged in
      open_work (slot_key key_length ring j) bytes lens input output scratch passed
      ∙ genuine_lengths (slot_key key_length ring j) bytes lens input (omega (arith, (open_admits (slot_key key_length ring j) bytes lens input output scratch passed).sums)) in
      omega (arith, zero-mul w, try_work opens works w 0 0 count each) ∙ ap (λ (k : ℕ). k * w) (sym (chosen_tried opens count works some g))

  -- a refusal of the judgement is the ring's
  pub ring_refused : (r : Refusal) → number_of r ≡ ring_judged → DidRing (open_ring key_length ring bytes lens input output scratch) (record { answer = Err r; slot = 0; work = 0 }) output scratch
  ring_refused r e = go open_ring_case
    where
      go : {result : RingResult} → RingCase (first (ring_rows key_length (length ring))) result → DidRing result (record { answer = Err r; slot = 0; work = 0 }) output scratch
      go (refuses z) =
          record { slot = refl; call = record { outcome = ap refusal (e ∙ first_stop (ring_rows key_length (length ring)) rest_rows z); output = refl; scratch = refl } }
      go (tries {s} z g) =
          let within = chosen_within opens count (ring_admits key_length (length ring) z).1.some g in
          let judged = first_pass (ring_rows key_length (length ring)) rest_rows refl z ∙ sym (slot_judged z s within) in
          let due-one : open_judged (slot_key key_length ring s) bytes lens input output scratch ≡ 0 → ⊥ = λ y. was_due r ring_judged e (judged ∙ y) in
          let refused = open_refused (slot_key key_length ring s) bytes lens input output scratch r (e ∙ judged) in
          let closed : opens s ≡ false = ne_eqb (open_slot key_length ring bytes lens input output scratch s).outcome.number 0
          (λ y. due-one (sym (ap (λ (r : CallResult). r.outcome.number) (open_due (slot_key key_length ring s) bytes lens input output scratch due-one)) ∙ y)) in
          record {
            slot = sym (chosen_closed opens count g closed);
            call = record { outcome = outcome_with (Err r) 0 0 refused.outcome (sym (ring_idle z s within due-one)); output = refused.output; scratch = refused.scratch };
          }

  -- what the search and the release after it come to:
  -- end is where the search ended, and used what it left in the scratch
  pub ring_released : ring_judged ≡ 0 → (end : Found)
      → end ≡ try_slots (λ i. genuine (slot_key key_length ring i) (strings bytes lens) input) (λ i. genuine_work (slot_key key_length ring i) (strings bytes lens) input) 0 0 count
      → (given : RingAnswer) (g : Bool) (used output' scratch' : List ℕ) → given.slot ≡ given_slot end → g ≡ is_some end.slot → given.work ≡ end.work
      → (is_some end.slot ≡ true → used ≡ put scratch 0 (opened (slot_key key_length ring (given_slot end)) input))
      → ((w : ℕ) → outcome_of given.answer w ≡ cond g (success (length input - 16) w) (forged w))
      → output' ≡ put output 0 (cond g (take (length input - 16) used) (replicate (length input - 16) 0))
      → drop (length input - 16) used ≡ drop (length input - 16) scratch → scratch' ≡ put used 0 (replicate (scratch_need (length input - 16)) 0)
      → DidRing (open_ring key_length ring bytes lens input output scratch) given output' scratch'
  unfolding open_ring
  ring_released judged end search given g used output' scratch' at told sum text o p rest wiped =
      subst (λ (r : RingResult). DidRing r given output' scratch') (sym result) (go tells at told text)
    where
      test : ℕ → Bool
      test i = genuine (slot_key key_length ring i) (strings bytes lens) input

      tells : Ends test 0 count end.slot
      tells = subst (λ (f : Found). Ends test 0 count f.slot) (sym search) (ends test (λ i. genuine_work (slot_key key_length ring i) (strings bytes lens) input) 0 0 count)

      -- the single calls' numbers and works end the search at the same slot
      same : end ≡ try_slots opens works 0 0 count
      same =
          search
          ∙ sym
          (try_same opens test works _ 0 0 count (λ j h. open_number_lem (slot_key key_length ring j) bytes lens input output scratch (slot_passed judged j (omega arith)))
          (λ j h. open_work (slot_key key_length ring j) bytes lens input output scratch (slot_passed judged j (omega arith))))

      result : open_ring key_length ring bytes lens input output scratch ≡ record { slot = given_slot end; call = open_slot_with key_length ring bytes lens input output scratch (given_slot end) end.work }
      result =
          ap ring_by (ring_judged_lem judged).0
          ∙ ap (λ (f : Found). record { slot = given_slot f; call = open_slot_with key_length ring bytes lens input output scratch (given_slot f) f.work }) (sym same)

      -- with the slot given, the test of its key, and what was read where it is passed
      by : (s : ℕ) → given.slot ≡ s → s < count → test s ≡ g → (g ≡ true → take (length input - 16) used ≡ opened (slot_key key_length ring s) input)
          → DidRing (record { slot = s; call = open_slot_with key_length ring bytes lens input output scratch s end.work }) given output' scratch'
      by s e h t read =
          let w = genuine_work (slot_key key_length ring s) (strings bytes lens) input in
          let one = open_released (slot_key key_length ring s) bytes lens input output scratch g t (slot_passed judged s h) (record { answer = given.answer; work = w }) (take (length input - 16) used) output' scratch' o refl read p
          (scratch_wiped scratch used (length input - 16) rest wiped) in
          record { slot = e; call = record { outcome = outcome_with given.answer w given.work one.outcome sum; output = one.output; scratch = one.scratch } }

      go : {slot : Option ℕ} → Ends test 0 count slot → given.slot ≡ unwrap_or slot 0 → g ≡ is_some slot → (is_some slot ≡ true → used ≡ put scratch 0 (opened (slot_key key_length ring (unwrap_or slot 0)) input))
          → DidRing (record { slot = unwrap_or slot 0; call = open_slot_with key_length ring bytes lens input output scratch (unwrap_or slot 0) end.work }) given output' scratch'
      go (stops {s = s} l h t n) at e text =
          let within : s < count = omega arith in
          let long : length (opened (slot_key key_length ring s) input) ≡ length input - 16 = length-opened (slot_key key_length ring s) input in
          let fits = (open_admits (slot_key key_length ring s) bytes lens input output scratch (slot_passed judged s within)).scratch_fits in
          by s at within (t ∙ sym e) (λ _. text_read (opened (slot_key key_length ring s) input) scratch (text refl) (sym long) (omega (arith, long, fits)))
      go (past n) at e text =
          let some = (ring_admits key_length (length ring) (ring_judged_lem judged).0).1.some in
          by 0 at some (n 0 (omega arith) (omega (arith, some)) ∙ sym e) (λ t. absurd (false≢true (sym e ∙ t)))

  -- slot and length are small, so that both fit in one number with the answer's
  pub ring_case_small : {n : ℕ} {result : RingResult} → (n ≡ 0 → first (ring_rows key_length (length ring)) ≡ 0) → RingCase n result
      → (result.slot ≤ 3) × (result.call.outcome.count ≤ limit)
  ring_case_small f (refuses z) = (omega arith, omega arith)
  ring_case_small f (tries {s} z g) =
      let whole = (ring_admits key_length (length ring) (f z)).1 in (
        omega (arith, chosen_within opens count whole.some g, whole.most),
        omega (arith, open_count (slot_key key_length ring s) bytes lens input output scratch),
      )

  pub ring_small : (given : RingAnswer) (last last' : List ℕ) → DidRing (open_ring key_length ring bytes lens input output scratch) given last last'
      → (given.slot ≤ 3) × ((outcome_of given.answer 0).count ≤ limit)
  ring_small given last last' d =
      let small = ring_case_small (λ z. z) open_ring_case in
      (omega (arith, small.0, d.slot), omega (arith, small.1, ap (λ (o : Outcome). o.count) (outcome_with given.answer given.work 0 d.call.outcome refl)))
