-- Rules 12.2 to 12.4 hold: a ring opens what one of its keys opens, with the smallest such slot.
-- Assumes nothing.
use mathlib.Core.Path.{◌≡◌, refl, ap, ap₂, sym, subst, ◌∙◌}
use mathlib.Core.Bool.{Bool, true, false, false≢true, cond, and-false}
use mathlib.Core.List.{List, [], ◌∷◌}
use Prim.Native.Nat.{ℕ, zero, suc, ◌+◌, ◌-◌, ◌*◌, ◌≤◌, ◌<◌, max}
use native.Mathlib.Decide.{dec_le}
use native.Mathlib.Nat.{zero-add, zero-mul, suc-add, add-suc, add-zero}
use native.Mathlib.Numerals.{add-one}
use native.Mathlib.Omega.{arith}
use lib.Dec.{eqb}
use lib.ListN.{length, take, drop}
use lib.Seq.{take-length}
use borrow.Author.Tests.{eqb-true, eq-eqb, ne_eqb}
use Rattle.std.specs.Prelude.{Some, None}
use Rattle.header.specs.Header.{strings}
use Rattle.answers.specs.Answer.{Outcome, first}
use Rattle.whole.specs.Calls.{is_key_length, open_number, open_call}
use Rattle.whole.specs.declared.Found.{Found}
use Rattle.whole.specs.Ring.{is_ring, slot_count, slot_key, ring_rows, try_slots, tried_work, RingResult, open_slot, opens_at, work_at, open_slot_with, open_ring}
use Rattle.whole.proofs.Ring.{key_length_some, whole_ring, slot_keyed, Chosen, found, none, chosen_within, chosen_tried, tried_to, RingCase, tries, refuses, open_ring_case, ring_work_lem}
use Rattle.kinphlor.specs.Interface.{empty_nonce, from_c, open_from_c, empty_nonce_ring, open_ring_from_c}
use Rattle.demands.specs.Figures.{IsKeyLength, sum, whole_work}
use Rattle.demands.specs.Ring.{IsRing, Opens, works_of, BySlot, SealsUnder, ThirdRing, Ring}
use Rattle.demands.specs.Second.{Admits}
use Rattle.demands.specs.Whole.{ThirdWhole}
use Rattle.demands.proofs.Figures.{when, key_length_lem, work_all}
use Rattle.demands.proofs.Siv.{length-sealed}
use Rattle.demands.proofs.Whole.{judged, accepts_the_sealed}

is_key : (n : ℕ) → IsKeyLength n → is_key_length n ≡ true
is_key n k = when (key_length_lem n) k

-- what the ring's call comes to with the slot given, of so many
abbrev given : ℕ → ℕ → List ℕ → List ℕ → List ℕ → List ℕ → List ℕ → List ℕ → ℕ → RingResult
given key_length slots ring bytes lens input output scratch s =
    record {
      slot = s;
      call =
          open_slot_with key_length ring bytes lens input output scratch s
          (tried_work (opens_at key_length ring bytes lens input output scratch) (work_at key_length ring bytes lens input output scratch) 0 slots);
    }

module _ (key_length slots : ℕ) (ring bytes lens input output scratch : List ℕ) (r : IsRing key_length slots ring) where
  -- what holds of whole opening with the slot given holds of the ring's call
  by_given : (P : RingResult → Type 0)
      → ((s : ℕ) → Chosen (opens_at key_length ring bytes lens input output scratch) slots s → P (given key_length slots ring bytes lens input output scratch s))
      → P (open_ring key_length ring bytes lens input output scratch)
  by_given P f = go (open_ring_case key_length ring bytes lens input output scratch)
    where
      is : (is_ring key_length (length ring) ≡ true) × (slot_count key_length (length ring) ≡ slots)
      is = whole_ring key_length slots (length ring) (key_length_some key_length (is_key key_length r.keyed)) r.whole r.some r.most

      go : {result : RingResult} → RingCase key_length ring bytes lens input output scratch (first (ring_rows key_length (length ring))) result → P result
      go (tries {s} z g) =
          subst P (ap (λ (n : ℕ). given key_length n ring bytes lens input output scratch s) (sym is.1)) (f s (subst (λ (n : ℕ). Chosen (opens_at key_length ring bytes lens input output scratch) n s) is.1 g))
      go (refuses z) = absurd (z (simp (is_key key_length r.keyed, is.0)))

-- ---- the slot

module _ (key_length slots : ℕ) (ring bytes lens input output scratch : List ℕ) where
  -- trying n slots from i on, after the works of those before, ends with the works of all that were tried
  tried_works : (i before n : ℕ) → before ≡ works_of key_length slots ring bytes lens input output scratch i
      → let found = try_slots (opens_at key_length ring bytes lens input output scratch) (work_at key_length ring bytes lens input output scratch) i before n in
      found.work ≡ works_of key_length slots ring bytes lens input output scratch (tried_to (i + n) found.slot)
  tried_works i before zero e = e ∙ ap (works_of key_length slots ring bytes lens input output scratch) (sym (add-zero i))
  tried_works i before (suc n) e =
      go (opens_at key_length ring bytes lens input output scratch i)
      (tried_works (suc i) (before + work_at key_length ring bytes lens input output scratch i) n (ap (λ (w : ℕ). w + work_at key_length ring bytes lens input output scratch i) e))
    where
      rest : Found
      rest = try_slots (opens_at key_length ring bytes lens input output scratch) (work_at key_length ring bytes lens input output scratch) (suc i) (before + work_at key_length ring bytes lens input output scratch i) n

      go : (t : Bool) → rest.work ≡ works_of key_length slots ring bytes lens input output scratch (tried_to (suc i + n) rest.slot)
          → let found = cond t (record { slot = Some i; work = before + work_at key_length ring bytes lens input output scratch i }) rest in
          found.work ≡ works_of key_length slots ring bytes lens input output scratch (tried_to (i + suc n) found.slot)
      go true ih =
          ap (λ (w : ℕ). w + work_at key_length ring bytes lens input output scratch i) e
          ∙ ap (works_of key_length slots ring bytes lens input output scratch) (sym (add-one i))
      go false ih = ih ∙ ap (λ (m : ℕ). works_of key_length slots ring bytes lens input output scratch (tried_to m rest.slot)) (suc-add i n ∙ sym (add-suc i n))

  by_slot : 1 ≤ slots → (s : ℕ) → Chosen (opens_at key_length ring bytes lens input output scratch) slots s
      → BySlot key_length slots ring bytes lens input output scratch (given key_length slots ring bytes lens input output scratch s)
  by_slot some s g =
      record {
        within = chosen_within _ slots some g;
        number = refl;
        count = refl;
        work =
            tried_works 0 0 slots refl
            ∙ ap (works_of key_length slots ring bytes lens input output scratch) (sym (chosen_tried (opens_at key_length ring bytes lens input output scratch) slots (work_at key_length ring bytes lens input output scratch) some g));
        buffers = (refl, refl);
        smallest = smallest g;
        otherwise = otherwise g;
      }
    where
      -- a slot that opens does not fail the test
      opens_not : {i : ℕ} → Opens key_length slots ring bytes lens input output scratch i → opens_at key_length ring bytes lens input output scratch i ≡ false → ⊥
      opens_not o e = false≢true (sym e ∙ eq-eqb _ 0 o.1)

      smallest : {s : ℕ} → Chosen (opens_at key_length ring bytes lens input output scratch) slots s → (i : ℕ) → Opens key_length slots ring bytes lens input output scratch i
          → Opens key_length slots ring bytes lens input output scratch s × (s ≤ i)
      smallest (found {s} h t p) i o = ((h, eqb-true _ 0 t), go (dec_le s i))
        where
          go : Dec (s ≤ i) → s ≤ i
          go (yes l) = l
          go (no l) = absurd (opens_not o (p i (omega arith)))
      smallest (none p) i o = absurd (opens_not o (p i o.0))

      otherwise : {s : ℕ} → Chosen (opens_at key_length ring bytes lens input output scratch) slots s
          → ((i : ℕ) → Opens key_length slots ring bytes lens input output scratch i → ⊥) → s ≡ 0
      otherwise (found {s} h t p) never = absurd (never s (h, eqb-true _ 0 t))
      otherwise (none p) never = refl

-- ---- one key

module _ (key bytes lens input output scratch : List ℕ) where
  slot_zero : slot_key (length key) key 0 ≡ key
  slot_zero = ap (λ (n : ℕ). take (length key) (drop n key)) (zero-mul (length key)) ∙ take-length key

  -- one slot's work is all that is tried
  one : (test : ℕ → Bool) (work : ℕ → ℕ) → tried_work test work 0 1 ≡ work 0
  one test work = go (test 0)
    where
      go : (t : Bool) → ◌≡◌ {A = ℕ} (cond {A = Found} t (record { slot = Some 0; work = 0 + work 0 }) (record { slot = None; work = 0 + work 0 })).work (work 0)
      go true = zero-add (work 0)
      go false = zero-add (work 0)

  -- a length that is no key length gives 1 from both
  refused : is_key_length (length key) ≡ false → open_ring (length key) key bytes lens input output scratch ≡ record { slot = 0; call = open_call key bytes lens input output scratch }
  unfolding open_ring open_call open_number
  refused k = simp k

  one_key : open_ring (length key) key bytes lens input output scratch ≡ record { slot = 0; call = open_call key bytes lens input output scratch }
  one_key = go (is_key_length (length key)) refl
    where
      go : (t : Bool) → is_key_length (length key) ≡ t → open_ring (length key) key bytes lens input output scratch ≡ record { slot = 0; call = open_call key bytes lens input output scratch }
      go true k =
          by_given (length key) 1 key bytes lens input output scratch (record { keyed = (key_length_lem (length key)).holds k; whole = omega arith; some = omega arith; most = omega arith })
          (λ r. r ≡ record { slot = 0; call = open_call key bytes lens input output scratch })
          (λ s g.
          let at : s ≡ 0 = omega (arith, chosen_within _ 1 (omega arith) g) in
          ap (given (length key) 1 key bytes lens input output scratch) at
          ∙ ap (λ (w : ℕ). record { slot = 0; call = open_slot_with (length key) key bytes lens input output scratch 0 w }) (one (opens_at (length key) key bytes lens input output scratch) (work_at (length key) key bytes lens input output scratch))
          ∙ ap (λ (k : List ℕ). record { slot = 0; call = open_call k bytes lens input output scratch }) slot_zero)
      go false k = refused k

-- ---- the C interface

from_c_lem : (key_length : ℕ) (ring header input output scratch : List ℕ) (ad nonce : ℕ) → (nonce ≡ 0 → ⊥)
    → open_ring_from_c key_length ring header ad nonce input output scratch ≡ open_ring key_length ring header (ad ∷ nonce ∷ []) input output scratch
unfolding open_ring_from_c empty_nonce_ring
from_c_lem key_length ring header input output scratch ad nonce n = simp (ne_eqb nonce 0 n, and-false)

one_key_from_c : (key header input output scratch : List ℕ) (ad nonce : ℕ)
    → open_ring_from_c (length key) key header ad nonce input output scratch ≡ record { slot = 0; call = open_from_c key header ad nonce input output scratch }
unfolding open_ring_from_c empty_nonce_ring from_c empty_nonce
one_key_from_c key header input output scratch ad nonce = go (is_key_length (length key)) refl (eqb nonce 0) refl
  where
    same : open_ring (length key) key header (ad ∷ nonce ∷ []) input output scratch ≡ record { slot = 0; call = open_call key header (ad ∷ nonce ∷ []) input output scratch }
    same = one_key key header (ad ∷ nonce ∷ []) input output scratch

    -- a key is a ring of one
    ring : is_key_length (length key) ≡ true → is_ring (length key) (length key) ≡ true
    ring k = (whole_ring (length key) 1 (length key) (key_length_some (length key) k) (omega arith) (omega arith) (omega arith)).0

    go : (a : Bool) → is_key_length (length key) ≡ a → (b : Bool) → eqb nonce 0 ≡ b
        → open_ring_from_c (length key) key header ad nonce input output scratch ≡ record { slot = 0; call = open_from_c key header ad nonce input output scratch }
    go false k b n = simp k same
    go true k true n = simp (k, ring k, n)
    go true k false n = simp (k, ring k, n) same

-- ---- the third demand

module _ (key_length slots : ℕ) (ring bytes lens y output scratch : List ℕ) (r : IsRing key_length slots ring) (count_fits : length lens ≤ 126) (sums : sum lens ≡ length bytes)
    (output_fits : length y - 16 ≤ length output) (scratch_fits : max (length y - 16) 16 ≤ length scratch) where
  admits : (i : ℕ) → i < slots → Admits (slot_key key_length ring i) bytes lens
  admits i h = record { keyed = (key_length_lem _).holds (slot_keyed key_length slots ring i (is_key key_length r.keyed) r.whole h); count_fits = count_fits; sums = sums }

  -- the third demand for each slot's key
  by_key : (i : ℕ) → i < slots → ThirdWhole (slot_key key_length ring i) bytes lens y output scratch
  by_key i h = accepts_the_sealed (slot_key key_length ring i) bytes lens y output scratch (admits i h) output_fits scratch_fits

  opens_sealed : (i : ℕ) (P : List ℕ) → SealsUnder key_length slots ring bytes lens y i P → Opens key_length slots ring bytes lens y output scratch i
  opens_sealed i P (h, p) = (h, ap (λ (o : Outcome). o.number) ((by_key i h).accepted P p).0)

  module _ (s : ℕ) (g : Chosen (opens_at key_length ring bytes lens y output scratch) slots s) where
    within : s < slots
    within = chosen_within _ slots r.some g

    smallest : (i : ℕ) (P : List ℕ) → SealsUnder key_length slots ring bytes lens y i P
        → Opens key_length slots ring bytes lens y output scratch s × (s ≤ i)
    smallest i P p = (by_slot key_length slots ring bytes lens y output scratch r.some s g).smallest i (opens_sealed i P p)

    -- something seals to y under the slot given, so no slot before it is the first under which something does
    is_first : (i : ℕ) (P : List ℕ) → SealsUnder key_length slots ring bytes lens y i P
        → ((j : ℕ) (Q : List ℕ) → SealsUnder key_length slots ring bytes lens y j Q → i ≤ j) → s ≡ i
    is_first i P p least = go (dec_le i s) (smallest i P p).1
      where
        go : Dec (i ≤ s) → s ≤ i → s ≡ i
        go (yes l) h = omega arith
        go (no l) h = absurd ((by_key s within).refuses (λ Q q. l (least s Q (within, q))) (smallest i P p).0.1)

    -- the work of all keys that were tried
    tried : ℕ
    tried = tried_work (opens_at key_length ring bytes lens y output scratch) (work_at key_length ring bytes lens y output scratch) 0 slots

    work : 16 ≤ length y → length y ≤ 1048592 → tried ≡ cond (opens_at key_length ring bytes lens y output scratch s) (s + 1) slots * whole_work lens (length y - 16)
    unfolding tried
    work tagged limited =
        subst
        (λ (n : ℕ). Chosen (opens_at key_length ring bytes lens y output scratch) n s
        → tried_work (opens_at key_length ring bytes lens y output scratch) (work_at key_length ring bytes lens y output scratch) 0 n
        ≡ cond (opens_at key_length ring bytes lens y output scratch s) (s + 1) n * whole_work lens (length y - 16))
        is.1
        (λ c.
        ring_work_lem key_length ring bytes lens y output scratch (simp (is_key key_length r.keyed, is.0)) c
        (judged (slot_key key_length ring s) bytes lens y output scratch (admits s within) output_fits scratch_fits tagged limited)
        ∙ ap (λ (w : ℕ). cond (opens_at key_length ring bytes lens y output scratch s) (s + 1) (slot_count key_length (length ring)) * w) (work_all lens (length y - 16)))
        g
      where
        is : (is_ring key_length (length ring) ≡ true) × (slot_count key_length (length ring) ≡ slots)
        is = whole_ring key_length slots (length ring) (key_length_some key_length (is_key key_length r.keyed)) r.whole r.some r.most

    -- the outcome of the slot given, with that work
    outcome : {o : Outcome} {w : ℕ} → (open_slot key_length ring bytes lens y output scratch s).outcome ≡ o → tried ≡ w
        → (given key_length slots ring bytes lens y output scratch s).call.outcome ≡ record { number = o.number; count = o.count; work = w }
    unfolding tried
    outcome e f = ap₂ (λ (o : Outcome) (w : ℕ). record { number = o.number; count = o.count; work = w }) e f

    third_ring : ThirdRing key_length slots ring bytes lens y output (given key_length slots ring bytes lens y output scratch s)
    third_ring =
        record {
          accepts = λ P p. ((within, (by_key s within).accepts P p), λ j Q q. (smallest j Q q).1);
          accepted = λ i P p least.
              let at : s ≡ i = is_first i P p least in
              let gives = (by_key s within).accepted P (subst (λ (j : ℕ). SealsUnder key_length slots ring bytes lens y j P) (sym at) p).1 in
              let long : length y ≡ length P + 16 = ap length (sym p.1.1) ∙ length-sealed (slot_key key_length ring i) (strings bytes lens) P in
              let count : length y - 16 ≡ length P = omega arith in
              let all = work (omega arith) (omega (arith, p.1.0)) ∙ ap (λ (t : Bool). cond t (s + 1) slots * whole_work lens (length y - 16)) (eq-eqb _ 0 (ap (λ (o : Outcome). o.number) gives.0)) in
              ((outcome gives.0 (all ∙ ap₂ (λ (j n : ℕ). (j + 1) * whole_work lens n) at count), gives.1), at);
          opens = λ i P p. (smallest i P p).0.1;
          refuses = λ never. (by_key s within).refuses (λ P p. never s P (within, p));
          wipes = λ never tagged limited.
              let wiped = (by_key s within).wipes (λ P p. never s P (within, p)) tagged limited in
              let closed = ne_eqb _ 0 ((by_key s within).refuses (λ P p. never s P (within, p))) in
              (outcome wiped.0 (work tagged limited ∙ ap (λ (t : Bool). cond t (s + 1) slots * whole_work lens (length y - 16)) closed), wiped.1);
        }

pub opens_by_the_smallest_slot : Ring
opens_by_the_smallest_slot =
    record {
      by_slot = λ key_length slots ring bytes lens input output scratch r.
          by_given key_length slots ring bytes lens input output scratch r (BySlot key_length slots ring bytes lens input output scratch)
          (by_slot key_length slots ring bytes lens input output scratch r.some);
      one_key = one_key;
      from_c = from_c_lem;
      one_key_from_c = one_key_from_c;
      third = λ key_length slots ring bytes lens y output scratch r count_fits sums output_fits scratch_fits.
          by_given key_length slots ring bytes lens y output scratch r (ThirdRing key_length slots ring bytes lens y output)
          (third_ring key_length slots ring bytes lens y output scratch r count_fits sums output_fits scratch_fits);
    }
