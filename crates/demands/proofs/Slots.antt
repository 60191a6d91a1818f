-- What an opening under a ring of keys comes to, in the table's terms and from C.
-- Assumes nothing.
use mathlib.Core.Path.{◌≡◌, refl, ap, ap₂, sym, subst, ◌∙◌}
use mathlib.Core.Bool.{Bool, true, false, not, true≢false, false≢true, ◌&&◌, and-false}
use mathlib.Core.List.{List, [], ◌∷◌, ◌++◌}
use Prim.Native.Nat.{ℕ, zero, suc, ◌<◌}
use native.Mathlib.Decide.{ℕ_discrete}
use native.Mathlib.Omega.{arith}
use lib.Dec.{eqb}
use lib.ListN.{length}
use Rattle.answers.specs.Answer.{row, first}
use Rattle.whole.specs.Calls.{is_key_length}
use Rattle.whole.specs.Ring.{is_ring, slot_key, ring_rows, open_ring}
use Rattle.whole.specs.Siv.{genuine}
use Rattle.whole.proofs.Ring.{Chosen, found, none, RingCase, ring_by, ring_case}
use Rattle.kinphlor.specs.Interface.{empty_nonce_ring, open_ring_from_c}
use Rattle.demands.specs.Figures.{key_in}
use Rattle.demands.specs.First.{Genuine}
use Rattle.demands.proofs.Figures.{Tells, when, alike_bytes}

-- no slot below n passes a test
abbrev pub no_slot : (ℕ → Bool) → ℕ → Bool
no_slot test zero = true
no_slot test (suc n) = not (test n) && no_slot test n

no_slot_none : (test : ℕ → Bool) (n : ℕ) → ((i : ℕ) → i < n → test i ≡ false) → no_slot test n ≡ true
no_slot_none test zero p = refl
no_slot_none test (suc n) p = ap₂ ◌&&◌ (ap not (p n (omega arith))) (no_slot_none test n (λ i h. p i (omega arith)))

no_slot_found : (test : ℕ → Bool) (n i : ℕ) → i < n → test i ≡ true → no_slot test n ≡ false
no_slot_found test zero i h t = absurd (omega arith)
no_slot_found test (suc n) i h t = go (ℕ_discrete i n) (no_slot_found test n i)
  where
    go : Dec (i ≡ n) → (i < n → test i ≡ true → no_slot test n ≡ false) → (not (test n) && no_slot test n) ≡ false
    go (yes e) ih = ap (λ (b : Bool). not b && no_slot test n) (ap test (sym e) ∙ t)
    go (no e) ih = ap (λ (b : Bool). not (test n) && b) (ih (omega arith) t) ∙ and-false (not (test n))

-- no slot passes exactly when the slot chosen does not
pub chosen_no_slot : (test : ℕ → Bool) (n : ℕ) {s : ℕ} → 0 < n → Chosen test n s → not (test s) ≡ no_slot test n
chosen_no_slot test n z (found {s} h t p) = ap not t ∙ sym (no_slot_found test n s h t)
chosen_no_slot test n z (none p) = ap not (p 0 z) ∙ sym (no_slot_none test n p)

-- ---- whose key opens

pub is_genuine : (key : List ℕ) (ss : List (List ℕ)) (y : List ℕ) → Tells (genuine key ss y) (Genuine key ss y)
unfolding genuine
is_genuine key ss y = alike_bytes _ _

pub none_genuine : (key_length : ℕ) (ring : List ℕ) (ss : List (List ℕ)) (y : List ℕ) (n : ℕ)
    → Tells (no_slot (λ i. genuine (slot_key key_length ring i) ss y) n) ((i : ℕ) → i < n → Genuine (key_in key_length ring i) ss y → ⊥)
none_genuine key_length ring ss y n =
    record {
      holds = λ e i h g. true≢false (sym e ∙ no_slot_found _ n i h (when (is_genuine (slot_key key_length ring i) ss y) g));
      fails = λ e never. false≢true (sym e ∙ no_slot_none _ n (λ i h. closed i (never i h) (genuine (slot_key key_length ring i) ss y) (is_genuine (slot_key key_length ring i) ss y)));
    }
  where
    closed : (i : ℕ) → (Genuine (key_in key_length ring i) ss y → ⊥) → (t : Bool) → Tells t (Genuine (key_in key_length ring i) ss y) → t ≡ false
    closed i never true told = absurd (never (told.holds refl))
    closed i never false told = refl

-- ---- the C interface

module _ (key_length : ℕ) (ring header input output scratch : List ℕ) (ad nonce : ℕ) where
  pub ring_case_from_c : RingCase key_length ring header (ad ∷ nonce ∷ []) input output scratch (first (ring_rows key_length (length ring) ++ (row 10 (eqb nonce 0) ∷ [])))
      (open_ring_from_c key_length ring header ad nonce input output scratch)
  unfolding open_ring_from_c empty_nonce_ring open_ring
  ring_case_from_c =
      subst (RingCase key_length ring header (ad ∷ nonce ∷ []) input output scratch number) (sym (go (is_key_length key_length) refl (is_ring key_length (length ring)) refl (eqb nonce 0) refl))
      (ring_case key_length ring header (ad ∷ nonce ∷ []) input output scratch number)
    where
      number : ℕ
      number = first (ring_rows key_length (length ring) ++ (row 10 (eqb nonce 0) ∷ []))

      go : (a : Bool) → is_key_length key_length ≡ a → (b : Bool) → is_ring key_length (length ring) ≡ b → (c : Bool) → eqb nonce 0 ≡ c
          → open_ring_from_c key_length ring header ad nonce input output scratch ≡ ring_by key_length ring header (ad ∷ nonce ∷ []) input output scratch number
      go false e b f c g = simp e
      go true e false f c g = simp (e, f)
      go true e true f true g = simp (e, f, g)
      go true e true f false g = simp (e, f, g)
