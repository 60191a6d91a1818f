-- Laws of heads: the one that the code puts together, a head with the next strings, and what the refusals leave.
-- Assumes nothing.
use mathlib.Core.Path.{◌≡◌, refl, ap, ap₂, sym, ◌∙◌}
use mathlib.Core.Bool.{true, not, and-eq-true_iff}
use mathlib.Core.List.{List, [], ◌∷◌, ◌++◌}
use Prim.Native.Nat.{ℕ, ◌+◌, ◌-◌, ◌/◌, ◌≤◌, ◌<◌}
use native.Mathlib.Decide.{dec_lt}
use native.Mathlib.Nat.{zero-add}
use native.Mathlib.Omega.{arith}
use lib.Dec.{eqb, ltb}
use lib.ListN.{length, replicate, length-append}
use borrow.Author.Tests.{eqb-true, lt-ltb, le-ltb, ltb-false, not-true, not-false}
use Rattle.std.specs.Array.{AllOfLen}
use Rattle.std.proofs.lemmas.Grind.{same_number_lists}
use Rattle.std.proofs.lemmas.List.{length-replicate, get_or-replicate}
use Rattle.aes.specs.Aes.{is_width}
use Rattle.aes.specs.Cipher.{cipher}
use Rattle.aes.specs.KeyExpansion.{round_keys}
use Rattle.aes.proofs.Widths.{width}
use Rattle.cmac.specs.declared.Subkeys.{Subkeys}
use Rattle.cmac.specs.Cmac.{zeros, subkeys, zero_cipher, cmac}
use Rattle.header.specs.Header.{total, strings}
use Rattle.header.specs.Blocks.{blocks_of_all}
use Rattle.s2v.specs.S2v.{absorb_strings, absorb_work, header_result}
use Rattle.s2v.proofs.Laws.{absorb_append}
use Rattle.answers.specs.declared.Refusal.{Refusal}
use Rattle.answers.specs.Answer.{number_of, first, settle}
use Rattle.answers.proofs.Laws.{not_due, by_refusal, by_complete}
use Rattle.whole.specs.Siv.{mac_key, ctr_key}
use Rattle.whole.proofs.Lengths.{absorb_lengths, header_lengths}
use Rattle.head.specs.declared.Head.{Head}
use Rattle.head.specs.declared.Made.{Made}
use Rattle.head.specs.Head.{zero_head, head_of, head_of_work, extended, extended_work, fits_head, rest_rows, MakeResult, DidMake, made_head, refused_head}

-- a sum past a limit, told without the sum
pub sum_exceeds : (most total n : ℕ) → total ≤ most → ltb (most - total) n ≡ ltb most (total + n)
sum_exceeds most total n h = go (dec_lt (most - total) n)
  where
    go : Dec (most - total < n) → ltb (most - total) n ≡ ltb most (total + n)
    go (yes k) = lt-ltb (most - total) n k ∙ sym (lt-ltb most (total + n) (omega arith))
    go (no k) = le-ltb (most - total) n (omega arith) ∙ sym (le-ltb most (total + n) (omega arith))

-- what an array's default is known by
abbrev pub Zeros : List ℕ → ℕ → Type 0
Zeros xs n = AllOfLen (λ x. x ≡ 0) xs n

pub zeros_by_default : (n : ℕ) (xs : List ℕ) → Zeros xs n → xs ≡ replicate n 0
zeros_by_default n xs a =
    same_number_lists xs (replicate n 0) (a.long ∙ sym (length-replicate n 0)) (λ k h. a.at k 0 (omega (arith, a.long)) ∙ sym (get_or-replicate n k 0 0 (omega (arith, a.long))))

-- ---- the heads that the code puts together

abbrev head_with : ℕ → List ℕ → List ℕ → List ℕ → List ℕ → ℕ → Head
head_with width macs ctrs l d count =
    record {
      width = width;
      mac_keys = macs;
      ctr_keys = ctrs;
      l = l;
      d = d;
      count = count;
    }

-- the default of each field makes the head that comes with a refusal
pub zero_by_default : (h : Head)
    → (h.width ≡ 0) × (Zeros h.mac_keys 240 × (Zeros h.ctr_keys 240 × (Zeros h.l 16 × (Zeros h.d 16 × (h.count ≡ 0)))))
    → h ≡ zero_head
zero_by_default h (w, (m, (c, (l, (d, n))))) =
    let made : head_with h.width h.mac_keys h.ctr_keys h.l h.d h.count ≡ zero_head = simp (w, zeros_by_default _ _ m, zeros_by_default _ _ c, zeros_by_default _ _ l, zeros_by_default _ _ d, n) in
    made

-- no strings more
pub extended_none : (bytes lens : List ℕ) (h : Head) → length lens ≡ 0 → h ≡ extended h (strings bytes lens)
unfolding extended strings absorb_strings
extended_none bytes [] h e = ap (head_with h.width h.mac_keys h.ctr_keys h.l h.d) (omega arith)
extended_none bytes (n ∷ lens) h e = absurd (omega arith)

pub extended_none_work : (bytes lens : List ℕ) → length lens ≡ 0 → 0 ≡ extended_work (strings bytes lens)
unfolding extended_work strings absorb_work
extended_none_work bytes [] e = refl
extended_none_work bytes (n ∷ lens) e = absurd (omega arith)

-- ---- the work by lengths

pub head_lengths : (bytes lens : List ℕ) → total lens ≤ length bytes → head_of_work (strings bytes lens) ≡ 2 + blocks_of_all lens
unfolding head_of_work
head_lengths bytes lens h = omega (arith, header_lengths bytes lens h)

pub extended_lengths : (bytes lens : List ℕ) → total lens ≤ length bytes → extended_work (strings bytes lens) ≡ blocks_of_all lens
unfolding extended_work
extended_lengths bytes lens h = absorb_lengths 0 bytes lens h ∙ zero-add (blocks_of_all lens)

-- ---- a head with the next strings is the head of all of them

pub extended_head : (key : List ℕ) (a b : List (List ℕ)) → extended (head_of key a) b ≡ head_of key (a ++ b)
unfolding extended head_of header_result
extended_head key a b =
    let E : List ℕ → List ℕ = cipher (length key / 2) (round_keys (mac_key key)) in
    let k : Subkeys = subkeys (zero_cipher E) in
    ap₂ (head_with (length key / 2) (round_keys (mac_key key)) (round_keys (ctr_key key)) (zero_cipher E))
    (sym (absorb_append E k (cmac E k zeros) a b))
    (sym (length-append a b))

-- ---- what the refusals leave

-- what a head that fits may be relied on for
pub record Fit (h : Head) : Type 0 where
  pub width : h.width ≤ 32
  pub count_fits : h.count ≤ 126

pub fit : (h : Head) → fits_head h ≡ true → Fit h
unfolding fits_head
fit h e =
    let a = (and-eq-true_iff (is_width h.width) (not (ltb 126 h.count))).0 e in
    record { width = (width h.width a.0).high; count_fits = ltb-false 126 h.count (not-true (ltb 126 h.count) a.1) }

-- a head that fits has few strings
pub few_strings : (h : Head) → fits_head h ≡ true → h.count ≤ 126
few_strings h e = (fit h e).count_fits

pub record RestAdmits (h : Head) (lens : List ℕ) (restLength : ℕ) : Type 0 where
  pub width : h.width ≤ 32
  pub count_fits : h.count + length lens ≤ 126
  pub sums : total lens ≡ restLength

pub rest_admits : (h : Head) (lens : List ℕ) (restLength : ℕ) → first (rest_rows h lens restLength) ≡ 0 → RestAdmits h lens restLength
rest_admits h lens restLength e =
    let a = not_due (not (fits_head h)) 8 _ e in
    let b = not_due (ltb 126 (h.count + length lens)) 1 _ a.1 in
    let c = not_due (not (eqb (total lens) restLength)) 2 0 b.1 in
    record {
      width = (fit h (not-false (fits_head h) a.0)).width;
      count_fits = ltb-false 126 (h.count + length lens) b.0;
      sums = eqb-true (total lens) restLength (not-false (eqb (total lens) restLength) c.0);
    }

-- ---- the calls' results

module _ (n w : ℕ) (h : Head) {made : Made} where
  pub make_refused : (r : Refusal) → number_of r ≡ n → DidMake (refused_head (number_of r)) made → DidMake (settle n (made_head w h) refused_head) made
  make_refused r k d = by_refusal n (made_head w h) (λ o. record { outcome = o; head = zero_head }) (λ (m : MakeResult). DidMake m made) r k d

  pub make_done : 0 ≡ n → DidMake (made_head w h) made → DidMake (settle n (made_head w h) refused_head) made
  make_done e d = by_complete n (made_head w h) refused_head (λ (m : MakeResult). DidMake m made) (sym e) d
