-- Laws of keys and of the whole calls' definitions.
-- Assumes nothing.
use mathlib.Core.Path.{◌≡◌, refl, ap, ap₂, sym, subst, ◌∙◌}
use mathlib.Core.Bool.{Bool, true, false, not, cond}
use mathlib.Core.List.{List, ◌++◌}
use Prim.Native.Nat.{ℕ, ◌+◌, ◌-◌, ◌/◌, ◌≤◌}
use native.Mathlib.Nat.{zero-add}
use native.Mathlib.Omega.{arith}
use lib.Dec.{eqb}
use lib.ListN.{length, take, drop, replicate, length-drop, length-replicate}
use lib.Seq.{length-take-le, drop_at, drop-drop}
use Rattle.octets.specs.Octets.{put}
use Rattle.octets.proofs.Strings.{take_put, put-put}
use Rattle.std.proofs.lemmas.List.{take_rest}
use Rattle.aes.specs.Aes.{is_width, aes}
use Rattle.aes.specs.Cipher.{cipher}
use Rattle.aes.specs.KeyExpansion.{round_keys}
use Rattle.header.specs.Header.{total, strings}
use Rattle.s2v.specs.S2v.{s2v, s2v_work}
use Rattle.keystream.specs.KeyStream.{xor_stream}
use Rattle.keystream.proofs.Laws.{length-xor_stream}
use Rattle.std.specs.Prelude.{Ok, Err}
use Rattle.std.proofs.lemmas.Bool.Decides.{nat_tests}
use Rattle.answers.specs.declared.Refusal.{Refusal}
use Rattle.answers.specs.Answer.{Row, first, forged_or, number_of, outcome_of, success, refusal, forged}
use Rattle.answers.proofs.Laws.{was_due, none_where, settle_complete, settle_refused, settle_number, settle_forged, settle_other, settle_verdict, by_complete, by_refusal, by_test, passed_at_0, passed_at_8, unpassed, settle_rows, settle_test}
use Rattle.whole.specs.declared.Report.{Report}
use Rattle.whole.specs.Calls.{is_key_length, limit, scratch_need, header_rows, opening_rows, CallResult, refused_call, DidCall, seal_number, sealed_call, seal_call, open_number, opened_call, forged_call, open_call}
use Rattle.whole.specs.Siv.{tag_of, tag_of_work, streamed, sealed, sealed_work, opened, genuine, genuine_work}

-- ---- keys

-- what holds of all three key lengths
pub record KeyHalves (n : ℕ) : Type 0 where
  pub half : is_width (n / 2) ≡ true
  pub even : n ≡ n / 2 + n / 2
  pub most : n / 2 ≤ 32

pub halves : (n : ℕ) → is_key_length n ≡ true → KeyHalves n
unfolding is_key_length is_width
halves n e = grind (arith, nat_tests)

pub half_most : (n : ℕ) → is_key_length n ≡ true → n / 2 ≤ 32
half_most n e = (halves n e).most

-- ---- keys under the cipher

-- AES under a key is the cipher at its width under its round keys
pub aes_cipher : {width : ℕ} {keys : List ℕ} (key : List ℕ) → width ≡ length key → keys ≡ round_keys key → cipher width keys ≡ aes key
unfolding aes
aes_cipher key w k = ap₂ cipher w k

-- ---- the halves of a key

module _ (key : List ℕ) (e : is_key_length (length key) ≡ true) where
  long_mac : length key / 2 ≡ length (take (length key / 2) key)
  long_mac = let h : KeyHalves (length key) = halves (length key) e in sym (length-take-le (length key / 2) key (omega arith))

  long_ctr : length key / 2 ≡ length (drop (length key / 2) key)
  long_ctr = let h : KeyHalves (length key) = halves (length key) e in simp length-drop (omega arith)

  -- each half is as long as an AES key
  pub mac_width : is_width (length (take (length key / 2) key)) ≡ true
  mac_width = ap is_width (sym long_mac) ∙ (halves (length key) e).half

  pub ctr_width : is_width (length (take (length key - length key / 2) (drop (length key / 2) key))) ≡ true
  ctr_width = ap (λ (l : List ℕ). is_width (length l)) (take_rest key (length key / 2)) ∙ ap is_width (sym long_ctr) ∙ (halves (length key) e).half

  -- the tag is by the round keys of the first half
  pub tag_by_half : {keys : List ℕ} (ss : List (List ℕ)) (p : List ℕ) → keys ≡ round_keys (take (length key / 2) key) → s2v (cipher (length key / 2) keys) ss p ≡ tag_of key ss p
  unfolding tag_of
  tag_by_half ss p k = ap (λ (E : List ℕ → List ℕ). s2v E ss p) (aes_cipher (take (length key / 2) key) long_mac k)

  pub tag_work_by_half : {keys : List ℕ} (ss : List (List ℕ)) (p : List ℕ) → keys ≡ round_keys (take (length key / 2) key) → s2v_work (cipher (length key / 2) keys) ss p ≡ tag_of_work key ss p
  unfolding tag_of_work
  tag_work_by_half ss p k = ap (λ (E : List ℕ → List ℕ). s2v_work E ss p) (aes_cipher (take (length key / 2) key) long_mac k)

  -- the key stream is by those of the second
  pub stream_by_half : {keys : List ℕ} (v s : List ℕ) → keys ≡ round_keys (drop (length key / 2) key) → xor_stream (cipher (length key / 2) keys) v 0 s ≡ streamed key v s
  unfolding streamed
  stream_by_half v s k = ap (λ (E : List ℕ → List ℕ). xor_stream E v 0 s) (aes_cipher (drop (length key / 2) key) long_ctr k)

-- the tag at the front, and behind it the plaintext under the tag's key stream, are the sealed string
pub sealed_written : (key : List ℕ) (ss : List (List ℕ)) (p out : List ℕ) {v wrote last : List ℕ} → v ≡ tag_of key ss p → length v ≡ 16 → 16 + length p ≤ length out
    → wrote ≡ put out 0 v → last ≡ put wrote 16 (streamed key v p) → last ≡ put out 0 (sealed key ss p)
unfolding sealed
sealed_written key ss p out {v} t long room w e =
    let place : 16 ≡ 0 + length v = omega arith in
    e
    ∙ ap₂ (λ (l : List ℕ) (n : ℕ). put l n (streamed key v p)) w place
    ∙ put-put out 0 v (streamed key v p) (omega (arith, long, room))
    ∙ ap (λ (x : List ℕ). put out 0 (x ++ streamed key x p)) t

-- ---- the whole calls

-- what the refusals of key and header list leave
pub header_admits : (key_length : ℕ) (lens : List ℕ) (headerLength : ℕ) → first (header_rows key_length lens headerLength) ≡ 0
    → (is_key_length key_length ≡ true) × (total lens ≡ headerLength) × (length lens ≤ 126)
header_admits key_length lens headerLength e = grind (arith, nat_tests)

-- what sealing's refusals leave
pub record SealAdmits (key bytes lens input output scratch : List ℕ) : Type 0 where
  pub keyed : is_key_length (length key) ≡ true
  pub sums : total lens ≡ length bytes
  pub count_fits : length lens ≤ 126
  pub limited : length input ≤ 1048576
  pub output_fits : length input + 16 ≤ length output
  pub scratch_fits : scratch_need (length input) ≤ length scratch

module _ (key bytes lens input output scratch : List ℕ) where
  pub seal_admits : seal_number key bytes lens input output scratch ≡ 0 → SealAdmits key bytes lens input output scratch
  unfolding seal_number
  seal_admits e = grind (arith, nat_tests)

  -- the call by its number
  pub seal_untouched : (seal_number key bytes lens input output scratch ≡ 0 → ⊥)
      → seal_call key bytes lens input output scratch ≡ refused_call (seal_number key bytes lens input output scratch) output scratch
  unfolding seal_call
  seal_untouched z = settle_refused _ _ (λ n. refused_call n output scratch) z

  pub seal_complete : seal_number key bytes lens input output scratch ≡ 0 → seal_call key bytes lens input output scratch ≡ sealed_call key bytes lens input output scratch
  unfolding seal_call
  seal_complete e = settle_complete _ _ (λ n. refused_call n output scratch) e

  pub seal_numbered : (seal_call key bytes lens input output scratch).outcome.number ≡ seal_number key bytes lens input output scratch
  unfolding seal_call
  seal_numbered = settle_number _ _ (λ n. refused_call n output scratch) (λ (r : CallResult). r.outcome.number) refl (λ m. refl)

  -- no length is above the longest sealed string's
  pub seal_count : (seal_call key bytes lens input output scratch).outcome.count ≤ limit + 16
  unfolding seal_call
  seal_count = grind (arith, nat_tests, seal_admits)

  pub seal_refused : (r : Refusal) → number_of r ≡ seal_number key bytes lens input output scratch
      → DidCall (seal_call key bytes lens input output scratch) (record { answer = Err r; work = 0 }) output scratch
  unfolding seal_call
  seal_refused r e =
      by_refusal _ _ (λ o. record { outcome = o; output = output; scratch = scratch }) (λ (d : CallResult). DidCall d (record { answer = Err r; work = 0 }) output scratch) r e
      (record { outcome = refl; output = refl; scratch = refl })

  pub seal_done : (w : ℕ) (output' scratch' : List ℕ) → seal_number key bytes lens input output scratch ≡ 0 → w ≡ sealed_work key (strings bytes lens) input
      → output' ≡ put output 0 (sealed key (strings bytes lens) input) → scratch' ≡ put scratch 0 (replicate (scratch_need (length input)) 0)
      → DidCall (seal_call key bytes lens input output scratch) (record { answer = Ok (length input + 16); work = w }) output' scratch'
  unfolding seal_call
  seal_done w output' scratch' e n p q =
      by_complete _ _ (λ n. refused_call n output scratch) (λ (r : CallResult). DidCall r (record { answer = Ok (length input + 16); work = w }) output' scratch') e
      (record { outcome = ap (success (length input + 16)) n; output = p; scratch = q })

-- ---- whole opening

-- what opening's refusals but 8 leave
pub record OpenAdmits (key bytes lens input output scratch : List ℕ) : Type 0 where
  pub keyed : is_key_length (length key) ≡ true
  pub sums : total lens ≡ length bytes
  pub count_fits : length lens ≤ 126
  pub tagged : 16 ≤ length input
  pub limited : length input ≤ 1048592
  pub output_fits : length input - 16 ≤ length output
  pub scratch_fits : scratch_need (length input - 16) ≤ length scratch

-- what was in the bytes that are written over does not matter
pub put_beyond : (l used b : List ℕ) (n : ℕ) → n ≤ length b → drop n used ≡ drop n l → put used 0 b ≡ put l 0 b
unfolding put
put_beyond l used b n h e =
    let past : n + (length b - n) ≡ 0 + length b = omega arith in
    let split : (k : List ℕ) → drop (0 + length b) k ≡ drop (length b - n) (drop n k) = λ k. sym (drop-drop (length b - n) n k ∙ ap (λ (m : ℕ). drop m k) past) in
    ap (λ (t : List ℕ). b ++ t) (split used ∙ ap (drop (length b - n)) e ∙ sym (split l))

-- a string to the front of a list leaves the rest
pub put_rest : (l a : List ℕ) {used : List ℕ} {n : ℕ} → used ≡ put l 0 a → n ≡ length a → drop n used ≡ drop n l
unfolding put
put_rest l a u n =
    ap₂ drop n u ∙ drop_at a (drop (0 + length a) l) (length a) refl ∙ ap (λ (m : ℕ). drop m l) (zero-add (length a) ∙ sym n)

-- zeros written over what was written before them
pub put-over : (l a b : List ℕ) → length a ≤ length b → put (put l 0 a) 0 b ≡ put l 0 b
put-over l a b h = put_beyond l (put l 0 a) b (length a) h (put_rest l a refl refl)

pub length-streamed : (key v s : List ℕ) → length (streamed key v s) ≡ length s
unfolding streamed
length-streamed key v s = length-xor_stream _ v 0 s

pub length-opened : (key y : List ℕ) → length (opened key y) ≡ length y - 16
unfolding opened
length-opened key y = length-streamed key (take 16 y) (drop 16 y) ∙ length-drop 16 y

-- a ciphertext opens under its tag as the sealed string that both are
pub opened_by : (key y : List ℕ) {v ciphertext : List ℕ} → v ≡ take 16 y → ciphertext ≡ drop 16 y → streamed key v ciphertext ≡ opened key y
unfolding opened
opened_by key y p q = ap₂ (streamed key) p q

-- a string, read off the front that it was written to
pub text_read : (text scratch : List ℕ) {used : List ℕ} {n : ℕ} → used ≡ put scratch 0 text → n ≡ length text → length text ≤ length scratch → take n used ≡ text
text_read text scratch u n h =
    let count : _ ≡ 0 + length text = n ∙ sym (zero-add (length text)) in
    ap₂ take count u ∙ take_put scratch 0 text (omega arith)

-- the scratch is zero once zeros are written over what was used of it
pub scratch_wiped : (scratch used : List ℕ) (n : ℕ) {last : List ℕ} → drop n used ≡ drop n scratch → last ≡ put used 0 (replicate (scratch_need n) 0)
    → last ≡ put scratch 0 (replicate (scratch_need n) 0)
scratch_wiped scratch used n u e =
    let zeros : length (replicate {A = ℕ} (scratch_need n) 0) ≡ scratch_need n = length-replicate {A = ℕ} (scratch_need n) 0 in
    e ∙ put_beyond scratch used (replicate (scratch_need n) 0) n (omega arith) u

module _ (key bytes lens input output scratch : List ℕ) where
  -- the rows that lengths decide, and the number that they give
  abbrev rows : List Row
  rows = opening_rows (length key) lens (length bytes) (length input) (length output) (length scratch)

  abbrev pub open_judged : ℕ
  open_judged = first rows

  pub open_admits : open_judged ≡ 0 → OpenAdmits key bytes lens input output scratch
  open_admits e = grind (arith, nat_tests)

  abbrev test : Bool
  test = genuine key (strings bytes lens) input

  abbrev call : CallResult
  call = open_call key bytes lens input output scratch

  abbrev number : ℕ
  number = open_number key bytes lens input output scratch

  -- past the judgement the tag decides
  pub by_tag : open_judged ≡ 0 → number ≡ cond (not test) 8 0
  unfolding open_number
  by_tag judged = by_test rows test refl judged

  -- 0 and 8 passed the judgement, and any other number did not
  pub open_passed : number ≡ 0 → open_judged ≡ 0
  unfolding open_number
  open_passed e = passed_at_0 rows test refl e

  pub open_forged : number ≡ 8 → open_judged ≡ 0
  unfolding open_number
  open_forged e = passed_at_8 rows test refl e

  pub open_unpassed : (number ≡ 0 → ⊥) → (number ≡ 8 → ⊥) → open_judged ≡ 0 → ⊥
  unfolding open_number
  open_unpassed z e = unpassed rows test refl z e

  abbrev complete : CallResult
  complete = opened_call key bytes lens input output scratch

  abbrev forgery : CallResult
  forgery = forged_call key bytes lens input output scratch

  abbrev untouched : ℕ → CallResult
  untouched n = refused_call n output scratch

  -- the call by its number
  pub open_untouched : (number ≡ 0 → ⊥) → (number ≡ 8 → ⊥) → call ≡ untouched number
  unfolding open_call
  open_untouched z e = settle_other number complete forgery untouched z e

  pub open_complete : number ≡ 0 → call ≡ complete
  unfolding open_call
  open_complete e = settle_complete number complete (forged_or forgery untouched) e

  pub open_forgery : number ≡ 8 → call ≡ forgery
  unfolding open_call
  open_forgery e = settle_forged number complete forgery untouched e

  pub open_numbered : call.outcome.number ≡ number
  unfolding open_call
  open_numbered = settle_verdict number complete forgery untouched (λ (r : CallResult). r.outcome.number) refl refl (λ m. refl)

  -- a refusal of the judgement is the call's, with no work
  pub open_due : (open_judged ≡ 0 → ⊥) → call ≡ untouched open_judged
  unfolding open_call open_number
  open_due z = settle_rows rows test complete forgery untouched refl z

  pub open_refused : (r : Refusal) → number_of r ≡ open_judged → DidCall call (record { answer = Err r; work = 0 }) output scratch
  open_refused r e =
      subst (λ (d : CallResult). DidCall d (record { answer = Err r; work = 0 }) output scratch) (sym (open_due (was_due r open_judged e)))
      (record { outcome = ap refusal e; output = refl; scratch = refl })

  -- past the judgement the string is genuine or forged, and the work is that of telling
  pub open_told : (g : Bool) → test ≡ g → open_judged ≡ 0 → call ≡ cond g complete forgery
  unfolding open_call open_number
  open_told g e judged = settle_test rows test complete forgery untouched refl g e judged

  pub open_work : open_judged ≡ 0 → call.outcome.work ≡ genuine_work key (strings bytes lens) input
  open_work judged = grind (arith, nat_tests, open_told test refl judged)

  -- past the judgement the number is 0 where the string is genuine
  pub open_number_lem : open_judged ≡ 0 → eqb call.outcome.number 0 ≡ genuine key (strings bytes lens) input
  open_number_lem judged = ap (λ (n : ℕ). eqb n 0) (open_numbered ∙ by_tag judged) ∙ none_where test

  -- no length is above the longest plaintext's
  pub open_count : call.outcome.count ≤ limit
  open_count = grind (arith, nat_tests, open_admits, open_passed, open_complete, open_forgery, open_untouched)

  -- past the judgement what was read of a genuine string, or zeros, are in the output
  pub open_released : (g : Bool) → genuine key (strings bytes lens) input ≡ g → open_judged ≡ 0 → (report : Report) (read output' scratch' : List ℕ)
      → ((w : ℕ) → outcome_of report.answer w ≡ cond g (success (length input - 16) w) (forged w)) → report.work ≡ genuine_work key (strings bytes lens) input → (g ≡ true → read ≡ opened key input)
      → output' ≡ put output 0 (cond g read (replicate (length input - 16) 0)) → scratch' ≡ put scratch 0 (replicate (scratch_need (length input - 16)) 0)
      → DidCall (open_call key bytes lens input output scratch) report output' scratch'
  open_released true e judged report read output' scratch' o w t p q =
      subst (λ (r : CallResult). DidCall r report output' scratch') (sym (open_told true e judged))
      (record { outcome = o _ ∙ ap (success (length input - 16)) w; output = p ∙ ap (put output 0) (t refl); scratch = q })
  open_released false e judged report read output' scratch' o w t p q =
      subst (λ (r : CallResult). DidCall r report output' scratch') (sym (open_told false e judged)) (record { outcome = o _ ∙ ap forged w; output = p; scratch = q })
