-- A prepared head on every input: number, length, work and the head, rules 13.1 to 13.5 and 15.5;
-- RFC 5297 2.4 takes the strings in order, so D over the first can be kept (the SIV paper, section 4).
-- Assumes nothing.
use Rattle.std.specs.Prelude.{◌≡◌, Bool, not, ◌&&◌, List, [], ◌∷◌, ℕ, ◌+◌, ◌/◌, eqb, ltb, length, replicate}
use Rattle.aes.specs.Aes.{is_width}
use Rattle.aes.specs.Cipher.{cipher}
use Rattle.aes.specs.KeyExpansion.{round_keys}
use Rattle.cmac.specs.Cmac.{zeros, subkeys, zero_cipher, zero_cipher_work}
use Rattle.header.specs.Header.{total, strings}
use Rattle.s2v.specs.S2v.{absorb_strings, absorb_work, header_result, header_work}
use Rattle.answers.specs.Answer.{Outcome, success, refusal, outcome_of, Row, row, first, settle}
use Rattle.whole.specs.Calls.{header_rows}
use Rattle.whole.specs.Siv.{mac_key, ctr_key}
use Rattle.head.specs.declared.Head.{Head}
use Rattle.head.specs.declared.Made.{Made}

-- all fields zero
abbrev pub zero_head : Head
zero_head =
    record {
      width = 0;
      mac_keys = replicate 240 0;
      ctr_keys = replicate 240 0;
      l = zeros;
      d = zeros;
      count = 0;
    }

-- the head of a key and header strings
unfoldable pub head_of : List ℕ → List (List ℕ) → Head
head_of key ss =
    let width = length key / 2 in
    let E = cipher width (round_keys (mac_key key)) in
    record {
      width = width;
      mac_keys = round_keys (mac_key key);
      ctr_keys = round_keys (ctr_key key);
      l = zero_cipher E;
      d = header_result E (subkeys (zero_cipher E)) ss;
      count = length ss;
    }

unfoldable pub head_of_work : List (List ℕ) → ℕ
head_of_work ss = zero_cipher_work + header_work ss

-- a head with the next strings: D goes on over them, and they are counted
unfoldable pub extended : Head → List (List ℕ) → Head
extended h ss =
    record {
      width = h.width;
      mac_keys = h.mac_keys;
      ctr_keys = h.ctr_keys;
      l = h.l;
      d = absorb_strings (cipher h.width h.mac_keys) (subkeys h.l) h.d ss;
      count = h.count + length ss;
    }

unfoldable pub extended_work : List (List ℕ) → ℕ
extended_work ss = absorb_work 0 ss

-- what refusal 9 judges of a head: the key width, and the count of its strings
unfoldable pub fits_head : Head → Bool
fits_head h = is_width h.width && not (ltb 126 h.count)

-- the refusals that judge a head and the strings that follow its own; 126 bounds both together
abbrev pub rest_rows : Head → List ℕ → ℕ → List Row
rest_rows h lens restLength =
    row 9 (not (fits_head h)) ∷ row 2 (ltb 126 (h.count + length lens)) ∷ row 3 (not (eqb (total lens) restLength)) ∷ []

-- everything that making a head does
pub record MakeResult : Type 0 where
  pub outcome : Outcome
  pub head : Head

-- a call gave what its definition says
pub record DidMake (result : MakeResult) (made : Made) : Type 0 where
  pub outcome : outcome_of made.answer made.work ≡ result.outcome
  pub head : made.head ≡ result.head

-- success with a head and its work, and a refusal, with the head all zero
abbrev pub made_head : ℕ → Head → MakeResult
made_head w h = record { outcome = success 0 w; head = h }

abbrev pub refused_head : ℕ → MakeResult
refused_head n = record { outcome = refusal n; head = zero_head }

-- make a head from a key and the first strings of a header list
unfoldable pub make_head : List ℕ → List ℕ → List ℕ → MakeResult
make_head key bytes lens =
    settle (first (header_rows (length key) lens (length bytes))) (made_head (head_of_work (strings bytes lens)) (head_of key (strings bytes lens))) refused_head

-- extend a head by the next strings
unfoldable pub extend_head : Head → List ℕ → List ℕ → MakeResult
extend_head h bytes lens =
    settle (first (rest_rows h lens (length bytes))) (made_head (extended_work (strings bytes lens)) (extended h (strings bytes lens))) refused_head
