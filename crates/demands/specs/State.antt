-- Prepared heads and stream states, field by field.
-- Rules 9.2, 9.3, 9.10, 13.1 and 15.8.
-- Assumes nothing.
use Rattle.std.specs.Prelude.{cond, List, ◌++◌, ℕ, ◌+◌, ◌-◌, ◌*◌, ◌/◌, ◌%◌, eqb, length, take, drop, replicate}
use Rattle.aes.specs.Aes.{aes}
use Rattle.aes.specs.Cipher.{cipher}
use Rattle.aes.specs.KeyExpansion.{key_expansion}
use Rattle.cmac.specs.Cmac.{subkeys, chain}
use Rattle.s2v.specs.S2v.{absorb_strings, header_result}
use Rattle.counter.specs.Counter.{initial_counter, counter_block}
use Rattle.head.specs.declared.Head.{Head}
use Rattle.stream.specs.declared.Stream.{Stream}
use Rattle.demands.specs.Figures.{tail_count, chained}

-- the halves of a key: the first serves S2V, the second the counter
abbrev first_half : List ℕ → List ℕ
first_half key = take (length key / 2) key

abbrev pub second_half : List ℕ → List ℕ
second_half key = drop (length key / 2) key

-- the round keys of one half: 11, 13 or 15 blocks for 16, 24 or 32 bytes, and zeros behind them, 240 bytes in all
abbrev pub key_bytes : List ℕ → List ℕ
key_bytes half = key_expansion half ++ replicate (240 - 16 * (length half / 4 + 7)) 0

-- the key stream's block that its first n bytes begin and do not use up; zero where there is none
abbrev pub block_begun : (List ℕ → List ℕ) → List ℕ → ℕ → List ℕ
block_begun E v n = cond (eqb (n % 16) 0) (replicate 16 0) (E (counter_block (initial_counter v) (n / 16)))

-- ---- heads

-- all fields zero
abbrev pub blank_head : Head
blank_head =
    record {
      width = 0;
      mac_keys = replicate 240 0;
      ctr_keys = replicate 240 0;
      l = replicate 16 0;
      d = replicate 16 0;
      count = 0;
    }

-- the head of a key and header strings: width, round keys of both halves, L, D over the strings, their count
abbrev pub prepared_head : List ℕ → List (List ℕ) → Head
prepared_head key ss =
    let E = aes (first_half key) in
    let l = E (replicate 16 0) in
    record {
      width = length key / 2;
      mac_keys = key_bytes (first_half key);
      ctr_keys = key_bytes (second_half key);
      l = l;
      d = header_result E (subkeys l) ss;
      count = length ss;
    }

-- a given head with the next strings: D goes on over them, they are counted, and no other field changes
abbrev pub longer_head : Head → List (List ℕ) → Head
longer_head h ss =
    record {
      width = h.width;
      mac_keys = h.mac_keys;
      ctr_keys = h.ctr_keys;
      l = h.l;
      d = absorb_strings (cipher h.width h.mac_keys) (subkeys h.l) h.d ss;
      count = h.count + length ss;
    }

-- ---- states

-- what a begin gives: a stage and a tag, a head's fields, and zeros
abbrev pub begun_state : Head → ℕ → List ℕ → Stream
begun_state h stage v =
    record {
      stage = stage;
      width = h.width;
      mac_keys = h.mac_keys;
      ctr_keys = h.ctr_keys;
      l = h.l;
      d = h.d;
      chain = replicate 16 0;
      v = v;
      kept = replicate 16 0;
      total = 0;
      written = 0;
      tail_len = 0;
      tail = replicate 31 0;
    }

-- the ended state: all fields zero
abbrev pub blank_state : Stream
blank_state = begun_state blank_head 0 (replicate 16 0)

-- the state after pieces that make up P: the chain over the blocks before its tail, and the tail, then zeros
abbrev pub state_of : List ℕ → List (List ℕ) → ℕ → List ℕ → List ℕ → ℕ → List ℕ → Stream
state_of key ss stage v kept written P =
    let h = prepared_head key ss in
    let n = chained (length P) in
    record {
      stage = stage;
      width = h.width;
      mac_keys = h.mac_keys;
      ctr_keys = h.ctr_keys;
      l = h.l;
      d = h.d;
      chain = chain (aes (first_half key)) (replicate 16 0) P n;
      v = v;
      kept = kept;
      total = length P;
      written = written;
      tail_len = tail_count (length P);
      tail = drop (16 * n) P ++ replicate (31 - tail_count (length P)) 0;
    }
