-- `aes::State::add` meets its contract.
-- Assumes nothing.
use Rattle.aes.specs.Cipher.{add_round_key}
use Rattle.aes.specs.State.{bytes_of}
use Rattle.aes.proofs.Words.{own, word-xor, state_bytes}
use Rattle.aes.proofs.State.add.Goals as goal

pub returns : goal.returns
returns c =
    let args = c.args in
    let s = args.self in
    let k = args.key in
    state_bytes (add_round_key (bytes_of k) (bytes_of s))
    (record { column0 = word-xor (own s.c0) (own k.c0); column1 = word-xor (own s.c1) (own k.c1); column2 = word-xor (own s.c2) (own k.c2); column3 = word-xor (own s.c3) (own k.c3) })
