-- `gcm_ctr::xor_stream` meets its contract: after j turns the first j blocks are written, and the rest is to come.
-- Assumes nothing.
use Rattle.std.proofs.Common.{◌≡◌}
use Rattle.std.specs.Iterator.Adapters.{enumerate_count, enumerate_source}
use Rattle.std.specs.Slice.Iter.{chunks_rest, chunks_size}
use Rattle.aes.specs.Keyed.{enciphers}
use Rattle.gcm_ctr.specs.CounterMode.{aes_ctr}
use Rattle.gcm_ctr.proofs.Laws.{Coming}
use Rattle.gcm_ctr.proofs.xor_stream.Given as goal

abbrev pub invariant-loop-j : goal.invariant-loop-j
invariant-loop-j l =
    let pieces = l.j-iterator in
    let j = enumerate_count pieces in
    let rest = chunks_rest (enumerate_source pieces) in
    let E = enciphers l.cipher in
    (goal.iterator-loop-j).can_next pieces × (goal.iterator-loop-j).is_finite pieces
    × (chunks_size (enumerate_source pieces) ≡ 16)
    × Coming E l.src l.initial.dst (aes_ctr E l.initial.counter l.src) l.dst rest l.counter j × (l.work ≡ j)
