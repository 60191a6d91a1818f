-- `keystream::xor_blocks` meets its contract: after j turns the first j blocks are written, and counted.
-- Assumes nothing.
use mathlib.Core.Path.{◌≡◌}
use Rattle.std.specs.Iterator.Adapters.{enumerate_count, enumerate_source}
use Rattle.std.specs.Slice.Iter.{chunks_exact_rest, chunks_exact_size}
use Rattle.aes.specs.Keyed.{enciphers}
use Rattle.keystream.proofs.Writing.{Reached}
use Rattle.keystream.proofs.xor_blocks.Given as goal

abbrev pub invariant-loop-j : goal.invariant-loop-j
invariant-loop-j l =
    let blocks = l.j-iterator in
    let j = enumerate_count blocks in
    let rest = chunks_exact_rest (enumerate_source blocks) in
    (goal.iterator-loop-j).can_next blocks × (goal.iterator-loop-j).is_finite blocks
    × (chunks_exact_size (enumerate_source blocks) ≡ 16)
    × Reached (enciphers l.cipher) l.v l.i l.src l.initial.dst l.at l.dst rest j × (l.work ≡ j)
