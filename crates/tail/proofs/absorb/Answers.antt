-- `tail::absorb` meets its contract.
-- Assumes nothing.
use Rattle.std.proofs.Common.{◌≡◌, ◌+◌, ◌-◌, ◌/◌, length, refl, arith, rules, length-take}
use Rattle.s2v.specs.S2v.{tail_length}
use Rattle.tail.specs.Tail.{leaving_blocks}
use Rattle.tail.proofs.Laws.{piece}
use Rattle.tail.proofs.absorb.Goals as goal

pub overflow_add-n : goal.overflow_add-n
overflow_add-n c = omega (arith, piece c.args.total (length c.args.piece.now))

pub overflow_sub-n : goal.overflow_sub-n
overflow_sub-n c = omega (arith, piece c.args.total (length c.args.piece.now))

pub slice_bounds-chain_joined-end : goal.slice_bounds-chain_joined-end
slice_bounds-chain_joined-end c =
    let tail-length : length c.args.tail ≡ 31 = search rules in
    omega (arith, piece c.args.total (length c.args.piece.now))

pub tail_joined-left-requires : goal.tail_joined-left-requires
tail_joined-left-requires c =
    let tail-length : length c.args.tail ≡ 31 = search rules in
    let p = piece c.args.total (length c.args.piece.now) in
    (simp length-take (omega arith), omega arith)

pub returns : goal.returns
returns c =
    let p = piece c.args.total (length c.args.piece.now) in
    let count : (c.args.used + length c.args.piece.now - c.tail_len-tail_len.result) / 16 ≡ leaving_blocks c.args.total (length c.args.piece.now) = omega arith in
    let used : c.args.used - 0 ≡ tail_length c.args.total = omega arith in
    record {
      chain = rw (used, count) at c.chain_joined-chain.ensures;
      total = refl;
      tail_len = c.tail_len-tail_len.ensures;
      tail = rw (used, count) at c.tail_joined-left.ensures;
    }
