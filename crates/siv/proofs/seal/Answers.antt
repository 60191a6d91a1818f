-- `siv::seal` meets its contract.
-- Assumes nothing.
use mathlib.Core.Path.{◌≡◌, ap, sym, ◌∙◌}
use Prim.Native.Nat.{ℕ}
use lib.ListN.{replicate}
use Rattle.octets.specs.Octets.{put}
use Rattle.whole.specs.Calls.{seal_number}
use Rattle.whole.proofs.Laws.{seal_refused, seal_done}
use Rattle.siv.proofs.seal.Goals as goal

pub returns-in-Err : goal.returns-in-Err
unfolding seal_number
returns-in-Err c = seal_refused _ _ _ _ _ _ c.in-Err.refusal c.in-Err.ensures

pub returns : goal.returns
unfolding seal_number
returns c =
    let args = c.args in
    let judged : seal_number args.key.now args.header.now args.lens.now args.input.now args.output.now args.scratch.now ≡ 0 = sym c.in_default.ensures in
    let sealed = c.seal_admitted-work.ensures in
    seal_done _ _ _ _ _ _ _ _ _ judged sealed.work sealed.sealed
    (c.zero_at.ensures ∙ ap (λ (n : ℕ). put args.scratch.now 0 (replicate n 0)) c.scratch_need.ensures)
