-- `ring::open_ring` meets its contract.
-- Assumes nothing.
use borrow.Author.Rules.{rules}
use mathlib.Core.Path.{sym, refl}
use Rattle.whole.proofs.Ring.{key_length_some, ring_passed, ring_refused, ring_released}
use Rattle.ring.proofs.open_ring.Goals as goal

pub returns-in-Err : goal.returns-in-Err
returns-in-Err c = ring_refused _ _ _ _ _ _ _ c.in-Err.refusal c.in-Err.ensures

pub nonzero_div-slots : goal.nonzero_div-slots
nonzero_div-slots c =
    let a = c.args in
    key_length_some _ (ring_passed a.key_len a.ring.now a.header.now a.lens.now a.input.now a.output.now a.scratch.now (sym c.in_default.ensures)).0.0

pub try_slots-found-requires : goal.try_slots-found-requires
try_slots-found-requires c =
    let a = c.args in
    ring_passed a.key_len a.ring.now a.header.now a.lens.now a.input.now a.output.now a.scratch.now (sym c.in_default.ensures)

pub returns : goal.returns
returns c =
    let tried = c.try_slots-found.ensures in
    let ended = c.release_or_wipe.ensures in
    ring_released _ _ _ _ _ _ _ (sym c.in_default.ensures) _ tried.found _ _ _ _ _ c.unwrap_or.ensures (search rules) refl tried.text ended.outcome ended.output tried.rest ended.scratch
