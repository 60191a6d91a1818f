-- `kinphlor::kinphlor_open_ring` meets its contract.
-- Assumes nothing.
use mathlib.Core.Path.{sym, ◌∙◌}
use Rattle.whole.proofs.Ring.{ring_small}
use Rattle.kinphlor.proofs.Laws.{ring_nonce_refused, ring_packed}
use Rattle.kinphlor.proofs.kinphlor_open_ring.Goals as goal

pub returns-then-empty_nonce_ring : goal.returns-then-empty_nonce_ring
returns-then-empty_nonce_ring c = ring_nonce_refused _ _ _ _ _ _ _ _ (sym c.empty_nonce_ring.ensures ∙ c.if-empty_nonce_ring.true) c.pack.ensures

pub pack_ring-requires : goal.pack_ring-requires
pack_ring-requires c = ring_small _ _ _ _ _ _ _ _ _ _ c.open_ring.ensures

pub returns : goal.returns
returns c =
    ring_packed _ _ _ _ _ _ _ _ c.open_ring.result (sym c.empty_nonce_ring.ensures ∙ c.if-empty_nonce_ring.false) c.open_ring.ensures c.pack_ring.ensures
