-- `kinphlor::kinphlor_open` meets its contract.
-- Assumes nothing.
use mathlib.Core.Path.{sym, ◌∙◌}
use Rattle.kinphlor.proofs.Laws.{nonce_refused, call_packed}
use Rattle.kinphlor.proofs.kinphlor_open.Goals as goal

pub returns-then-empty_nonce : goal.returns-then-empty_nonce
returns-then-empty_nonce c = nonce_refused _ _ _ _ _ (sym c.empty_nonce.ensures ∙ c.if-empty_nonce.true) c.pack.ensures

pub returns : goal.returns
returns c =
    call_packed _ _ _ _ _ _ (sym c.empty_nonce.ensures ∙ c.if-empty_nonce.false) c.open.ensures c.pack-2.ensures
