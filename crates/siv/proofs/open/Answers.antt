-- `siv::open` meets its contract.
-- Assumes nothing.
use mathlib.Core.Path.{◌≡◌, sym}
use Prim.Native.Nat.{◌-◌}
use native.Mathlib.Omega.{arith}
use lib.ListN.{length}
use Rattle.whole.specs.Siv.{opened}
use Rattle.whole.proofs.Laws.{open_judged, OpenAdmits, open_admits, open_refused, open_released, length-opened, put_rest, text_read, scratch_wiped}
use Rattle.siv.proofs.open.Goals as goal

pub returns-in-Err : goal.returns-in-Err
returns-in-Err c = open_refused _ _ _ _ _ _ c.in-Err.refusal c.in-Err.ensures

pub returns : goal.returns
returns c =
    let args = c.args in
    let key = args.key.now in
    let y = args.input.now in
    let judged : open_judged key args.header.now args.lens.now y args.output.now args.scratch.now ≡ 0 = sym c.in_default.ensures in
    let admits : OpenAdmits key args.header.now args.lens.now y args.output.now args.scratch.now = open_admits _ _ _ _ _ _ judged in
    let text = opened key y in
    let long : length text ≡ length y - 16 = length-opened key y in
    let used = c.decrypt_and_verify-verdict.new.scratch in
    let tried = c.decrypt_and_verify-verdict.ensures in
    let released = c.release_or_wipe.ensures in
    open_released _ _ _ _ _ _ c.decrypt_and_verify-verdict.result.genuine (sym tried.judged) judged _ _ _ _ released.outcome tried.work
    (λ _. text_read text args.scratch.now tried.text (sym long) (omega (arith, long, admits.scratch_fits))) released.output
    (scratch_wiped args.scratch.now used (length y - 16) (put_rest args.scratch.now text tried.text (sym long)) released.scratch)
