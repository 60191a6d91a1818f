-- `octets::same_block` meets its contract.
-- Assumes nothing.
use mathlib.Core.Path.{◌≡◌, ap, ◌∙◌}
use Prim.Native.Nat.{ℕ}
use borrow.Author.Rules.{rules}
use lib.Dec.{eqb}
use lib.ListN.{length}
use Rattle.std.specs.List.{fold, zip}
use Rattle.std.proofs.lemmas.Iterator.{YieldsList-from_slice, YieldsList-from_zip}
use Rattle.std.proofs.lemmas.Iterator.Consumers.{fold_from_yields_List}
use Rattle.octets.proofs.Strings.{differ, differ_all}
use Rattle.octets.proofs.same_block.Goals as goal

pub returns : goal.returns
returns c =
    let a = c.args.a in
    let b = c.args.b in
    let long : length a ≡ length b = search rules in
    let bits : c.fold.result ≡ fold differ 0 (zip a b) =
    fold_from_yields_List _ differ 0 _ c.fold.ensures.ran
    (YieldsList-from_zip (YieldsList-from_slice a (search rules)) (YieldsList-from_slice b (search rules))) (λ d p r q k. search rules) in
    ap (λ (n : ℕ). eqb n 0) bits ∙ differ_all a b 0 long
