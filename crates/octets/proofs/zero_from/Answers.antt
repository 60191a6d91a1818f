-- `octets::zero_from` meets its contract.
-- Assumes nothing.
use mathlib.Core.Path.{◌≡◌, ap, ◌∙◌}
use Prim.Native.Nat.{ℕ, min}
use borrow.Author.Rules.{rules}
use lib.Bits.{bit_or}
use lib.Dec.{eqb}
use lib.ListN.{length, drop}
use Rattle.std.specs.List.{fold}
use Rattle.std.proofs.lemmas.List.{drop_min, take_rest}
use Rattle.std.proofs.lemmas.Iterator.{YieldsList-from_slice}
use Rattle.std.proofs.lemmas.Iterator.Consumers.{fold_from_yields_List}
use Rattle.octets.proofs.Strings.{or_all}
use Rattle.octets.proofs.zero_from.Goals as goal

pub returns : goal.returns
returns c =
    let s = c.args.s.now in
    let at = c.args.at in
    let place : c.min.result ≡ min at (length s) = search rules in
    let behind : drop c.min.result s ≡ drop at s = ap (λ (n : ℕ). drop n s) place ∙ drop_min at s in
    let bits : c.fold.result ≡ fold bit_or 0 (drop c.min.result s) =
    fold_from_yields_List _ bit_or 0 _ c.fold.ensures.ran (YieldsList-from_slice (drop c.min.result s) (c.iter.ensures.rest ∙ take_rest s c.min.result)) (λ a x b q k. search rules) in
    ap (λ (n : ℕ). eqb n 0) (bits ∙ ap (fold bit_or 0) behind) ∙ or_all (drop at s) 0
