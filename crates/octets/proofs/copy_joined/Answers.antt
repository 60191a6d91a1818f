-- `octets::copy_joined` meets its contract.
-- Assumes nothing.
use mathlib.Core.Path.{◌≡◌, ap, sym, ◌∙◌}
use mathlib.Core.List.{List, ◌++◌}
use Prim.Native.Nat.{ℕ, ◌+◌, ◌-◌, ◌≤◌}
use native.Mathlib.Omega.{arith}
use lib.ListN.{length, take, drop, length-drop}
use lib.Seq.{drop-append-le, take-append-add}
use Rattle.std.proofs.lemmas.List.{take_rest}
use Rattle.octets.specs.Octets.{put, part}
use Rattle.octets.proofs.Strings.{put-put}
use Rattle.octets.proofs.copy_joined.Goals as goal

-- a part of two joined strings that lies in both
seam : (a b : List ℕ) (at n : ℕ) → at ≤ length a → length a - at ≤ n → part (a ++ b) at n ≡ drop at a ++ take (n - (length a - at)) b
seam a b at n h k =
    let count : n ≡ length (drop at a) + (n - (length a - at)) = simp length-drop (omega arith) in
    ap (take n) (drop-append-le at a b h) ∙ ap (λ (m : ℕ). take m (drop at a ++ b)) count ∙ take-append-add (drop at a) b (n - (length a - at))

pub returns : goal.returns
returns c =
    let args = c.args in
    let a = args.a.now in
    let b = args.b.now in
    let dst = args.dst.now in
    let k : ℕ = length a - args.at in
    let rest : List ℕ = take (args.n - k) b in
    let front : length (drop args.at a) ≡ k = length-drop args.at a in
    let place : k ≡ 0 + length (drop args.at a) = omega arith in
    c.copy_at-3.ensures
    ∙ ap (λ (l : List ℕ). put l k rest) (c.copy_at-2.ensures ∙ ap (put dst 0) (take_rest a args.at))
    ∙ ap (λ (m : ℕ). put (put dst 0 (drop args.at a)) m rest) place
    ∙ put-put dst 0 (drop args.at a) rest (omega arith)
    ∙ ap (put dst 0) (sym (seam a b args.at args.n (omega arith) (omega arith)))
