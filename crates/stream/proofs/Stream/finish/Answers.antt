-- `stream::Stream::finish` meets its contract.
-- Assumes nothing.
use mathlib.Core.Path.{◌≡◌, refl, ap, sym, ◌∙◌}
use mathlib.Core.Bool.{Bool, true, false}
use mathlib.Core.List.{List}
use Prim.Native.Nat.{ℕ}
use Rattle.octets.specs.Octets.{same}
use Rattle.answers.specs.Answer.{success, forged}
use Rattle.stream.proofs.Laws.{judged_by, admits, finish_refused, finish_told}
use Rattle.stream.proofs.Stream.finish.Goals as goal

pub returns-in-Err : goal.returns-in-Err
returns-in-Err c = finish_refused _ _ c.in-Err.refusal (judged_by 3 _ _ c.fits-fits.ensures c.in-Err.ensures) (c.refused.ensures _)

pub invariant_of-tag : goal.invariant_of-tag
invariant_of-tag c = record { fit = admits 3 _ c.fits-fits.ensures c.in_default.ensures }

-- what the comparison of the tags told
told : (given : List ℕ) {computed tag : List ℕ} {t b : Bool} → tag ≡ computed → b ≡ same tag given → b ≡ t → same computed given ≡ t
told given e r k = sym (ap (λ (x : List ℕ). same x given) e) ∙ sym r ∙ k

pub returns-then-same_block : goal.returns-then-same_block
returns-then-same_block c =
    let tag = c.tag-tag.ensures in
    finish_told _ _ true (told _ tag.block c.same_block.ensures c.if-same_block.true) (judged_by 3 _ _ c.fits-fits.ensures c.in_default.ensures)
    (record { outcome = ap (success _) tag.work; state = c.ended.ensures; output = refl })

pub returns : goal.returns
returns c =
    let tag = c.tag-tag.ensures in
    finish_told _ _ false (told _ tag.block c.same_block.ensures c.if-same_block.false) (judged_by 3 _ _ c.fits-fits.ensures c.in_default.ensures)
    (record { outcome = ap forged tag.work; state = c.ended-2.ensures; output = c.zero_at.ensures })
