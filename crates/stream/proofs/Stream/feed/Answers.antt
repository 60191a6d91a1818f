-- `stream::Stream::feed` meets its contract.
-- Assumes nothing.
use mathlib.Core.Path.{◌≡◌, ap, ap₂, ◌∙◌}
use mathlib.Core.List.{List}
use Prim.Native.Nat.{ℕ, ◌+◌, ◌-◌, ◌≤◌}
use native.Mathlib.Omega.{arith}
use lib.ListN.{length, take, drop, length-take, length-drop}
use Rattle.octets.specs.Octets.{put}
use Rattle.cmac.specs.Cmac.{chain_work}
use Rattle.cmac.proofs.Laws.{chain_work_lem}
use Rattle.keystream.specs.Pieces.{new_blocks, piece_work}
use Rattle.keystream.proofs.Laws.{stream_work_lem}
use Rattle.answers.specs.Answer.{success}
use Rattle.tail.specs.declared.Absorbed.{Absorbed}
use Rattle.tail.specs.Tail.{leaving_blocks}
use Rattle.tail.proofs.Laws.{cut}
use Rattle.whole.specs.Calls.{limit}
use Rattle.stream.specs.declared.Stream.{Stream}
use Rattle.stream.specs.State.{Absorbs, state_with, kept_at, added, added_work, streamed_at, streamed_with}
use Rattle.stream.specs.Steps.{deciphered, feed_step}
use Rattle.stream.proofs.Laws.{judged_by, refused, done, admits, piece_admits, length-streamed_at, read_back}
use Rattle.stream.proofs.Stream.feed.Goals as goal

-- the fields that make of the state that keeps the block the one with the plaintext, and the work for as many bytes
joined : (s : Stream) (text output : List ℕ) {last kept : List ℕ} {fields : Absorbed} → s.total + length text ≤ length output
    → kept ≡ kept_at s s.total (length text) → last ≡ put output s.total (streamed_at s s.total text)
    → Absorbs s (take (s.total + length text - s.total) (drop s.total last)) fields
    → (state_with (streamed_with s kept s.written) fields.chain.block fields.total fields.tail_len fields.tail ≡ added (deciphered s (length text)) (streamed_at s s.total text))
    × (fields.chain.work ≡ added_work s (length text))
unfolding added added_work
joined s text output {kept = kept} room block wrote step =
    let n = length text in
    let p = streamed_at s s.total text in
    let fed = read_back output s.total n p wrote (length-streamed_at s s.total text) room in
    let long = ap length fed ∙ length-streamed_at s s.total text in (
      ap (λ (x : Stream). streamed_with x kept s.written) step.state ∙ ap₂ (λ (k t : List ℕ). added (streamed_with s k s.written) t) block fed,
      step.work ∙ ap (λ (m : ℕ). chain_work (leaving_blocks s.total m)) long,
    )

pub returns-in-Err : goal.returns-in-Err
unfolding feed_step
returns-in-Err c = refused _ _ _ _ c.in-Err.refusal (judged_by 3 _ _ c.fits-fits.ensures c.in-Err.ensures) (c.refused.ensures _)

pub stream_at-end-requires : goal.stream_at-end-requires
stream_at-end-requires c =
    let a = piece_admits _ limit c.args.self.total (length c.args.piece.now) c.args.self.total _ c.in_default.ensures in
    (a.0, omega (arith, a.1))

pub invariant_of-s : goal.invariant_of-s
invariant_of-s c = record { fit = admits 3 _ c.fits-fits.ensures c.in_default.ensures }

pub absorb-absorbed-requires : goal.absorb-absorbed-requires
absorb-absorbed-requires c =
    let a = piece_admits _ limit c.args.self.total (length c.args.piece.now) _ _ c.in_default.ensures in
    simp (length-take, length-drop) (omega (arith, a.0))

pub returns : goal.returns
unfolding feed_step
returns c =
    let end = c.stream_at-end.ensures in
    let fed = joined c.args.self c.args.piece.now c.args.output.now (piece_admits _ _ _ _ _ _ c.in_default.ensures).1 end.kept.block end.text c.absorb-absorbed.ensures in
    done _ _ _ _ (judged_by 3 _ _ c.fits-fits.ensures c.in_default.ensures)
    (record { outcome = ap (success _) (ap₂ ◌+◌ end.kept.work fed.1); state = c.keep.ensures ∙ fed.0; output = end.text })

pub overflow_add-result : goal.overflow_add-result
unfolding piece_work added_work
overflow_add-result c =
    let s = c.args.self in
    let n = length c.args.piece.now in
    let end = c.stream_at-end.ensures in
    let a = piece_admits _ limit s.total n s.total _ c.in_default.ensures in
    let fed = joined s c.args.piece.now c.args.output.now a.1 end.kept.block end.text c.absorb-absorbed.ensures in
    omega (arith, end.kept.work ∙ stream_work_lem (new_blocks s.total n), fed.1 ∙ chain_work_lem (leaving_blocks s.total n), cut (s.total + n), a.0)
