-- `stream::Stream::write` meets its contract.
-- Assumes nothing.
use mathlib.Core.Path.{ap}
use mathlib.Core.List.{List}
use Prim.Native.Nat.{ℕ, ◌+◌}
use native.Mathlib.Omega.{arith}
use lib.ListN.{length}
use Rattle.answers.specs.Answer.{success}
use Rattle.stream.specs.State.{streamed_with}
use Rattle.stream.specs.Steps.{write_step}
use Rattle.stream.proofs.Laws.{write_judged, refused, done, admits, piece_admits}
use Rattle.stream.proofs.Stream.write.Goals as goal

pub returns-in-Err : goal.returns-in-Err
unfolding write_step
returns-in-Err c = refused _ _ _ _ c.in-Err.refusal (write_judged _ _ _ c.fits-fits.ensures c.in-Err.ensures) (c.refused.ensures _)

pub stream_at-end-requires : goal.stream_at-end-requires
stream_at-end-requires c =
    let s = c.args.self in
    let a = piece_admits _ s.total s.written (length c.args.piece.now) 0 _ c.in_default.ensures in
    (omega (arith, (admits 2 _ c.fits-fits.ensures c.in_default.ensures).total, a.0), a.1)

pub invariant_of-stream_at : goal.invariant_of-stream_at
invariant_of-stream_at c = record { fit = admits 2 _ c.fits-fits.ensures c.in_default.ensures }

pub returns : goal.returns
unfolding write_step
returns c =
    let s = c.args.self in
    let wrote = c.stream_at-end.ensures in
    done _ _ _ _ (write_judged _ _ _ c.fits-fits.ensures c.in_default.ensures)
    (record {
      outcome = ap (success _) wrote.kept.work;
      state = ap (λ (kept : List ℕ). streamed_with s kept (s.written + length c.args.piece.now)) wrote.kept.block;
      output = wrote.text;
    })
