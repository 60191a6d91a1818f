-- The promises say what their parts say.
-- Assumes nothing.
use mathlib.Core.Path.{◌≡◌, refl, ap, ◌∙◌}
use mathlib.Core.Bool.{Bool, true, false, cond}
use Prim.Native.Nat.{ℕ}
use lib.ListN.{length, replicate}
use Rattle.aes.specs.KeyExpansion.{round_keys}
use Rattle.aes.specs.Aes.{is_width}
use Rattle.demands.specs.Figures.{IsKeyWidth}
use Rattle.demands.specs.Promises.{Promises}
use Rattle.demands.proofs.Figures.{Tells, when, key_width}
use Rattle.demands.proofs.Pieces.{key_bytes_lem}

other_width : (n : ℕ) → (IsKeyWidth n → ⊥) → is_width n ≡ false
other_width n other = go (is_width n) (key_width n)
  where
    go : (t : Bool) → Tells t (IsKeyWidth n) → t ≡ false
    go true told = absurd (other (told.holds refl))
    go false told = refl

pub promised_in_parts : Promises
promised_in_parts =
    record {
      whole = λ call key header lens input output scratch report p. (p.outcome, p.output, p.scratch);
      ring = λ key_length keys header lens input output scratch given p. (p.call.outcome, p.slot, p.call.output, p.call.scratch);
      head = λ result made p. (p.outcome, p.head);
      step = λ result step last p. (p.outcome, p.state, p.output);
      from_c = λ call key header input output scratch ad nonce given p. (p.answer, p.output, p.scratch);
      ring_from_c = λ key_length keys header input output scratch ad nonce given p. (p.answer, p.output, p.scratch);
      numbers = (refl, refl);
      expanded = λ key r p w.
          let is = when (key_width (length key)) w in
          (p.number ∙ ap (λ (t : Bool). cond t 0 1) is, p.keys ∙ ap (λ (t : Bool). cond t (round_keys key) (replicate 240 0)) is ∙ key_bytes_lem key is);
      refused = λ key r p w.
          let other = other_width (length key) w in
          (p.number ∙ ap (λ (t : Bool). cond t 0 1) other, p.keys ∙ ap (λ (t : Bool). cond t (round_keys key) (replicate 240 0)) other);
    }
