-- `aes::Cipher::encrypt` meets its contract: before round n the state is the one after the rounds before it.
-- Assumes nothing.
use mathlib.Core.Path.{◌≡◌, refl, ap, ap₂, sym, ◌∙◌}
use mathlib.Core.List.{List}
use Prim.Native.Nat.{ℕ, suc, ◌+◌, ◌-◌, ◌≤◌}
use native.Mathlib.Omega.{arith}
use Rattle.aes.specs.Cipher.{add_round_key, mix_columns, shift_rows, sub_bytes, round_key, rounds, round_count, cipher}
use Rattle.aes.specs.State.{bytes_of}
use Rattle.aes.proofs.Words.{state_bytes}
use Rattle.aes.proofs.Cipher.encrypt.Goals as goal

-- one round more
more : (w s : List ℕ) (n : ℕ) {before next key : List ℕ} → 1 ≤ n → before ≡ rounds w s (n - 1) → key ≡ round_key w n
    → next ≡ add_round_key key (mix_columns (shift_rows (sub_bytes before))) → next ≡ rounds w s (n + 1 - 1)
unfolding rounds
more w s n h b k e =
    let this : n ≡ suc (n - 1) = omega arith in
    let next : n + 1 - 1 ≡ suc (n - 1) = omega arith in
    e
    ∙ ap₂ (λ (x y : List ℕ). add_round_key x (mix_columns (shift_rows (sub_bytes y)))) (k ∙ ap (round_key w) this) b
    ∙ ap (rounds w s) (sym next)

pub loop-n-init : goal.loop-n-init
unfolding rounds
loop-n-init c = refl

pub loop-n-preserved : goal.loop-n-preserved
loop-n-preserved c = more _ _ _ (omega arith) c.loop-n.invariant c.round_key-in-loop-n.ensures c.round-s.ensures

pub returns : goal.returns
unfolding cipher
returns c =
    let keys = c.args.self.key.round_keys.now in
    let last = round_count c.args.self.key.width in
    let whitened : bytes_of c.add-s.result ≡ add_round_key (round_key keys 0) c.args.block =
    c.add-s.ensures ∙ ap₂ add_round_key c.round_key.ensures (state_bytes _ c.of.ensures) in
    let count : c.loop-n.n - 1 ≡ last - 1 = omega arith in
    record {
      block =
          c.block-block.ensures
          ∙ c.last_round.ensures
          ∙ ap₂ (λ (k s : List ℕ). add_round_key k (shift_rows (sub_bytes s))) c.round_key-2.ensures
          (c.loop-n.invariant ∙ ap₂ (rounds keys) whitened count);
      work = refl;
    }
