-- `aes::Cipher::encrypt` meets its contract: before round n the state is the one after the rounds before it.
-- Assumes nothing.
use mathlib.Core.Path.{◌≡◌}
use Prim.Native.Nat.{◌-◌}
use Rattle.aes.specs.Cipher.{rounds}
use Rattle.aes.specs.State.{bytes_of}
use Rattle.aes.proofs.Cipher.encrypt.Given as goal

abbrev pub invariant-loop-n : goal.invariant-loop-n
invariant-loop-n l = bytes_of l.s ≡ rounds l.self.key.round_keys.now (bytes_of l.initial.s) (l.n - 1)
