-- `s2v::absorb_strings` meets its contract: after some strings they are absorbed, and the reader stands behind them.
-- Assumes nothing.
use Rattle.std.proofs.Common.{◌≡◌, take}
use Rattle.aes.specs.Keyed.{enciphers}
use Rattle.header.specs.Header.{total, strings}
use Rattle.s2v.specs.S2v.{IsAbsorbed}
use Rattle.s2v.proofs.absorb_strings.Given as goal

abbrev pub invariant-loop-i : goal.invariant-loop-i
invariant-loop-i l =
    IsAbsorbed (enciphers l.mac.cipher) l.mac.subkeys l.fn.d (strings l.bytes (take l.i l.lens)) l.b
    × (l.reader.bytes.now ≡ l.bytes)
    × (l.reader.at ≡ total (take l.i l.lens))
