-- The twelve cases hold: each computes.
-- Assumes nothing.
use mathlib.Core.Path.{refl}
use Rattle.octets.specs.Octets.{xors}
use Rattle.field.specs.Field.{xtimes, products, mul, squares, inverse, bit, from_bits, affine, sbox}
use Rattle.cmac.specs.Cmac.{shifted, double, pad}
use Rattle.s2v.specs.S2v.{xorend, tail_length}
use Rattle.counter.specs.Counter.{counter_block}
use Rattle.demands.specs.Cases.{Cases}

pub twelve_cases : Cases
unfolding xors xtimes products mul squares inverse bit from_bits affine sbox shifted double pad xorend tail_length counter_block
twelve_cases =
    record {
      case1 = refl;
      case2 = refl;
      case3 = refl;
      case4 = refl;
      case5 = refl;
      case6 = refl;
      case7 = refl;
      case8 = refl;
      case9 = refl;
      case10 = (refl, refl);
      case11 = refl;
      case12 = refl;
    }
