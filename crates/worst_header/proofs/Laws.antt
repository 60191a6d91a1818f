-- Laws of the worst header list: no list of such lengths has more blocks than `peak`; one that has as many is worst.
-- Assumes nothing.
use mathlib.Core.Path.{◌≡◌, refl, ap, ap₂, sym, subst, ◌∙◌}
use mathlib.Core.Bool.{true, false}
use mathlib.Core.List.{List, [], ◌∷◌, ◌++◌}
use Prim.Native.Nat.{ℕ, zero, suc, ◌+◌, ◌-◌, ◌*◌, ◌/◌, ◌≤◌, max}
use native.Mathlib.Nat.{suc-mul, sub-zero, zero-sub, suc-sub-suc}
use native.Mathlib.Omega.{arith}
use lib.ListN.{length, take, drop, set, replicate}
use lib.Seq.{length-take-le, take-append_seam, drop-append_seam}
use Rattle.std.proofs.lemmas.Bool.Decides.{nat_tests}
use Rattle.header.specs.Header.{total}
use Rattle.header.specs.Blocks.{blocks_of, blocks_of_all}
use Rattle.answers.specs.Answer.{Outcome, refusal, first}
use Rattle.worst_header.specs.WorstHeader.{most_bytes, is_plan, plan_rows, AllAtLeast, Composes, IsWorst, GivesWorst}

-- ---- which figures are planned for

-- `is_plan` as a statement
pub record Planned (h k least : ℕ) : Type 0 where
  pub some : 1 ≤ k
  pub count_fits : k ≤ 126
  pub small : least ≤ 1
  pub bounded : h ≤ most_bytes
  pub enough : k * least ≤ h

pub planned : (h k least : ℕ) → is_plan h k least ≡ true → Planned h k least
unfolding is_plan
planned h k least e = grind (arith, nat_tests)

pub planned_row : (h k least : ℕ) → first (plan_rows h k least) ≡ 0 → Planned h k least
planned_row h k least e = grind (arith, nat_tests, planned h k least)

-- the two answers
module _ (h k least : ℕ) {places : List ℕ} {blocks : ℕ} where
  pub refuses : is_plan h k least ≡ false → places ≡ replicate 126 0 → blocks ≡ 0 → GivesWorst h k least (refusal 12) places blocks
  refuses e p b = grind (arith, nat_tests)

  pub gives : is_plan h k least ≡ true → IsWorst h k least places blocks → GivesWorst h k least (refusal 0) places blocks
  gives e d = grind (arith, nat_tests)

-- a product, without its last summand
pub times_less : (k n : ℕ) → 1 ≤ k → k * n ≡ (k - 1) * n + n
times_less k n h = let next : k ≡ suc (k - 1) = omega arith in ap (λ (m : ℕ). m * n) next ∙ suc-mul (k - 1) n

-- ---- no list has more blocks

-- the blocks that no list passes: one for each string, and one more for every 16 bytes beyond the first byte,
-- or beyond the k bytes that a least of 1 takes
abbrev peak : ℕ → ℕ → ℕ → ℕ
peak h k least = k + (h - max 1 (k * least)) / 16

-- what holds of every list of lengths that are at least the least
pub record Within (least : ℕ) (lens : List ℕ) : Type 0 where
  pub sum : length lens * least ≤ total lens
  pub blocks : 16 * blocks_of_all lens ≤ 16 * length lens + (total lens - max 1 (length lens * least))

pub within : (least : ℕ) → least ≤ 1 → (lens : List ℕ) → AllAtLeast least lens → Within least lens
unfolding total blocks_of_all
within least small [] each = record { sum = omega arith; blocks = omega arith }
within least small (n ∷ lens) each =
    let rest = within least small lens each.1 in
    let more : suc (length lens) * least ≡ length lens * least + least = suc-mul (length lens) least in
    record { sum = omega (arith, rest, each.0, more); blocks = omega (arith, rest, each.0, more) }

at_most : (h k least : ℕ) (lens : List ℕ) → least ≤ 1 → Composes h k least lens → blocks_of_all lens ≤ peak h k least
at_most h k least lens small d =
    let all : Within least lens = within least small lens d.each in
    let product : length lens * least ≡ k * least = ap (λ (m : ℕ). m * least) d.count in
    omega (arith, all, product, d.count, d.sum)

-- a list that has as many is worst
module _ (h k least : ℕ) (lens : List ℕ) {places : List ℕ} {blocks : ℕ} where
  worst_by : least ≤ 1 → Composes h k least lens → peak h k least ≤ blocks_of_all lens → places ≡ lens ++ replicate (126 - k) 0 → blocks ≡ blocks_of_all (take k places)
      → IsWorst h k least places blocks
  worst_by small d reached laid counted =
      let zeros : List ℕ = replicate (126 - k) 0 in
      let front : take k places ≡ lens = ap₂ take (sym d.count) laid ∙ take-append_seam lens zeros in
      record {
        composes = subst (Composes h k least) (sym front) d;
        past = ap₂ drop (sym d.count) laid ∙ drop-append_seam lens zeros;
        counted = counted;
        most = λ other o. omega (arith, at_most h k least other small o, reached, counted, ap blocks_of_all front);
      }

-- ---- a list of one length, and another for all others

-- n times a length
pub record Alike (n len : ℕ) : Type 0 where
  pub count : length (replicate n len) ≡ n
  pub sum : total (replicate n len) ≡ n * len
  pub blocks : blocks_of_all (replicate n len) ≡ n * blocks_of len
  pub each : (least : ℕ) → least ≤ len → AllAtLeast least (replicate n len)

pub alike : (n len : ℕ) → Alike n len
unfolding total blocks_of_all
alike zero len = record { count = refl; sum = omega arith; blocks = omega arith; each = λ least h. tt }
alike (suc n) len =
    let rest = alike n len in
    record {
      count = ap suc rest.count;
      sum = omega (arith, rest.sum, suc-mul n len);
      blocks = omega (arith, rest.blocks, suc-mul n (blocks_of len));
      each = λ least h. (h, rest.each least h);
    }

composes_by : (h k least first others : ℕ) → 1 ≤ k → first + (k - 1) * others ≡ h → least ≤ first → least ≤ others → Composes h k least (first ∷ replicate (k - 1) others)
unfolding total
composes_by h k least first others some sum l m =
    let rest = alike (k - 1) others in
    record { count = omega (arith, rest.count); sum = ap (λ (n : ℕ). first + n) rest.sum ∙ sum; each = (l, rest.each least m) }

blocks_by : (k first others : ℕ) → blocks_of_all (first ∷ replicate (k - 1) others) ≡ blocks_of first + (k - 1) * blocks_of others
unfolding blocks_of_all
blocks_by k first others = ap (λ (n : ℕ). blocks_of first + n) (alike (k - 1) others).blocks

-- it is worst where its sum is h, no length is below the least, and its blocks reach the peak
module _ (h k least first others : ℕ) {places : List ℕ} {blocks : ℕ} where
  pub list_gives : is_plan h k least ≡ true → places ≡ (first ∷ replicate (k - 1) others) ++ replicate (126 - k) 0 → blocks ≡ blocks_of_all (take (k - 0) places)
      → first + (k - 1) * others ≡ h → least ≤ first → least ≤ others → peak h k least ≤ blocks_of first + (k - 1) * blocks_of others
      → GivesWorst h k least (refusal 0) places blocks
  list_gives e laid counted sum l m reached =
      let p = planned h k least e in
      gives h k least e
      (worst_by h k least (first ∷ replicate (k - 1) others) p.small (composes_by h k least first others p.some sum l m)
      (omega (arith, blocks_by k first others, reached)) laid (rw sub-zero at counted))

-- where the others have the least, it has as many blocks as any
pub reaches : (h k least : ℕ) → Planned h k least → peak h k least ≤ blocks_of (h - (k - 1) * least) + (k - 1) * blocks_of least
reaches h k zero p = omega (arith, p)
reaches h k (suc zero) p = omega (arith, p)
reaches h k (suc (suc n)) p = absurd (omega (arith, p.small))

-- so there is a worst list
module _ (h k least : ℕ) (p : Planned h k least) where
  abbrev concentrated : List ℕ
  concentrated = (h - (k - 1) * least) ∷ replicate (k - 1) least

  concentrated_composes : Composes h k least concentrated
  concentrated_composes =
      let less = times_less k least p.some in
      composes_by h k least (h - (k - 1) * least) least p.some (omega (arith, p.enough, less)) (omega (arith, p.enough, less)) (omega arith)

  concentrated_reaches : peak h k least ≤ blocks_of_all concentrated
  concentrated_reaches = omega (arith, blocks_by k (h - (k - 1) * least) least, reaches h k least p)

  pub found : (places : List ℕ) × (blocks : ℕ) × IsWorst h k least places blocks
  found = (concentrated ++ replicate (126 - k) 0, _, worst_by h k least concentrated p.small concentrated_composes concentrated_reaches refl refl)

  -- and the blocks of any worst list are the peak
  pub blocks_peak : {places : List ℕ} {blocks : ℕ} → IsWorst h k least places blocks → blocks ≡ peak h k least
  blocks_peak {places = places} d =
      omega (arith, d.counted, at_most h k least (take k places) p.small d.composes, d.most concentrated concentrated_composes, concentrated_reaches)

-- ---- its places

drop-replicate : (n m a : ℕ) → drop n (replicate m a) ≡ replicate (m - n) a
drop-replicate zero m a = rw sub-zero refl
drop-replicate (suc n) zero a = rw zero-sub refl
drop-replicate (suc n) (suc m) a = rw suc-sub-suc (drop-replicate n m a)

-- zeros, with the others' length at the first k and then the first at 0
pub laid : (first k others : ℕ) {front : List ℕ} → 1 ≤ k → k ≤ 126 → front ≡ replicate (length (take k (replicate {A = ℕ} 126 0))) others
    → set (front ++ drop k (replicate 126 0)) 0 first ≡ (first ∷ replicate (k - 1) others) ++ replicate (126 - k) 0
laid first k others some few e =
    let count : length (take k (replicate {A = ℕ} 126 0)) ≡ suc (k - 1) = length-take-le k (replicate {A = ℕ} 126 0) few ∙ omega arith in
    ap₂ (λ (l r : List ℕ). set (l ++ r) 0 first) (e ∙ ap (λ (n : ℕ). replicate n others) count) (drop-replicate k 126 0)

-- ---- how large an answer can be

module _ (h k least : ℕ) where
  pub number_small : first (plan_rows h k least) ≤ 12
  number_small = grind (arith, nat_tests)

  pub blocks_small : {outcome : Outcome} {places : List ℕ} {blocks : ℕ} → GivesWorst h k least outcome places blocks → blocks ≤ 65661
  blocks_small g = grind (arith, nat_tests, planned_row h k least, blocks_peak h k least, g.done, g.refused)
