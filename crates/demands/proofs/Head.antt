-- A list divided into a head and the rest gives what the undivided list gives:
-- both are judged alike, and D goes on where the head left it.
-- Assumes nothing.
use mathlib.Core.Path.{◌≡◌, refl, ap, ap₂, sym, subst, ◌∙◌}
use mathlib.Core.Bool.{Bool, false, not, cond}
use mathlib.Core.List.{List, ◌++◌}
use Prim.Native.Nat.{ℕ, ◌+◌, ◌≤◌}
use native.Mathlib.Omega.{arith}
use lib.Dec.{eqb, ltb}
use lib.ListN.{length, take, drop, length-append, length-drop, take-append-drop}
use lib.Seq.{length-take-le, take_at, drop_at}
use borrow.Author.Tests.{eqb-true, eq-eqb, le-ltb}
use Rattle.std.specs.Cmp.{both_ways}
use Rattle.cmac.specs.Cmac.{zeros}
use Rattle.header.specs.Header.{total, strings}
use Rattle.header.specs.Blocks.{blocks_of_all}
use Rattle.header.proofs.Laws.{total-append, total-take, strings-append, length-strings, strings_within, blocks-append}
use Rattle.answers.specs.Answer.{Row, first, settle}
use Rattle.answers.proofs.Laws.{first-append, cond_related}
use Rattle.whole.specs.Calls.{header_rows}
use Rattle.whole.proofs.Laws.{halves}
use Rattle.head.specs.declared.Head.{Head}
use Rattle.head.specs.Head.{head_of, head_of_work, extended, extended_work, fits_head, rest_rows, MakeResult, made_head, refused_head, make_head, extend_head}
use Rattle.head.proofs.Laws.{head_lengths, extended_lengths, extended_head}
use Rattle.stream.specs.Steps.{StepResult, tag_rows, begin_by, begin_sealer, begin_opener, begin_sealer_from, begin_opener_from}
use Rattle.demands.specs.Figures.{sum, header_blocks}
use Rattle.demands.specs.Head.{SameButWork, Split, Heads}
use Rattle.demands.specs.Run.{Begin, sealer, opener, Start, undivided, divided, begun_from, first_bytes, rest_bytes, begun}
use Rattle.demands.specs.Third.{begin_work}
use Rattle.demands.specs.Second.{Admits}
use Rattle.demands.proofs.Figures.{total-sum, blocks_all, keyed, sums}
use Rattle.demands.proofs.First.{answers_or_first_refusal}

-- no refusal is due for an admitted key and list
pub admitted : (key bytes lens : List ℕ) → Admits key bytes lens → first (header_rows (length key) lens (length bytes)) ≡ 0
admitted key bytes lens a = simp (keyed a, le-ltb 126 (length lens) a.count_fits, eq-eqb (total lens) (length bytes) (sums a))

-- so its head is made
made : (key bytes lens : List ℕ) → Admits key bytes lens → make_head key bytes lens ≡ made_head (2 + header_blocks lens) (head_of key (strings bytes lens))
unfolding make_head
made key bytes lens a =
    ap₂ (λ (n w : ℕ). settle n (made_head w (head_of key (strings bytes lens))) refused_head) (admitted key bytes lens a) (head_lengths bytes lens (omega (arith, sums a)) ∙ ap (λ (n : ℕ). 2 + n) (blocks_all lens))

-- a begin that succeeds reports the blocks of its strings, and 2 where it makes L and the CMAC of the zero block
pub begun_work : (key bytes lens : List ℕ) (start : Start) (begin : Begin) → (begun key bytes lens start begin).outcome.number ≡ 0
    → (begun key bytes lens start begin).outcome.work ≡ begin_work lens start
begun_work key bytes lens undivided sealer e = ap (λ (r : StepResult). r.outcome.work) ((answers_or_first_refusal.beginning_sealer key bytes lens).done e)
begun_work key bytes lens undivided (opener T) e = ap (λ (r : StepResult). r.outcome.work) ((answers_or_first_refusal.beginning_opener key bytes lens T).done e)
begun_work key bytes lens (divided n) sealer e = ap (λ (r : StepResult). r.outcome.work) ((answers_or_first_refusal.beginning_sealer_from _ _ _).done e)
begun_work key bytes lens (divided n) (opener T) e = ap (λ (r : StepResult). r.outcome.work) ((answers_or_first_refusal.beginning_opener_from _ _ _ T).done e)

-- and what follows it
module _ (key bytes lens more moreLens : List ℕ) (a : Admits key bytes lens) where
  -- the strings of both are those of the joined list
  joined : strings bytes lens ++ strings more moreLens ≡ strings (bytes ++ more) (lens ++ moreLens)
  joined =
      sym
      (strings-append (bytes ++ more) lens moreLens
      ∙ ap₂ (λ (x : List (List ℕ)) (y : List ℕ). x ++ strings y moreLens)
      (sym (strings_within (bytes ++ more) lens) ∙ ap (λ (l : List ℕ). strings l lens) (take_at bytes more (total lens) (sym (sums a))))
      (drop_at bytes more (total lens) (sym (sums a))))

  same_head : extended (head_of key (strings bytes lens)) (strings more moreLens) ≡ head_of key (strings (bytes ++ more) (lens ++ moreLens))
  same_head = extended_head key (strings bytes lens) (strings more moreLens) ∙ ap (head_of key) joined

  -- and the same refusal is due, or none
  same_number : first (rest_rows (head_of key (strings bytes lens)) moreLens (length more)) ≡ first (header_rows (length key) (lens ++ moreLens) (length (bytes ++ more)))
  unfolding fits_head head_of
  same_number =
      let counted : length (strings bytes lens) + length moreLens ≡ length (lens ++ moreLens) = omega (arith, length-strings bytes lens, length-append lens moreLens) in
      let count_fits : ltb 126 (length (strings bytes lens)) ≡ false = le-ltb 126 (length (strings bytes lens)) (omega (arith, length-strings bytes lens, a.count_fits)) in
      simp ((halves (length key) (keyed a)).half, count_fits, keyed a)
      (ap₂ (λ (n : ℕ) (t : Bool). cond (ltb 126 n) 2 (cond (not t) 3 0)) counted alike_sums)
    where
      joint : total (lens ++ moreLens) ≡ length bytes + total moreLens
      joint = total-append lens moreLens ∙ ap (λ (n : ℕ). n + total moreLens) (sums a)

      alike_sums : eqb (total moreLens) (length more) ≡ eqb (total (lens ++ moreLens)) (length (bytes ++ more))
      alike_sums =
          both_ways (eqb (total moreLens) (length more)) (eqb (total (lens ++ moreLens)) (length (bytes ++ more)))
          (λ e. eq-eqb (total (lens ++ moreLens)) (length (bytes ++ more)) (omega (arith, joint, length-append bytes more, eqb-true (total moreLens) (length more) e)))
          (λ e. eq-eqb (total moreLens) (length more) (omega (arith, joint, length-append bytes more, eqb-true (total (lens ++ moreLens)) (length (bytes ++ more)) e)))

  -- begins that differ in their work alone
  same : (n w w' : ℕ) (h : Head) (stage : ℕ) (v : List ℕ) → SameButWork (begin_by n w h stage v) (begin_by n w' h stage v)
  same n w w' h stage v =
      cond_related SameButWork (eqb n 0) (record { number = refl; count = refl; state = refl; output = refl }) (record { number = refl; count = refl; state = refl; output = refl })

  joins : (begin : Begin) → SameButWork (begun_from (make_head key bytes lens).head more moreLens begin) (begun key (bytes ++ more) (lens ++ moreLens) undivided begin)
  unfolding begin_sealer begin_opener begin_sealer_from begin_opener_from
  joins sealer =
      let w : ℕ = extended_work (strings more moreLens) in
      subst (λ (r : StepResult). SameButWork r (begin_sealer key (bytes ++ more) (lens ++ moreLens)))
      (sym (ap (λ (r : MakeResult). begin_sealer_from r.head more moreLens) (made key bytes lens a) ∙ ap₂ (λ (n : ℕ) (g : Head). begin_by n w g 1 zeros) same_number same_head))
      (same (first (header_rows (length key) (lens ++ moreLens) (length (bytes ++ more)))) w (head_of_work (strings (bytes ++ more) (lens ++ moreLens))) (head_of key (strings (bytes ++ more) (lens ++ moreLens))) 1 zeros)
  joins (opener T) =
      let tag : List Row = tag_rows (length T) in
      let w : ℕ = extended_work (strings more moreLens) in
      subst (λ (r : StepResult). SameButWork r (begin_opener key (bytes ++ more) (lens ++ moreLens) T))
      (sym
      (ap (λ (r : MakeResult). begin_opener_from r.head more moreLens T) (made key bytes lens a)
      ∙ ap₂ (λ (n : ℕ) (g : Head). begin_by n w g 3 T)
      (first-append (rest_rows (head_of key (strings bytes lens)) moreLens (length more)) tag refl
      ∙ ap (λ (n : ℕ). cond (eqb n 0) (first tag) n) same_number
      ∙ sym (first-append (header_rows (length key) (lens ++ moreLens) (length (bytes ++ more))) tag refl))
      same_head))
      (same (first (header_rows (length key) (lens ++ moreLens) (length (bytes ++ more)) ++ tag)) w (head_of_work (strings (bytes ++ more) (lens ++ moreLens))) (head_of key (strings (bytes ++ more) (lens ++ moreLens))) 3 T)

  extends : total moreLens ≤ length more → first (header_rows (length key) (lens ++ moreLens) (length (bytes ++ more))) ≡ 0
      → extend_head (make_head key bytes lens).head more moreLens ≡ made_head (header_blocks moreLens) (head_of key (strings (bytes ++ more) (lens ++ moreLens)))
  unfolding extend_head
  extends fits z =
      ap (λ (r : MakeResult). extend_head r.head more moreLens) (made key bytes lens a)
      ∙ ap₂ (λ (n : ℕ) (g : Head). settle n (made_head (extended_work (strings more moreLens)) g) refused_head) (same_number ∙ z) same_head
      ∙ ap (λ (w : ℕ). made_head w (head_of key (strings (bytes ++ more) (lens ++ moreLens)))) (extended_lengths more moreLens fits ∙ blocks_all moreLens)

-- a list that is divided is what it is joined from
module _ (key bytes lens : List ℕ) (a : Admits key bytes lens) (n : ℕ) where
  front_admitted : Admits key (first_bytes key bytes lens n) (take n lens)
  front_admitted =
      let count : length (take n lens) + length (drop n lens) ≡ length lens = sym (length-append (take n lens) (drop n lens)) ∙ ap length (take-append-drop n lens) in
      record {
        keyed = a.keyed;
        count_fits = omega (arith, count, a.count_fits);
        sums = sym (length-take-le (sum (take n lens)) bytes (omega (arith, total-take lens n, total-sum (take n lens), sums a)));
      }

  -- whatever is said of the joined list
  whole : {A : Type 0} (f : List ℕ → List ℕ → A) → f ((first_bytes key bytes lens n) ++ rest_bytes key bytes lens n) (take n lens ++ drop n lens) ≡ f bytes lens
  whole f = ap₂ f (take-append-drop (sum (take n lens)) bytes) (take-append-drop n lens)

  rest_sums : total (drop n lens) ≤ length (rest_bytes key bytes lens n)
  rest_sums =
      omega (
        arith,
        length-drop (sum (take n lens)) bytes,
        total-sum (take n lens),
        sym (total-append (take n lens) (drop n lens)) ∙ ap total (take-append-drop n lens),
        sums a,
      )

  split : Split key bytes lens n
  split =
      record {
        made = ap (λ (r : MakeResult). r.outcome) (made key (first_bytes key bytes lens n) (take n lens) front_admitted);
        begins = begins;
        works = λ begin e.
            omega (
              arith,
              ap (λ (r : MakeResult). r.outcome.work) (made key (first_bytes key bytes lens n) (take n lens) front_admitted),
              begun_work key bytes lens (divided n) begin e,
              begun_work key bytes lens undivided begin (sym (begins begin).number ∙ e),
              sym (blocks-append (take n lens) (drop n lens)) ∙ ap blocks_of_all (take-append-drop n lens),
              blocks_all (take n lens),
              blocks_all (drop n lens),
              blocks_all lens,
            );
        extends =
            extends key (first_bytes key bytes lens n) (take n lens) (rest_bytes key bytes lens n) (drop n lens) front_admitted rest_sums
            (whole (λ b l. first (header_rows (length key) l (length b))) ∙ admitted key bytes lens a)
            ∙ ap (made_head (header_blocks (drop n lens))) (whole (λ b l. head_of key (strings b l)) ∙ sym (ap (λ (r : MakeResult). r.head) (made key bytes lens a)));
      }
    where
      begins : (begin : Begin) → SameButWork (begun key bytes lens (divided n) begin) (begun key bytes lens undivided begin)
      begins begin =
          subst (SameButWork (begun key bytes lens (divided n) begin)) (whole (λ b l. begun key b l undivided begin))
          (joins key (first_bytes key bytes lens n) (take n lens) (rest_bytes key bytes lens n) (drop n lens) front_admitted begin)

pub divided_as_undivided : Heads
divided_as_undivided = record { splits = split; joins = joins }
