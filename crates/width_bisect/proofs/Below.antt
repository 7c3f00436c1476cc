-- A point that is below the slabs from some number on, in the words of a search.
use Rattle.std.proofs.Common.{◌≡◌, Bool, not, ℕ, List, get_or, ℤ, arith, ap, sym, subst, ◌∙◌}
use Rattle.space.specs.Sweeps.{SweepOf}
use Rattle.bern_form.specs.Between.{n_between, u_between}
use Rattle.bern_form.specs.Forms.{lifted, product22}
use Rattle.bern_form.specs.Slab.{SlabSize}
use Rattle.cutter_slabs.specs.Cutter.{CutterSize}
use Rattle.cutter_slabs.specs.Stacks.{inner_stack, outer_stack}
use Rattle.box_bisect.specs.SlabTests.{TurnsAt, TurnsBetween, is_below_by, no_slab}
use Rattle.width_bisect.specs.declared.asked.Asked.{Asked}
use Rattle.width_bisect.specs.Asked.{slabs_for}
use Rattle.width_bisect.specs.Below.{IsBelowFrom}
use Rattle.width_bisect.specs.Early.{lows_of}
use Rattle.width_bisect.specs.Searches.{is_not_below}
use Rattle.width_bisect.proofs.Answering.{begin_alike}
use Rattle.width_bisect.proofs.Early.{turns_alike}
use Rattle.width_bisect.proofs.Lows.{stacks_begin_alike}

-- where a test turns at a number, what is before it may be left out
pub from_start : (test : SlabSize → Bool) (slabs : List SlabSize) (j : ℕ) → TurnsAt test slabs j → TurnsBetween test slabs 0 j
from_start test slabs j turns = record { within = turns.within; before = λ i e. absurd (omega (arith, e)); after = turns.after }

-- by forms that are those of the whole move
below_turns : (slabs : List SlabSize) (u n : List ℤ) (m : SweepOf) (p : List ℤ) (S high : ℕ) → u ≡ u_between m p 0 S S → n ≡ n_between m 0 S S
    → IsBelowFrom slabs m p S high → TurnsBetween (is_not_below S u n) slabs 0 high
below_turns slabs u n m p S high eu en from = record {
  within = from.within;
  before = λ i e. absurd (omega (arith, e));
  after = λ l.
      let s = get_or slabs high no_slab in let N = n_between m 0 S S in
      ap not (ap (λ z. is_below_by S (lifted z) (product22 u u) s) en ∙ ap (λ z. is_below_by S (lifted N) (product22 z z) s) eu ∙ from.below l);
}

-- and by the slabs that are excluded for a question, which begin where the outer ones do
pub asked_turns : (asked : Asked) (c : CutterSize) (b : ℕ) (slabs : List SlabSize) (u n u' n' : List ℤ) (m : SweepOf) (p : List ℤ) (S T high : ℕ)
    → slabs ≡ slabs_for asked (inner_stack c b) (outer_stack c b) → u ≡ u' → n ≡ n' → u' ≡ u_between m p 0 T T → n' ≡ n_between m 0 T T → S ≡ T
    → IsBelowFrom (outer_stack c b) m p T high → TurnsBetween (is_not_below S u n) slabs 0 high
asked_turns asked c b slabs u n u' n' m p S T high es eu en du dn eS from =
    let outer = outer_stack c b in
    let alike : lows_of slabs ≡ lows_of outer = sym (begin_alike asked c b slabs es) ∙ stacks_begin_alike c b in
    turns_alike slabs outer S high u n alike
    (subst (λ k. TurnsBetween (is_not_below k u n) outer 0 high) (sym eS) (below_turns outer u n m p T high (eu ∙ du) (en ∙ dn) from))
