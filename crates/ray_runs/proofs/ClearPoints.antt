-- Points for which no outer slab is left on any cell are clear, and the highest slab of a stack is the widest.
use Rattle.std.proofs.Common.{◌≡◌, Bool, true, false, ◌&&◌, ℕ, zero, suc, ◌+◌, ◌<◌, ◌≤◌, [], ◌∷◌, List, length, get_or, ℤ, pos, arith, refl}
use Rattle.std.specs.List.{All}
use Rattle.std.proofs.lemmas.Int.{ints}
use Rattle.space.specs.Reach.{is_in_reach}
use Rattle.space.specs.Sweeps.{SweepOf}
use Rattle.bern_form.specs.Marks.{held_at_sample, is_possible_with, is_unexcluded_on, is_unexcluded_on_cell}
use Rattle.bern_form.specs.Slab.{SlabSize}
use Rattle.bern_form.proofs.Decided.{none_below}
use Rattle.cutter_slabs.specs.Rising.{IsRising}
use Rattle.cutter_slabs.specs.Stacks.{StacksOf, inner_stack, outer_stack, reach_of}
use Rattle.cutter_marks.specs.MarkBy.{is_possible_by, is_sure_by}
use Rattle.ray_runs.specs.Between.{AreClear}
use Rattle.ray_runs.specs.Missed.{AreOut, IsNoWider}

not_both : (a b : Bool) → b ≡ false → (a && b) ≡ false
not_both true b h = h
not_both false b h = refl

unless : (a b : Bool) → (a ≡ true → b ≡ true) → b ≡ false → a ≡ false
unless true b h e = let q = h refl in cc
unless false b h e = refl

out_of_cells : (outer : List SlabSize) (reach : ℤ) (m : SweepOf) (point : ℕ → List ℤ) (S from to l : ℕ) → AreOut outer m point S from to 0 S → from ≤ l → l ≤ to → is_possible_with outer reach m (point l) S ≡ false
out_of_cells outer reach m point S from to l out after before =
    not_both (is_in_reach reach m.from m.to (point l)) (is_unexcluded_on_cell outer m (point l) S)
    (none_below (λ k. is_unexcluded_on outer m (point l) k S) S (λ k h. (out l after before).none k (omega arith) h))

not_possible : (stacks : StacksOf) (m : SweepOf) (p : List ℤ) (S : ℕ) → is_possible_with (outer_stack stacks.cutter stacks.slabs) (pos (reach_of stacks.cutter)) m p S ≡ false → is_possible_by stacks.cutter stacks.slabs m p S ≡ false
unfolding is_possible_by
not_possible stacks m p S h = h

not_sure : (stacks : StacksOf) (m : SweepOf) (p : List ℤ) (S : ℕ) → held_at_sample (inner_stack stacks.cutter stacks.slabs) m p S ≡ false → is_sure_by stacks.cutter stacks.slabs m p S ≡ false
unfolding is_sure_by
not_sure stacks m p S h = h

pub clear_of : (stacks : StacksOf) (m : SweepOf) (point : ℕ → List ℤ) (S from to : ℕ)
    → ((p : List ℤ) → held_at_sample (inner_stack stacks.cutter stacks.slabs) m p S ≡ true → is_possible_with (outer_stack stacks.cutter stacks.slabs) (pos (reach_of stacks.cutter)) m p S ≡ true)
    → AreOut (outer_stack stacks.cutter stacks.slabs) m point S from to 0 S → AreClear stacks m point S from to
clear_of stacks m point S from to both out l after before =
    let none = out_of_cells (outer_stack stacks.cutter stacks.slabs) (pos (reach_of stacks.cutter)) m point S from to l out after before in (
      not_sure stacks m (point l) S (unless (held_at_sample (inner_stack stacks.cutter stacks.slabs) m (point l) S) (is_possible_with (outer_stack stacks.cutter stacks.slabs) (pos (reach_of stacks.cutter)) m (point l) S) (both (point l)) none),
      not_possible stacks m (point l) S none,
    )

-- each slab is no wider than any above it
wider_above : (s : SlabSize) (rest : List SlabSize) (d : SlabSize) (j : ℕ) → IsRising (s ∷ rest) → j < length (s ∷ rest) → IsNoWider (get_or (s ∷ rest) j d).dia s
wider_above s rest d zero rises l = record { thick = rises.0.thick; narrow = omega (arith, ints) }
wider_above s [] d (suc j) rises l = absurd (omega (arith, l))
wider_above s (t ∷ rest) d (suc j) rises l =
    let later = wider_above t rest d j rises.1.1 (omega (arith, l)) in let step = rises.1.0.wider in let more = later.narrow in
    record { thick = rises.0.thick; narrow = omega (arith, ints, step, more) }

no_wider : (slabs : List SlabSize) (d : SlabSize) (j : ℕ) → IsRising slabs → j < length slabs → (k : ℕ) (e : SlabSize) → k ≤ j → IsNoWider (get_or slabs j d).dia (get_or slabs k e)
no_wider [] d j rises l k e h = absurd (omega (arith, l))
no_wider (s ∷ rest) d j rises l zero e h = wider_above s rest d j rises l
no_wider (s ∷ rest) d zero rises l (suc k) e h = absurd (omega (arith, h))
no_wider (s ∷ rest) d (suc j) rises l (suc k) e h = no_wider rest d j rises.1.1 (omega (arith, l)) k e (omega (arith, h))

pub all_no_wider : (slabs : List SlabSize) (d : SlabSize) (j : ℕ) → IsRising slabs → length slabs ≡ j + 1 → All (IsNoWider (get_or slabs j d).dia) slabs
all_no_wider slabs d j rises e k f l = no_wider slabs d j rises (omega (arith, e)) k f (omega (arith, e, l))
