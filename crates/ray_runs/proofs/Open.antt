-- What is open of a stretch, by what is open of its halves.
use Rattle.std.proofs.Common.{◌≡◌, ℕ, ◌+◌, ◌^◌, ◌≤◌, Option, None, Some, List, ℤ, arith, ap, subst, sym, ◌∙◌}
use Rattle.std.specs.List.{All}
use Rattle.std.specs.Option.{MatchOption}
use Rattle.space.specs.Sweeps.{SweepOf}
use Rattle.bern_form.specs.Cells.{scaled_square}
use Rattle.bern_form.specs.Slab.{SlabSize}
use Rattle.box_bisect.proofs.Searching.{halved, out_both}
use Rattle.cutter_slabs.specs.Stacks.{StacksOf, outer_stack}
use Rattle.ray_runs.specs.Between.{AreClear}
use Rattle.ray_runs.specs.Missed.{AreOut, AreOutBeside, IsNoWider}
use Rattle.ray_runs.specs.Open.{AreOutAround, AreOutBut, IsOpenOnly, joined_stretch}
use Rattle.ray_runs.specs.declared.clear.OpenStretch.{OpenStretch}

-- on no cell, and on two stretches that follow each other
out_on_none : (f : ℤ) (m : SweepOf) (point : ℕ → List ℤ) (S from to j k : ℕ) → k ≤ j → AreOutBeside f m point S from to j k
out_on_none f m point S from to j k none slabs most e narrow l after before = record { none = λ c x y. absurd (omega (arith, none, x, y)) }

pub beside_both : (f : ℤ) (m : SweepOf) (point : ℕ → List ℤ) (S from to j i k : ℕ) → AreOutBeside f m point S from to j i → AreOutBeside f m point S from to i k → AreOutBeside f m point S from to j k
beside_both f m point S from to j i k early late slabs most e narrow l after before =
    out_both slabs m (point l) j i k S (early slabs most e narrow l after before) (late slabs most e narrow l after before)

-- the whole stretch
pub out_around_whole : (s : OpenStretch) (f : ℤ) (m : SweepOf) (point : ℕ → List ℤ) (S from to j k : ℕ) → s.levels ≤ 10 → s.first ≡ j → s.first + 2 ^ s.levels ≡ k → AreOutAround s f m point S from to j k
out_around_whole s f m point S from to j k few ej ek = record {
  few = few;
  after = omega (arith, ej);
  before = omega (arith, ek);
  early = out_on_none f m point S from to j s.first (omega (arith, ej));
  late = out_on_none f m point S from to (s.first + 2 ^ s.levels) k (omega (arith, ek));
}

join_open : (early late : Option OpenStretch) (whole : OpenStretch) (f : ℤ) (m : SweepOf) (point : ℕ → List ℤ) (S from to j i k : ℕ) → whole.levels ≤ 10 → whole.first ≡ j
    → whole.first + 2 ^ whole.levels ≡ k → j ≤ i → i ≤ k → AreOutBut early f m point S from to j i → AreOutBut late f m point S from to i k
    → AreOutBut (joined_stretch early late whole) f m point S from to j k
join_open None None whole f m point S from to j i k few ej ek h l a b = beside_both f m point S from to j i k a b
join_open None (Some x) whole f m point S from to j i k few ej ek h l a b = record {
  few = b.few;
  after = omega (arith, h, b.after);
  before = b.before;
  early = beside_both f m point S from to j i x.first a b.early;
  late = b.late;
}
join_open (Some x) None whole f m point S from to j i k few ej ek h l a b = record {
  few = a.few;
  after = a.after;
  before = omega (arith, l, a.before);
  early = a.early;
  late = beside_both f m point S from to (x.first + 2 ^ x.levels) i k a.late b;
}
join_open (Some x) (Some y) whole f m point S from to j i k few ej ek h l a b = out_around_whole whole f m point S from to j k few ej ek

-- of both halves of a stretch
pub halves_open : (early late found : Option OpenStretch) (whole : OpenStretch) (f : ℤ) (m : SweepOf) (point : ℕ → List ℤ) (S from to j levels n i : ℕ) → levels ≡ n + 1 → i ≡ j + 2 ^ n
    → levels ≤ 10 → whole.first ≡ j → whole.levels ≡ levels → found ≡ joined_stretch early late whole → AreOutBut early f m point S from to j (j + 2 ^ n)
    → AreOutBut late f m point S from to i (i + 2 ^ n) → AreOutBut found f m point S from to j (j + 2 ^ levels)
halves_open early late found whole f m point S from to j levels n i el ei few ej ew is a b =
    let h = halved levels n j el in let end : i + 2 ^ n ≡ j + 2 ^ levels = ap (λ x. x + 2 ^ n) ei ∙ h.end in
    subst (λ (o : Option OpenStretch). AreOutBut o f m point S from to j (j + 2 ^ levels)) (sym is)
    (join_open early late whole f m point S from to j i (j + 2 ^ levels) (omega (arith, few, ew)) ej (ap (λ x. whole.first + 2 ^ x) ew ∙ ap (λ x. x + 2 ^ levels) ej)
    (omega (arith, ei)) (omega (arith, end)) (subst (λ x. AreOutBut early f m point S from to j x) (sym ei) a) (subst (λ x. AreOutBut late f m point S from to i x) end b))

-- of the whole move
open_of_cells : (found : Option OpenStretch) (stacks : StacksOf) (f most : ℤ) (outer : List SlabSize) (m : SweepOf) (point : ℕ → List ℤ) (S from to : ℕ) → f ≡ scaled_square S most
    → All (IsNoWider most) outer → outer ≡ outer_stack stacks.cutter stacks.slabs
    → (AreOut (outer_stack stacks.cutter stacks.slabs) m point S from to 0 S → AreClear stacks m point S from to) → AreOutBut found f m point S from to 0 S
    → MatchOption found (AreClear stacks m point S from to) (λ s. IsOpenOnly s stacks m point S from to)
open_of_cells None stacks f most outer m point S from to e narrow eo clear is =
    clear (subst (λ (l : List SlabSize). AreOut l m point S from to 0 S) eo (is outer most e narrow))
open_of_cells (Some s) stacks f most outer m point S from to e narrow eo clear is = record {
  few = is.few;
  within = is.before;
  early = subst (λ (l : List SlabSize). AreOut l m point S from to 0 s.first) eo (is.early outer most e narrow);
  late = subst (λ (l : List SlabSize). AreOut l m point S from to (s.first + 2 ^ s.levels) S) eo (is.late outer most e narrow);
}

pub open_of_move : (found : Option OpenStretch) (stacks : StacksOf) (f most : ℤ) (outer : List SlabSize) (m : SweepOf) (point : ℕ → List ℤ) (S T from to : ℕ) → f ≡ scaled_square S most
    → All (IsNoWider most) outer → outer ≡ outer_stack stacks.cutter stacks.slabs → S ≡ T
    → (AreOut (outer_stack stacks.cutter stacks.slabs) m point S from to 0 S → AreClear stacks m point S from to) → AreOutBut found f m point S from to 0 S
    → MatchOption found (AreClear stacks m point T from to) (λ s. IsOpenOnly s stacks m point T from to)
open_of_move found stacks f most outer m point S T from to e narrow eo es clear is =
    subst (λ (x : ℕ). MatchOption found (AreClear stacks m point x from to) (λ s. IsOpenOnly s stacks m point x from to)) es
    (open_of_cells found stacks f most outer m point S from to e narrow eo clear is)
