use Rattle.std.proofs.Common.{◌≡◌, ℕ, List, subst, sym}
use Rattle.ray_grid.specs.Grids.{GridSize}
use Rattle.ray_grid.specs.declared.ray.Family.{Family}
use Rattle.strip_plan.specs.Boxed.{IsInOneOf}
use Rattle.strip_plan.specs.Ranges.{IsRangeOf}
use Rattle.strip_plan.specs.StripRanges.{count_of}
use Rattle.strip_plan.specs.declared.index_box.IndexBox.{IndexBox}
use Rattle.strip_plan.specs.declared.strip_range.StripRange.{StripRange}
use Rattle.strip_plan.proofs.windows.range_in_strip.Goals as goal

-- what a walk for the family g gives is so for the wanted family f, where that is g
range_for : (f g : Family) (grid : GridSize) (which : StripRange) (range : ℕ × ℕ) → f ≡ g → IsRangeOf (count_of grid g which) range → IsRangeOf (count_of grid f which) range
range_for f g grid which range e h = subst (λ (x : Family). IsRangeOf (count_of grid x which) range) (sym e) h

-- and a box that has a point of f's ray has it of g's
held_for : (f g : Family) (boxes : List IndexBox) (start end i j l : ℕ) → f ≡ g → IsInOneOf boxes start end (record { family = f; i = i; j = j }) l
    → IsInOneOf boxes start end (record { family = g; i = i; j = j }) l
held_for f g boxes start end i j l e h = subst (λ (x : Family). IsInOneOf boxes start end (record { family = x; i = i; j = j }) l) e h

pub returns-in-X-clause-range : goal.returns-in-X-clause-range
returns-in-X-clause-range c grid fit = range_for _ _ grid c.args.which _ c.in-X.is (c.range_of.ensures.range grid fit)

pub returns-in-X-clause-has : goal.returns-in-X-clause-has
returns-in-X-clause-has c j l is = c.range_of.ensures.has j l (held_for _ _ _ _ _ _ j l c.in-X.is is)

pub returns-in-Y-clause-range : goal.returns-in-Y-clause-range
returns-in-Y-clause-range c grid fit = range_for _ _ grid c.args.which _ c.in-Y.is (c.range_of-in-Y.ensures.range grid fit)

pub returns-in-Y-clause-has : goal.returns-in-Y-clause-has
returns-in-Y-clause-has c j l is = c.range_of-in-Y.ensures.has j l (held_for _ _ _ _ _ _ j l c.in-Y.is is)

pub returns-in-Z-clause-range : goal.returns-in-Z-clause-range
returns-in-Z-clause-range c grid fit = range_for _ _ grid c.args.which _ c.in-Z.is (c.range_of-in-Z.ensures.range grid fit)

pub returns-in-Z-clause-has : goal.returns-in-Z-clause-has
returns-in-Z-clause-has c j l is = c.range_of-in-Z.ensures.has j l (held_for _ _ _ _ _ _ j l c.in-Z.is is)
