-- A holder's counts by the tool that it is, and over the lattice as sums over strips.
use Rattle.std.proofs.Common.{◌≡◌, ◌<◌, ◌^◌, Bool, true, false, not, ◌&&◌, ◌||◌, List, [], ◌∷◌, ◌++◌, map, count_by, refl, sym, ap, ◌∙◌}
use Rattle.std.specs.List.{flat_map}
use Rattle.std.proofs.lemmas.List.Folds.{list_any-append}
use Rattle.ray_grid.specs.Grids.{GridSize}
use Rattle.ray_grid.specs.declared.ray.Ray.{Ray}
use Rattle.ray_grid.specs.Points.{LatticePoint, points_on}
use Rattle.ray_grid.specs.Strips.{strips_of}
use Rattle.cutter_marks.specs.MarkBy.{is_possible_by, is_sure_by}
use Rattle.job_counts.specs.Holder.{plus_holder_counts}
use Rattle.holder_check.specs.Above.{HolderSize}
use Rattle.holder_check.specs.Contacts.{HolderSeen, holder_findings, may_strike_fixture, may_strike_part, may_strike_stock, strikes_fixture, strikes_part, strikes_stock}
use Rattle.holder_check.proofs.Stacked.{held_by_holder, possible_by_holder}
use Rattle.job_model.specs.Holders.{holder_move, holder_seen, is_struck, may_be_struck}
use Rattle.job_model.specs.HolderLaws.{HolderByStrips, HolderIsTool}
use Rattle.job_model.specs.Points.{is_fixture, is_part, is_possible, is_stock, is_sure, some_possible, some_sure}
use Rattle.job_model.specs.Sums.{sum_holder_counts}
use Rattle.job_model.specs.Tasks.{JobMove, PlanOf}
use Rattle.job_model.proofs.Sums.{count_append, flat_append}

-- the tool is sure of what the holder is sure to meet, and possible where it may meet
pub tool_sure : (plan : PlanOf) (holder : HolderSize) (move : JobMove) (point : LatticePoint) → 0 < plan.slabs
    → is_struck plan holder move point ≡ is_sure plan (holder_move holder move) point
unfolding is_sure_by
tool_sure plan holder move point some = sym (held_by_holder holder move.cutter plan.slabs move.sweep point.position (2 ^ plan.depth) some)

pub tool_possible : (plan : PlanOf) (holder : HolderSize) (move : JobMove) (point : LatticePoint) → 0 < plan.slabs
    → may_be_struck plan holder move point ≡ is_possible plan (holder_move holder move) point
unfolding is_possible_by
tool_possible plan holder move point some = sym (possible_by_holder holder move.cutter plan.slabs move.sweep point.position (2 ^ plan.depth) some)

or_none : (b : Bool) → (b || false) ≡ b
or_none true = refl
or_none false = refl

-- what is possible by this move or one before it
pub possible_with : (plan : PlanOf) (before : List JobMove) (move : JobMove) (point : LatticePoint)
    → (some_possible plan before point || is_possible plan move point) ≡ some_possible plan (before ++ move ∷ []) point
possible_with plan before move point =
    sym (list_any-append (λ m. is_possible plan m point) before (move ∷ []) ∙ ap (λ b. some_possible plan before point || b) (or_none (is_possible plan move point)))

-- the six counts at once
pub holder_is_tool : HolderIsTool
holder_is_tool job holder points before move some = λ i. record {
  part_sure = count_by (λ p. is_part job p && tool_sure job.plan holder move p some i) points;
  part_possible = count_by (λ p. is_part job p && tool_possible job.plan holder move p some i) points;
  fix_sure = count_by (λ p. is_fixture job p && tool_sure job.plan holder move p some i) points;
  fix_possible = count_by (λ p. is_fixture job p && tool_possible job.plan holder move p some i) points;
  stock_sure = count_by (λ p. is_stock job p && (tool_sure job.plan holder move p some i && not (possible_with job.plan before move p i))) points;
  stock_possible = count_by (λ p. is_stock job p && (tool_possible job.plan holder move p some i && not (some_sure job.plan before p))) points;
}

holder_append : {P : Type 0} (see : P → HolderSeen) (xs ys : List P) → holder_findings see (xs ++ ys) ≡ plus_holder_counts (holder_findings see xs) (holder_findings see ys)
holder_append see xs ys = λ i. record {
  part_sure = count_append (λ p. strikes_part (see p)) xs ys i;
  part_possible = count_append (λ p. may_strike_part (see p)) xs ys i;
  fix_sure = count_append (λ p. strikes_fixture (see p)) xs ys i;
  fix_possible = count_append (λ p. may_strike_fixture (see p)) xs ys i;
  stock_sure = count_append (λ p. strikes_stock (see p)) xs ys i;
  stock_possible = count_append (λ p. may_strike_stock (see p)) xs ys i;
}

of_strips : (grid : GridSize) (see : LatticePoint → HolderSeen) (strips : List (List Ray))
    → holder_findings see (flat_map (points_on grid) (flat_map (λ strip. strip) strips))
    ≡ sum_holder_counts (map (λ strip. holder_findings see (flat_map (points_on grid) strip)) strips)
of_strips grid see [] = refl
of_strips grid see (strip ∷ strips) =
    ap (holder_findings see) (flat_append (points_on grid) strip (flat_map (λ s. s) strips))
    ∙ holder_append see (flat_map (points_on grid) strip) (flat_map (points_on grid) (flat_map (λ s. s) strips))
    ∙ ap (plus_holder_counts (holder_findings see (flat_map (points_on grid) strip))) (of_strips grid see strips)

pub holder_by_strips : HolderByStrips
holder_by_strips job holder before move = of_strips job.plan.grid (holder_seen job holder before move) (strips_of job.plan.grid)
