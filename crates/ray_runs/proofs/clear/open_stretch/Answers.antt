use Rattle.std.proofs.Common.{◌≡◌, true, ℕ, ◌+◌, ◌^◌, None, List, FitsSigned, arith, refl, sym, subst, to_z, of_z, ◌∙◌}
use Rattle.std.proofs.lemmas.Int.{to_z-of_z}
use mir.Syntax.{w32, w64}
use Rattle.space.specs.Sweeps.{IsSweep}
use Rattle.bern_form.specs.Cells.{scaled_square}
use Rattle.bern_form.specs.Marks.{held_at_sample}
use Rattle.bern_form.specs.Slab.{SlabSize}
use Rattle.ray_grid.specs.Lattice.{point_of}
use Rattle.ray_runs.specs.Open.{AreOutBut}
use Rattle.ray_runs.proofs.ClearPoints.{clear_of}
use Rattle.ray_runs.proofs.Open.{open_of_move}
use Rattle.ray_runs.proofs.Searching.{pair_at}
use Rattle.ray_runs.proofs.clear.open_stretch.Goals as goal

pub open_in-requires-clause-end : goal.open_in-requires-clause-end
open_in-requires-clause-end c =
    let cells = c.cells_of-scale.ensures.cells in
    let end : c.cells_of-scale.result ≡ 0 + 2 ^ c.args.depth = omega (arith, cells) in
    pair_at _ _ _ _ end c.pair_at-end.ensures

pub returns-then-are_clear_by_cut : goal.returns-then-are_clear_by_cut
returns-then-are_clear_by_cut c =
    let a = c.args in let S = c.cells_of-scale.result in let cells = c.cells_of-scale.ensures.cells in let m = a.sweep.now in let stacks = a.stacks.now in
    let point = point_of a.grid.now a.ray.now in let f = c.short_scaled_square-square.result in
    let valid = subst IsSweep c.sweep.view_is c.sweep.invariant in
    let most : FitsSigned w32 c.widest.result = record { sfits = c.widest.type_inv } in
    let square : FitsSigned w64 f = record { sfits = c.short_scaled_square-square.type_inv } in
    let squared : f ≡ scaled_square S c.widest.result = simp to_z-of_z at c.short_scaled_square-square.ensures in
    open_of_move None stacks (to_z w64 (of_z w64 f)) c.widest.result c.outer.result.now m point S (2 ^ a.depth) a.from a.to (to_z-of_z w64 f square ∙ squared) c.widest.ensures.no_wider c.outer.ensures.stack cells
    (clear_of stacks m point S a.from a.to
    (λ p h. c.inner-inner.ensures.possible m p S c.cells_of-scale.ensures.some valid (subst (λ (l : List SlabSize). held_at_sample l m p S ≡ true) (sym c.inner-inner.ensures.stack) h)))
    (c.if-are_clear_by_cut.ensures refl)

pub returns : goal.returns
returns c =
    let a = c.args in let S = c.cells_of-scale.result in let cells = c.cells_of-scale.ensures.cells in let m = a.sweep.now in let stacks = a.stacks.now in
    let point = point_of a.grid.now a.ray.now in let f = c.short_scaled_square-square.result in
    let end : 0 + 2 ^ a.depth ≡ S = omega (arith, cells) in
    let valid = subst IsSweep c.sweep.view_is c.sweep.invariant in
    let most : FitsSigned w32 c.widest.result = record { sfits = c.widest.type_inv } in
    let square : FitsSigned w64 f = record { sfits = c.short_scaled_square-square.type_inv } in
    let squared : f ≡ scaled_square S c.widest.result = simp to_z-of_z at c.short_scaled_square-square.ensures in
    open_of_move c.open_in.result stacks (to_z w64 (of_z w64 f)) c.widest.result c.outer.result.now m point S (2 ^ a.depth) a.from a.to (to_z-of_z w64 f square ∙ squared) c.widest.ensures.no_wider c.outer.ensures.stack cells
    (clear_of stacks m point S a.from a.to
    (λ p h. c.inner-inner.ensures.possible m p S c.cells_of-scale.ensures.some valid (subst (λ (l : List SlabSize). held_at_sample l m p S ≡ true) (sym c.inner-inner.ensures.stack) h)))
    (subst (λ (i : ℕ). AreOutBut c.open_in.result (to_z w64 (of_z w64 f)) m point S a.from a.to 0 i) end c.open_in.ensures)
