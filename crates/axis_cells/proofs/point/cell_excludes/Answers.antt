use Rattle.std.proofs.Common.{◌≡◌, ℕ, pos, ◌≤◌, ◌^◌, subst, sym, ◌∙◌}
use Rattle.space.specs.Sweeps.{IsSweep}
use Rattle.bern_form.specs.Slab.{IsSlab}
use Rattle.bern_form.specs.Sizes.{scale_limit}
use Rattle.bern_form.specs.Cells.{is_excluded}
use Rattle.bern_form.proofs.Exclusion.{excluded_holds_not}
use Rattle.axis_cells.proofs.Coefficients.{coefficients_small}
use Rattle.axis_cells.proofs.Comparisons.{excluded_at}
use Rattle.axis_cells.proofs.point.cell_excludes.Goals as goal

pub returns-clause-rule : goal.returns-clause-rule
returns-clause-rule c =
    let cell = c.of_point.result in
    subst (λ (S : ℕ). c.excludes.result ≡ is_excluded c.args.slab.now c.args.sweep.now c.args.point c.args.k S) c.cells_of.ensures.cells
    (c.excludes.ensures ∙ excluded_at (pos cell.scale) cell.is_behind cell.n.c cell.height.c cell.width.c c.args.sweep.now c.args.point c.args.k c.cells_of.result c.args.slab.now c.of_point.ensures)

pub returns-clause-never : goal.returns-clause-never
returns-clause-never c = λ out a b time. excluded_holds_not c.args.slab.now c.args.sweep.now c.args.point c.args.k (2 ^ c.args.depth) a b (sym (returns-clause-rule c) ∙ out) time

pub returns-clause-small : goal.returns-clause-small
returns-clause-small c =
    let slab = subst IsSlab c.slab.view_is c.slab.invariant in let sweep = subst IsSweep c.sweep.view_is c.sweep.invariant in
    let cells = c.cells_of.ensures.cells in
    let few = subst (λ (n : ℕ). n ≤ scale_limit) cells c.cells_of.ensures.few in
    coefficients_small c.args.slab.now c.args.sweep.now c.args.point c.args.k (2 ^ c.args.depth) slab sweep c.requires.point c.requires.cell few
