use Rattle.std.proofs.Common.{◌≡◌, ◌+◌, ◌^◌, true, false, sym, ◌∙◌}
use Rattle.bern_form.specs.Marks.{some_holds}
use Rattle.ray_grid.specs.Lattice.{point_of}
use Rattle.box_bisect.proofs.RayTests.{held_early, held_late, held_neither}
use Rattle.box_bisect.proofs.Searching.{held_first, held_last}
use Rattle.box_bisect.proofs.ray.search.mark_on_cell.Goals as goal

pub returns-then-is_held_last-clause-mark : goal.returns-then-is_held_last-clause-mark
returns-then-is_held_last-clause-mark g c =
    let cell_box = c.args.cell_box in let S = c.args.scale in let inner = c.args.inner.now in let m = c.args.sweep.now in let p = point_of c.args.grid.now c.args.ray.now cell_box.from in
    let j = cell_box.first in let k = cell_box.first + 2 ^ cell_box.levels in let f = c.of-forms.result.first in let forms = c.of-forms.ensures.first in
    let late : some_holds inner m p k S ≡ true = sym (held_last inner f.u.c f.n.c f.d.c m p j k S forms) ∙ sym c.is_held_last.ensures.held ∙ c.if-is_held_last.true in
    held_late (some_holds inner m p k S) (some_holds inner m p j S) late

pub returns-then-is_held_first-clause-mark : goal.returns-then-is_held_first-clause-mark
returns-then-is_held_first-clause-mark g c =
    let cell_box = c.args.cell_box in let S = c.args.scale in let inner = c.args.inner.now in let m = c.args.sweep.now in let p = point_of c.args.grid.now c.args.ray.now cell_box.from in
    let j = cell_box.first in let k = cell_box.first + 2 ^ cell_box.levels in let f = c.of-forms.result.first in let forms = c.of-forms.ensures.first in
    let late : some_holds inner m p k S ≡ false = sym (held_last inner f.u.c f.n.c f.d.c m p j k S forms) ∙ sym c.is_held_last.ensures.held ∙ c.if-is_held_last.false in
    let early : some_holds inner m p j S ≡ true = sym (held_first inner f.u.c f.n.c f.d.c m p j k S forms) ∙ sym c.is_held_first.ensures.held ∙ c.if-is_held_first.true in
    held_early (some_holds inner m p k S) (some_holds inner m p j S) late early

pub returns-clause-mark : goal.returns-clause-mark
returns-clause-mark g c =
    let cell_box = c.args.cell_box in let S = c.args.scale in let inner = c.args.inner.now in let m = c.args.sweep.now in let p = point_of c.args.grid.now c.args.ray.now cell_box.from in
    let j = cell_box.first in let k = cell_box.first + 2 ^ cell_box.levels in let f = c.of-forms.result.first in let forms = c.of-forms.ensures.first in
    let late : some_holds inner m p k S ≡ false = sym (held_last inner f.u.c f.n.c f.d.c m p j k S forms) ∙ sym c.is_held_last.ensures.held ∙ c.if-is_held_last.false in
    let early : some_holds inner m p j S ≡ false = sym (held_first inner f.u.c f.n.c f.d.c m p j k S forms) ∙ sym c.is_held_first.ensures.held ∙ c.if-is_held_first.false in
    held_neither (some_holds inner m p k S) (some_holds inner m p j S) late early
