use Rattle.std.proofs.Common.{◌<◌, arith, subst, sym}
use Rattle.ray_grid.specs.Grids.{GridSize}
use Rattle.ray_grid.specs.Lattice.{points_of}
use Rattle.ray_grid.specs.Ranges.{IsGrid}
use Rattle.setup_turn.proofs.OneRay.{IsWalked, few_points, few_set, first_is_outside, first_low, leaves_at, none_more_there, stays_within, turned_more}
use Rattle.setup_turn.proofs.Places.{AreGiven}
use Rattle.setup_turn.proofs.RangeOrder.{range_is}
use Rattle.setup_turn.proofs.turn.turn_ray.Goals as goal

pub returns-then-ranges-eq0 : goal.returns-then-ranges-eq0
returns-then-ranges-eq0 c =
    let given : AreGiven c.args.turn.now c.args.saved.now.grid c.args.grid.now = record {
      turned = c.requires.turn.quarter;
      step = c.requires.step;
      old = subst IsGrid c.grid-old.ensures c.has_three_axes.ensures.valid;
      new = c.has_three_axes-2.ensures.valid;
    } in
    none_more_there c.args.turn.now c.args.saved.now c.args.grid.now c.args.ray.now c.args.stock.now c.spans-set.result.now given c.requires.saved c.requires.ray c.spans-set.ensures
    (let many = c.ranges-2.ensures.count in let none = c.if-ranges-eq0.true in omega (arith, many, none)) c.requires.before

pub turned_line-requires-clause-point : goal.turned_line-requires-clause-point
turned_line-requires-clause-point c =
    let walked : IsWalked c.args.turn.now c.args.saved.now c.args.grid.now c.args.ray.now c.args.stock.now c.spans-set.result.now c.range-first.result = record {
      given = record {
        turned = c.requires.turn.quarter;
        step = c.requires.step;
        old = subst IsGrid c.grid-old.ensures c.has_three_axes.ensures.valid;
        new = c.has_three_axes-2.ensures.valid;
      };
      over = c.requires.saved;
      on = c.requires.ray;
      before = c.requires.before;
      set_is = c.spans-set.ensures;
      range = range_is c.spans-set.result.now 0 c.range-first.result c.range-first.ensures.range;
      some = c.range-first.ensures.not_empty;
      within = c.range-first.ensures.within;
    } in
    subst (λ (g : GridSize). c.range-first.result.0 < points_of g c.args.ray.now.family) (sym c.grid-old.ensures) (first_low c.args.turn.now c.args.saved.now c.args.grid.now c.args.ray.now c.args.stock.now c.spans-set.result.now c.range-first.result walked)

pub returns-in_default : goal.returns-in_default
returns-in_default c =
    let walked : IsWalked c.args.turn.now c.args.saved.now c.args.grid.now c.args.ray.now c.args.stock.now c.spans-set.result.now c.range-first.result = record {
      given = record {
        turned = c.requires.turn.quarter;
        step = c.requires.step;
        old = subst IsGrid c.grid-old.ensures c.has_three_axes.ensures.valid;
        new = c.has_three_axes-2.ensures.valid;
      };
      over = c.requires.saved;
      on = c.requires.ray;
      before = c.requires.before;
      set_is = c.spans-set.ensures;
      range = range_is c.spans-set.result.now 0 c.range-first.result c.range-first.ensures.range;
      some = c.range-first.ensures.not_empty;
      within = c.range-first.ensures.within;
    } in
    first_is_outside c.args.turn.now c.args.saved.now c.args.grid.now c.grid-old.result c.args.ray.now c.args.stock.now c.spans-set.result.now c.range-first.result walked c.grid-old.ensures c.in_default.ensures

pub room-requires-clause-points : goal.room-requires-clause-points
room-requires-clause-points c = let few = few_points c.args.grid.now c.in-Some.line.ray.family c.has_three_axes-2.ensures.valid in let size = c.points-points.ensures in omega (arith, few, size)

pub overflow_add-first : goal.overflow_add-first
overflow_add-first c =
    let walked : IsWalked c.args.turn.now c.args.saved.now c.args.grid.now c.args.ray.now c.args.stock.now c.spans-set.result.now c.range-first.result = record {
      given = record {
        turned = c.requires.turn.quarter;
        step = c.requires.step;
        old = subst IsGrid c.grid-old.ensures c.has_three_axes.ensures.valid;
        new = c.has_three_axes-2.ensures.valid;
      };
      over = c.requires.saved;
      on = c.requires.ray;
      before = c.requires.before;
      set_is = c.spans-set.ensures;
      range = range_is c.spans-set.result.now 0 c.range-first.result c.range-first.ensures.range;
      some = c.range-first.ensures.not_empty;
      within = c.range-first.ensures.within;
    } in
    let few = few_set c.args.turn.now c.args.saved.now c.args.grid.now c.args.ray.now c.args.stock.now c.spans-set.result.now c.range-first.result walked in
    let some = c.range-first.ensures.not_empty in let low = c.range-first.ensures.within in let room = c.room.ensures.few in omega (arith, few, some, low, room)

pub returns-in-Some-first_from : goal.returns-in-Some-first_from
returns-in-Some-first_from c =
    let walked : IsWalked c.args.turn.now c.args.saved.now c.args.grid.now c.args.ray.now c.args.stock.now c.spans-set.result.now c.range-first.result = record {
      given = record {
        turned = c.requires.turn.quarter;
        step = c.requires.step;
        old = subst IsGrid c.grid-old.ensures c.has_three_axes.ensures.valid;
        new = c.has_three_axes-2.ensures.valid;
      };
      over = c.requires.saved;
      on = c.requires.ray;
      before = c.requires.before;
      set_is = c.spans-set.ensures;
      range = range_is c.spans-set.result.now 0 c.range-first.result c.range-first.ensures.range;
      some = c.range-first.ensures.not_empty;
      within = c.range-first.ensures.within;
    } in
    leaves_at c.args.turn.now c.args.saved.now c.args.grid.now c.grid-old.result c.args.ray.now c.args.stock.now c.spans-set.result.now c.range-first.result c.in-Some.line c.points-points.result c.room.result c.in-Some-first_from.l walked c.grid-old.ensures c.in-Some.ensures c.points-points.ensures c.room.ensures.room c.in-Some-first_from.ensures

pub turned_set-requires-clause-bound : goal.turned_set-requires-clause-bound
turned_set-requires-clause-bound c = let few = few_points c.args.grid.now c.in-Some.line.ray.family c.has_three_axes-2.ensures.valid in let size = c.points-points.ensures in omega (arith, few, size)

pub turned_set-requires-clause-within : goal.turned_set-requires-clause-within
turned_set-requires-clause-within c =
    let walked : IsWalked c.args.turn.now c.args.saved.now c.args.grid.now c.args.ray.now c.args.stock.now c.spans-set.result.now c.range-first.result = record {
      given = record {
        turned = c.requires.turn.quarter;
        step = c.requires.step;
        old = subst IsGrid c.grid-old.ensures c.has_three_axes.ensures.valid;
        new = c.has_three_axes-2.ensures.valid;
      };
      over = c.requires.saved;
      on = c.requires.ray;
      before = c.requires.before;
      set_is = c.spans-set.ensures;
      range = range_is c.spans-set.result.now 0 c.range-first.result c.range-first.ensures.range;
      some = c.range-first.ensures.not_empty;
      within = c.range-first.ensures.within;
    } in
    stays_within c.args.turn.now c.args.saved.now c.args.grid.now c.args.ray.now c.args.stock.now c.spans-set.result.now c.range-first.result c.in-Some.line c.points-points.result c.room.result walked c.room.ensures.room c.in_default-first_from.ensures

pub turned_set-requires-clause-few : goal.turned_set-requires-clause-few
turned_set-requires-clause-few c =
    let walked : IsWalked c.args.turn.now c.args.saved.now c.args.grid.now c.args.ray.now c.args.stock.now c.spans-set.result.now c.range-first.result = record {
      given = record {
        turned = c.requires.turn.quarter;
        step = c.requires.step;
        old = subst IsGrid c.grid-old.ensures c.has_three_axes.ensures.valid;
        new = c.has_three_axes-2.ensures.valid;
      };
      over = c.requires.saved;
      on = c.requires.ray;
      before = c.requires.before;
      set_is = c.spans-set.ensures;
      range = range_is c.spans-set.result.now 0 c.range-first.result c.range-first.ensures.range;
      some = c.range-first.ensures.not_empty;
      within = c.range-first.ensures.within;
    } in
    few_set c.args.turn.now c.args.saved.now c.args.grid.now c.args.ray.now c.args.stock.now c.spans-set.result.now c.range-first.result walked

pub returns : goal.returns
returns c =
    let walked : IsWalked c.args.turn.now c.args.saved.now c.args.grid.now c.args.ray.now c.args.stock.now c.spans-set.result.now c.range-first.result = record {
      given = record {
        turned = c.requires.turn.quarter;
        step = c.requires.step;
        old = subst IsGrid c.grid-old.ensures c.has_three_axes.ensures.valid;
        new = c.has_three_axes-2.ensures.valid;
      };
      over = c.requires.saved;
      on = c.requires.ray;
      before = c.requires.before;
      set_is = c.spans-set.ensures;
      range = range_is c.spans-set.result.now 0 c.range-first.result c.range-first.ensures.range;
      some = c.range-first.ensures.not_empty;
      within = c.range-first.ensures.within;
    } in
    turned_more c.args.turn.now c.args.saved.now c.args.grid.now c.grid-old.result c.args.ray.now c.args.stock.now c.put.new.self c.spans-set.result.now c.in-Ok.moved c.range-first.result c.in-Some.line
    c.points-points.result c.room.result walked c.grid-old.ensures c.in-Some.ensures c.points-points.ensures c.room.ensures.room c.in_default-first_from.ensures
    c.in-Ok.ensures.bound c.in-Ok.ensures.turned c.put.ensures
