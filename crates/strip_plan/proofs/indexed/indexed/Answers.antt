use Rattle.strip_plan.proofs.FirstRays.{indexed_is}
use Rattle.strip_plan.proofs.Reached.{ends_in_order}
use Rattle.strip_plan.proofs.indexed.indexed.Goals as goal

pub returns : goal.returns
returns c = indexed_is c.args.grid.now c.args.held.now _ c.on_axis.ensures c.on_axis-2.ensures c.on_axis-3.ensures

pub returns-then-not-has_place : goal.returns-then-not-has_place
returns-then-not-has_place c = record {
  on_grid = c.none.ensures c.args.grid.now;
  has = λ ray l on lt inside. absurd (let order = ends_in_order c.args.held.now.low c.args.held.now.high _ inside in cc);
}
