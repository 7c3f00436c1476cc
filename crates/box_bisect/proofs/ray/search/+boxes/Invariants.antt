use Rattle.std.proofs.Common.{◌+◌, ◌-◌, ◌*◌}
use Rattle.box_bisect.proofs.ray.search.+boxes.Given as goal

abbrev pub decreases-mark_box : goal.decreases-mark_box
decreases-mark_box g l = 3 * (l.cell_box.levels + (l.cell_box.to - l.cell_box.from)) + 1

abbrev pub decreases-mark_children : goal.decreases-mark_children
decreases-mark_children g l = 3 * (l.cell_box.levels + (l.cell_box.to - l.cell_box.from))

abbrev pub decreases-mark_along : goal.decreases-mark_along
decreases-mark_along g l = 3 * (l.cell_box.levels + (l.cell_box.to - l.cell_box.from)) + 2
