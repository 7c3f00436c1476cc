use Rattle.std.proofs.Common.{pos}
use Rattle.near_points.proofs.Moving.{axis_offset_moves}
use Rattle.near_points.proofs.axis_offset.AxisOffset.moved.Goals as goal

pub moved-requires : goal.moved-requires
moved-requires c = (axis_offset_moves c.args.self.now c.args.by.now (pos c.args.j) c.requires).along.passed

pub moved-requires-2 : goal.moved-requires-2
moved-requires-2 c = (axis_offset_moves c.args.self.now c.args.by.now (pos c.args.j) c.requires).second.passed

pub moved-requires-3 : goal.moved-requires-3
moved-requires-3 c = (axis_offset_moves c.args.self.now c.args.by.now (pos c.args.j) c.requires).third.passed

pub tilted-requires : goal.tilted-requires
tilted-requires c = (axis_offset_moves c.args.self.now c.args.by.now (pos c.args.j) c.requires).side.passed

pub moved-requires-4 : goal.moved-requires-4
moved-requires-4 c = (axis_offset_moves c.args.self.now c.args.by.now (pos c.args.j) c.requires).height.passed

pub invariant_of-result : goal.invariant_of-result
invariant_of-result c =
    let m = axis_offset_moves c.args.self.now c.args.by.now (pos c.args.j) c.requires in record {
      along_small = m.along.small c.moved.result c.moved.ensures;
      second_small = m.second.small c.moved-2.result c.moved-2.ensures;
      third_small = m.third.small c.moved-3.result c.moved-3.ensures;
      side_small = m.side.small c.tilted.result c.tilted.ensures;
      height_small = m.height.small c.moved-4.result c.moved-4.ensures;
    }

pub returns : goal.returns
returns c =
    let m = axis_offset_moves c.args.self.now c.args.by.now (pos c.args.j) c.requires in record {
      along = m.along.value c.moved.result c.moved.ensures;
      second = m.second.value c.moved-2.result c.moved-2.ensures;
      third = m.third.value c.moved-3.result c.moved-3.ensures;
      side = m.side.value c.tilted.result c.tilted.ensures;
      height = m.height.value c.moved-4.result c.moved-4.ensures;
    }
