use Rattle.std.proofs.Common.{pos}
use Rattle.near_points.proofs.Bits.{moment_bits, moment_passed}
use Rattle.near_points.proofs.Moving.{step_moves}
use Rattle.near_points.proofs.ray_step.RayStep.after.Goals as goal

pub moved-requires : goal.moved-requires
moved-requires c = (step_moves c.args.first.now c.args.self.now (pos c.args.l) c.requires).second.passed

pub moved-requires-2 : goal.moved-requires-2
moved-requires-2 c = (step_moves c.args.first.now c.args.self.now (pos c.args.l) c.requires).third.passed

pub tilted-requires : goal.tilted-requires
tilted-requires c = (step_moves c.args.first.now c.args.self.now (pos c.args.l) c.requires).side.passed

pub moved-requires-3 : goal.moved-requires-3
moved-requires-3 c = (step_moves c.args.first.now c.args.self.now (pos c.args.l) c.requires).height.passed

pub invariant_of-result : goal.invariant_of-result
invariant_of-result c =
    let first = c.args.first.now in let m = step_moves first c.args.self.now (pos c.args.l) c.requires in record {
      along_small = moment_passed first.along first.along_small;
      second_small = m.second.small c.moved.result c.moved.ensures;
      third_small = m.third.small c.moved-2.result c.moved-2.ensures;
      side_small = m.side.small c.tilted.result c.tilted.ensures;
      height_small = m.height.small c.moved-3.result c.moved-3.ensures;
    }

pub returns : goal.returns
returns c =
    let first = c.args.first.now in let m = step_moves first c.args.self.now (pos c.args.l) c.requires in record {
      along = moment_bits first.along first.along_small;
      second = m.second.value c.moved.result c.moved.ensures;
      third = m.third.value c.moved-2.result c.moved-2.ensures;
      side = m.side.value c.tilted.result c.tilted.ensures;
      height = m.height.value c.moved-3.result c.moved-3.ensures;
    }
