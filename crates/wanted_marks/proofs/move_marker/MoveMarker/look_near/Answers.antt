use Rattle.std.proofs.Common.{◌^◌}
use Rattle.wanted_marks.proofs.move_marker.MoveMarker.look_near.Goals as goal

pub returns : goal.returns
returns c = c.inner_near.ensures (2 ^ c.args.self.now.depth) c.requires.last
