use Rattle.std.proofs.Common.{◌∙◌}
use Rattle.box_bisect.proofs.Raised.{left_of}
use Rattle.box_bisect.proofs.search.is_left.Goals as goal

pub returns-clause-left : goal.returns-clause-left
returns-clause-left g c =
    let k = c.of_stretch.result in let e = c.of_stretch.ensures in let s = c.args.stretch.now in
    c.leaves_some.ensures.left ∙ left_of c.args.slabs.now c.args.scale k.scale k.is_behind k.raised.c k.height.c k.width.c s.u.c s.n.c s.d.c e.scale e.behind e.raised e.height e.width
