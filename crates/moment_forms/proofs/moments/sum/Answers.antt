use Rattle.std.proofs.Common.{◌*◌}
use mir.Syntax.{w64}
use Rattle.space.specs.Vectors.{at}
use Rattle.space.proofs.Reread.{small_back}
use Rattle.moment_forms.specs.Sizes.{moments_limit, part_limit}
use Rattle.moment_forms.proofs.Fits.{parts_fit, plus_by, turn_fits}
use Rattle.moment_forms.proofs.Middle.{three_same}
use Rattle.moment_forms.proofs.moments.sum.Goals as goal

pub plus-requires : goal.plus-requires
plus-requires c =
    let x = c.args.x.now in let y = c.args.y.now in let n = 2 * part_limit in
    record { x = small_back w64 (at x 0) n parts_fit c.requires.x.0; y = small_back w64 (at y 0) n parts_fit c.requires.y.0 }

pub plus-requires-2 : goal.plus-requires-2
plus-requires-2 c =
    let x = c.args.x.now in let y = c.args.y.now in let n = 2 * part_limit in
    record { x = small_back w64 (at x 1) n parts_fit c.requires.x.1; y = small_back w64 (at y 1) n parts_fit c.requires.y.1 }

pub plus-requires-3 : goal.plus-requires-3
plus-requires-3 c =
    let x = c.args.x.now in let y = c.args.y.now in let n = 2 * part_limit in
    record { x = small_back w64 (at x 2) n parts_fit c.requires.x.2; y = small_back w64 (at y 2) n parts_fit c.requires.y.2 }

pub returns-clause-value : goal.returns-clause-value
returns-clause-value c =
    let x = c.args.x.now in let y = c.args.y.now in let hx = c.requires.x in let hy = c.requires.y in
    let p = c.plus in let q = c.plus-2 in let r = c.plus-3 in
    three_same _ _ _ _ _ _ (plus_by p.result (at x 0) (at y 0) p.ensures.small hx.0 hy.0 p.ensures.value)
    (plus_by q.result (at x 1) (at y 1) q.ensures.small hx.1 hy.1 q.ensures.value) (plus_by r.result (at x 2) (at y 2) r.ensures.small hx.2 hy.2 r.ensures.value)

pub returns-clause-small : goal.returns-clause-small
returns-clause-small c =
    let n = moments_limit in
    (small_back w64 c.plus.result n turn_fits c.plus.ensures.small, small_back w64 c.plus-2.result n turn_fits c.plus-2.ensures.small, small_back w64 c.plus-3.result n turn_fits c.plus-3.ensures.small)
